use Rattle.std.proofs.Common.{◌≡◌, ◌≤◌, ◌+◌, ◌-◌, ℕ, List, ◌++◌, length, take, vec_len}
use Rattle.edr_device.specs.Told.{Told}
use Rattle.edr_device.proofs.TransferLemmas.{Gives}
use Rattle.edr_trace.specs.Given.{Given}
use Rattle.edr_cli.proofs.traces.take_trace.Given as goal

abbrev pub invariant-loop-taken : goal.invariant-loop-taken
invariant-loop-taken g l = let S = g.S.Source in record {
  before : List ℕ;
  given : Given before l.reading;
  count : l.taken ≡ length before + l.kept;
  within : l.taken ≤ l.limit + 1;
  kept : l.kept ≤ 64;
  buffer : vec_len l.buffer ≡ 64 + l.longest;
  gives : Told (Gives (before ++ take l.kept l.buffer.items)) (S.left l.fn.source) (S.left l.source);
  later : S.faults l.fn.source ≤ S.faults l.source;
}

abbrev pub decreases-loop-taken : goal.decreases-loop-taken
decreases-loop-taken g l = l.limit + 1 - l.taken
