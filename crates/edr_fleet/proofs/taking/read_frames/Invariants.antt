use Rattle.std.proofs.Common.{◌≡◌, ◌≤◌, ◌+◌, ◌-◌, ℕ, List, length, vec_len}
use Rattle.edr_device.specs.Told.{Told}
use Rattle.edr_device.proofs.TransferLemmas.{Gives}
use Rattle.edr_fleet.specs.Reading.{GaveFrames}
use Rattle.edr_fleet.proofs.taking.read_frames.Given as goal

abbrev pub invariant-loop-taken : goal.invariant-loop-taken
invariant-loop-taken g l = let S = g.S.Source in record {
  bytes : List ℕ;
  gave : GaveFrames bytes l.reading;
  taken : l.taken ≡ length bytes;
  within : l.taken ≤ l.limit + 1;
  buffer : 1 ≤ vec_len l.buffer;
  gives : Told (Gives bytes) (S.left l.fn.source) (S.left l.source);
  later : S.faults l.fn.source ≤ S.faults l.source;
}

abbrev pub decreases-loop-taken : goal.decreases-loop-taken
decreases-loop-taken g l = l.limit + 1 - l.taken
