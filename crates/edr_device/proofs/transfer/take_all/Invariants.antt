use Rattle.std.proofs.Common.{◌≤◌, ◌+◌, ◌-◌, vec_len}
use Rattle.edr_device.specs.Told.{Told}
use Rattle.edr_device.proofs.TransferLemmas.{Gives}
use Rattle.edr_device.proofs.transfer.take_all.Given as goal

abbrev pub invariant-loop-buffer : goal.invariant-loop-buffer
invariant-loop-buffer g l = let S = g.S.Source in record {
  within : vec_len l.taken ≤ l.limit + 1;
  buffer : 1 ≤ vec_len l.buffer;
  gives : Told (Gives l.taken.items) (S.left l.fn.source) (S.left l.source);
  later : S.faults l.fn.source ≤ S.faults l.source;
}

abbrev pub decreases-loop-buffer : goal.decreases-loop-buffer
decreases-loop-buffer g l = l.limit + 1 - vec_len l.taken
