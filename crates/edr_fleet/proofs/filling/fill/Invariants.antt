use Rattle.std.proofs.Common.{◌≡◌, ◌≤◌, ◌-◌, ◌++◌, ℕ, List, length}
use Rattle.edr_device.specs.Told.{Told}
use Rattle.edr_device.proofs.TransferLemmas.{Gives}
use Rattle.edr_fleet.proofs.filling.fill.Given as goal

abbrev pub invariant-loop-taken : goal.invariant-loop-taken
invariant-loop-taken g l = let S = g.S.Source in record {
  piece : List ℕ;
  held : l.held.items ≡ l.fn.held.items ++ piece;
  taken : l.taken ≡ length piece;
  within : l.taken ≤ l.most_now;
  most : l.most_now ≤ l.most;
  buffer : 1 ≤ length l.buffer;
  gives : Told (Gives piece) (S.left l.fn.source) (S.left l.source);
  later : S.faults l.fn.source ≤ S.faults l.source;
}

abbrev pub decreases-loop-taken : goal.decreases-loop-taken
decreases-loop-taken g l = l.most_now - l.taken
