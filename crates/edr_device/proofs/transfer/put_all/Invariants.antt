use Rattle.std.proofs.Common.{◌≡◌, ◌≤◌, ◌-◌, length, take}
use Rattle.edr_device.specs.Stream.{Appends}
use Rattle.edr_device.specs.Told.{Told}
use Rattle.edr_device.proofs.transfer.put_all.Given as goal

abbrev pub invariant-loop-at : goal.invariant-loop-at
invariant-loop-at g l = let K = g.K.Sink in record {
  within : l.at ≤ length l.bytes;
  put : Told (Appends (take l.at l.bytes)) (K.content l.fn.sink) (K.content l.sink);
  later : K.faults l.fn.sink ≤ K.faults l.sink;
  nothing : l.at ≡ 0 → l.sink ≡ l.fn.sink;
}

abbrev pub decreases-loop-at : goal.decreases-loop-at
decreases-loop-at g l = length l.bytes - l.at
