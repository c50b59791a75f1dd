use Rattle.std.specs.Prelude.{◌≡◌, ◌+◌, ◌-◌, ◌≤◌}
use Rattle.edr_items.specs.SensorLists.{horizon_of}
use Rattle.edr_device.specs.Device.{StillTells}
use Rattle.edr_cycle.proofs.RunStepLemmas.{Runs, left_count}
use Rattle.edr_cycle.proofs.cycle_run.give_on.Given as goal

abbrev pub invariant-loop-tick : goal.invariant-loop-tick
invariant-loop-tick g l =
    let N = g.N.Nvm in
    let L = g.L.Ledger in
    record {
      runs : Runs N.content N.settled N.since N.clock N.last_good l.feeds l.fn.core.cycle l.fn.core.closed l.core l.left (L.banks l.fn.ledger) (L.banks l.ledger) (L.log l.fn.ledger) (L.log l.ledger) l.fn.nvm l.nvm;
      size : N.extent l.nvm ≡ N.extent l.fn.nvm;
      later : N.faults l.fn.nvm ≤ N.faults l.nvm;
      device : N.goes_on l.fn.nvm l.nvm;
      tells : StillTells (N.content l.fn.nvm) (N.content l.nvm);
    }

abbrev pub decreases-loop-tick : goal.decreases-loop-tick
decreases-loop-tick g l = (horizon_of l.feeds - l.core.closed) + left_count l.left
