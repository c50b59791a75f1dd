use Rattle.std.specs.Prelude.{◌≡◌, ◌+◌, ◌-◌, ◌≤◌}
use Rattle.edr_device.specs.Device.{StillTells}
use Rattle.edr_cycle.specs.Remaining.{count_left}
use Rattle.edr_cycle.proofs.RestRunLemmas.{RunsRest}
use Rattle.edr_cycle.proofs.remaining.give_rest.Given as goal

abbrev pub invariant-loop-issued : goal.invariant-loop-issued
invariant-loop-issued g l =
    let N = g.N.Nvm in
    let L = g.L.Ledger in
    record {
      runs : RunsRest N.content N.settled N.since N.clock N.last_good l.feeds l.fn.core.cycle l.fn.core.closed l.core l.rest (L.banks l.fn.ledger) (L.banks l.ledger) (L.log l.fn.ledger) (L.log l.ledger) l.fn.nvm l.nvm;
      size : N.extent l.nvm ≡ N.extent l.fn.nvm;
      later : N.faults l.fn.nvm ≤ N.faults l.nvm;
      device : N.goes_on l.fn.nvm l.nvm;
      tells : StillTells (N.content l.fn.nvm) (N.content l.nvm);
    }

abbrev pub decreases-loop-issued : goal.decreases-loop-issued
decreases-loop-issued g l = (l.horizon - l.core.closed) + count_left l.rest.left
