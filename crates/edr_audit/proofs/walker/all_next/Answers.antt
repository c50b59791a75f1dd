use Rattle.std.proofs.Common.{◌<◌, length, subst}
use Rattle.edr_audit.specs.Branches.{walker_next}
use Rattle.edr_audit.proofs.SoFarLemmas.{set_next}
use Rattle.edr_audit.proofs.walker.all_next.Goals as goal

pub loop-walker-preserved : goal.loop-walker-preserved
loop-walker-preserved c =
    set_next (λ w. walker_next c.args.telling.now.report.now c.args.telling.now.header c.args.telling.now.place w (record { tick = c.args.tick; command = c.args.command.now }))
    c.args.walkers.now.items c.loop-walker.walker-items c.loop-walker.walker-index c.walker-item.result c.next.new.self
    (subst (λ xs. c.loop-walker.walker-index < length xs) c.deref_mut-walker-items.ensures.value c.loop-walker-test.true) c.loop-walker.invariant c.in_ok-next.ensures
