use Rattle.std.proofs.Common.{◌≡◌, ℕ, subst, sym}
use Rattle.edr_items.specs.SensorLists.{horizon_of}
use Rattle.edr_definitions.specs.Commands.{issues}
use Rattle.edr_loops.specs.UnsentOrders.{issues_out}
use Rattle.edr_drive.proofs.closing.left_of.Goals as goal

pub returns-clause-unclosed : goal.returns-clause-unclosed
returns-clause-unclosed c =
    let f = c.args.feeds.now in
    let d = c.settle_cycle-count.new.desk in
    let ended = c.requires.1 in
    let settled = c.settle_cycle-count.ensures in
    let rest = c.rest_after-rest.ensures in
    let begins = settled.begins f ended.tied.begun in
    let parts = settled.parts f ended.tied.begun in
    let stands = settled.stands c.requires.0 (horizon_of f) ended.stands in
    record {
      remains = rest.remains c.requires.0 begins parts stands;
      issued = subst (λ (m : ℕ). issues f m d.core.closed ≡ issues_out d.outbox d.held) (sym (rest.cycle c.requires.0 stands)) (rest.issued c.requires.0 begins parts stands);
      sent = settled.sent;
      known = settled.known;
    }

pub returns-clause-cycle : goal.returns-clause-cycle
returns-clause-cycle c = λ n ended. c.rest_after-rest.ensures.cycle n (c.settle_cycle-count.ensures.stands n (horizon_of c.args.feeds.now) ended.stands)
