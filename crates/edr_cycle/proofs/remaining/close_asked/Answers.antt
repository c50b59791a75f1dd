use Rattle.std.proofs.Common.{arith, ◌∙◌, ◌≡◌, ◌+◌}
use Rattle.edr_core.specs.Answers.{commands_put}
use Rattle.edr_core.specs.Parts.{parts_of}
use Rattle.edr_core.specs.declared.Closing.TheVariants.{Closed}
use Rattle.edr_core.proofs.OwnLemmas.{must-close}
use Rattle.edr_cycle.proofs.AnswerLemmas.{closes, closes-due, leads-from}
use Rattle.edr_cycle.proofs.remaining.close_asked.Goals as goal

pub unreachable-requires : goal.unreachable-requires
unreachable-requires c =
    let r = c.requires in
    let a = c.answer.ensures.answered r.0 r.1 r.2 r.3 in
    must-close c.close.result c.close.new.issued (a.0.past.closed + 1) (c.close.ensures.answer a.0 a.1.stands.remains.core_is ∙ closes-due a.0 a.1.asking a.2) c.in_default.not-Closed

pub returns-clause-leads : goal.returns-clause-leads
returns-clause-leads c = λ f n h asked.
    let a = c.answer.ensures.answered f n h asked in
    let k = a.0 in
    let at = a.1.stands in
    let before = asked.zero_is in
    let now = a.1.zero_is in
    let step = c.in-Closed.ensures in
    let core = at.remains.core_is in
    let same : k.past.closed ≡ h.past.closed = omega (arith, before, now) in
    leads-from f n k h (Closed c.in-Closed.tick c.in-Closed.issues) c.close.new.issued c.close.new.self c.answer.new.rest same
    (closes f n k c.answer.new.core c.close.new.self c.answer.new.rest at (step.stands k core) c.in-Closed.tick (commands_put c.in-Closed.issues c.close.new.issued)
    (step.commands k (parts_of f) core at.remains.parts_are).0 (step.ticks k (parts_of f) core at.remains.parts_are))
