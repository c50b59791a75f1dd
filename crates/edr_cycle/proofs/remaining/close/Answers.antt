use Rattle.std.proofs.Common.{arith, refl, true, ap, ◌+◌}
use Rattle.edr_core.specs.Answers.{commands_put}
use Rattle.edr_core.specs.Parts.{parts_of}
use Rattle.edr_core.proofs.GiveLemmas.{closed-early}
use Rattle.edr_cycle.proofs.AnswerLemmas.{asked-before, asked-now, asks-zero, closes, lacks-asking, leads-from, waits-next}
use Rattle.edr_cycle.proofs.remaining.close.Goals as goal

pub close_asked-requires : goal.close_asked-requires
close_asked-requires c =
    let r = c.requires in
    let h = r.2 in
    let core = r.3.remains.core_is in
    let step = c.in-Ask.ensures in
    (r.0, r.1, record h { asking = true }, asked-now r.0 r.1 h c.args.core.now c.close.new.self c.args.rest.now c.in-Ask.zero r.3 (step.stands h core) (asks-zero h c.in-Ask.zero (step.answer h core)))

pub overflow_add-zero : goal.overflow_add-zero
overflow_add-zero c =
    let r = c.requires in
    let stands = c.in-Parts.ensures.stands r.2 r.3.remains.core_is in
    let early = closed-early c.close.new.self r.2 stands in
    let is = c.closed-zero.ensures r.2 stands in
    let same = stands.closed_is in
    omega (arith, early, is, same)

pub close_asked-requires-in-Parts : goal.close_asked-requires-in-Parts
close_asked-requires-in-Parts c =
    let r = c.requires in
    let h = r.2 in
    let core = r.3.remains.core_is in
    let step = c.in-Parts.ensures in
    let stands = step.stands h core in
    (r.0, r.1, h, asked-before r.0 r.1 h c.args.core.now c.close.new.self c.args.rest.now (c.closed-zero.result + 1) r.3 stands (lacks-asking h c.in-Parts.sensor (step.answer h core)) (ap (λ u. u + 1) (c.closed-zero.ensures h stands)))

pub returns-in-Waiting-clause-leads : goal.returns-in-Waiting-clause-leads
returns-in-Waiting-clause-leads c = λ f n h opened.
    let core = opened.remains.core_is in
    let step = c.in-Waiting.ensures in
    (h, refl, waits-next f n h c.args.core.now c.close.new.self c.args.rest.now c.in-Waiting.sensor opened (step.stands h core) (step.answer h core))

pub returns-in-Closed-clause-leads : goal.returns-in-Closed-clause-leads
returns-in-Closed-clause-leads c = λ f n h opened.
    let core = opened.remains.core_is in
    let step = c.in-Closed.ensures in
    closes f n h c.args.core.now c.close.new.self c.args.rest.now opened (step.stands h core) c.in-Closed.tick (commands_put c.in-Closed.issues c.close.new.issued)
    (step.commands h (parts_of f) core opened.remains.parts_are).0 (step.ticks h (parts_of f) core opened.remains.parts_are)

pub returns-in-Ask-clause-leads : goal.returns-in-Ask-clause-leads
returns-in-Ask-clause-leads c = λ f n h opened.
    let core = opened.remains.core_is in
    let step = c.in-Ask.ensures in
    let asked = asked-now f n h c.args.core.now c.close.new.self c.args.rest.now c.in-Ask.zero opened (step.stands h core) (asks-zero h c.in-Ask.zero (step.answer h core)) in
    leads-from f n (record h { asking = true }) h c.close_asked.result c.close_asked.new.issued c.close_asked.new.core c.close_asked.new.rest refl (c.close_asked.ensures.leads f n (record h { asking = true }) asked)

pub returns-in-Parts-clause-leads : goal.returns-in-Parts-clause-leads
returns-in-Parts-clause-leads c = λ f n h opened.
    let core = opened.remains.core_is in
    let step = c.in-Parts.ensures in
    let stands = step.stands h core in
    let asked = asked-before f n h c.args.core.now c.close.new.self c.args.rest.now (c.closed-zero.result + 1) opened stands (lacks-asking h c.in-Parts.sensor (step.answer h core)) (ap (λ u. u + 1) (c.closed-zero.ensures h stands)) in
    c.close_asked-in-Parts.ensures.leads f n h asked
