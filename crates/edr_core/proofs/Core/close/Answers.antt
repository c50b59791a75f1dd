use Rattle.std.proofs.Common.{refl, sym, subst, ◌∙◌, ◌+◌}
use Rattle.edr_definitions.specs.Schedule.{Close, after_step}
use Rattle.edr_core.specs.Answers.{commands_put}
use Rattle.edr_core.specs.Contents.{CoreContents}
use Rattle.edr_core.specs.Fields.{contents_of}
use Rattle.edr_core.specs.StandsFor.{CoreIsFor}
use Rattle.edr_core.specs.Parts.{parts_of}
use Rattle.edr_core.specs.OwnParts.{resting_history, own_parts, with_own_parts}
use Rattle.edr_core.proofs.OwnLemmas.{asks-nothing, asks, own-are, core-waits, core-closes, waits-own, closes-own, asks-own, lacks-none, may-close, may-not, asked, asks-for, closes-asked, must-close, own-commands, own-ticks}
use Rattle.edr_core.proofs.Core.close.Goals as goal

pub close_free-requires : goal.close_free-requires
close_free-requires c = asks-nothing (contents_of c.self.inside) c.self.inside.split.cycle c.self.invariant.past c.self.invariant.stands

-- ---- it waits
pub invariant_of-self : goal.invariant_of-self
invariant_of-self c =
    let h = c.self.invariant.stands in
    let n = c.self.inside.split.cycle in
    let p = c.self.invariant.past in
    let stands = core-waits (contents_of c.self.inside) n p c.close_free.new.self h (c.in-Waiting.ensures.stands (resting_history n p h.parts) h.split_is) in
    record {
      past = p;
      stands = subst (λ k. CoreIsFor (contents_of (record { split = c.close_free.new.self; captures = c.self.inside.captures })) k (p)) (sym stands.cycle_is) stands;
    }

pub returns-in-Waiting-clause-stands : goal.returns-in-Waiting-clause-stands
returns-in-Waiting-clause-stands c = λ n p before.
    let h : CoreIsFor (contents_of c.self.inside) n p = subst (λ (v : CoreContents). CoreIsFor v n p) (sym c.self.view_is) before in
    core-waits (contents_of c.self.inside) n p c.close_free.new.self h (c.in-Waiting.ensures.stands (resting_history n p h.parts) h.split_is)

pub returns-in-Waiting-clause-allowed : goal.returns-in-Waiting-clause-allowed
returns-in-Waiting-clause-allowed c = λ n p before.
    let h : CoreIsFor (contents_of c.self.inside) n p = subst (λ (v : CoreContents). CoreIsFor v n p) (sym c.self.view_is) before in
    ((λ e. absurd e), may-not (contents_of c.self.inside) n p c.in-Waiting.sensor h (waits-own n p h.parts c.in-Waiting.sensor (c.in-Waiting.ensures.answer (resting_history n p h.parts) h.split_is)))

pub returns-in-Waiting-clause-waits : goal.returns-in-Waiting-clause-waits
returns-in-Waiting-clause-waits c = λ n p before.
    let h : CoreIsFor (contents_of c.self.inside) n p = subst (λ (v : CoreContents). CoreIsFor v n p) (sym c.self.view_is) before in
    sym (waits-own n p h.parts c.in-Waiting.sensor (c.in-Waiting.ensures.answer (resting_history n p h.parts) h.split_is))

-- ---- it closes a tick that is no time zero
pub invariant_of-self-in-Closed : goal.invariant_of-self-in-Closed
invariant_of-self-in-Closed c =
    let h = c.self.invariant.stands in
    let n = c.self.inside.split.cycle in
    let p = c.self.invariant.past in
    let stands = core-closes (contents_of c.self.inside) n p c.close_free.new.self h.parts h (c.in-Closed.ensures.stands (resting_history n p h.parts) h.split_is) h.parts_are in
    record {
      past = after_step p Close;
      stands = subst (λ k. CoreIsFor (contents_of (record { split = c.close_free.new.self; captures = c.self.inside.captures })) k (after_step p Close)) (sym stands.cycle_is) stands;
    }

pub returns-in-Closed-clause-commands : goal.returns-in-Closed-clause-commands
returns-in-Closed-clause-commands c = λ n p before.
    let h : CoreIsFor (contents_of c.self.inside) n p = subst (λ (v : CoreContents). CoreIsFor v n p) (sym c.self.view_is) before in
    let is = c.in-Closed.ensures.commands (resting_history n p h.parts) (parts_of p.given) h.split_is h.parts_are in
    (is.0, own-commands p.given n c.in-Closed.tick p.closed (commands_put c.in-Closed.issues c.close_free.new.issued) is.1)

pub returns-in-Closed-clause-ticks : goal.returns-in-Closed-clause-ticks
returns-in-Closed-clause-ticks c = λ n p before.
    let h : CoreIsFor (contents_of c.self.inside) n p = subst (λ (v : CoreContents). CoreIsFor v n p) (sym c.self.view_is) before in
    own-ticks p.given n c.in-Closed.tick p.closed (commands_put c.in-Closed.issues c.close_free.new.issued) (c.in-Closed.ensures.ticks (resting_history n p h.parts) (parts_of p.given) h.split_is h.parts_are)

pub returns-in-Closed-clause-stands : goal.returns-in-Closed-clause-stands
returns-in-Closed-clause-stands c = λ n p before.
    let h : CoreIsFor (contents_of c.self.inside) n p = subst (λ (v : CoreContents). CoreIsFor v n p) (sym c.self.view_is) before in
    core-closes (contents_of c.self.inside) n p c.close_free.new.self h.parts h (c.in-Closed.ensures.stands (resting_history n p h.parts) h.split_is) h.parts_are

pub returns-in-Closed-clause-allowed : goal.returns-in-Closed-clause-allowed
returns-in-Closed-clause-allowed c = λ n p before.
    let h : CoreIsFor (contents_of c.self.inside) n p = subst (λ (v : CoreContents). CoreIsFor v n p) (sym c.self.view_is) before in
    ((λ _. may-close (contents_of c.self.inside) n p h (closes-own n p h.parts c.in-Closed.tick (c.in-Closed.ensures.answer (resting_history n p h.parts) h.split_is))), (λ _. tt))

pub returns-in-Closed-clause-waits : goal.returns-in-Closed-clause-waits
returns-in-Closed-clause-waits c = λ n p before.
    let h : CoreIsFor (contents_of c.self.inside) n p = subst (λ (v : CoreContents). CoreIsFor v n p) (sym c.self.view_is) before in
    sym (closes-own n p h.parts c.in-Closed.tick (c.in-Closed.ensures.answer (resting_history n p h.parts) h.split_is))

-- ---- it closes a time zero
pub give_parts-requires : goal.give_parts-requires
give_parts-requires c =
    let h = c.self.invariant.stands in
    let n = c.self.inside.split.cycle in
    let p = c.self.invariant.past in
    (asked n p h.parts, (asks-for (contents_of c.self.inside) n p c.close_free.new.self c.in-Ask.zero h (c.in-Ask.ensures.stands (resting_history n p h.parts) h.split_is) (c.in-Ask.ensures.answer (resting_history n p h.parts) h.split_is)))

pub close_asked-requires : goal.close_asked-requires
close_asked-requires c =
    let h = c.self.invariant.stands in
    let n = c.self.inside.split.cycle in
    let p = c.self.invariant.past in
    asks c.give_parts.new.split (with_own_parts (asked n p h.parts)) (c.give_parts.ensures (asked n p h.parts) (asks-for (contents_of c.self.inside) n p c.close_free.new.self c.in-Ask.zero h (c.in-Ask.ensures.stands (resting_history n p h.parts) h.split_is) (c.in-Ask.ensures.answer (resting_history n p h.parts) h.split_is))) refl

pub unreachable-requires : goal.unreachable-requires
unreachable-requires c =
    let h = c.self.invariant.stands in
    let n = c.self.inside.split.cycle in
    let p = c.self.invariant.past in
    must-close c.close_asked.result c.close_asked.new.issued (p.closed + 1) (c.close_asked.ensures.answer (with_own_parts (asked n p h.parts)) (c.give_parts.ensures (asked n p h.parts) (asks-for (contents_of c.self.inside) n p c.close_free.new.self c.in-Ask.zero h (c.in-Ask.ensures.stands (resting_history n p h.parts) h.split_is) (c.in-Ask.ensures.answer (resting_history n p h.parts) h.split_is))) ∙ closes-asked n p h.parts) c.in_default.not-Closed

pub invariant_of-self-in-Ask : goal.invariant_of-self-in-Ask
invariant_of-self-in-Ask c =
    let h = c.self.invariant.stands in
    let n = c.self.inside.split.cycle in
    let p = c.self.invariant.past in
    let stands = core-closes (contents_of c.self.inside) n p c.close_asked.new.self (own_parts p.given (p.closed + 1) h.parts) h (c.in-Closed-close_asked.ensures.stands (with_own_parts (asked n p h.parts)) (c.give_parts.ensures (asked n p h.parts) (asks-for (contents_of c.self.inside) n p c.close_free.new.self c.in-Ask.zero h (c.in-Ask.ensures.stands (resting_history n p h.parts) h.split_is) (c.in-Ask.ensures.answer (resting_history n p h.parts) h.split_is)))) (own-are p.given (p.closed + 1) h.parts h.parts_are) in
    record {
      past = after_step p Close;
      stands = subst (λ k. CoreIsFor (contents_of (record { split = c.close_asked.new.self; captures = c.self.inside.captures })) k (after_step p Close)) (sym stands.cycle_is) stands;
    }

pub returns-in-Closed-close_asked-clause-commands : goal.returns-in-Closed-close_asked-clause-commands
returns-in-Closed-close_asked-clause-commands c = λ n p before.
    let h : CoreIsFor (contents_of c.self.inside) n p = subst (λ (v : CoreContents). CoreIsFor v n p) (sym c.self.view_is) before in
    let is = c.in-Closed-close_asked.ensures.commands (with_own_parts (asked n p h.parts)) (parts_of p.given) (c.give_parts.ensures (asked n p h.parts) (asks-for (contents_of c.self.inside) n p c.close_free.new.self c.in-Ask.zero h (c.in-Ask.ensures.stands (resting_history n p h.parts) h.split_is) (c.in-Ask.ensures.answer (resting_history n p h.parts) h.split_is))) (own-are p.given (p.closed + 1) h.parts h.parts_are) in
    (is.0, own-commands p.given n c.in-Closed-close_asked.tick p.closed (commands_put c.in-Closed-close_asked.issues c.close_asked.new.issued) is.1)

pub returns-in-Closed-close_asked-clause-ticks : goal.returns-in-Closed-close_asked-clause-ticks
returns-in-Closed-close_asked-clause-ticks c = λ n p before.
    let h : CoreIsFor (contents_of c.self.inside) n p = subst (λ (v : CoreContents). CoreIsFor v n p) (sym c.self.view_is) before in
    own-ticks p.given n c.in-Closed-close_asked.tick p.closed (commands_put c.in-Closed-close_asked.issues c.close_asked.new.issued) (c.in-Closed-close_asked.ensures.ticks (with_own_parts (asked n p h.parts)) (parts_of p.given) (c.give_parts.ensures (asked n p h.parts) (asks-for (contents_of c.self.inside) n p c.close_free.new.self c.in-Ask.zero h (c.in-Ask.ensures.stands (resting_history n p h.parts) h.split_is) (c.in-Ask.ensures.answer (resting_history n p h.parts) h.split_is))) (own-are p.given (p.closed + 1) h.parts h.parts_are))

pub returns-in-Closed-close_asked-clause-stands : goal.returns-in-Closed-close_asked-clause-stands
returns-in-Closed-close_asked-clause-stands c = λ n p before.
    let h : CoreIsFor (contents_of c.self.inside) n p = subst (λ (v : CoreContents). CoreIsFor v n p) (sym c.self.view_is) before in
    core-closes (contents_of c.self.inside) n p c.close_asked.new.self (own_parts p.given (p.closed + 1) h.parts) h (c.in-Closed-close_asked.ensures.stands (with_own_parts (asked n p h.parts)) (c.give_parts.ensures (asked n p h.parts) (asks-for (contents_of c.self.inside) n p c.close_free.new.self c.in-Ask.zero h (c.in-Ask.ensures.stands (resting_history n p h.parts) h.split_is) (c.in-Ask.ensures.answer (resting_history n p h.parts) h.split_is)))) (own-are p.given (p.closed + 1) h.parts h.parts_are)

pub returns-in-Closed-close_asked-clause-allowed : goal.returns-in-Closed-close_asked-clause-allowed
returns-in-Closed-close_asked-clause-allowed c = λ n p before.
    let h : CoreIsFor (contents_of c.self.inside) n p = subst (λ (v : CoreContents). CoreIsFor v n p) (sym c.self.view_is) before in
    ((λ _. may-close (contents_of c.self.inside) n p h (asks-own n p h.parts c.in-Ask.zero (c.in-Ask.ensures.answer (resting_history n p h.parts) h.split_is)).0), (λ _. tt))

pub returns-in-Closed-close_asked-clause-waits : goal.returns-in-Closed-close_asked-clause-waits
returns-in-Closed-close_asked-clause-waits c = λ n p before.
    let h : CoreIsFor (contents_of c.self.inside) n p = subst (λ (v : CoreContents). CoreIsFor v n p) (sym c.self.view_is) before in
    sym (asks-own n p h.parts c.in-Ask.zero (c.in-Ask.ensures.answer (resting_history n p h.parts) h.split_is)).0

-- ---- while nothing is asked for, it lacks no part
pub unreachable-requires-in-Parts : goal.unreachable-requires-in-Parts
unreachable-requires-in-Parts c =
    let h = c.self.invariant.stands in
    let n = c.self.inside.split.cycle in
    let p = c.self.invariant.past in
    lacks-none n p h.parts c.in-Parts.sensor (c.in-Parts.ensures.answer (resting_history n p h.parts) h.split_is)
