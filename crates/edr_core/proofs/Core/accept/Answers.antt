use Rattle.std.proofs.Common.{rules, refl, sym, subst, ◌≡◌, ◌∙◌, true, false}
use Rattle.edr_definitions.specs.Schedule.{Give, after_step}
use Rattle.edr_core.specs.Contents.{CoreContents}
use Rattle.edr_core.specs.Fields.{contents_of}
use Rattle.edr_core.specs.StandsFor.{CoreIsFor}
use Rattle.edr_core.specs.OwnParts.{resting_history}
use Rattle.edr_core.proofs.OwnLemmas.{later-allowed, core-gives, asks-nothing}
use Rattle.edr_core.proofs.Core.accept.Goals as goal

pub returns-in_err-take-clause-allowed : goal.returns-in_err-take-clause-allowed
returns-in_err-take-clause-allowed c = λ n p before.
    let h : CoreIsFor (contents_of c.self.inside) n p = subst (λ (v : CoreContents). CoreIsFor v n p) (sym c.self.view_is) before in
    let allowed = c.take.ensures.allowed (resting_history n p h.parts) h.split_is in
    let was = c.in_err-take.was in
    let residual = c.from_residual.ensures in
    search rules

pub returns-in_err-take-clause-why : goal.returns-in_err-take-clause-why
returns-in_err-take-clause-why c = λ n p before.
    let h : CoreIsFor (contents_of c.self.inside) n p = subst (λ (v : CoreContents). CoreIsFor v n p) (sym c.self.view_is) before in
    let why = c.in_err-take.ensures.why (resting_history n p h.parts) h.split_is in
    let residual = c.from_residual.ensures in
    search rules

pub take-requires : goal.take-requires
take-requires c = λ asks. let none = asks-nothing (contents_of c.self.inside) c.self.inside.split.cycle c.self.invariant.past c.self.invariant.stands in let apart : true ≡ false = sym asks ∙ none in cc

pub push-requires : goal.push-requires
push-requires c =
    let i = c.self.invariant in
    let n = c.self.inside.split.cycle in
    record { later = later-allowed (contents_of c.self.inside) n i.past c.args.sensor c.args.item i.stands ((c.in_ok-take.ensures.allowed (resting_history n i.past i.stands.parts) i.stands.split_is).0 refl) }

pub invariant_of-self-2 : goal.invariant_of-self-2
invariant_of-self-2 c =
    let i = c.self.invariant in
    let n = c.self.inside.split.cycle in
    let w = resting_history n i.past i.stands.parts in
    let split = c.in_ok-take.ensures.ok w i.stands.split_is in
    let p = after_step i.past (Give c.args.sensor c.args.item) in
    record {
      past = p;
      stands = subst (λ k. CoreIsFor (contents_of (record { split = c.take.new.self; captures = c.push.new.self })) k p) (sym split.cycle_is)
          (core-gives (contents_of c.self.inside) n i.past c.args.sensor c.args.item c.take.new.self c.push.new.self
          i.stands ((c.in_ok-take.ensures.allowed w i.stands.split_is).0 refl) split c.push.ensures);
    }

pub returns-clause-ok : goal.returns-clause-ok
returns-clause-ok c = λ n p before.
    let h : CoreIsFor (contents_of c.self.inside) n p = subst (λ (v : CoreContents). CoreIsFor v n p) (sym c.self.view_is) before in
    let w = resting_history n p h.parts in
    core-gives (contents_of c.self.inside) n p c.args.sensor c.args.item c.take.new.self c.push.new.self
    h ((c.in_ok-take.ensures.allowed w h.split_is).0 refl) (c.in_ok-take.ensures.ok w h.split_is) c.push.ensures

pub returns-clause-allowed : goal.returns-clause-allowed
returns-clause-allowed c = λ n p before.
    let h : CoreIsFor (contents_of c.self.inside) n p = subst (λ (v : CoreContents). CoreIsFor v n p) (sym c.self.view_is) before in
    c.in_ok-take.ensures.allowed (resting_history n p h.parts) h.split_is
