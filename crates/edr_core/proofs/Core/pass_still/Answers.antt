use Rattle.std.proofs.Common.{refl, ap, sym, subst, ◌≡◌, ◌↔◌, ◌∙◌, Bool, IsTrue, true, false}
use Rattle.edr_merge.specs.Still.{after_still}
use Rattle.edr_core.specs.Contents.{CoreContents}
use Rattle.edr_core.specs.Fields.{contents_of, HasHistory}
use Rattle.edr_core.specs.StandsFor.{CoreIsFor}
use Rattle.edr_core.specs.Still.{CanPassStill}
use Rattle.edr_core.specs.SplitContents.{SplitContents}
use Rattle.edr_core.specs.OwnParts.{resting_history}
use Rattle.edr_core.proofs.OwnLemmas.{core-passes}
use Rattle.edr_core.proofs.Core.pass_still.Goals as goal

pub invariant_of-self : goal.invariant_of-self
invariant_of-self c = by_result c.pass_still.result refl where
  by_result : (b : Bool) → c.pass_still.result ≡ b → HasHistory (record { split = c.pass_still.new.self; captures = c.self.inside.captures })
  by_result false e = subst (λ (s : SplitContents). HasHistory (record { split = s; captures = c.self.inside.captures })) (sym (c.pass_still.ensures.stays e)) c.self.invariant
  by_result true e =
      let h = c.self.invariant.stands in
      let n = c.self.inside.split.cycle in
      let p = c.self.invariant.past in
      let passed = core-passes (contents_of c.self.inside) n p c.pass_still.new.self h (c.pass_still.ensures.passes e (resting_history n p h.parts) h.split_is) in
      record {
        past = after_still p;
        stands = subst (λ k. CoreIsFor (contents_of (record { split = c.pass_still.new.self; captures = c.self.inside.captures })) k (after_still p)) (sym passed.stands.cycle_is) passed.stands;
      }

pub returns : goal.returns
returns c = record {
  answer = λ n p before.
      let h : CoreIsFor (contents_of c.self.inside) n p = subst (λ (v : CoreContents). CoreIsFor v n p) (sym c.self.view_is) before in
      subst (λ (v : CoreContents). IsTrue c.pass_still.result ↔ CanPassStill v.split p) c.self.view_is (c.pass_still.ensures.answer (resting_history n p h.parts) h.split_is);
  passes = λ told n p before.
      let h : CoreIsFor (contents_of c.self.inside) n p = subst (λ (v : CoreContents). CoreIsFor v n p) (sym c.self.view_is) before in
      core-passes (contents_of c.self.inside) n p c.pass_still.new.self h (c.pass_still.ensures.passes told (resting_history n p h.parts) h.split_is);
  stays = λ e. ap (λ (s : SplitContents). contents_of (record { split = s; captures = c.self.inside.captures })) (c.pass_still.ensures.stays e) ∙ c.self.view_is;
}
