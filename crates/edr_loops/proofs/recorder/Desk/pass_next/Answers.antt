use Rattle.std.proofs.Common.{arith, ap, refl, subst, sym, ◌∙◌, ◌+◌}
use Rattle.edr_core.specs.SplitContents.{SplitContents}
use Rattle.edr_merge.specs.Still.{still_item}
use Rattle.edr_loops.specs.FastInlets.{with_both}
use Rattle.edr_loops.specs.Lanes.{FastItems}
use Rattle.edr_loops.specs.Recorders.{RecordsOnHolding}
use Rattle.edr_loops.proofs.LaterLemmas.{fast-again, holding-on, same-taken}
use Rattle.edr_loops.proofs.PassLemmas.{stands-passed}
use Rattle.edr_loops.proofs.RecorderLemmas.{stands-unfast}
use Rattle.edr_loops.proofs.recorder.Desk.pass_next.Goals as goal

pub returns-then-not-are_still : goal.returns-then-not-are_still
returns-then-not-are_still c = holding-on c.args.horizon c.args.self.now _ c.requires (record {
  same = same-taken c.args.self.now c.args.self.now.core c.are_still.new.self c.args.self.now.last c.are_still.ensures.rings;
  stands = λ n e low s. stands-unfast n e c.args.self.now c.are_still.new.self c.are_still.ensures.taken s;
}) (refl, refl) refl

pub returns-then-not-pass_still : goal.returns-then-not-pass_still
returns-then-not-pass_still c =
    subst (λ (core : SplitContents). RecordsOnHolding c.args.horizon c.args.self.now (record c.args.self.now { core = core; fast = c.are_still.new.self })) (sym (c.pass_still.ensures.stays c.if-not-pass_still.true))
    (holding-on c.args.horizon c.args.self.now _ c.requires (record {
      same = same-taken c.args.self.now c.args.self.now.core c.are_still.new.self c.args.self.now.last c.are_still.ensures.rings;
      stands = λ n e low s. stands-unfast n e c.args.self.now c.are_still.new.self c.are_still.ensures.taken s;
    }) (refl, refl) refl)

pub returns : goal.returns
returns c = holding-on c.args.horizon c.args.self.now _ c.requires (record {
  same = same-taken c.args.self.now c.pass_still.new.self c.take_both.new.self _ (fast-again _ _ _ c.are_still.ensures.rings c.take_both.ensures.rings);
  stands = λ n e low s.
      let closed = c.closed-closed.ensures s.history s.told.core_is in
      let taken = c.take_both.ensures.taken (still_item (c.closed-closed.result + 1)) (c.are_still.ensures.next c.if-not-are_still.false)
      ∙ ap (λ (l : FastItems). with_both (still_item (c.closed-closed.result + 1)) l) c.are_still.ensures.taken in
      let below = c.if-closed-horizon.false in
      stands-passed n e (c.closed-closed.result + 1) c.args.self.now c.pass_still.new.self c.take_both.new.self s
      (c.pass_still.ensures.passes c.if-not-pass_still.false s.history s.told.core_is) (omega (arith, closed)) (omega (arith, below, low)) taken;
}) (refl, refl) refl
