use Rattle.std.proofs.Common.{ap, sym, subst, ◌≡◌, ◌∙◌, FitsSigned, to_z, w32, rules}
use Rattle.std.proofs.lemmas.Int.{to_z-of_z}
use Rattle.edr_items.specs.declared.Restraints.{Restraints}
use Rattle.edr_detect.specs.Detected.{DetectsNext, TellsNext}
use Rattle.edr_detect.specs.Rows.{SignalRow, row_of, still_row}
use Rattle.edr_detect.specs.Stages.{nothing}
use Rattle.edr_detect.proofs.detector.Detect.tick.Goals as goal

pub returns-then-self : goal.returns-then-self
returns-then-self c =
    let along_fits : FitsSigned w32 c.args.along = search rules in
    let across_fits : FitsSigned w32 c.args.across = search rules in
    let along = sym (to_z-of_z w32 c.args.along along_fits) ∙ ap (to_z w32) c.if-along-eq0.true in
    let across = sym (to_z-of_z w32 c.args.across across_fits) ∙ ap (to_z w32) c.if-across-eq0.true in
    let none : c.args.fired ≡ record { 0 = 0 } = ap (λ k. let fired : Restraints = record { 0 = k } in fired) c.if-fired-eq0.true in
    let still : still_row ≡ row_of c.args.along c.args.across c.args.fired = λ i. row_of (sym along i) (sym across i) (sym none i) in
    record {
      stands = subst (λ (r : SignalRow). DetectsNext r c.args.self.now c.pass_still.new.self) still c.pass_still.ensures.stands;
      answer = subst (λ (r : SignalRow). TellsNext r c.args.self.now nothing) still c.pass_still.ensures.answer;
      tick = c.pass_still.ensures.tick;
    }
