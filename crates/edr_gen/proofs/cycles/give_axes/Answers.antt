use Rattle.std.proofs.Common.{◌≡◌, ◌∙◌, ◌++◌, ◌∷◌, [], Some, ap, refl, w32, to_z, of_z, append_assoc}
use Rattle.std.proofs.lemmas.Int.{to_z-of_z}
use Rattle.std.proofs.lemmas.Result.{on_ok_weaker}
use Rattle.edr_items.specs.declared.Sensor.TheVariants.{Along, Across}
use Rattle.edr_spell.specs.Samples.{feeds_given}
use Rattle.edr_gen.specs.Cycles.{crash_samples, sample}
use Rattle.edr_gen.proofs.cycles.give_axes.Goals as goal

pub returns : goal.returns
returns c = on_ok_weaker c.give-2.result (λ gives. λ xs e.
    let t = c.args.tick in
    let a = sample Along t (Some (to_z w32 (of_z w32 c.args.along))) in
    let b = sample Across t (Some (to_z w32 (of_z w32 c.args.across))) in
    let along : to_z w32 (of_z w32 c.args.along) ≡ c.args.along = to_z-of_z w32 c.args.along c.ranges.along in
    let across : to_z w32 (of_z w32 c.args.across) ≡ c.args.across = to_z-of_z w32 c.args.across c.ranges.across in
    let whole : (xs ++ a ∷ []) ++ b ∷ [] ≡ xs ++ (a ∷ b ∷ []) = append_assoc xs (a ∷ []) (b ∷ []) in
    let same : xs ++ (a ∷ b ∷ []) ≡ xs ++ crash_samples c.args.along c.args.across t = rw (along, across) refl in
    gives _ (c.in_ok-give.ensures xs e) ∙ ap feeds_given (whole ∙ same)) c.give-2.ensures
