-- The place and the last event of one more time zero are those of its list.
use Rattle.std.proofs.Common.{ap, sym, ◌∙◌, ℕ, Option, Some, [], ◌∷◌, ◌++◌}
use Rattle.edr_record.specs.declared.Place.{Place}
use Rattle.edr_definitions.specs.Commands.{place_of, places}
use Rattle.edr_definitions.proofs.PlaceLaws.{places-push, last_placed-push}
use Rattle.edr_link.proofs.Link.next.Goals as goal

pub returns-clause-stands : goal.returns-clause-stands
returns-clause-stands c = λ zeros is.
    let z = c.args.zero in
    ap (λ (p : Place). Some (p, z)) (c.place-place.ensures.place ∙ ap (λ (l : Option (Place × ℕ)). place_of l z) is) ∙ sym (last_placed-push zeros z)

pub returns-clause-definition : goal.returns-clause-definition
returns-clause-definition c = λ zeros is.
    let z = c.args.zero in
    let same = c.place-place.ensures.place ∙ ap (λ (l : Option (Place × ℕ)). place_of l z) is in
    places-push zeros z ∙ ap (λ (p : Place). places zeros ++ p ∷ []) (sym same)
