-- Samples that are given one after the other.
use Rattle.std.proofs.Common.{ap, sym, ◌≡◌, ◌∙◌, ◌+◌, ◌<◌, ℕ, List, [], ◌∷◌, ◌++◌, add-one, append_assoc, length, map, slice_index_or, take}
use Rattle.std.proofs.Math.Seq.{take-suc}
use Rattle.std.proofs.lemmas.List.{map-append}
use Rattle.edr_items.specs.declared.Sensor.{Sensor}
use Rattle.edr_spell.specs.Samples.{Sample}

-- one more sensor's sample after those of the ones before it in a list
pub samples-next : (f : Sensor → Sample) (ss : List Sensor) (k : ℕ) (d : Sensor) (xs : List Sample) → k < length ss → (xs ++ map f (take k ss)) ++ f (slice_index_or ss k d) ∷ [] ≡ xs ++ map f (take (k + 1) ss)
samples-next f ss k d xs lt =
    append_assoc xs (map f (take k ss)) (f (slice_index_or ss k d) ∷ [])
    ∙ ap (λ ys. xs ++ ys) (sym (map-append f (take k ss) (slice_index_or ss k d ∷ [])) ∙ ap (map f) (sym (take-suc ss k d lt) ∙ ap (λ n. take n ss) (sym (add-one k))))
