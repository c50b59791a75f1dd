-- A run that passes a tick at which nothing moves.
use Rattle.std.proofs.Common.{arith, refl, ap, sym, ◌≡◌, ◌∙◌, ℕ, ◌+◌, ◌≤◌, Some, None, Option, List, ◌∷◌, ◌++◌}
use Rattle.edr_items.specs.declared.TheConstants.{LATEST_MOMENT}
use Rattle.edr_items.specs.declared.Item.{Item}
use Rattle.edr_items.specs.declared.Sensor.TheVariants.{Along, Across}
use Rattle.edr_items.specs.SensorLists.{SensorLists, items_of, with_items}
use Rattle.edr_definitions.specs.Commands.{issues}
use Rattle.edr_definitions.specs.Schedule.{Progress}
use Rattle.edr_definitions.proofs.LaterLaws.{issues-push}
use Rattle.edr_merge.specs.Still.{still_item, along_given, still_given, after_still}
use Rattle.edr_core.specs.Contents.{CoreContents}
use Rattle.edr_core.specs.StandsFor.{CoreIsFor}
use Rattle.edr_core.specs.OwnParts.{resting_history}
use Rattle.edr_core.specs.Still.{next_tick}
use Rattle.edr_core.proofs.GiveLemmas.{closed-early}
use Rattle.edr_cycle.specs.Rest.{TakesFirst, StillComesFirst, PassesNext, PassesOn}
use Rattle.edr_cycle.proofs.RunStepLemmas.{left_count, left_count-less, rest_gives}

-- no tick past a cycle is closed
pub closes-early : (c : CoreContents) (n : ℕ) (p : Progress) → CoreIsFor c n p → p.closed ≤ LATEST_MOMENT
closes-early c n p is =
    let early = closed-early c.split (resting_history n p is.parts) is.split_is in
    let at = is.split_is.closed_is in
    omega (arith, early, at)

-- what comes first is what was taken
pub takes-still : (taken : Option Item) (old new : List Item) (t : ℕ) → StillComesFirst t old → TakesFirst taken old new → old ≡ still_item t ∷ new
takes-still None old new t first none = let e = sym first.first ∙ none in absurd cc
takes-still (Some x) old new t first taken =
    let e = sym first.first ∙ taken in
    let same : first.rest ≡ new = cc in
    first.first ∙ ap (λ xs. still_item t ∷ xs) same

-- ---- ticks that are passed one after the other
-- none was passed yet
pub passes-none : (core : CoreContents) (left : SensorLists) (n : ℕ) (p : Progress) → CoreIsFor core n p → PassesOn n p core left left
passes-none core left n p is = record {
  last = p;
  core_is = is;
  from = omega arith;
  within = λ h. h;
  rest = λ lists h. h;
  early = λ t at. refl;
  quiet = refl;
  fewer = omega arith;
}

-- two items fewer are left
pub still-fewer : (left middle left' : SensorLists) (x y : Item) → items_of Along left ≡ x ∷ items_of Along middle → middle ≡ with_items Along (items_of Along middle) left
    → items_of Across middle ≡ y ∷ items_of Across left' → left' ≡ with_items Across (items_of Across left') middle → left_count left' + 2 ≡ left_count left
still-fewer left middle left' x y along along_others across across_others =
    let first = left_count-less Along x (items_of Along middle) left along in
    let second = left_count-less Across y (items_of Across left') middle across in
    let one = ap left_count along_others in
    let two = ap left_count across_others in
    omega (arith, first, second, one, two)

-- one tick more
pub passes-then : (core' core'' : CoreContents) (left left' left'' : SensorLists) (n : ℕ) (p : Progress) → (h : PassesOn n p core' left left') → PassesNext n h.last core'' left' left'' → PassesOn n p core'' left left''
passes-then core' core'' left left' left'' n p h is =
    let q = h.last in
    let x = still_item (next_tick q) in
    let f = (along_given q).given in
    let g = (still_given q).given in
    let same : (t : ℕ) → t ≤ q.closed → issues g n t ≡ issues q.given n t = λ t at. sym (issues-push Along q.given x n t (omega (arith, at)) ∙ issues-push Across f x n t (omega (arith, at))) in
    let from = h.from in
    let less = still-fewer left' is.middle left'' x x is.along is.along_others is.across is.across_others in
    let before = h.fewer in
    record {
      last = after_still q;
      core_is = is.passes.stands;
      from = omega (arith, from);
      within = λ _. let may = is.passes.next.closes in omega (arith, may);
      rest = λ lists given s.
          rest_gives Across s x (items_of Across left'') lists f is.middle
          (λ r. rest_gives Along r x (items_of Along is.middle) lists q.given left' (h.rest lists given) is.along ∙ ap (λ (l : SensorLists). items_of r f ++ items_of r l) (sym is.along_others)) is.across
          ∙ ap (λ (l : SensorLists). items_of s g ++ items_of s l) (sym is.across_others);
      early = λ t at. same t (omega (arith, at, from)) ∙ h.early t at;
      quiet = is.passes.quiet ∙ same q.closed (omega arith) ∙ h.quiet;
      fewer = omega (arith, less, before);
    }
