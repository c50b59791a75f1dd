-- Laws of the list that `placed` collects, and of what is selected.
use Rattle.std.proofs.Common.{arith, refl, ap, sym, subst, ◌≡◌, ◌∙◌, ℕ, ◌-◌, ◌<◌, ◌≤◌, Bool, true, false, Option, Some, None, List, [], ◌∷◌, ◌++◌, map, drop, append_assoc, append-nil, nat_le, cond}
use Rattle.std.specs.Prelude.{zip, All}
use Rattle.std.proofs.lemmas.List.{map-append}
use Rattle.std.proofs.lemmas.List.Elements.{All-nil, All-cons, All-head, All-tail}
use Rattle.edr_items.specs.declared.TheConstants.{LATEST_MOMENT}
use Rattle.edr_record.specs.declared.TheConstants.{LONGEST_PAIR}
use Rattle.edr_record.specs.declared.Place.{Place}
use Rattle.edr_record.specs.declared.Place.TheVariants.{First, Second}
use Rattle.edr_record.specs.Bounds.{IsPlace}
use Rattle.edr_definitions.specs.Signals.{Signals}
use Rattle.edr_definitions.specs.Selection as selection
use Rattle.edr_definitions.specs.Commands.{place_after, place_of, places_from, places, placed_events}
use Rattle.edr_definitions.specs.Facts.{AreEventsAfter}
use Rattle.edr_definitions.specs.Premises.{EndsInTime}
use Rattle.edr_definitions.proofs.EventLaws.{events-follow}
use Rattle.edr_selection.specs.declared.event_search.Event.{Event}
use Rattle.edr_selection.specs.declared.placing.Selected.{Selected}
use Rattle.edr_selection.specs.Found.{told_event, placed_of, IsSelected}

-- ---- the loop

-- the events that are left, each with its place
abbrev pub rest_of : Option (Place × ℕ) → List Event → List (selection.Event × Place)
rest_of s es = zip (map told_event es) (places_from s (map (λ e. e.zero) es))

-- nothing is left
pub rest_of-none : (s : Option (Place × ℕ)) (es : List Event) (i : ℕ) (found : List Selected) (whole : List (selection.Event × Place)) → drop i es ≡ [] → map placed_of found ++ rest_of s (drop i es) ≡ whole → map placed_of found ≡ whole
rest_of-none s es i found whole e h = sym (append-nil (map placed_of found)) ∙ ap (λ xs. map placed_of found ++ rest_of s xs) (sym e) ∙ h

-- the next event
pub rest_of-step : (s : Option (Place × ℕ)) (e : Event) (es : List Event) (found : List Selected) (x : Selected) → placed_of x ≡ (told_event e, place_of s e.zero) → map placed_of (found ++ x ∷ []) ++ rest_of (Some (place_of s e.zero, e.zero)) es ≡ map placed_of found ++ rest_of s (e ∷ es)
rest_of-step s e es found x is =
    let more = rest_of (Some (place_of s e.zero, e.zero)) es in
    ap (λ xs. xs ++ more) (map-append placed_of found (x ∷ []))
    ∙ append_assoc (map placed_of found) (placed_of x ∷ []) more
    ∙ ap (λ (p : selection.Event × Place). map placed_of found ++ p ∷ more) is

-- ---- the time zeros

pub zeros-told : (es : List Event) → map (λ e. e.zero) es ≡ map (λ (e : selection.Event). e.zero_tick) (map told_event es)
zeros-told [] = refl
zeros-told (e ∷ es) = ap (λ zs. e.zero ∷ zs) (zeros-told es)

pub placed-is : (m : Signals) (t : ℕ) (es : List Event) → map told_event es ≡ selection.events m t → zip (map told_event es) (places (map (λ e. e.zero) es)) ≡ placed_events m t
placed-is m t es h =
    ap (λ zs. zip (map told_event es) (places zs)) (zeros-told es)
    ∙ ap (λ (xs : List selection.Event). zip xs (places (map (λ e. e.zero_tick) xs))) h

-- ---- what is selected

-- the same of an event of the definitions with its place
pub record IsFound (p : selection.Event × Place) : Type 0 where
  pub from : 1 ≤ p.0.zero_tick
  pub to : p.0.zero_tick ≤ LATEST_MOMENT
  pub place : IsPlace p.1
  pub ends : EndsInTime p.0.zero_tick p.0.end_tick

-- the event before, if there is one, has its time zero at most there
abbrev IsBy : ℕ → Option (Place × ℕ) → Type 0
IsBy after None = Unit {0}
IsBy after (Some s) = s.1 ≤ after

is_pair : (gap : ℕ) → 1 ≤ gap → (b : Bool) → nat_le gap LONGEST_PAIR ≡ b → IsPlace (cond b (Second gap) First)
is_pair gap some false e = tt
is_pair gap some true e = (some, grind arith)

is_place_after : (p : Place) (before z : ℕ) → before < z → IsPlace (place_after p before z)
is_place_after First before z lt = is_pair (z - before) (omega arith) (nat_le (z - before) LONGEST_PAIR) refl
is_place_after (Second g) before z lt = tt

is_place : (s : Option (Place × ℕ)) (after z : ℕ) → IsBy after s → after < z → IsPlace (place_of s z)
is_place None after z by lt = tt
is_place (Some s) after z by lt = is_place_after s.0 s.1 z (omega arith)

found_all : (m : Signals) (upto after : ℕ) (es : List selection.Event) (s : Option (Place × ℕ)) → upto ≤ LATEST_MOMENT → AreEventsAfter m upto after es → IsBy after s → All IsFound (zip es (places_from s (map (λ e. e.zero_tick) es)))
found_all m upto after [] s day follow by = All-nil IsFound
found_all m upto after (e ∷ es) s day follow by =
    let here = follow.0 in
    All-cons IsFound (e, place_of s e.zero_tick) (zip es (places_from (Some (place_of s e.zero_tick, e.zero_tick)) (map (λ e. e.zero_tick) es)))
    (record {
      from = omega (arith, here.zero_is_past);
      to = omega (arith, here.confirmed_from_zero, here.confirmed_in_time);
      place = is_place s after e.zero_tick by here.zero_is_past;
      ends = (here.ends_late, here.ends_by_reset);
    })
    (found_all m upto (selection.close_of e.zero_tick e.end_tick) es (Some (place_of s e.zero_tick, e.zero_tick)) day follow.1 (omega (arith, here.closes_past_end, here.ends_late)))

pub placed_events-found : (m : Signals) (t : ℕ) → t ≤ LATEST_MOMENT → All IsFound (placed_events m t)
placed_events-found m t day = found_all m t 0 (selection.events m t) None day (events-follow m t) tt

-- each of those is one of these
selected_one : (x : Selected) → IsFound (placed_of x) → IsSelected x
selected_one x h = record { from = h.from; to = h.to; place = h.place; ends = h.ends }

selected_all : (xs : List Selected) → All IsFound (map placed_of xs) → All IsSelected xs
selected_all [] h = All-nil IsSelected
selected_all (x ∷ xs) h =
    All-cons IsSelected x xs (selected_one x (All-head IsFound (placed_of x) (map placed_of xs) h))
    (selected_all xs (All-tail IsFound (placed_of x) (map placed_of xs) h))

pub each-selected : (m : Signals) (t : ℕ) (xs : List Selected) → t ≤ LATEST_MOMENT → map placed_of xs ≡ placed_events m t → All IsSelected xs
each-selected m t xs day h = selected_all xs (subst (λ ps. All IsFound ps) (sym h) (placed_events-found m t day))
