-- How many events and commands a cycle has.
use Rattle.std.proofs.Common.{arith, ℕ, ◌+◌, ◌-◌, ◌*◌, ◌/◌, ◌≤◌, nat_le, Some, None, Option, List, [], ◌∷◌, ◌++◌, map, filter, length, length-append}
use Rattle.std.specs.Prelude.{flat_map}
use Rattle.std.proofs.lemmas.List.{length-map}
use Rattle.std.proofs.lemmas.List.Sums.{length-filter, count_by-le-length}
use Rattle.std.proofs.lemmas.Slice.Zip.{length-zip}
use Rattle.edr_items.specs.SensorLists.{SensorLists}
use Rattle.edr_record.specs.declared.Place.{Place}
use Rattle.edr_record.specs.declared.Command.TheVariants.{Take, Done}
use Rattle.edr_record.specs.Parts.{PrePart}
use Rattle.edr_definitions.specs.Ticks.{first_tick}
use Rattle.edr_definitions.specs.Signals.{Signals, signals_of}
use Rattle.edr_definitions.specs.Selection.{Event, close_of, events}
use Rattle.edr_definitions.specs.Parts.{pre_part, crash_part}
use Rattle.edr_definitions.specs.Facts.{AreEventsAfter}
use Rattle.edr_definitions.specs.Commands.{Issue, locks_at, issues_of, is_locking, placed_events, places, commands}
use Rattle.edr_definitions.proofs.EventLaws.{events-follow}

-- ---- events are at least 51 ms apart
-- 51 times their number fits in what is left of the cycle
events_fit : (m : Signals) (upto a : ℕ) (es : List Event) → AreEventsAfter m upto a es → 51 * length es ≤ upto - a + 50
events_fit m upto a [] h = omega arith
events_fit m upto a (e ∷ es) h =
    let rest = events_fit m upto (close_of e.zero_tick e.end_tick) es h.1 in
    let past = h.0.zero_is_past in let from = h.0.confirmed_from_zero in let by = h.0.confirmed_in_time in let close = h.0.closes_late in
    omega (arith, rest, past, from, by, close)

pub length-events : (m : Signals) (upto : ℕ) → length (events m upto) ≤ upto / 51 + 1
length-events m upto = let h = events_fit m upto 0 (events m upto) (events-follow m upto) in omega (arith, h)

-- ---- an event issues at most three commands
length-locks_at : (pre : PrePart) (r : Option ℕ) (first last : Issue) → length (first ∷ locks_at pre r ++ last ∷ []) ≤ 3
length-locks_at pre None first last = omega arith
length-locks_at pre (Some t) first last = omega arith

length-issues_of : (f : SensorLists) (n : ℕ) (e : Event × Place) → length (issues_of f n e) ≤ 3
unfolding issues_of
length-issues_of f n e =
    let z = e.0.zero_tick in
    let close = close_of z e.0.end_tick in
    length-locks_at (pre_part f n e.1 z) (first_tick (is_locking (signals_of f)) z (close + 1)) (record { tick = e.0.confirmed_tick; command = Take (pre_part f n e.1 z) }) (record { tick = close; command = Done (crash_part (signals_of f) z e.0.end_tick) })

length-flat_map-le : {X Y : Type 0} (g : X → List Y) (n : ℕ) → ((x : X) → length (g x) ≤ n) → (xs : List X) → length (flat_map g xs) ≤ n * length xs
length-flat_map-le g n short [] = omega arith
length-flat_map-le g n short (x ∷ xs) =
    let here = short x in let rest = length-flat_map-le g n short xs in omega (arith, here, rest, length-append (g x) (flat_map g xs))

pub length-commands : (f : SensorLists) (n t : ℕ) → length (commands f n t) ≤ 3 * (t / 51 + 1)
unfolding commands
length-commands f n t =
    let all = flat_map (issues_of f n) (placed_events (signals_of f) t) in
    let es = events (signals_of f) t in
    let ps = places (map (λ e. e.zero_tick) es) in
    let few = length-flat_map-le (issues_of f n) 3 (length-issues_of f n) (placed_events (signals_of f) t) in
    let kept = count_by-le-length (λ i. nat_le i.tick t) all in
    let kept_is = length-filter (λ i. nat_le i.tick t) all in
    let mapped = length-map (filter (λ i. nat_le i.tick t) all) (λ i. i.command) in
    let zipped = length-zip es ps in
    omega (arith, few, kept, kept_is, mapped, zipped, length-events (signals_of f) t)
