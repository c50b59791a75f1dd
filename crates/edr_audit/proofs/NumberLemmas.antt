-- The issues of a cycle depend on its number in the keys of pre parts alone.
use Rattle.std.proofs.Common.{◌≡◌, refl, ap, ◌∙◌, ℕ, Bool, true, false, cond, nat_le, Option, Some, None, List, [], ◌∷◌, ◌++◌, map, filter}
use Rattle.std.specs.Prelude.{flat_map}
use Rattle.std.proofs.lemmas.List.{map-append}
use Rattle.edr_items.specs.SensorLists.{SensorLists, horizon_of}
use Rattle.edr_record.specs.Parts.{PrePart}
use Rattle.edr_record.specs.declared.Place.{Place}
use Rattle.edr_record.specs.declared.Command.TheVariants.{Take, Lock, Done}
use Rattle.edr_definitions.specs.Signals.{signals_of}
use Rattle.edr_definitions.specs.Selection.{Event, close_of}
use Rattle.edr_definitions.specs.Parts.{pre_part, crash_part}
use Rattle.edr_definitions.specs.Commands.{Issue, all_issues, issues_of, locks_at, lock_of, placed_events}
use Rattle.edr_run.specs.Cycle.{issues_in}
use Rattle.edr_audit.specs.Branches.{numbered, numbered_pre}

pre_numbered : (f : SensorLists) (n m : ℕ) (place : Place) (z : ℕ) → numbered_pre n (pre_part f m place z) ≡ pre_part f n place z
unfolding pre_part
pre_numbered f n m place z = refl

lock_numbered : (n : ℕ) (p q : PrePart) (lock : Option ℕ) → numbered_pre n p ≡ q → map (numbered n) (locks_at p lock) ≡ locks_at q lock
lock_numbered n p q None e = refl
lock_numbered n p q (Some t) e = ap (λ (x : PrePart). (record { tick = t; command = Lock x }) ∷ []) e

pub issues-numbered : (f : SensorLists) (n m : ℕ) (e : Event × Place) → map (numbered n) (issues_of f m e) ≡ issues_of f n e
unfolding issues_of
issues-numbered f n m e =
    let s = signals_of f in
    let z = e.0.zero_tick in
    let same : numbered_pre n (pre_part f m e.1 z) ≡ pre_part f n e.1 z = pre_numbered f n m e.1 z in
    let done : List Issue = record { tick = close_of z e.0.end_tick; command = Done (crash_part s z e.0.end_tick) } ∷ [] in
    let lock = lock_of s z e.0.end_tick in
    let later : map (numbered n) (locks_at (pre_part f m e.1 z) lock ++ done) ≡ locks_at (pre_part f n e.1 z) lock ++ done =
    map-append (numbered n) (locks_at (pre_part f m e.1 z) lock) done ∙ ap (λ (xs : List Issue). xs ++ done) (lock_numbered n (pre_part f m e.1 z) (pre_part f n e.1 z) lock same) in
    ap (λ (x : PrePart). (record { tick = e.0.confirmed_tick; command = Take x }) ∷ map (numbered n) (locks_at (pre_part f m e.1 z) lock ++ done)) same
    ∙ ap (λ (xs : List Issue). (record { tick = e.0.confirmed_tick; command = Take (pre_part f n e.1 z) }) ∷ xs) later

all_numbered : (f : SensorLists) (n m : ℕ) (es : List (Event × Place)) → map (numbered n) (flat_map (issues_of f m) es) ≡ flat_map (issues_of f n) es
all_numbered f n m [] = refl
all_numbered f n m (e ∷ es) =
    map-append (numbered n) (issues_of f m e) (flat_map (issues_of f m) es)
    ∙ ap (λ xs. xs ++ map (numbered n) (flat_map (issues_of f m) es)) (issues-numbered f n m e)
    ∙ ap (λ xs. issues_of f n e ++ xs) (all_numbered f n m es)

filter_numbered : (n t : ℕ) (is : List Issue) → map (numbered n) (filter (λ i. nat_le i.tick t) is) ≡ filter (λ i. nat_le i.tick t) (map (numbered n) is)
filter_numbered n t [] = refl
filter_numbered n t (i ∷ is) = by_test (nat_le i.tick t) (filter_numbered n t is) where
  by_test : (b : Bool) → map (numbered n) (filter (λ i. nat_le i.tick t) is) ≡ filter (λ i. nat_le i.tick t) (map (numbered n) is)
      → map (numbered n) (cond b (i ∷ filter (λ i. nat_le i.tick t) is) (filter (λ i. nat_le i.tick t) is)) ≡ cond b (numbered n i ∷ filter (λ i. nat_le i.tick t) (map (numbered n) is)) (filter (λ i. nat_le i.tick t) (map (numbered n) is))
  by_test true later = ap (λ xs. numbered n i ∷ xs) later
  by_test false later = later

pub issues_in-numbered : (f : SensorLists) (n m : ℕ) → map (numbered n) (issues_in f m) ≡ issues_in f n
issues_in-numbered f n m =
    filter_numbered n (horizon_of f) (all_issues f m (horizon_of f)) ∙ ap (filter (λ i. nat_le i.tick (horizon_of f))) (all_numbered f n m (placed_events (signals_of f) (horizon_of f)))
