-- Where a cycle's own parts are put into its pre parts, they are its pre parts.
use Rattle.std.proofs.Common.{refl, ap, ◌≡◌, ◌∙◌, ℕ, Bool, true, false, cond, nat_le, Some, None, Option, List, [], ◌∷◌, ◌++◌, map, filter, ℤ}
use Rattle.std.specs.Prelude.{flat_map}
use Rattle.std.proofs.lemmas.List.{map-append}
use Rattle.edr_items.specs.declared.Sensor.{Sensor}
use Rattle.edr_items.specs.SensorLists.{SensorLists}
use Rattle.edr_record.specs.declared.Place.{Place}
use Rattle.edr_record.specs.declared.Command.TheVariants.{Take, Done}
use Rattle.edr_record.specs.Parts.{PrePart}
use Rattle.edr_definitions.specs.Signals.{Signals, signals_of}
use Rattle.edr_definitions.specs.Selection.{Event, close_of}
use Rattle.edr_definitions.specs.Parts.{pre_part, crash_part}
use Rattle.edr_definitions.specs.Commands.{Issue, locks_at, lock_of, issues_of, placed_events, all_issues, issues, commands}
use Rattle.edr_core.specs.Parts.{with_parts, command_with, commands_with, issue_with, issues_with, parts_of, HaveTheFastItems}

-- a pre part is made of its parts, whatever the slots were before
pub pre_part-with : (f g : SensorLists) (n : ℕ) (place : Place) (z : ℕ) → with_parts (parts_of f) (pre_part g n place z) ≡ pre_part f n place z
unfolding pre_part
pre_part-with f g n place z = refl

signals_same : (f g : SensorLists) → HaveTheFastItems f g → signals_of g ≡ signals_of f
signals_same f g h = rw (h.along, h.across, h.restraint) refl

locks-with : (slots : Sensor → ℕ → List (Option ℤ)) (p : PrePart) (o : Option ℕ) → map (issue_with slots) (locks_at p o) ≡ locks_at (with_parts slots p) o
locks-with slots p None = refl
locks-with slots p (Some t) = refl

-- what one event issues, by its pre part and the signals
abbrev built : Event × Place → PrePart → Signals → List Issue
built e pre m =
    record { tick = e.0.confirmed_tick; command = Take pre }
    ∷ locks_at pre (lock_of m e.0.zero_tick e.0.end_tick)
    ++ record { tick = close_of e.0.zero_tick e.0.end_tick; command = Done (crash_part m e.0.zero_tick e.0.end_tick) }
    ∷ []

built-with : (slots : Sensor → ℕ → List (Option ℤ)) (e : Event × Place) (pre : PrePart) (m : Signals) → map (issue_with slots) (built e pre m) ≡ built e (with_parts slots pre) m
built-with slots e pre m =
    let o = lock_of m e.0.zero_tick e.0.end_tick in
    let done : Issue = record { tick = close_of e.0.zero_tick e.0.end_tick; command = Done (crash_part m e.0.zero_tick e.0.end_tick) } in
    let take : Issue = record { tick = e.0.confirmed_tick; command = Take (with_parts slots pre) } in
    ap (λ (xs : List Issue). take ∷ xs) (map-append (issue_with slots) (locks_at pre o) (done ∷ []) ∙ ap (λ (xs : List Issue). xs ++ done ∷ []) (locks-with slots pre o))

module _ (f g : SensorLists) (n : ℕ) (h : HaveTheFastItems f g) where
  abbrev put : Issue → Issue
  put i = issue_with (parts_of f) i

  one-with : (e : Event × Place) → map (issue_with (parts_of f)) (issues_of g n e) ≡ issues_of f n e
  unfolding issues_of
  one-with e =
      let own = pre_part g n e.1 e.0.zero_tick in
      let pre = pre_part-with f g n e.1 e.0.zero_tick in
      built-with (parts_of f) e own (signals_of g)
      ∙ ap (λ (p : PrePart). built e p (signals_of g)) pre
      ∙ ap (λ (m : Signals). built e (pre_part f n e.1 e.0.zero_tick) m) (signals_same f g h)

  all-with : (es : List (Event × Place)) → map (issue_with (parts_of f)) (flat_map (issues_of g n) es) ≡ flat_map (issues_of f n) es
  all-with [] = refl
  all-with (e ∷ es) =
      map-append (issue_with (parts_of f)) (issues_of g n e) (flat_map (issues_of g n) es)
      ∙ ap (λ (xs : List Issue). xs ++ map (issue_with (parts_of f)) (flat_map (issues_of g n) es)) (one-with e)
      ∙ ap (λ (xs : List Issue). issues_of f n e ++ xs) (all-with es)

  filtered-with : (t : ℕ) (is : List Issue) → map put (filter (λ i. nat_le i.tick t) is) ≡ filter (λ i. nat_le i.tick t) (map put is)
  filtered-with t [] = refl
  filtered-with t (i ∷ is) = by (nat_le i.tick t) (filtered-with t is) where
    by : (b : Bool) → map put (filter (λ i. nat_le i.tick t) is) ≡ filter (λ i. nat_le i.tick t) (map put is)
        → map put (cond b (i ∷ filter (λ i. nat_le i.tick t) is) (filter (λ i. nat_le i.tick t) is)) ≡ cond b (put i ∷ filter (λ i. nat_le i.tick t) (map put is)) (filter (λ i. nat_le i.tick t) (map put is))
    by true e = ap (λ xs. put i ∷ xs) e
    by false e = e

  commands-of : (is : List Issue) → map (command_with (parts_of f)) (map (λ i. i.command) is) ≡ map (λ i. i.command) (map put is)
  commands-of [] = refl
  commands-of (i ∷ is) = ap (λ xs. command_with (parts_of f) i.command ∷ xs) (commands-of is)

  pub issues-with : (t : ℕ) → issues_with (parts_of f) g n t ≡ issues f n t
  issues-with t =
      filtered-with t (all_issues g n t)
      ∙ ap (filter (λ i. nat_le i.tick t)) (all-with (placed_events (signals_of g) t) ∙ ap (λ (m : Signals). flat_map (issues_of f n) (placed_events m t)) (signals_same f g h))

  pub commands-with : (t : ℕ) → commands_with (parts_of f) g n t ≡ commands f n t
  unfolding commands
  commands-with t = commands-of (issues g n t) ∙ ap (map (λ i. i.command)) (issues-with t)
