-- A merge that passes a tick at which neither axis moves.
use Rattle.std.proofs.Common.{arith, refl, sym, ap, subst, ◌≡◌, ◌∙◌, ℕ, ◌+◌, ◌<◌, ◌≤◌, Some, None, Option, ℤ, pos, ◌≤ℤ◌, unsigned_abs, unwrap_or, List, [], ◌∷◌, length, All, true, false}
use Rattle.std.proofs.lemmas.Int.{ints}
use Rattle.std.proofs.lemmas.List.Elements.{All-head}
use Rattle.std.specs.Option.{option_map_or}
use Rattle.edr_items.specs.declared.TheConstants.{LATEST_MOMENT}
use Rattle.edr_items.specs.declared.Sensor.{Sensor}
use Rattle.edr_items.specs.declared.Sensor.TheVariants.{Along, Across, Speed, Restraint}
use Rattle.edr_items.specs.declared.Item.{Item}
use Rattle.edr_items.specs.declared.Restraints.{Restraints}
use Rattle.edr_items.specs.Sensor.{is_in_range}
use Rattle.edr_items.specs.Item.{refusal_of, mark_of, IsFeed}
use Rattle.edr_items.specs.SensorLists.{items_of}
use Rattle.edr_definitions.specs.Schedule.{Progress, Give, IsAllowed}
use Rattle.edr_items.proofs.FeedLemmas.{refusal_of-rises}
use Rattle.edr_items.proofs.PerSensorLemmas.{with_value-each}
use Rattle.edr_definitions.proofs.MarkLaws.{horizon-least}
use Rattle.edr_merge.specs.declared.samples.TheConstants.{ROOM}
use Rattle.edr_merge.specs.declared.Next.{Next}
use Rattle.edr_merge.specs.declared.Next.TheVariants.{Waiting, Row}
use Rattle.edr_merge.specs.declared.Merge.TheInside.{Inside}
use Rattle.edr_merge.specs.Fields.{IsSound}
use Rattle.edr_merge.specs.Marks.{Marks, mark_in, with_mark, first_at}
use Rattle.edr_merge.specs.Lag.{IsBelowSlow}
use Rattle.edr_merge.specs.Rings.{with_kept}
use Rattle.edr_merge.specs.Samples.{waiting_samples, with_sample, first_value, past_first, is_first_of, IsFiring}
use Rattle.edr_merge.specs.State.{MergeState}
use Rattle.edr_merge.specs.Answers.{next_of}
use Rattle.edr_merge.specs.StandsFor.{MergeStandsFor}
use Rattle.edr_merge.specs.Still.{still_item, along_given, still_given, after_still, IsStillNext, PassesStill}
use Rattle.edr_merge.proofs.LagLemmas.{lag_none, below-risen}
use Rattle.edr_merge.proofs.WaitingLemmas.{length-waiting, keep_last-all, first-here, bits_of_firing}
use Rattle.edr_merge.proofs.StandsLemmas.{stands-given, stands-next, row-allowed, answer-row}

-- a sample of 0 is accepted after an earlier moment
still-accepted : (s : Sensor) (last t : ℕ) → last < t → t ≤ LATEST_MOMENT → is_in_range s (pos 0) ≡ true → refusal_of s last (still_item t) ≡ None
unfolding refusal_of
still-accepted s last t later within in_range = grind arith

empty : (xs : List Item) → length xs ≤ 0 → xs ≡ []
empty [] few = refl
empty (x ∷ xs) few = absurd (omega (arith, few))

-- no sample of a feed waits past its mark
none-waiting : (s : Sensor) (t : ℕ) (xs : List Item) → IsFeed s xs → mark_of xs ≤ t → waiting_samples t xs ≡ []
none-waiting s t xs feed over = let long = length-waiting s t 0 xs feed in empty (waiting_samples t xs) (omega (arith, long, over))

-- a sample of a tick that is kept alone is what the tick takes
kept-alone : (t : ℕ) (ys : List Item) → ys ≡ [] → (Some (pos 0) ≡ first_value t (with_sample (still_item t) ys)) × (past_first t (with_sample (still_item t) ys) ≡ ys)
kept-alone t ys none =
    let first = first-here t (still_item t) [] refl in
    let alone : with_sample (still_item t) [] ≡ still_item t ∷ [] = keep_last-all ROOM (still_item t ∷ []) (omega arith) in
    rw none (sym first.0 ∙ ap (first_value t) (sym alone), ap (past_first t) alone ∙ first.1)

-- the marks of the tick t for both axes
abbrev pub both_marked : ℕ → Marks → Marks
both_marked t m = with_mark Across t (with_mark Along t m)

-- a tick of which no sample is kept leaves what is kept
quiet-taken : (t : ℕ) (xs : List Item) → is_first_of t xs ≡ false → (first_value t xs ≡ None) × (past_first t xs ≡ xs)
quiet-taken t [] other = (refl, refl)
quiet-taken t (x ∷ xs) other = rw other (refl, refl)

-- what is kept of a tick of the restraints has a bit
firing-bits : (t : ℕ) (xs : List Item) → is_first_of t xs ≡ true → All IsFiring xs → 1 ≤ unsigned_abs (unwrap_or (first_value t xs) (pos 0))
firing-bits t [] first all = absurd (cc)
firing-bits t (x ∷ xs) first all = rw first (has-bits x.value (All-head IsFiring x xs all)) where
  bits-above : (v : ℤ) → pos 1 ≤ℤ v → 1 ≤ unsigned_abs v
  bits-above v low = grind (arith, ints)

  has-bits : (o : Option ℤ) → option_map_or (is_in_range Restraint) o false ≡ true → 1 ≤ unsigned_abs (unwrap_or o (pos 0))
  has-bits None fires = absurd (cc)
  has-bits (Some v) fires = bits-above v (bits_of_firing v fires).0

-- the restraints of a row
abbrev fired_in : Next → Restraints
fired_in (Waiting s) = record { 0 = 0 }
fired_in (Row t along across fired) = fired

module _ (m : MergeState) (p : Progress) (h : MergeStandsFor m p) (along_at : m.marks.along ≡ m.closed) (across_at : m.marks.across ≡ m.closed) (below : IsBelowSlow (m.closed + 1) m.marks) (within : m.closed + 1 ≤ LATEST_MOMENT) where
  abbrev t : ℕ
  t = p.closed + 1

  abbrev x : Item
  x = still_item t

  may-along : IsAllowed (Give Along x) p
  may-along =
      let e = h.closed_is in
      let k = h.marks_are Along in
      (still-accepted Along (mark_of p.given.along) t (omega (arith, along_at, e, k)) (omega (arith, e, within)) refl, omega arith)

  abbrev first : MergeState
  first = record { closed = m.closed; marks = with_mark Along t m.marks; rings = with_kept Along x m.rings }

  first_is : MergeStandsFor first (along_given p)
  first_is = stands-given m p Along x h may-along

  may-across : IsAllowed (Give Across x) (along_given p)
  may-across =
      let e = h.closed_is in
      let k = h.marks_are Across in
      (still-accepted Across (mark_of p.given.across) t (omega (arith, across_at, e, k)) (omega (arith, e, within)) refl, omega arith)

  abbrev both : MergeState
  both = record { closed = m.closed; marks = both_marked t m.marks; rings = with_kept Across x (with_kept Along x m.rings) }

  both_is : MergeStandsFor both (still_given p)
  both_is = stands-given first (along_given p) Across x first_is may-across

  none : first_at both.marks both.closed ≡ None
  none =
      let e = h.closed_is in
      lag_none both.marks both.closed (λ (i : p.closed + 1 ≡ m.closed). absurd (omega (arith, i, e))) (λ (i : p.closed + 1 ≡ m.closed). absurd (omega (arith, i, e)))
      (below-risen (m.closed + 1) t Across (with_mark Along t m.marks) (omega (arith, across_at, e)) (below-risen (m.closed + 1) t Along m.marks (omega (arith, along_at, e)) below))

  waits_none : (s : Sensor) (ys : List Item) → ys ≡ waiting_samples p.closed (items_of s p.given) → mark_in s m.marks ≡ m.closed → ys ≡ []
  waits_none s ys is at =
      let e = h.closed_is in
      let k = h.marks_are s in
      is ∙ none-waiting s p.closed (items_of s p.given) (h.feeds s) (omega (arith, at, e, k))

  along_kept : (Some (pos 0) ≡ first_value t (with_sample x m.rings.along)) × (past_first t (with_sample x m.rings.along) ≡ m.rings.along)
  along_kept = kept-alone t m.rings.along (waits_none Along m.rings.along h.waits.along_is along_at)

  across_kept : (Some (pos 0) ≡ first_value t (with_sample x m.rings.across)) × (past_first t (with_sample x m.rings.across) ≡ m.rings.across)
  across_kept = kept-alone t m.rings.across (waits_none Across m.rings.across h.waits.across_is across_at)

  at : p.closed ≡ m.closed
  at = sym h.closed_is

  abbrev fires : Restraints
  fires = record { 0 = unsigned_abs (unwrap_or (first_value (m.closed + 1) m.rings.restraint) (pos 0)) }

  row-is : Row t (Some (pos 0)) (Some (pos 0)) fires ≡ next_of (still_given p)
  row-is =
      (λ i. Row (at i + 1) (Some (pos 0)) (Some (pos 0)) fires)
      ∙ answer-row both both (still_given p) refl both_is none (Some (pos 0)) (Some (pos 0)) (first_value (m.closed + 1) m.rings.restraint) fires
      (along_kept.0 ∙ ap (λ n. first_value (n + 1) both.rings.along) at) (across_kept.0 ∙ ap (λ n. first_value (n + 1) both.rings.across) at) refl refl

  -- where a restraint fires, it is not such a tick
  pub fires-not_next : is_first_of (m.closed + 1) m.rings.restraint ≡ true → All IsFiring m.rings.restraint → IsStillNext p → ⊥
  fires-not_next here all next =
      let bits = firing-bits (m.closed + 1) m.rings.restraint here all in
      let same : fires ≡ record { 0 = 0 } = ap fired_in (row-is ∙ sym next.row) in
      let none : unsigned_abs (unwrap_or (first_value (m.closed + 1) m.rings.restraint) (pos 0)) ≡ 0 = ap (λ (r : Restraints). r.0) same in
      absurd (omega (arith, bits, none))

  module _ (other : is_first_of (m.closed + 1) m.rings.restraint ≡ false) where
    quiet : (first_value (m.closed + 1) m.rings.restraint ≡ None) × (past_first (m.closed + 1) m.rings.restraint ≡ m.rings.restraint)
    quiet = quiet-taken (m.closed + 1) m.rings.restraint other

    pub is-next : IsStillNext p
    is-next = record {
      along = may-along;
      across = may-across;
      closes = row-allowed both both (still_given p) refl both_is none;
      row = (λ i. Row t (Some (pos 0)) (Some (pos 0)) (record { 0 = unsigned_abs (unwrap_or (sym quiet.0 i) (pos 0)) })) ∙ row-is;
    }

    pub passes-still : PassesStill p (record { closed = m.closed + 1; marks = both_marked (m.closed + 1) m.marks; rings = m.rings })
    passes-still = record {
      next = is-next;
      first = first;
      first_is = first_is;
      both = both;
      both_is = both_is;
      stands = subst (λ (n : ℕ). MergeStandsFor (record { closed = m.closed + 1; marks = both_marked (n + 1) m.marks; rings = m.rings }) (after_still p)) at
          (stands-next both both (still_given p) refl both_is none m.rings
          (λ i. record {
            along = (sym along_kept.1 ∙ ap (λ n. past_first (n + 1) both.rings.along) at) i;
            across = (sym across_kept.1 ∙ ap (λ n. past_first (n + 1) both.rings.across) at) i;
            restraint = sym quiet.1 i;
          }));
    }

-- ---- where it is not such a tick

-- a sensor that may give an item of the next tick has no mark past the closed one
still-marked : (m : MergeState) (p : Progress) (s : Sensor) → MergeStandsFor m p → refusal_of s (mark_of (items_of s p.given)) (still_item (p.closed + 1)) ≡ None → mark_in s m.marks ≡ m.closed
still-marked m p s h accepted =
    let e = h.closed_is in
    let k = h.marks_are s in
    let low = horizon-least p.given s in
    let within = h.within in
    let rises = refusal_of-rises s (mark_of (items_of s p.given)) (still_item (p.closed + 1)) accepted in
    omega (arith, e, k, low, within, rises)

pub along-marked : (m : MergeState) (p : Progress) → MergeStandsFor m p → IsStillNext p → m.marks.along ≡ m.closed
along-marked m p h next = still-marked m p Along h next.along.0

pub across-marked : (m : MergeState) (p : Progress) → MergeStandsFor m p → IsStillNext p → m.marks.across ≡ m.closed
across-marked m p h next = still-marked m p Across h next.across.0

-- the others have marks past the tick that may be closed
pub slow-past : (m : MergeState) (p : Progress) → MergeStandsFor m p → IsStillNext p → IsBelowSlow (m.closed + 1) m.marks
slow-past m p h next Along beside = absurd (omega (arith, beside))
slow-past m p h next Across beside = absurd (omega (arith, beside))
slow-past m p h next s beside =
    let e = h.closed_is in
    let k = h.marks_are s in
    let low = horizon-least (still_given p).given s in
    let closes = next.closes in
    omega (arith, e, k, low, closes)

-- ---- the fields stay sound

-- a sensor beside the two axes has a mark past the tick, so a cycle goes on there
pub still-within : (a : Inside) → IsSound a → IsBelowSlow (a.closed + 1) a.marks → a.closed + 1 ≤ LATEST_MOMENT
still-within a sound before =
    let low = before Speed (omega arith) in
    let high = sound.marks_low Speed in
    omega (arith, low, high)

pub sound-still : (a : Inside) (slow : ℕ) → IsSound a → IsBelowSlow slow a.marks → IsBelowSlow (a.closed + 1) a.marks → IsSound (record { closed = a.closed + 1; marks = both_marked (a.closed + 1) a.marks; slow = slow; rings = a.rings })
sound-still a slow sound below before =
    let within = still-within a sound before in
    record {
      closed_low = past;
      marks_low = with_value-each (λ _ (n : ℕ). n ≤ LATEST_MOMENT) Across (a.closed + 1) (with_mark Along (a.closed + 1) a.marks) within
          (with_value-each (λ _ (n : ℕ). n ≤ LATEST_MOMENT) Along (a.closed + 1) a.marks within sound.marks_low);
      slow_low = low;
      firings = sound.firings;
    }
  where
    low : IsBelowSlow slow (both_marked (a.closed + 1) a.marks)
    low Along beside = absurd (omega (arith, beside))
    low Across beside = absurd (omega (arith, beside))
    low s beside = below s beside

    past : (s : Sensor) → a.closed + 1 ≤ mark_in s (both_marked (a.closed + 1) a.marks)
    past Along = omega arith
    past Across = omega arith
    past s = before s (omega arith)
