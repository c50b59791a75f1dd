-- What a merge stands for after one more item, and after a row.
use Rattle.std.proofs.Common.{arith, refl, sym, ap, ◌≡◌, ◌∙◌, ℕ, ◌+◌, ◌≤◌, List, [], ◌∷◌, ◌++◌, Some, None, Option, ℤ, pos, unsigned_abs, unwrap_or, subst, true, false, Bool, cond, nat_eq}
use Rattle.std.proofs.lemmas.Bool.{eqb-true, eqb-false}
use Rattle.std.specs.List.{find}
use Rattle.std.specs.Option.{option_map_or}
use Rattle.edr_items.specs.declared.TheConstants.{LONGEST_GAP}
use Rattle.edr_items.specs.declared.Sensor.{Sensor}
use Rattle.edr_items.specs.declared.Sensor.TheVariants.{Along, Across, Restraint}
use Rattle.edr_items.specs.declared.Item.{Item}
use Rattle.edr_items.specs.declared.Restraints.{Restraints}
use Rattle.edr_items.specs.Item.{refusal_of, mark_of, IsFeed}
use Rattle.edr_items.specs.SensorLists.{no_items, SensorLists, items_of, sensors}
use Rattle.edr_items.proofs.FeedLemmas.{refusal_of-rises, IsFeedAfter-push, no_items-feeds}
use Rattle.edr_definitions.specs.Signals.{sample_at}
use Rattle.edr_definitions.specs.Schedule.{Progress, Give, Close, IsAllowed, with_item, after_step}
use Rattle.edr_definitions.proofs.MarkLaws.{with_items-each, mark-push, horizon-least, horizon-above, horizon-with_item}
use Rattle.edr_merge.specs.declared.Next.TheVariants.{Waiting, Row}
use Rattle.edr_merge.specs.declared.rings.Rings.{Rings}
use Rattle.edr_items.proofs.LevelLemmas.{none-found}
use Rattle.edr_items.proofs.PerSensorLemmas.{value_of-each, with_value-both}
use Rattle.edr_merge.specs.Marks.{Marks, no_marks, mark_in, with_mark, is_marked_at, first_at}
use Rattle.edr_merge.specs.Samples.{waiting_samples, with_sample, first_value, past_first}
use Rattle.edr_merge.specs.Rings.{no_samples, with_kept}
use Rattle.edr_merge.specs.State.{MergeState}
use Rattle.edr_merge.specs.Answers.{waited_for, row_at, next_of}
use Rattle.edr_merge.specs.StandsFor.{AreWaiting, MergeStandsFor}
use Rattle.edr_merge.proofs.WaitingLemmas.{kept-waiting, tick-taken}

-- the marks with the item's moment are those of the lists with the item
marks-with_item : (s : Sensor) (m : Marks) (x : Item) (f : SensorLists) → ((r : Sensor) → mark_in r m ≡ mark_of (items_of r f)) → (r : Sensor) → mark_in r (with_mark s x.moment m) ≡ mark_of (items_of r (with_item s x f))
marks-with_item s m x f h = with_value-both (λ _ (n : ℕ) (xs : List Item). n ≡ mark_of xs) s x.moment (items_of s f ++ x ∷ []) m f (sym (mark-push 0 (items_of s f) x)) h

-- the list with the item is a feed, since the item makes no gap
feed-with_item : (m : MergeState) (p : Progress) (s : Sensor) (x : Item) → MergeStandsFor m p → IsAllowed (Give s x) p → IsFeed s (items_of s p.given ++ x ∷ [])
feed-with_item m p s x h allowed =
    let low = horizon-least p.given s in
    let near = allowed.1 in
    let within = h.within in
    IsFeedAfter-push s 0 (items_of s p.given) x (h.feeds s) allowed.0 (omega (arith, low, within, near))

-- what is kept of a sensor is what waits of its list with the item
kept-is : (m : MergeState) (p : Progress) (s : Sensor) (x : Item) (ys : List Item) → MergeStandsFor m p → IsAllowed (Give s x) p → ys ≡ waiting_samples p.closed (items_of s p.given) → with_sample x ys ≡ waiting_samples p.closed (items_of s p.given ++ x ∷ [])
kept-is m p s x ys h allowed is =
    let low = horizon-least p.given s in
    let within = h.within in
    let rises = refusal_of-rises s (mark_of (items_of s p.given)) x allowed.0 in
    ap (with_sample x) is ∙ kept-waiting s p.closed (items_of s p.given) x (feed-with_item m p s x h allowed) (omega (arith, low, within, rises)) allowed.1

waits-with_item : (m : MergeState) (p : Progress) (s : Sensor) (x : Item) → MergeStandsFor m p → IsAllowed (Give s x) p → AreWaiting p.closed (with_kept s x m.rings) (with_item s x p.given)
waits-with_item m p Along x h allowed = record { along_is = kept-is m p Along x m.rings.along h allowed h.waits.along_is; across_is = h.waits.across_is; restraint_is = h.waits.restraint_is }
waits-with_item m p Across x h allowed = record { along_is = h.waits.along_is; across_is = kept-is m p Across x m.rings.across h allowed h.waits.across_is; restraint_is = h.waits.restraint_is }
waits-with_item m p Restraint x h allowed = record { along_is = h.waits.along_is; across_is = h.waits.across_is; restraint_is = kept-is m p Restraint x m.rings.restraint h allowed h.waits.restraint_is }
waits-with_item m p s x h allowed = record { along_is = h.waits.along_is; across_is = h.waits.across_is; restraint_is = h.waits.restraint_is }

-- a merge that takes an allowed item stands for the longer lists
pub stands-given : (m : MergeState) (p : Progress) (s : Sensor) (x : Item) → MergeStandsFor m p → IsAllowed (Give s x) p → MergeStandsFor (record { closed = m.closed; marks = with_mark s x.moment m.marks; rings = with_kept s x m.rings }) (after_step p (Give s x))
stands-given m p s x h allowed = record {
  feeds = with_items-each IsFeed s (items_of s p.given ++ x ∷ []) p.given (feed-with_item m p s x h allowed) h.feeds;
  within = let up = horizon-with_item s x p.given allowed.0 in let within = h.within in omega (arith, up, within);
  near = with_items-each (λ r (xs : List Item). mark_of xs ≤ p.closed + LONGEST_GAP) s (items_of s p.given ++ x ∷ []) p.given
      (let last = mark-push 0 (items_of s p.given) x in let near = allowed.1 in omega (arith, last, near)) h.near;
  closed_is = h.closed_is;
  marks_are = marks-with_item s m.marks x p.given h.marks_are;
  waits = waits-with_item m p s x h allowed;
}

-- ---- a row
-- the rings without the samples of the tick
abbrev pub past_tick : ℕ → Rings → Rings
past_tick t r = record { along = past_first t r.along; across = past_first t r.across; restraint = past_first t r.restraint }

-- a merge that closes an allowed tick stands for the same lists
pub stands-closed : (m : MergeState) (p : Progress) → MergeStandsFor m p → IsAllowed Close p → MergeStandsFor (record { closed = m.closed + 1; marks = m.marks; rings = past_tick (m.closed + 1) m.rings }) (after_step p Close)
stands-closed m p h allowed =
    record {
      feeds = h.feeds;
      within = omega (arith, allowed);
      near = λ r. let near = h.near r in omega (arith, near);
      closed_is = ap (λ n. n + 1) h.closed_is;
      marks_are = h.marks_are;
      waits = record {
        along_is = past Along m.rings.along h.waits.along_is;
        across_is = past Across m.rings.across h.waits.across_is;
        restraint_is = past Restraint m.rings.restraint h.waits.restraint_is;
      };
    }
  where
    past : (s : Sensor) (xs : List Item) → xs ≡ waiting_samples p.closed (items_of s p.given) → past_first (m.closed + 1) xs ≡ waiting_samples (p.closed + 1) (items_of s p.given)
    past s xs is =
        ap (λ n. past_first (n + 1) xs) h.closed_is ∙ ap (past_first (p.closed + 1)) is ∙ (tick-taken s p.closed 0 (items_of s p.given) (h.feeds s)).1

-- what the rings give of the next tick are its samples
pub sample-taken : (m : MergeState) (p : Progress) → MergeStandsFor m p → (s : Sensor) (xs : List Item) → xs ≡ waiting_samples p.closed (items_of s p.given) → first_value (m.closed + 1) xs ≡ sample_at (items_of s p.given) (p.closed + 1)
sample-taken m p h s xs is =
    ap (λ n. first_value (n + 1) xs) h.closed_is ∙ ap (first_value (p.closed + 1)) is ∙ (tick-taken s p.closed 0 (items_of s p.given) (h.feeds s)).0

-- ---- the sensor that is waited for
-- the lowest-numbered sensor whose mark is the closed tick is the one that is waited for
pub first_at-is : (m : MergeState) (p : Progress) → MergeStandsFor m p → first_at m.marks m.closed ≡ waited_for p
unfolding first_at waited_for
first_at-is m p h = λ i. find (λ s. nat_eq (h.marks_are s i) (h.closed_is i)) sensors

-- where no mark is the closed tick, and none is before it, the next tick may be closed
pub marks-past : (m : Marks) (t : ℕ) → first_at m t ≡ None → ((s : Sensor) → t ≤ mark_in s m) → (s : Sensor) → t + 1 ≤ mark_in s m
unfolding first_at
marks-past m t h low s =
    let other = eqb-false (mark_in s m) t (none-found (is_marked_at m t) h s) in
    let from = low s in
    omega (arith, other, from)

-- the sensor that a search finds passes its test
pub find-holds : (p : Sensor → Bool) (xs : List Sensor) (s : Sensor) → find p xs ≡ Some s → p s ≡ true
find-holds p [] s h = absurd (cc)
find-holds p (x ∷ xs) s h = by_test (find-holds p xs s) (p x) refl h where
  by_test : (find p xs ≡ Some s → p s ≡ true) → (b : Bool) → p x ≡ b → cond b (Some x) (find p xs) ≡ Some s → p s ≡ true
  by_test rest true e h = let same : x ≡ s = cc in subst (λ (y : Sensor). p y ≡ true) same e
  by_test rest false e h = rest h

-- ---- the calls
-- a merge to which nothing was given
pub stands-new : (m : Marks) (r : Rings) → m ≡ no_marks → r ≡ no_samples → MergeStandsFor (record { closed = 0; marks = m; rings = r }) (record { given = no_items; closed = 0 })
unfolding waiting_samples
stands-new m r is_m is_r = rw (is_m, is_r) (record {
  feeds = no_items-feeds;
  within = omega arith;
  near = λ s. rw (value_of-each {A = List Item} [] s) (omega arith);
  closed_is = refl;
  marks_are = λ s. value_of-each 0 s ∙ sym (ap mark_of (value_of-each [] s));
  waits = record { along_is = refl; across_is = refl; restraint_is = refl };
})

-- a merge that accepted an item
pub stands-accepted : (v m : MergeState) (p : Progress) (s : Sensor) (x : Item) (last : ℕ) (k : Marks) (r : Rings) → m ≡ v → MergeStandsFor v p → last ≡ mark_in s m.marks → refusal_of s last x ≡ None → x.moment ≤ m.closed + LONGEST_GAP → k ≡ with_mark s x.moment m.marks → r ≡ with_kept s x m.rings → MergeStandsFor (record { closed = m.closed; marks = k; rings = r }) (after_step p (Give s x))
stands-accepted v m p s x last k r view h at accepted near is_k is_r =
    let on : MergeStandsFor m p = subst (λ (w : MergeState). MergeStandsFor w p) (sym view) h in
    let e = on.closed_is in
    let allowed : IsAllowed (Give s x) p = (ap (λ n. refusal_of s n x) (sym (at ∙ on.marks_are s)) ∙ accepted, omega (arith, near, e)) in
    rw (is_k, is_r) (stands-given m p s x on allowed)

-- a merge that waits
pub answer-waiting : (v m : MergeState) (p : Progress) (s : Sensor) → m ≡ v → MergeStandsFor v p → first_at m.marks m.closed ≡ Some s → Waiting s ≡ next_of p
answer-waiting v m p s view h found =
    let on : MergeStandsFor m p = subst (λ (w : MergeState). MergeStandsFor w p) (sym view) h in
    ap (λ o. option_map_or Waiting o (row_at p (p.closed + 1))) (sym found ∙ first_at-is m p on)

-- then no tick may be closed
pub waiting-not_allowed : (v m : MergeState) (p : Progress) (s : Sensor) → m ≡ v → MergeStandsFor v p → first_at m.marks m.closed ≡ Some s → IsAllowed Close p → ⊥
unfolding first_at
waiting-not_allowed v m p s view h found allowed =
    let on : MergeStandsFor m p = subst (λ (w : MergeState). MergeStandsFor w p) (sym view) h in
    let at = eqb-true (mark_in s m.marks) m.closed (find-holds (is_marked_at m.marks m.closed) sensors s found) in
    let low = horizon-least p.given s in
    let k = on.marks_are s in
    let e = on.closed_is in absurd (omega (arith, at, low, k, e, allowed))

module _ (v m : MergeState) (p : Progress) (view : m ≡ v) (h : MergeStandsFor v p) (none : first_at m.marks m.closed ≡ None) where
  on : MergeStandsFor m p
  on = subst (λ (w : MergeState). MergeStandsFor w p) (sym view) h

  -- where no sensor is waited for, the next tick may be closed
  pub row-allowed : IsAllowed Close p
  row-allowed =
      let e = on.closed_is in
      let later = marks-past m.marks m.closed none (λ s. let k = on.marks_are s in let low = horizon-least p.given s in let within = on.within in omega (arith, e, k, low, within)) in
      let past = horizon-above p.given (p.closed + 1) (λ s. let l = later s in let k = on.marks_are s in omega (arith, l, k, e)) in
      omega (arith, past)

  -- a merge that closed a tick
  pub stands-next : (r : Rings) → r ≡ past_tick (m.closed + 1) m.rings → MergeStandsFor (record { closed = m.closed + 1; marks = m.marks; rings = r }) (after_step p Close)
  stands-next r is_r = rw is_r (stands-closed m p on row-allowed)

  -- and its row is that of the lists
  pub answer-row : (along across : Option ℤ) (fired : Option ℤ) (bits : Restraints) → along ≡ first_value (m.closed + 1) m.rings.along → across ≡ first_value (m.closed + 1) m.rings.across → fired ≡ first_value (m.closed + 1) m.rings.restraint → bits ≡ record { 0 = unsigned_abs (unwrap_or fired (pos 0)) } → Row (m.closed + 1) along across bits ≡ next_of p
  answer-row along across fired bits is_along is_across is_fired is_bits =
      let a = is_along ∙ sample-taken m p on Along m.rings.along on.waits.along_is in
      let b = is_across ∙ sample-taken m p on Across m.rings.across on.waits.across_is in
      let c = is_fired ∙ sample-taken m p on Restraint m.rings.restraint on.waits.restraint_is in
      (λ i. Row (on.closed_is i + 1) (a i) (b i) ((is_bits ∙ ap (λ (o : Option ℤ). record { 0 = unsigned_abs (unwrap_or o (pos 0)) }) c) i))
      ∙ ap (λ o. option_map_or Waiting o (row_at p (p.closed + 1))) (sym none ∙ first_at-is m p on)
