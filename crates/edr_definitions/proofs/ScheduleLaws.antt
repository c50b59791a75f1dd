-- A run is never stuck and never ahead, the order of arrival is free, and what stands at a closed tick stays.
use Rattle.std.proofs.Common.{ℤ, pos, Bool, true, cond, nat_eq, Option, unwrap_or, unsigned_abs, arith, sym, ap, subst, ◌≡◌, ◌∙◌, ℕ, ◌+◌, ◌-◌, ◌<◌, ◌≤◌, ◌⊎◌, inl, inr, None, List, [], ◌∷◌, ◌++◌, append-nil, append_assoc}
use Rattle.std.proofs.lemmas.Bool.{cases_lt}
use Rattle.edr_items.specs.declared.TheConstants.{LONGEST_GAP}
use Rattle.edr_items.specs.declared.Sensor.{Sensor}
use Rattle.edr_items.specs.declared.Sensor.TheVariants.{Along, Across, Restraint}
use Rattle.edr_items.specs.Sensor.{number_of}
use Rattle.edr_items.specs.declared.Item.{Item}
use Rattle.edr_items.specs.Item.{refusal_of, mark_of, IsFeed}
use Rattle.edr_items.specs.SensorLists.{SensorLists, items_of, AreFeeds, horizon_of, IsLevel}
use Rattle.edr_items.proofs.FeedLemmas.{refusal_of-rises}
use Rattle.edr_items.proofs.PerSensorLemmas.{with_value-others, each_or_some, values-same}
use Rattle.edr_definitions.specs.Signals.{sample_at, signals_of}
use Rattle.edr_definitions.specs.Facts.{AgreeUpTo}
use Rattle.edr_definitions.proofs.LaterLaws.{sample_at-push}
use Rattle.edr_definitions.specs.Schedule.{Progress, CoreMove, Give, Close, with_item, MayGive, after_step, after_steps, given_by, items_given, BeginsWith, IsNextItem, IsUnderWay, CanGoOn, IsOver}
use Rattle.edr_definitions.proofs.MarkLaws.{with_items-each, mark-push, mark-more, feed-next, horizon-least, horizon-above, horizon-more, horizon-with_item}

-- ---- the order of arrival
-- one more item of a sensor is at the end of its list, and in no other
items-with_item : (s r : Sensor) (x : Item) (f : SensorLists) → items_of s (with_item r x f) ≡ items_of s f ++ given_by s (Give r x)
items-with_item s r x f =
    with_value-others (λ q (xs : List Item). xs ≡ items_of q f ++ given_by q (Give r x)) r (items_of r f ++ x ∷ []) f
    (ap (λ (b : Bool). items_of r f ++ cond b (x ∷ []) []) (sym (eqb_same (number_of r))))
    (λ q other. sym (append-nil (items_of q f)) ∙ ap (λ (b : Bool). items_of q f ++ cond b (x ∷ []) []) (sym other)) s
  where
    eqb_same : (n : ℕ) → nat_eq n n ≡ true
    eqb_same n = search arith

items-after_step : (s : Sensor) (p : Progress) (step : CoreMove) → items_of s (after_step p step).given ≡ items_of s p.given ++ given_by s step
items-after_step s p (Give r x) = items-with_item s r x p.given
items-after_step s p Close = sym (append-nil (items_of s p.given))

-- after steps each list has at its end what they gave of its sensor
pub items-after_steps : (p : Progress) (steps : List CoreMove) (s : Sensor) → items_of s (after_steps p steps).given ≡ items_of s p.given ++ items_given s steps
items-after_steps p [] s = sym (append-nil (items_of s p.given))
items-after_steps p (step ∷ steps) s =
    items-after_steps (after_step p step) steps s ∙ ap (λ xs. xs ++ items_given s steps) (items-after_step s p step) ∙ append_assoc (items_of s p.given) (given_by s step) (items_given s steps)

pub steps-same : (p : Progress) (steps others : List CoreMove) → ((s : Sensor) → items_given s steps ≡ items_given s others) → (after_steps p steps).given ≡ (after_steps p others).given
steps-same p steps others same =
    values-same (after_steps p steps).given (after_steps p others).given
    (λ s. items-after_steps p steps s ∙ ap (λ xs. items_of s p.given ++ xs) (same s) ∙ sym (items-after_steps p others s))

-- ---- never ahead, never stuck
module _ (f : SensorLists) (p : Progress) (feeds : AreFeeds f) (level : IsLevel f) (on : IsUnderWay f p) where
  abbrev mark_there : Sensor → ℕ
  mark_there s = mark_of (items_of s f)

  feed_with : (s : Sensor) (x : Item) (rest : List Item) → items_of s f ≡ (items_of s p.given ++ x ∷ []) ++ rest → IsFeed s (items_of s p.given ++ x ∷ rest)
  feed_with s x rest e = subst (λ (xs : List Item). IsFeed s xs) (e ∙ append_assoc (items_of s p.given) (x ∷ []) rest) (feeds s)

  -- the next item of a sensor that is waited for may be given, and any next item once the closed tick is the horizon
  pub never_ahead : (s : Sensor) (x : Item) → IsNextItem f p s x → (mark_of (items_of s p.given) ≡ p.closed) ⊎ (p.closed ≡ horizon_of f) → MayGive s x p
  never_ahead s x next why = (accepted.0, near why) where
    feed : IsFeed s (items_of s p.given ++ x ∷ next.0)
    feed = feed_with s x next.0 next.1

    accepted : (refusal_of s (mark_of (items_of s p.given)) x ≡ None) × (x.moment ≤ mark_of (items_of s p.given) + LONGEST_GAP)
    accepted = feed-next s 0 (items_of s p.given) x next.0 feed

    below : x.moment ≤ mark_there s
    below =
        let whole : IsFeed s ((items_of s p.given ++ x ∷ []) ++ next.0) = subst (λ (xs : List Item). IsFeed s xs) next.1 (feeds s) in
        let more = mark-more s 0 (items_of s p.given ++ x ∷ []) next.0 whole in
        let last = mark-push 0 (items_of s p.given) x in
        let e : mark_there s ≡ mark_of ((items_of s p.given ++ x ∷ []) ++ next.0) = ap mark_of next.1 in
        omega (arith, more, last, e)

    near : (mark_of (items_of s p.given) ≡ p.closed) ⊎ (p.closed ≡ horizon_of f) → x.moment ≤ p.closed + LONGEST_GAP
    near (inl waits) = let h = accepted.1 in omega (arith, h, waits)
    near (inr at_end) =
        let h = horizon-above f (mark_there s - LONGEST_GAP) (λ r. let l = level s r in omega (arith, l)) in
        let b = below in omega (arith, h, b, at_end)

  gives : (s : Sensor) (x : Item) → IsNextItem f p s x → MayGive s x p → CanGoOn f p
  gives s x next allowed = record {
    step = Give s x;
    allowed = allowed;
    leads = record {
      begun = with_items-each (λ r (xs : List Item). BeginsWith (items_of r f) xs) s (items_of s p.given ++ x ∷ []) p.given next on.begun;
      within = let low = on.within in let up = horizon-with_item s x p.given allowed.0 in omega (arith, low, up);
    };
  }

  closes : p.closed < horizon_of p.given → CanGoOn f p
  closes lt = record { step = Close; allowed = lt; leads = record { begun = on.begun; within = omega (arith, lt) } }

  all_or_next : (s : Sensor) → (items_of s p.given ≡ items_of s f) ⊎ ((x : Item) × IsNextItem f p s x)
  all_or_next s = by_rest (on.begun s).0 (on.begun s).1 where
    by_rest : (rest : List Item) → items_of s f ≡ items_of s p.given ++ rest → (items_of s p.given ≡ items_of s f) ⊎ ((x : Item) × IsNextItem f p s x)
    by_rest [] e = inl (sym (e ∙ append-nil (items_of s p.given)))
    by_rest (x ∷ rest) e = inr (x, (rest, e ∙ sym (append_assoc (items_of s p.given) (x ∷ []) rest)))

  -- the marks of what was given are no higher than those of the feeds
  marks_below : (s : Sensor) → mark_of (items_of s p.given) ≤ mark_there s
  marks_below s =
      let whole : IsFeed s (items_of s p.given ++ (on.begun s).0) = subst (λ (xs : List Item). IsFeed s xs) (on.begun s).1 (feeds s) in
      let more = mark-more s 0 (items_of s p.given) (on.begun s).0 whole in
      let e : mark_there s ≡ mark_of (items_of s p.given ++ (on.begun s).0) = ap mark_of (on.begun s).1 in
      omega (arith, more, e)

  at_end : p.closed ≡ horizon_of f → CanGoOn f p ⊎ IsOver f p
  at_end e = elim (each_or_some (λ s. items_of s p.given ≡ items_of s f) (λ s. (x : Item) × IsNextItem f p s x) all_or_next) [
    | inl all ↦ inr (record { all_given = values-same p.given f all; all_closed = e })
    | inr some ↦ inl (gives some.0 some.1.0 some.1.1 (never_ahead some.0 some.1.0 some.1.1 (inr e)))
  ]

  -- the sensor s is waited for
  waiting : p.closed ≡ horizon_of p.given → (s : Sensor) → mark_of (items_of s p.given) ≡ p.closed → (items_of s p.given ≡ items_of s f) ⊎ ((x : Item) × IsNextItem f p s x) → CanGoOn f p ⊎ IsOver f p
  waiting e s waits (inr next) = inl (gives s next.0 next.1 (never_ahead s next.0 next.1 (inl waits)))
  waiting e s waits (inl all) =
      let there : mark_of (items_of s p.given) ≡ mark_there s = ap mark_of all in
      let low = horizon-least f s in
      let up = horizon-more p.given f marks_below in
      at_end (omega (arith, e, waits, there, low, up))

  -- until all items are given and the closed tick is the horizon, some step is allowed
  pub never_stuck : CanGoOn f p ⊎ IsOver f p
  never_stuck = elim (cases_lt p.closed (horizon_of p.given)) [
    | inl lt ↦ inl (closes lt)
    | inr past ↦
        let e : p.closed ≡ horizon_of p.given = let h = on.within in omega (arith, past, h) in
        elim (each_or_some (λ s. p.closed < mark_of (items_of s p.given)) (λ s. mark_of (items_of s p.given) ≡ p.closed) (λ s. later_or_at s)) [
          | inl all ↦ let h = horizon-above p.given (p.closed + 1) (λ s. let lt = all s in omega (arith, lt)) in absurd (omega (arith, h, e))
          | inr some ↦ waiting e some.0 some.1 (all_or_next some.0)
        ]
  ] where
    later_or_at : (s : Sensor) → (p.closed < mark_of (items_of s p.given)) ⊎ (mark_of (items_of s p.given) ≡ p.closed)
    later_or_at s = elim (cases_lt p.closed (mark_of (items_of s p.given))) [
      | inl lt ↦ inl lt
      | inr past ↦ let low = horizon-least p.given s in let h = on.within in inr (omega (arith, past, low, h))
    ]

-- ---- what stands at a tick
-- up to its mark a feed that goes on has the samples that it has
sample_at-more : (s : Sensor) (xs ys : List Item) (u : ℕ) → IsFeed s (xs ++ ys) → u ≤ mark_of xs → sample_at xs u ≡ sample_at (xs ++ ys) u
sample_at-more s xs [] u feed upto = ap (λ zs. sample_at zs u) (sym (append-nil xs))
sample_at-more s xs (y ∷ ys) u feed upto =
    let accepted = feed-next s 0 xs y ys feed in
    let rises = refusal_of-rises s (mark_of xs) y accepted.0 in
    let last = mark-push 0 xs y in
    let longer : IsFeed s ((xs ++ y ∷ []) ++ ys) = subst (λ (zs : List Item). IsFeed s zs) (sym (append_assoc xs (y ∷ []) ys)) feed in
    sample_at-push xs y u (omega (arith, rises, upto)) ∙ sample_at-more s (xs ++ y ∷ []) ys u longer (omega (arith, last, rises, upto)) ∙ ap (λ zs. sample_at zs u) (append_assoc xs (y ∷ []) ys)

-- up to the horizon of what was given the signals are those of the feeds
pub signals-under_way : (f : SensorLists) (p : Progress) (t : ℕ) → AreFeeds f → IsUnderWay f p → t ≤ horizon_of p.given → AgreeUpTo t (signals_of p.given) (signals_of f)
signals-under_way f p t feeds on upto = record {
  along = λ u h. same Along u h;
  across = λ u h. same Across u h;
  fired = λ u h. ap (λ (r : Option ℤ). unsigned_abs (unwrap_or r (pos 0))) (same Restraint u h);
} where
  same : (s : Sensor) (u : ℕ) → u ≤ t → sample_at (items_of s p.given) u ≡ sample_at (items_of s f) u
  same s u h =
      let low = horizon-least p.given s in
      let begun = on.begun s in
      sample_at-more s (items_of s p.given) begun.0 u (subst (λ (zs : List Item). IsFeed s zs) begun.1 (feeds s)) (omega (arith, low, h, upto))
      ∙ ap (λ zs. sample_at zs u) (sym begun.1)
