-- What the sensors have given so far is what they may give.
use Rattle.std.proofs.Common.{arith, ◌≡◌, ◌∙◌, ap, refl, subst, sym, ℕ, zero, suc, ◌+◌, ◌%◌, ◌<◌, ◌≤◌, ◌==◌, ℤ, pos, nat_le, Bool, true, false, Option, Some, None, List, [], ◌∷◌, ◌++◌, append_assoc}
use Rattle.std.specs.List.{AllByRecursion}
use Rattle.std.proofs.lemmas.List.{append-nil}
use Rattle.std.proofs.lemmas.Bool.Decides.{nat_tests}
use Rattle.edr_items.specs.declared.TheConstants.{LATEST_MOMENT}
use Rattle.edr_items.specs.declared.Sensor.{Sensor}
use Rattle.edr_items.specs.declared.Sensor.TheVariants.{Along, Across, Restraint}
use Rattle.edr_items.specs.declared.Item.{Item}
use Rattle.edr_items.specs.Item.{IsFeed, has_value_in_range, mark_from, mark_of, refusal_of}
use Rattle.edr_items.specs.Sensor.{is_in_range}
use Rattle.edr_items.specs.PerSlowSensor.{slow_value_of}
use Rattle.edr_items.specs.SensorLists.{AreFeeds, IsLevel}
use Rattle.edr_items.proofs.FeedLemmas.{IsFeedAfter-push}
use Rattle.edr_spell.specs.Samples.{Sample, feeds_given, items_given}
use Rattle.edr_spell.proofs.FeedsLemmas.{items_given-append, items_of-given}
use Rattle.edr_gen.specs.declared.plan.TheConstants.{SLOW_SAID}
use Rattle.edr_gen.specs.declared.plan.Impulse.{Impulse}
use Rattle.edr_gen.specs.Cycles.{acting_at, along_of, across_of, crash_samples, has_firing, restraint_samples, samples_after, samples_at, slow_samples}
use Rattle.edr_gen.proofs.RangeLemmas.{IsInRange, acting-range}

-- ---- one sensor

-- up to the tick t a sensor may give these items, the last of them at most k ticks ago
record Fed (s : Sensor) (t k : ℕ) (xs : List Item) : Type 0 where
  feed : IsFeed s xs
  below : mark_of xs ≤ t
  near : t ≤ mark_of xs + k

mark-push : (last : ℕ) (xs : List Item) (x : Item) → mark_from last (xs ++ x ∷ []) ≡ x.moment
mark-push last [] x = refl
mark-push last (y ∷ xs) x = mark-push y.moment xs x

abbrev item_at : ℕ → Option ℤ → Item
item_at t v = record { moment = t; value = v }

lt-false : (m n : ℕ) → n < m → nat_le m n ≡ false
lt-false m n h = grind (arith, nat_tests)

accepted : (s : Sensor) (last : ℕ) (x : Item) → last < x.moment → x.moment ≤ LATEST_MOMENT → has_value_in_range s x ≡ true → refusal_of s last x ≡ None
unfolding refusal_of
accepted s last x h k r = rw (lt-false x.moment last h, lt-false (LATEST_MOMENT + 1) x.moment (omega (arith, k)), r) refl

fed-give : (s : Sensor) (t k : ℕ) (v : Option ℤ) (xs : List Item) → has_value_in_range s (item_at (t + 1) v) ≡ true → k ≤ 999 → t + 1 ≤ LATEST_MOMENT → Fed s t k xs → Fed s (t + 1) 0 (xs ++ item_at (t + 1) v ∷ [])
fed-give s t k v xs r few within h =
    let x : Item = item_at (t + 1) v in
    let m : mark_of (xs ++ x ∷ []) ≡ t + 1 = mark-push 0 xs x in
    record {
      feed = IsFeedAfter-push s 0 xs x h.feed (accepted s (mark_of xs) x (omega (arith, h.below)) within r) (omega (arith, h.near, few));
      below = omega (arith, m);
      near = omega (arith, m);
    }

fed-wait : (s : Sensor) (t k j : ℕ) (xs : List Item) → k + 1 ≤ j → Fed s t k xs → Fed s (t + 1) j xs
fed-wait s t k j xs le h = record { feed = h.feed; below = omega (arith, h.below); near = omega (arith, h.near, le) }

fed-more : (s : Sensor) (t k j : ℕ) (xs : List Item) → k ≤ j → Fed s t k xs → Fed s t j xs
fed-more s t k j xs le h = record { feed = h.feed; below = h.below; near = omega (arith, h.near, le) }

is-zero : (n : ℕ) → (n == 0) ≡ false → 1 ≤ n
is-zero n h = grind (arith, nat_tests)

-- a slow sensor
abbrev slow_items : Bool → ℕ → Option ℤ → List Item
slow_items true t v = item_at t v ∷ []
slow_items false t v = []

fed-slow : (s : Sensor) (t : ℕ) (v : Option ℤ) (b : Bool) (xs : List Item) → ((t + 1) % 100 == 0) ≡ b → has_value_in_range s (item_at (t + 1) v) ≡ true → t + 1 ≤ LATEST_MOMENT
    → Fed s t (t % 100) xs → Fed s (t + 1) ((t + 1) % 100) (xs ++ slow_items b (t + 1) v)
fed-slow s t v true xs e r within h = fed-more s (t + 1) 0 ((t + 1) % 100) (xs ++ item_at (t + 1) v ∷ []) (omega arith) (fed-give s t (t % 100) v xs r (omega arith) within h)
fed-slow s t v false xs e r within h =
    let past : 1 ≤ (t + 1) % 100 = is-zero ((t + 1) % 100) e in
    subst (λ (ys : List Item). Fed s (t + 1) ((t + 1) % 100) ys) (sym (append-nil xs)) (fed-wait s t (t % 100) ((t + 1) % 100) xs (omega (arith, past)) h)

-- the restraints
abbrev restraint_items : Bool → Bool → ℕ → List Item
restraint_items true q t = item_at t (Some (pos 1)) ∷ []
restraint_items false true t = item_at t None ∷ []
restraint_items false false t = []

fed-restraint : (t : ℕ) (f q : Bool) (xs : List Item) → ((t + 1) % 1000 == 0) ≡ q → t + 1 ≤ LATEST_MOMENT
    → Fed Restraint t (t % 1000) xs → Fed Restraint (t + 1) ((t + 1) % 1000) (xs ++ restraint_items f q (t + 1))
fed-restraint t true q xs e within h = fed-more Restraint (t + 1) 0 ((t + 1) % 1000) (xs ++ item_at (t + 1) (Some (pos 1)) ∷ []) (omega arith) (fed-give Restraint t (t % 1000) (Some (pos 1)) xs refl (omega arith) within h)
fed-restraint t false true xs e within h = fed-more Restraint (t + 1) 0 ((t + 1) % 1000) (xs ++ item_at (t + 1) None ∷ []) (omega arith) (fed-give Restraint t (t % 1000) None xs refl (omega arith) within h)
fed-restraint t false false xs e within h =
    let past : 1 ≤ (t + 1) % 1000 = is-zero ((t + 1) % 1000) e in
    subst (λ (ys : List Item). Fed Restraint (t + 1) ((t + 1) % 1000) ys) (sym (append-nil xs)) (fed-wait Restraint t (t % 1000) ((t + 1) % 1000) xs (omega (arith, past)) h)

-- ---- all sensors

-- what the samples of one tick give each sensor
abbrev samples_by : ℤ → ℤ → ℕ → Bool → Bool → Bool → List Sample
samples_by a c t b f q = crash_samples a c t ++ slow_samples b t ++ restraint_samples f q t

abbrev items_by : Sensor → ℤ → ℤ → ℕ → Bool → Bool → Bool → List Item
items_by Along a c t b f q = item_at t (Some a) ∷ []
items_by Across a c t b f q = item_at t (Some c) ∷ []
items_by Restraint a c t b f q = restraint_items f q t
items_by s a c t b f q = slow_items b t (slow_value_of s SLOW_SAID)

said : (s : Sensor) (a c : ℤ) (t : ℕ) (b f q : Bool) → items_given s (samples_by a c t b f q) ≡ items_by s a c t b f q
said Along a c t true true q = refl
said s a c t true true q = refl
said Along a c t true false true = refl
said s a c t true false true = refl
said Along a c t true false false = refl
said s a c t true false false = refl
said Along a c t false true q = refl
said s a c t false true q = refl
said Along a c t false false true = refl
said s a c t false false true = refl
said Along a c t false false false = refl
said s a c t false false false = refl

-- at the tick t the last item of a sensor is at most so many ticks ago
abbrev since : Sensor → ℕ → ℕ
since Along t = 0
since Across t = 0
since Restraint t = t % 1000
since s t = t % 100

since-few : (s : Sensor) (t : ℕ) → since s t ≤ 1000
since-few Along t = omega arith
since-few s t = omega arith

-- up to the tick t the sensors may give these samples, each as often as it is to
pub record AllFed (t : ℕ) (xs : List Sample) : Type 0 where
  each : (s : Sensor) → Fed s t (since s t) (items_given s xs)

none-fed : (s : Sensor) (k : ℕ) → Fed s 0 k []
none-fed s k = record { feed = tt; below = omega arith; near = omega arith }

pub all-fed-none : AllFed 0 []
all-fed-none = record { each = λ s. none-fed s (since s 0) }

-- the next items of a sensor
fed-next : (s : Sensor) (a c : ℤ) (t : ℕ) (b f q : Bool) (xs : List Item) → ((t + 1) % 100 == 0) ≡ b → ((t + 1) % 1000 == 0) ≡ q → is_in_range Along a ≡ true → is_in_range Across c ≡ true → t + 1 ≤ LATEST_MOMENT
    → Fed s t (since s t) xs → Fed s (t + 1) (since s (t + 1)) (xs ++ items_by s a c (t + 1) b f q)
fed-next Along a c t b f q xs slow quiet along across within h = fed-give Along t 0 (Some a) xs along (omega arith) within h
fed-next Across a c t b f q xs slow quiet along across within h = fed-give Across t 0 (Some c) xs across (omega arith) within h
fed-next Restraint a c t b f q xs slow quiet along across within h = fed-restraint t f q xs quiet within h
fed-next s a c t b f q xs slow quiet along across within h = fed-slow s t (slow_value_of s SLOW_SAID) b xs slow refl within h

-- the items of a sensor, with those of one more list of samples
joined : (s : Sensor) (t k : ℕ) (xs ys : List Sample) (items : List Item) → items_given s ys ≡ items → Fed s t k (items_given s xs ++ items) → Fed s t k (items_given s (xs ++ ys))
joined s t k xs ys items e h = subst (λ (zs : List Item). Fed s t k zs) (sym (items_given-append s xs ys ∙ ap (λ (zs : List Item). items_given s xs ++ zs) e)) h

pub all-fed-next : (impulses : List Impulse) (t : ℕ) (xs : List Sample) → AllByRecursion IsInRange impulses → t + 1 ≤ LATEST_MOMENT → AllFed t xs → AllFed (t + 1) (xs ++ samples_at impulses (t + 1))
unfolding samples_at
all-fed-next impulses t xs are within h =
    let u : ℕ = t + 1 in
    let b : Bool = (u % 100 == 0) in
    let f : Bool = has_firing impulses u in
    let q : Bool = (u % 1000 == 0) in
    let a : ℤ = along_of (acting_at impulses u) in
    let c : ℤ = across_of (acting_at impulses u) in
    let range = acting-range impulses u are in
    let ys : List Sample = samples_by a c u b f q in
    record { each = λ s. joined s u (since s u) xs ys (items_by s a c u b f q) (said s a c u b f q) (fed-next s a c t b f q (items_given s xs) refl refl range.0 range.1 within (h.each s)) }

pub all-fed-feeds : (t : ℕ) (xs : List Sample) → AllFed t xs → AreFeeds (feeds_given xs)
all-fed-feeds t xs h = λ s. subst (IsFeed s) (sym (items_of-given s xs)) (h.each s).feed

near : (t : ℕ) (xs : List Sample) → AllFed t xs → (s : Sensor) → (mark_of (items_given s xs) ≤ t) × (t ≤ mark_of (items_given s xs) + 1000)
near t xs h s = let fed = h.each s in let few = since-few s t in (fed.below, omega (arith, fed.near, few))

pub all-fed-level : (t : ℕ) (xs : List Sample) → AllFed t xs → IsLevel (feeds_given xs)
all-fed-level t xs h = λ s r. rw (items_of-given s xs, items_of-given r xs) (omega (arith, (near t xs h s).0, (near t xs h r).1))

pub all-fed-after : (impulses : List Impulse) (n t : ℕ) (xs : List Sample) → AllByRecursion IsInRange impulses → t + n ≤ LATEST_MOMENT → AllFed t xs → AllFed (t + n) (xs ++ samples_after impulses t n)
unfolding samples_after
all-fed-after impulses zero t xs are within h = subst (λ (u : ℕ). AllFed u (xs ++ [])) (omega arith) (subst (AllFed t) (sym (append-nil xs)) h)
all-fed-after impulses (suc n) t xs are within h =
    let here : List Sample = samples_at impulses (t + 1) in
    let after : List Sample = samples_after impulses (t + 1) n in
    let fed : AllFed (t + 1 + n) ((xs ++ here) ++ after) = all-fed-after impulses n (t + 1) (xs ++ here) are (omega (arith, within)) (all-fed-next impulses t xs are (omega (arith, within)) h) in
    let u : t + 1 + n ≡ t + suc n = omega arith in
    subst (λ (k : ℕ). AllFed k (xs ++ (here ++ after))) u (subst (λ (ys : List Sample). AllFed (t + 1 + n) ys) (append_assoc xs here after) fed)
