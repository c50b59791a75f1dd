-- The samples of a feed that wait, and what a tick takes of them.
use Rattle.std.proofs.Common.{arith, refl, ap, sym, ◌≡◌, ◌≢◌, ◌∙◌, ℕ, ◌+◌, ◌-◌, ◌<◌, ◌≤◌, max, ◌⊎◌, inl, inr, Bool, true, false, cond, nat_eq, nat_lt, is_some, ◌&&◌, ℤ, pos, ◌≤ℤ◌, Some, None, Option, IfSome, List, [], ◌∷◌, ◌++◌, length, drop, All, append-nil}
use Rattle.std.proofs.lemmas.Bool.{cases_lt}
use Rattle.std.proofs.lemmas.Bool.Decides.{nat_tests}
use Rattle.std.proofs.lemmas.List.Elements.{filter-append, All-nil, All-cons, All-head, All-tail, All-append, All-drop}
use Rattle.std.proofs.lemmas.Int.{ints}
use Rattle.std.specs.Option.{option_map_or}
use Rattle.circular_buffer.specs.Buffer.{keep_last}
use Rattle.edr_items.specs.declared.TheConstants.{LONGEST_GAP}
use Rattle.edr_items.specs.declared.Sensor.{Sensor}
use Rattle.edr_items.specs.declared.Item.{Item}
use Rattle.edr_items.specs.declared.Sensor.TheVariants.{Restraint}
use Rattle.edr_items.specs.Sensor.{is_in_range}
use Rattle.edr_items.specs.Item.{refusal_of, has_value_in_range, mark_from, IsFeedAfter}
use Rattle.edr_items.proofs.FeedLemmas.{refusal_of-rises}
use Rattle.edr_definitions.specs.Signals.{sample_at}
use Rattle.edr_definitions.proofs.SampleLaws.{sample_at-here, sample_at-other}
use Rattle.edr_definitions.proofs.SumLaws.{same_or_not}
use Rattle.edr_definitions.proofs.MarkLaws.{mark-push}
use Rattle.edr_merge.specs.declared.samples.TheConstants.{ROOM}
use Rattle.edr_merge.specs.Samples.{is_waiting, waiting_samples, with_sample, first_value, past_first, IsFiring}

-- ---- one item
-- a silent item doesn't wait
waiting-silent : (t : ℕ) (x : Item) (xs : List Item) → x.value ≡ None → waiting_samples t (x ∷ xs) ≡ waiting_samples t xs
unfolding waiting_samples
waiting-silent t x xs silent = rw silent refl

-- nor does one that is not past the tick
waiting-over : (t : ℕ) (x : Item) (xs : List Item) → x.moment ≤ t → waiting_samples t (x ∷ xs) ≡ waiting_samples t xs
unfolding waiting_samples
waiting-over t x xs over = let e : (is_some x.value && nat_lt t x.moment) ≡ false = grind (arith, nat_tests) in rw e refl

-- a sample past the tick does
waiting-later : (t : ℕ) (x : Item) (xs : List Item) (v : ℤ) → x.value ≡ Some v → t < x.moment → waiting_samples t (x ∷ xs) ≡ x ∷ waiting_samples t xs
unfolding waiting_samples
waiting-later t x xs v sample later = let e : (is_some x.value && nat_lt t x.moment) ≡ true = grind (arith, nat_tests) in rw e refl

pub first-here : (t : ℕ) (x : Item) (xs : List Item) → x.moment ≡ t → (first_value t (x ∷ xs) ≡ x.value) × (past_first t (x ∷ xs) ≡ xs)
first-here t x xs here = let e : nat_eq x.moment t ≡ true = grind arith in (rw e refl, rw e refl)

first-other : (t : ℕ) (x : Item) (xs : List Item) → x.moment ≢ t → (first_value t (x ∷ xs) ≡ None) × (past_first t (x ∷ xs) ≡ x ∷ xs)
first-other t x xs other = let e : nat_eq x.moment t ≡ false = grind arith in (rw e refl, rw e refl)

-- ---- a feed past a tick
-- all its samples wait
waiting-same : (s : Sensor) (t last : ℕ) (xs : List Item) → t + 1 ≤ last → IsFeedAfter s last xs → waiting_samples t xs ≡ waiting_samples (t + 1) xs
waiting-same s t last [] past feed = unfold waiting_samples in refl
waiting-same s t last (x ∷ xs) past feed =
    let rises = refusal_of-rises s last x feed.0 in
    by_value (omega (arith, rises)) (waiting-same s t x.moment xs (omega (arith, rises)) feed.2) x.value refl
  where
    by_value : t + 1 < x.moment → waiting_samples t xs ≡ waiting_samples (t + 1) xs → (o : Option ℤ) → x.value ≡ o → waiting_samples t (x ∷ xs) ≡ waiting_samples (t + 1) (x ∷ xs)
    by_value later rest None e = waiting-silent t x xs e ∙ rest ∙ sym (waiting-silent (t + 1) x xs e)
    by_value later rest (Some v) e =
        waiting-later t x xs v e (omega (arith, later)) ∙ ap (λ ys. x ∷ ys) rest ∙ sym (waiting-later (t + 1) x xs v e later)

-- it has no sample of the tick
sample_at-before : (s : Sensor) (t last : ℕ) (xs : List Item) → t ≤ last → IsFeedAfter s last xs → sample_at xs t ≡ None
sample_at-before s t last [] past feed = unfold sample_at in refl
sample_at-before s t last (x ∷ xs) past feed =
    let rises = refusal_of-rises s last x feed.0 in
    sample_at-other x xs t (omega (arith, rises)) ∙ sample_at-before s t x.moment xs (omega (arith, rises)) feed.2

-- ---- what a tick takes
module _ (s : Sensor) (t : ℕ) (x : Item) (xs : List Item) (feed : IsFeedAfter s x.moment xs) where
  abbrev Taken : List Item → Type 0
  Taken ys = (first_value (t + 1) (waiting_samples t ys) ≡ sample_at ys (t + 1)) × (past_first (t + 1) (waiting_samples t ys) ≡ waiting_samples (t + 1) ys)

  -- an item that doesn't wait, and that isn't a sample of the next tick
  taken-skip : waiting_samples t (x ∷ xs) ≡ waiting_samples t xs → waiting_samples (t + 1) (x ∷ xs) ≡ waiting_samples (t + 1) xs → sample_at (x ∷ xs) (t + 1) ≡ sample_at xs (t + 1) → Taken xs → Taken (x ∷ xs)
  taken-skip e g h rest = (ap (first_value (t + 1)) e ∙ rest.0 ∙ sym h, ap (past_first (t + 1)) e ∙ rest.1 ∙ sym g)

  taken-silent : x.value ≡ None → Taken xs → (x.moment ≡ t + 1) ⊎ (x.moment ≢ t + 1) → Taken (x ∷ xs)
  taken-silent e rest (inl here) =
      taken-skip (waiting-silent t x xs e) (waiting-silent (t + 1) x xs e) (sample_at-here x xs (t + 1) here ∙ e ∙ sym (sample_at-before s (t + 1) x.moment xs (omega arith) feed)) rest
  taken-silent e rest (inr other) =
      taken-skip (waiting-silent t x xs e) (waiting-silent (t + 1) x xs e) (sample_at-other x xs (t + 1) other) rest

  taken-later : (v : ℤ) → x.value ≡ Some v → t + 1 < x.moment → Taken (x ∷ xs)
  taken-later v e later =
      let first = first-other (t + 1) x (waiting_samples t xs) (λ (h : x.moment ≡ t + 1). absurd (omega arith)) in
      let waits = waiting-later t x xs v e (omega arith) in
      let none = sample_at-other x xs (t + 1) (λ (h : x.moment ≡ t + 1). absurd (omega arith)) ∙ sample_at-before s (t + 1) x.moment xs (omega arith) feed in
      (ap (first_value (t + 1)) waits ∙ first.0 ∙ sym none, ap (past_first (t + 1)) waits ∙ first.1 ∙ ap (λ ys. x ∷ ys) (waiting-same s t x.moment xs (omega arith) feed) ∙ sym (waiting-later (t + 1) x xs v e later))

  taken-here : (v : ℤ) → x.value ≡ Some v → x.moment ≡ t + 1 → Taken (x ∷ xs)
  taken-here v e here =
      let first = first-here (t + 1) x (waiting_samples t xs) here in
      let waits = waiting-later t x xs v e (omega arith) in
      (ap (first_value (t + 1)) waits ∙ first.0 ∙ sym (sample_at-here x xs (t + 1) here), ap (past_first (t + 1)) waits ∙ first.1 ∙ waiting-same s t x.moment xs (omega arith) feed ∙ sym (waiting-over (t + 1) x xs (omega arith)))

  taken-more : (o : Option ℤ) → x.value ≡ o → Taken xs → (x.moment < t + 1) ⊎ (t + 1 ≤ x.moment) → (t + 1 < x.moment) ⊎ (x.moment ≤ t + 1) → Taken (x ∷ xs)
  taken-more None e rest _ _ = taken-silent e rest (same_or_not x.moment (t + 1))
  taken-more (Some v) e rest (inl over) _ =
      taken-skip (waiting-over t x xs (omega arith)) (waiting-over (t + 1) x xs (omega arith)) (sample_at-other x xs (t + 1) (λ (h : x.moment ≡ t + 1). absurd (omega arith))) rest
  taken-more (Some v) e rest (inr from) (inl later) = taken-later v e later
  taken-more (Some v) e rest (inr from) (inr upto) = taken-here v e (omega arith)

-- the first sample that waits, if it is of the next tick, is the feed's sample of that tick, and the others wait on
pub tick-taken : (s : Sensor) (t last : ℕ) (xs : List Item) → IsFeedAfter s last xs → (first_value (t + 1) (waiting_samples t xs) ≡ sample_at xs (t + 1)) × (past_first (t + 1) (waiting_samples t xs) ≡ waiting_samples (t + 1) xs)
tick-taken s t last [] feed = unfold waiting_samples in unfold sample_at in (refl, refl)
tick-taken s t last (x ∷ xs) feed =
    taken-more s t x xs feed.2 x.value refl (tick-taken s t x.moment xs feed.2) (cases_lt x.moment (t + 1)) (cases_lt (t + 1) x.moment)

-- ---- one more item
-- no two samples have one moment, so no more wait than ticks are left up to the mark
pub length-waiting : (s : Sensor) (t last : ℕ) (xs : List Item) → IsFeedAfter s last xs → length (waiting_samples t xs) + max t last ≤ max t (mark_from last xs)
length-waiting s t last [] feed = unfold waiting_samples in omega arith
length-waiting s t last (x ∷ xs) feed =
    by_item x.value refl (cases_lt t x.moment) (refusal_of-rises s last x feed.0) (length-waiting s t x.moment xs feed.2)
  where
    by_item : (o : Option ℤ) → x.value ≡ o → (t < x.moment) ⊎ (x.moment ≤ t) → last < x.moment → length (waiting_samples t xs) + max t x.moment ≤ max t (mark_from x.moment xs) → length (waiting_samples t (x ∷ xs)) + max t last ≤ max t (mark_from x.moment xs)
    by_item None e _ rises rest = let l = ap length (waiting-silent t x xs e) in omega (arith, l)
    by_item (Some v) e (inl later) rises rest = let l = ap length (waiting-later t x xs v e later) in omega (arith, l)
    by_item (Some v) e (inr over) rises rest = let l = ap length (waiting-over t x xs over) in omega (arith, l)

pub keep_last-all : (n : ℕ) (xs : List Item) → length xs ≤ n → keep_last n xs ≡ xs
keep_last-all n xs fits = let e : length xs - n ≡ 0 = omega arith in ap (λ k. drop k xs) e

-- one more item of the feed that isn't too far ahead is kept after those that wait, and drives none out
pub kept-waiting : (s : Sensor) (t : ℕ) (xs : List Item) (x : Item) → IsFeedAfter s 0 (xs ++ x ∷ []) → t < x.moment → x.moment ≤ t + LONGEST_GAP → with_sample x (waiting_samples t xs) ≡ waiting_samples t (xs ++ x ∷ [])
kept-waiting s t xs x feed later near = by_value x.value refl where
  split : waiting_samples t (xs ++ x ∷ []) ≡ waiting_samples t xs ++ waiting_samples t (x ∷ [])
  split = unfold waiting_samples in filter-append (is_waiting t) xs (x ∷ [])

  nothing : waiting_samples t [] ≡ []
  nothing = unfold waiting_samples in refl

  by_value : (o : Option ℤ) → x.value ≡ o → with_sample x (waiting_samples t xs) ≡ waiting_samples t (xs ++ x ∷ [])
  by_value None e =
      let same : with_sample x (waiting_samples t xs) ≡ waiting_samples t xs = rw e refl in
      same ∙ sym (split ∙ ap (λ ys. waiting_samples t xs ++ ys) (waiting-silent t x [] e ∙ nothing) ∙ append-nil (waiting_samples t xs))
  by_value (Some v) e =
      let more : waiting_samples t (xs ++ x ∷ []) ≡ waiting_samples t xs ++ x ∷ [] = split ∙ ap (λ ys. waiting_samples t xs ++ ys) (waiting-later t x [] v e later ∙ ap (λ ys. x ∷ ys) nothing) in
      let long = length-waiting s t 0 (xs ++ x ∷ []) feed in
      let last = mark-push 0 xs x in
      let all : with_sample x (waiting_samples t xs) ≡ keep_last ROOM (waiting_samples t xs ++ x ∷ []) = rw e refl in
      all ∙ ap (keep_last ROOM) (sym more) ∙ keep_last-all ROOM (waiting_samples t (xs ++ x ∷ [])) (omega (arith, long, last))

-- ---- the restraints that wait
pub firings-kept : (x : Item) (xs : List Item) → has_value_in_range Restraint x ≡ true → All IsFiring xs → All IsFiring (with_sample x xs)
firings-kept x xs in_range all = by_test (is_some x.value) refl where
  fires : (o : Option ℤ) → is_some o ≡ true → option_map_or (is_in_range Restraint) o true ≡ true → option_map_or (is_in_range Restraint) o false ≡ true
  fires None some within = absurd (cc)
  fires (Some v) some within = within

  by_test : (b : Bool) → is_some x.value ≡ b → All IsFiring (cond b (keep_last ROOM (xs ++ x ∷ [])) xs)
  by_test true some =
      All-drop IsFiring (length (xs ++ x ∷ []) - ROOM) (xs ++ x ∷ [])
      (All-append IsFiring xs (x ∷ []) all (All-cons IsFiring x [] (fires x.value some in_range) (All-nil IsFiring)))
  by_test false none = all

pub firings-past_first : (t : ℕ) (xs : List Item) → All IsFiring xs → All IsFiring (past_first t xs)
firings-past_first t [] all = all
firings-past_first t (x ∷ xs) all = by_test (nat_eq x.moment t) where
  by_test : (b : Bool) → All IsFiring (cond b xs (x ∷ xs))
  by_test true = All-tail IsFiring x xs all
  by_test false = all

-- an accepted item's value is in its sensor's range
pub refusal_of-in_range : (s : Sensor) (last : ℕ) (x : Item) → refusal_of s last x ≡ None → has_value_in_range s x ≡ true
unfolding refusal_of
refusal_of-in_range s last x h = grind arith

-- a firing that waits is a sum of the bits of restraints
pub bits_of_firing : (v : ℤ) → is_in_range Restraint v ≡ true → (pos 1 ≤ℤ v) × (v ≤ℤ pos 255)
bits_of_firing v h = (grind (arith, ints), grind (arith, ints))

pub first_value-bits : (t : ℕ) (xs : List Item) (o : Option ℤ) → All IsFiring xs → o ≡ first_value t xs → IfSome o (λ v. (pos 1 ≤ℤ v) × (v ≤ℤ pos 255))
first_value-bits t xs None all e = tt
first_value-bits t [] (Some v) all e = absurd (cc)
first_value-bits t (x ∷ xs) (Some v) all e = by_test (nat_eq x.moment t) e where
  of_value : (o : Option ℤ) → option_map_or (is_in_range Restraint) o false ≡ true → Some v ≡ o → (pos 1 ≤ℤ v) × (v ≤ℤ pos 255)
  of_value None h e = absurd (cc)
  of_value (Some w) h e = bits_of_firing v (let same : v ≡ w = cc in rw same h)

  by_test : (b : Bool) → Some v ≡ cond b x.value None → (pos 1 ≤ℤ v) × (v ≤ℤ pos 255)
  by_test true e = of_value x.value (All-head IsFiring x xs all) e
  by_test false e = absurd (cc)
