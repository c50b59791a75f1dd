-- What is left of a cycle, as items of it are given and its parts are answered.
use Rattle.std.proofs.Common.{arith, refl, ap, sym, subst, ◌≡◌, ◌∙◌, ℕ, ◌+◌, ◌<◌, ◌≤◌, ◌⊎◌, inl, inr, None, Ok, Err, Result, List, [], ◌∷◌, ◌++◌, append_assoc, ◌↔◌}
use Rattle.std.specs.Prelude.{IsOk, OnOk, OnErr, All}
use Rattle.std.proofs.lemmas.Bool.{cases_lt}
use Rattle.std.proofs.lemmas.List.Elements.{All-nil, All-cons}
use Rattle.edr_items.specs.declared.TheConstants.{LONGEST_GAP}
use Rattle.edr_items.specs.declared.Sensor.{Sensor}
use Rattle.edr_items.specs.declared.Item.{Item}
use Rattle.edr_items.specs.Sensor.{IsSlow}
use Rattle.edr_items.specs.Item.{refusal_of, mark_of, mark_from, IsFeed, IsFeedAfter}
use Rattle.edr_items.specs.PerSlowSensor.{slow_at}
use Rattle.edr_items.specs.SensorLists.{SensorLists, items_of, with_items}
use Rattle.edr_items.proofs.FeedLemmas.{refusal_of-rises}
use Rattle.edr_items.proofs.PerSensorLemmas.{with_value-both, with_value-three}
use Rattle.edr_items.proofs.PerSlowSensorLemmas.{slow-or-not, with_slow_values-with}
use Rattle.edr_definitions.specs.Schedule.{Give, IsAllowed, with_item}
use Rattle.edr_definitions.proofs.MarkLaws.{feed-next, mark-push}
use Rattle.edr_capture.specs.Capture.{CaptureStandsFor, kept_after}
use Rattle.edr_capture.proofs.CaptureLemmas.{stands-push}
use Rattle.edr_core.specs.declared.captures.Captures.{Captures}
use Rattle.edr_core.specs.Captures.{kept_lists, with_kept, IsLater}
use Rattle.edr_core.specs.SplitHistory.{History, after_item}
use Rattle.edr_core.specs.SplitContents.{SplitContents}
use Rattle.edr_core.specs.SplitStandsFor.{SplitCoreStandsFor}
use Rattle.edr_core.proofs.CaptureLemmas.{mark-kept, kept-more, kept-none}
use Rattle.edr_cycle.specs.declared.remaining.Remaining.{Remaining}
use Rattle.edr_cycle.specs.Remaining.{KeepsGiven, IsRest, RemainsAt, HasNext, IsAsked, SameAsk}

-- ---- a feed in two
pub feed-front : (s : Sensor) (last : ℕ) (xs ys : List Item) → IsFeedAfter s last (xs ++ ys) → IsFeedAfter s last xs
feed-front s last [] ys h = tt
feed-front s last (x ∷ xs) ys h = (h.0, h.1, feed-front s x.moment xs ys h.2)

pub feed-back : (s : Sensor) (last : ℕ) (xs ys : List Item) → IsFeedAfter s last (xs ++ ys) → IsFeedAfter s (mark_from last xs) ys
feed-back s last [] ys h = h
feed-back s last (x ∷ xs) ys h = feed-back s x.moment xs ys h.2

pub feed-past : (s : Sensor) (last z : ℕ) (ys : List Item) → z ≤ last → IsFeedAfter s last ys → All (λ y. z < y.moment) ys
feed-past s last z [] low h = All-nil (λ y. z < y.moment)
feed-past s last z (y ∷ ys) low h =
    let rises = refusal_of-rises s last y h.0 in
    All-cons (λ y. z < y.moment) y ys (omega (arith, rises, low)) (feed-past s y.moment z ys (omega (arith, rises, low)) h.2)

-- an item that may follow one moment may follow any other that is before it
accepted-after : (s : Sensor) (a b : ℕ) (x : Item) → refusal_of s a x ≡ None → b < x.moment → refusal_of s b x ≡ None
unfolding refusal_of
accepted-after s a b x h before = grind arith

-- ---- one sensor
pub whole-feed : (lists : SensorLists) (n : ℕ) (h : History) (c : SplitContents) (rest : Remaining) (s : Sensor) → (at : RemainsAt lists n h c rest) → IsFeed s ((at.rests s).done ++ items_of s rest.left)
whole-feed lists n h c rest s at = subst (λ (xs : List Item). IsFeed s xs) (at.rests s).whole (at.feeds s)

-- what is kept is no later than what is done
kept-low : (s : Sensor) (c : Captures) (done given : List Item) → IsFeed s done → KeepsGiven s done given (items_of s (kept_lists c)) → mark_of (items_of s (kept_lists c)) ≤ mark_of done
kept-low s c done given feed keeps = by (slow-or-not s) where
  by : IsSlow s ⊎ (¬ IsSlow s) → mark_of (items_of s (kept_lists c)) ≤ mark_of done
  by (inl slow) = mark-kept s (items_of s (kept_lists c)) done feed (keeps.slow slow)
  by (inr fast) = subst (λ (xs : List Item). mark_of xs ≤ mark_of done) (sym (kept-none c s fast)) (omega arith)

-- one more item, which the core takes
keeps-more : (s : Sensor) (x : Item) (c : Captures) (done given : List Item) → IsLater s x c → KeepsGiven s done given (items_of s (kept_lists c)) → KeepsGiven s (done ++ x ∷ []) (given ++ x ∷ []) (items_of s (kept_lists (with_kept s x c)))
keeps-more s x c done given later keeps = record {
  slow = λ slow. subst (λ (xs : List Item). CaptureStandsFor xs (done ++ x ∷ [])) (sym (kept-more x c s slow)) (stands-push (items_of s (kept_lists c)) done x later (keeps.slow slow));
  fast = λ fast. ap (λ xs. xs ++ x ∷ []) (keeps.fast fast);
}

-- one that it refuses
keeps-refused : (s : Sensor) (x : Item) (c : Captures) (done given : List Item) → IsLater s x c → (given ≡ done → ⊥) → KeepsGiven s done given (items_of s (kept_lists c)) → KeepsGiven s (done ++ x ∷ []) given (items_of s (kept_lists (with_kept s x c)))
keeps-refused s x c done given later never keeps = record {
  slow = λ slow. subst (λ (xs : List Item). CaptureStandsFor xs (done ++ x ∷ [])) (sym (kept-more x c s slow)) (stands-push (items_of s (kept_lists c)) done x later (keeps.slow slow));
  fast = λ fast. absurd (never (keeps.fast fast));
}

-- ---- of the sensors
-- what holds of the sensor's new lists and of all old ones holds of all after that
each-given : (P : Sensor → List Item → List Item → List Item → Type 0) (s : Sensor) (x : Item) (gs ls : List Item) (g l : SensorLists) (c : Captures) → P s gs ls (items_of s (kept_lists (with_kept s x c)))
    → ((r : Sensor) → P r (items_of r g) (items_of r l) (items_of r (kept_lists c)))
    → (r : Sensor) → P r (items_of r (with_items s gs g)) (items_of r (with_items s ls l)) (items_of r (kept_lists (with_kept s x c)))
each-given P s x gs ls g l c here all r =
    let kept = items_of s (kept_lists (with_kept s x c)) in
    subst (λ (k : SensorLists). P r (items_of r (with_items s gs g)) (items_of r (with_items s ls l)) (items_of r k)) (sym (with_slow_values-with s [] (kept_after (slow_at s c.kept) x) c.kept))
    (with_value-three P s gs ls kept g l (kept_lists c) here all r)

each-kept : (P : Sensor → List Item → List Item → Type 0) (s : Sensor) (x : Item) (ls : List Item) (l : SensorLists) (c : Captures) → P s ls (items_of s (kept_lists (with_kept s x c)))
    → ((r : Sensor) → P r (items_of r l) (items_of r (kept_lists c)))
    → (r : Sensor) → P r (items_of r (with_items s ls l)) (items_of r (kept_lists (with_kept s x c)))
each-kept P s x ls l c here all r =
    let kept = items_of s (kept_lists (with_kept s x c)) in
    subst (λ (k : SensorLists). P r (items_of r (with_items s ls l)) (items_of r k)) (sym (with_slow_values-with s [] (kept_after (slow_at s c.kept) x) c.kept))
    (with_value-both P s ls kept l (kept_lists c) here all r)

-- ---- an item is given
module _ (lists : SensorLists) (n : ℕ) (h : History) (c : SplitContents) (rest : Remaining) (s : Sensor) (x : Item) (left' : SensorLists) (at : RemainsAt lists n h c rest)
    (next : items_of s rest.left ≡ x ∷ items_of s left') (others : left' ≡ with_items s (items_of s left') rest.left) (near : x.moment ≤ h.past.closed + LONGEST_GAP) where
  abbrev own : IsRest s (items_of s lists) (items_of s h.past.given) (items_of s rest.left) (items_of s (kept_lists rest.captures))
  own = at.rests s

  abbrev ys : List Item
  ys = items_of s left'

  own-feed : IsFeed s (own.done ++ x ∷ ys)
  own-feed = subst (λ (xs : List Item). IsFeed s (own.done ++ xs)) next (whole-feed lists n h c rest s at)

  follows : refusal_of s (mark_of own.done) x ≡ None
  follows = (feed-next s 0 own.done x ys own-feed).0

  pub is-later : IsLater s x rest.captures
  is-later =
      let low = kept-low s rest.captures own.done (items_of s h.past.given) (feed-front s 0 own.done (x ∷ ys) own-feed) own.keeps in
      let rises = refusal_of-rises s (mark_of own.done) x follows in
      omega (arith, low, rises)

  whole-more : items_of s lists ≡ (own.done ++ x ∷ []) ++ ys
  whole-more = own.whole ∙ ap (λ xs. own.done ++ xs) next ∙ sym (append_assoc own.done (x ∷ []) ys)

  taken : (c' : SplitContents) (captures' : Captures) → SplitCoreStandsFor c' (after_item s x h) → captures' ≡ with_kept s x rest.captures → RemainsAt lists n (after_item s x h) c' (record { left = left'; captures = captures' })
  taken c' captures' stands kept = record {
    feeds = at.feeds;
    core_is = stands;
    cycle_is = at.cycle_is;
    within = at.within;
    parts_are = at.parts_are;
    rests = λ r.
        subst (λ (l : SensorLists). IsRest r (items_of r lists) (items_of r (with_item s x h.past.given)) (items_of r l) (items_of r (kept_lists captures'))) (sym others)
        (subst (λ (k : Captures). IsRest r (items_of r lists) (items_of r (with_item s x h.past.given)) (items_of r (with_items s ys rest.left)) (items_of r (kept_lists k))) (sym kept)
        (each-given (λ q g l k. IsRest q (items_of q lists) g l k) s x (items_of s h.past.given ++ x ∷ []) ys h.past.given rest.left rest.captures
        (record {
          done = own.done ++ x ∷ [];
          whole = whole-more;
          reached = let a = mark-push 0 own.done x in let b = mark-push 0 (items_of s h.past.given) x in omega (arith, a, b);
          keeps = keeps-more s x rest.captures own.done (items_of s h.past.given) is-later own.keeps;
        })
        at.rests r));
  }

  refused : (captures' : Captures) → (IsAllowed (Give s x) h.past → ⊥) → captures' ≡ with_kept s x rest.captures → RemainsAt lists n h c (record { left = left'; captures = captures' })
  refused captures' never kept = record {
    feeds = at.feeds;
    core_is = at.core_is;
    cycle_is = at.cycle_is;
    within = at.within;
    parts_are = at.parts_are;
    rests = λ r.
        subst (λ (l : SensorLists). IsRest r (items_of r lists) (items_of r h.past.given) (items_of r l) (items_of r (kept_lists captures'))) (sym others)
        (subst (λ (k : Captures). IsRest r (items_of r lists) (items_of r h.past.given) (items_of r (with_items s ys rest.left)) (items_of r (kept_lists k))) (sym kept)
        (each-kept (λ q l k. IsRest q (items_of q lists) (items_of q h.past.given) l k) s x ys rest.left rest.captures
        (record {
          done = own.done ++ x ∷ [];
          whole = whole-more;
          reached = let a = mark-push 0 own.done x in let b = known in omega (arith, a, b);
          keeps = keeps-refused s x rest.captures own.done (items_of s h.past.given) is-later (λ same. never (subst (λ (xs : List Item). refusal_of s (mark_of xs) x ≡ None) (sym same) follows, near)) own.keeps;
        })
        at.rests r));
  } where
    known : x.moment ≤ mark_of (items_of s h.past.given)
    known = elim (cases_lt (mark_of (items_of s h.past.given)) x.moment) [
      | inl before ↦ absurd (never (accepted-after s (mark_of own.done) (mark_of (items_of s h.past.given)) x follows before, near))
      | inr past ↦ past
    ]

  -- whatever the core answers
  pub goes : {E : Type 0} (r : Result (Unit {0}) E) (c' : SplitContents) (captures' : Captures) → OnOk r ((v : History) → SplitCoreStandsFor c v → SplitCoreStandsFor c' (after_item s x v)) → OnErr r (c' ≡ c)
      → ((v : History) → SplitCoreStandsFor c v → IsOk r ↔ IsAllowed (Give s x) v.past) → captures' ≡ with_kept s x rest.captures
      → (h' : History) × RemainsAt lists n h' c' (record { left = left'; captures = captures' }) × SameAsk h h'
  goes (Ok u) c' captures' ok err allowed kept =
      (after_item s x h, taken c' captures' (ok h at.core_is) kept, record { closed = refl; asking = refl; parts = refl })
  goes (Err e) c' captures' ok err allowed kept =
      (h, subst (λ (k : SplitContents). RemainsAt lists n h k (record { left = left'; captures = captures' })) (sym err) (refused captures' (λ may. let no = (allowed h at.core_is).1 may in cc) kept), record { closed = refl; asking = refl; parts = refl })

-- ---- the next item
one-first : (x y : Item) (xs ys : List Item) → x ∷ xs ≡ y ∷ ys → x ≡ y
one-first x y xs ys e = cc

pub near-of : (lists : SensorLists) (n : ℕ) (h : History) (c : SplitContents) (rest : Remaining) (s : Sensor) (x : Item) (ys : List Item) → HasNext lists n h c rest s → items_of s rest.left ≡ x ∷ ys → x.moment ≤ h.past.closed + LONGEST_GAP
near-of lists n h c rest s x ys has is = subst (λ (y : Item). y.moment ≤ h.past.closed + LONGEST_GAP) (one-first has.item x has.more ys (sym has.left_is ∙ is)) has.near

pub next-asked : (lists : SensorLists) (n : ℕ) (h : History) (c : SplitContents) (rest : Remaining) (z : ℕ) (s : Sensor) (x : Item) (ys : List Item) → IsAsked lists n h c rest z → items_of s rest.left ≡ x ∷ ys → x.moment ≤ z → HasNext lists n h c rest s
next-asked lists n h c rest z s x ys asked is upto = record { remains = asked.stands.remains; item = x; more = ys; left_is = is; near = let zero = asked.zero_is in omega (arith, zero, upto) }

same-again : (a b c : History) → SameAsk a b → SameAsk b c → SameAsk a c
same-again a b c h k = record { closed = k.closed ∙ h.closed; asking = k.asking ∙ h.asking; parts = k.parts ∙ h.parts }

-- an item that is given leaves the ask as it is
pub still-asked : (lists : SensorLists) (n : ℕ) (h0 h : History) (c c' : SplitContents) (rest rest' : Remaining) (z : ℕ) → IsAsked lists n h c rest z → SameAsk h0 h → (h' : History) × RemainsAt lists n h' c' rest' × SameAsk h h' → (h' : History) × IsAsked lists n h' c' rest' z × SameAsk h0 h'
still-asked lists n h0 h c c' rest rest' z asked before went =
    let same = went.2 in
    let closed = same.closed in
    let below = asked.stands.below in
    let zero = asked.zero_is in
    (went.0, record { stands = record { remains = went.1; below = omega (arith, closed, below) }; asking = same.asking ∙ asked.asking; zero_is = omega (arith, closed, zero) }, same-again h0 h went.0 before same)

-- where the next item is past the time zero, so is all that is left
pub past-some : (lists : SensorLists) (n : ℕ) (h : History) (c : SplitContents) (rest : Remaining) (z : ℕ) (s : Sensor) (x : Item) (ys : List Item) → IsAsked lists n h c rest z → items_of s rest.left ≡ x ∷ ys → z < x.moment → All (λ y. z < y.moment) (items_of s rest.left)
past-some lists n h c rest z s x ys asked is late =
    let at = asked.stands.remains in
    let done = (at.rests s).done in
    let feed : IsFeedAfter s (mark_of done) (x ∷ ys) = subst (λ (xs : List Item). IsFeedAfter s (mark_of done) xs) is (feed-back s 0 done (items_of s rest.left) (whole-feed lists n h c rest s at)) in
    subst (λ (xs : List Item). All (λ y. z < y.moment) xs) (sym is) (All-cons (λ y. z < y.moment) x ys late (feed-past s x.moment z ys (omega (arith, late)) feed.2))
