-- What the captures keep of a cycle, and the parts that they give.
use Rattle.std.proofs.Common.{arith, ap, sym, subst, ◌≡◌, ◌∙◌, ℕ, ◌-◌, ◌<◌, ◌≤◌, ◌⊎◌, inl, inr, None, List, [], ◌∷◌, ◌++◌, length}
use Rattle.std.specs.Prelude.{is_some, All}
use Rattle.std.proofs.lemmas.List.Elements.{All-nil, All-cons, All-filter, All-drop}
use Rattle.edr_items.specs.declared.Sensor.{Sensor}
use Rattle.edr_items.specs.declared.Item.{Item}
use Rattle.edr_items.specs.Item.{refusal_of, mark_of, IsFeed, IsFeedAfter}
use Rattle.edr_items.specs.Sensor.{IsSlow}
use Rattle.edr_items.specs.PerSlowSensor.{slow_at}
use Rattle.edr_items.specs.SensorLists.{SensorLists, items_of}
use Rattle.edr_items.proofs.FeedLemmas.{refusal_of-rises}
use Rattle.edr_items.proofs.PerSlowSensorLemmas.{slow-or-not, value_of-slow, value_of-fast, with_slow_value-own, with_slow_value-beside}
use Rattle.edr_definitions.specs.Rings.{samples}
use Rattle.edr_definitions.specs.Schedule.{with_item}
use Rattle.edr_definitions.proofs.RingLaws.{IsFeedAfter-rises_from, mark-filter, mark_of-newest}
use Rattle.edr_definitions.proofs.BoundLaws.{in_range}
use Rattle.edr_capture.specs.declared.TheConstants.{ROOM}
use Rattle.edr_capture.specs.Capture.{CaptureStandsFor, kept_after}
use Rattle.edr_capture.specs.SensorPart.{IsOfSensor}
use Rattle.edr_capture.proofs.CaptureLemmas.{stands-push}
use Rattle.edr_core.specs.declared.captures.Captures.{Captures}
use Rattle.edr_core.specs.Captures.{kept_lists, with_kept, IsLater, CapturesStandFor}

-- no sample that is kept is later than the last item
pub mark-kept : (s : Sensor) (kept given : List Item) → IsFeed s given → CaptureStandsFor kept given → mark_of kept ≤ mark_of given
mark-kept s kept given feed stands =
    let is = ap mark_of stands.kept_is in
    let same = mark_of-newest ROOM (samples given) (omega arith) in
    let low = mark-filter (λ x. is_some x.value) 0 given (IsFeedAfter-rises_from s 0 given feed) in
    omega (arith, is, same, low)

-- all that is kept of a feed has a value that its sensor may give
range-feed : (s : Sensor) (last : ℕ) (xs : List Item) → IsFeedAfter s last xs → All (IsOfSensor s) xs
range-feed s last [] feed = All-nil (IsOfSensor s)
range-feed s last (x ∷ xs) feed = All-cons (IsOfSensor s) x xs (in_range s last x feed.0) (range-feed s x.moment xs feed.2)

pub range-kept : (s : Sensor) (kept given : List Item) → IsFeed s given → CaptureStandsFor kept given → All (IsOfSensor s) kept
range-kept s kept given feed stands =
    subst (λ xs. All (IsOfSensor s) xs) (sym stands.kept_is)
    (All-drop (IsOfSensor s) (length (samples given) - ROOM) (samples given) (All-filter (λ x. is_some x.value) (IsOfSensor s) given (range-feed s 0 given feed)))

-- what is kept of a slow sensor once one more item is given, and of another one
pub kept-more : (x : Item) (c : Captures) (s : Sensor) → IsSlow s → items_of s (kept_lists (with_kept s x c)) ≡ kept_after (items_of s (kept_lists c)) x
kept-more x c s slow =
    value_of-slow [] (with_kept s x c).kept s slow
    ∙ with_slow_value-own (kept_after (slow_at s c.kept) x) c.kept s slow
    ∙ ap (λ (xs : List Item). kept_after xs x) (sym (value_of-slow [] c.kept s slow))

pub kept-none : (c : Captures) (s : Sensor) → (¬ IsSlow s) → items_of s (kept_lists c) ≡ []
kept-none c s fast = value_of-fast s [] c.kept fast

-- one more item
pub captures-push : (s : Sensor) (x : Item) (c : Captures) (f : SensorLists) → IsLater s x c → CapturesStandFor c f → CapturesStandFor (with_kept s x c) (with_item s x f)
captures-push s x c f later h = record {
  each = with_slow_value-beside (λ _ kept given. CaptureStandsFor kept given) s (kept_after (slow_at s c.kept) x) (items_of s f ++ x ∷ []) c.kept f
      (λ slow. stands-push (slow_at s c.kept) (items_of s f) x (subst (λ (kept : List Item). mark_of kept < x.moment) (value_of-slow [] c.kept s slow) later) (h.each s slow))
      h.each;
}

-- an accepted item is later than all that is kept of its sensor
pub later-accepted : (s : Sensor) (x : Item) (c : Captures) (f : SensorLists) → ((r : Sensor) → IsFeed r (items_of r f)) → CapturesStandFor c f → refusal_of s (mark_of (items_of s f)) x ≡ None → IsLater s x c
later-accepted s x c f feeds kept accepted = let rises = refusal_of-rises s (mark_of (items_of s f)) x accepted in let low = low_of s in omega (arith, rises, low) where
  low_of : (r : Sensor) → mark_of (items_of r (kept_lists c)) ≤ mark_of (items_of r f)
  low_of r = by (slow-or-not r) where
    by : IsSlow r ⊎ (¬ IsSlow r) → mark_of (items_of r (kept_lists c)) ≤ mark_of (items_of r f)
    by (inl slow) = subst (λ (xs : List Item). mark_of xs ≤ mark_of (items_of r f)) (sym (value_of-slow [] c.kept r slow)) (mark-kept r (slow_at r c.kept) (items_of r f) (feeds r) (kept.each r slow))
    by (inr fast) = subst (λ (xs : List Item). mark_of xs ≤ mark_of (items_of r f)) (sym (value_of-fast r [] c.kept fast)) (omega arith)
