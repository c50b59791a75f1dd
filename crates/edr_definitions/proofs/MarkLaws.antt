-- Marks and the horizon, and what holds of the lists of each sensor.
use Rattle.std.proofs.Common.{arith, refl, ◌≡◌, ℕ, ◌+◌, ◌≤◌, None, List, [], ◌∷◌, ◌++◌}
use Rattle.edr_items.specs.declared.TheConstants.{LONGEST_GAP}
use Rattle.edr_items.specs.declared.Sensor.{Sensor}
use Rattle.edr_items.specs.declared.Item.{Item}
use Rattle.edr_items.specs.Item.{refusal_of, mark_from, mark_of, IsFeedAfter}
use Rattle.edr_items.specs.SensorLists.{SensorLists, items_of, with_items, horizon_of}
use Rattle.edr_items.proofs.FeedLemmas.{refusal_of-rises}
pub use Rattle.edr_items.proofs.LevelLemmas.{horizon-least, horizon-above}
use Rattle.edr_items.proofs.PerSensorLemmas.{with_value-each}
use Rattle.edr_definitions.specs.Schedule.{with_item}

-- ---- the sensors
-- what holds of a sensor's new list and of each old one holds of each list after that
pub with_items-each : (P : Sensor → List Item → Type 0) (s : Sensor) (xs : List Item) (f : SensorLists) → P s xs → ((r : Sensor) → P r (items_of r f)) → (r : Sensor) → P r (items_of r (with_items s xs f))
with_items-each P s xs f here rest = with_value-each P s xs f here rest

-- ---- marks
-- the mark of a list is the moment of its last item
pub mark-push : (last : ℕ) (xs : List Item) (x : Item) → mark_from last (xs ++ x ∷ []) ≡ x.moment
mark-push last [] x = refl
mark-push last (y ∷ ys) x = mark-push y.moment ys x

mark_from-past : (s : Sensor) (last : ℕ) (xs : List Item) → IsFeedAfter s last xs → last ≤ mark_from last xs
mark_from-past s last [] feed = omega arith
mark_from-past s last (x ∷ xs) feed =
    let rises = refusal_of-rises s last x feed.0 in
    let later = mark_from-past s x.moment xs feed.2 in omega (arith, rises, later)

-- a longer feed has no lower mark
pub mark-more : (s : Sensor) (last : ℕ) (xs ys : List Item) → IsFeedAfter s last (xs ++ ys) → mark_from last xs ≤ mark_from last (xs ++ ys)
mark-more s last [] ys feed = mark_from-past s last ys feed
mark-more s last (x ∷ xs) ys feed = mark-more s x.moment xs ys feed.2

-- the next item of a feed is accepted after the ones before it, and not past a gap
pub feed-next : (s : Sensor) (last : ℕ) (xs : List Item) (x : Item) (ys : List Item) → IsFeedAfter s last (xs ++ x ∷ ys) → (refusal_of s (mark_from last xs) x ≡ None) × (x.moment ≤ mark_from last xs + LONGEST_GAP)
feed-next s last [] x ys feed = (feed.0, feed.1)
feed-next s last (y ∷ xs) x ys feed = feed-next s y.moment xs x ys feed.2

-- ---- the horizon
-- the horizon doesn't fall where no mark does
pub horizon-more : (f g : SensorLists) → ((s : Sensor) → mark_of (items_of s f) ≤ mark_of (items_of s g)) → horizon_of f ≤ horizon_of g
horizon-more f g h = horizon-above g (horizon_of f) (λ s. let low = horizon-least f s in let up = h s in omega (arith, low, up))

-- an accepted item lowers no mark
pub mark-with_item : (s : Sensor) (x : Item) (f : SensorLists) → refusal_of s (mark_of (items_of s f)) x ≡ None → (r : Sensor) → mark_of (items_of r f) ≤ mark_of (items_of r (with_item s x f))
mark-with_item s x f accepted =
    with_items-each (λ r (xs : List Item). mark_of (items_of r f) ≤ mark_of xs) s (items_of s f ++ x ∷ []) f
    (let e = mark-push 0 (items_of s f) x in let rises = refusal_of-rises s (mark_of (items_of s f)) x accepted in omega (arith, e, rises))
    (λ r. omega arith)

-- nor the horizon
pub horizon-with_item : (s : Sensor) (x : Item) (f : SensorLists) → refusal_of s (mark_of (items_of s f)) x ≡ None → horizon_of f ≤ horizon_of (with_item s x f)
horizon-with_item s x f accepted = horizon-more f (with_item s x f) (mark-with_item s x f accepted)
