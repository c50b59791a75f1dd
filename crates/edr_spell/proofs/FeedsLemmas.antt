-- What one more sensor row gives.
use Rattle.std.proofs.Common.{arith, ◌≡◌, ◌∙◌, ap, sym, refl, nat_eq, ℕ, true, false, None, List, [], ◌∷◌, ◌++◌, map}
use Rattle.std.specs.List.{filter}
use Rattle.std.proofs.lemmas.List.{append-nil, map-append}
use Rattle.std.proofs.lemmas.List.Elements.{filter-append}
use Rattle.edr_items.specs.declared.Sensor.{Sensor}
use Rattle.edr_items.specs.declared.Item.{Item}
use Rattle.edr_items.specs.Sensor.{number_of}
use Rattle.edr_items.specs.Item.{mark_from, mark_of, IsFeedAfter, IsFeed}
use Rattle.edr_items.specs.SensorLists.{SensorLists, items_of, with_items, AreFeeds, no_items}
use Rattle.edr_items.proofs.FeedLemmas.{IsFeedAfter-push}
use Rattle.edr_items.proofs.PerSensorLemmas.{values-same, value_of-by, with_value-each, with_value-others}
use Rattle.edr_spell.specs.Samples.{Sample, is_of, items_given, feeds_given}
use Rattle.edr_spell.specs.Fault.{item_fault}
use Rattle.edr_spell.proofs.ItemLemmas.{item_fault-accepts, accepted-item_fault}

-- the items of a sensor go on where those of the front end
pub items_given-append : (s : Sensor) (xs ys : List Sample) → items_given s (xs ++ ys) ≡ items_given s xs ++ items_given s ys
items_given-append s xs ys = ap (map (λ x. x.item)) (filter-append (is_of s) xs ys) ∙ map-append (λ x. x.item) (filter (is_of s) xs) (filter (is_of s) ys)

pub feeds_given-nil : feeds_given [] ≡ no_items
unfolding feeds_given
feeds_given-nil = refl

pub items_of-given : (s : Sensor) (xs : List Sample) → items_of s (feeds_given xs) ≡ items_given s xs
unfolding feeds_given
items_of-given s xs = value_of-by (λ r. items_given r xs) s

eqb_same : (n : ℕ) → nat_eq n n ≡ true
eqb_same n = search arith

-- one more row of a sensor gives that sensor one more item, and the others none
given-same : (s : Sensor) (xs : List Sample) (x : Sample) → is_of s x ≡ true → items_given s (xs ++ x ∷ []) ≡ items_given s xs ++ x.item ∷ []
given-same s xs x e = items_given-append s xs (x ∷ []) ∙ ap (λ (ys : List Item). items_given s xs ++ ys) (rw e refl)

given-other : (s : Sensor) (xs : List Sample) (x : Sample) → is_of s x ≡ false → items_given s (xs ++ x ∷ []) ≡ items_given s xs
given-other s xs x e = items_given-append s xs (x ∷ []) ∙ ap (λ (ys : List Item). items_given s xs ++ ys) (rw e refl) ∙ append-nil (items_given s xs)

pub feeds_given-push : (xs : List Sample) (s : Sensor) (x : Item) → feeds_given (xs ++ record { sensor = s; item = x } ∷ []) ≡ with_items s (items_of s (feeds_given xs) ++ x ∷ []) (feeds_given xs)
feeds_given-push xs s x =
    let z : Sample = record { sensor = s; item = x } in
    let f = feeds_given xs in
    let more = with_value-others (λ r (ys : List Item). items_given r (xs ++ z ∷ []) ≡ ys) s (items_of s f ++ x ∷ []) f
    (given-same s xs z (eqb_same (number_of s)) ∙ ap (λ (ys : List Item). ys ++ x ∷ []) (sym (items_of-given s xs)))
    (λ r other. given-other r xs z other ∙ sym (items_of-given r xs)) in
    values-same (feeds_given (xs ++ z ∷ [])) (with_items s (items_of s f ++ x ∷ []) f) (λ r. items_of-given r (xs ++ z ∷ []) ∙ more r)

-- a row of a sensor before others gives that sensor an item before those
first-same : (s : Sensor) (x : Sample) (xs : List Sample) → is_of s x ≡ true → items_given s (x ∷ xs) ≡ x.item ∷ items_given s xs
first-same s x xs e = rw e refl

first-other : (s : Sensor) (x : Sample) (xs : List Sample) → is_of s x ≡ false → items_given s (x ∷ xs) ≡ items_given s xs
first-other s x xs e = rw e refl

pub feeds_given-next : (s : Sensor) (x : Item) (xs : List Sample) → feeds_given (record { sensor = s; item = x } ∷ xs) ≡ with_items s (x ∷ items_of s (feeds_given xs)) (feeds_given xs)
feeds_given-next s x xs =
    let z : Sample = record { sensor = s; item = x } in
    let f = feeds_given xs in
    let more = with_value-others (λ r (ys : List Item). items_given r (z ∷ xs) ≡ ys) s (x ∷ items_of s f) f
    (first-same s z xs (eqb_same (number_of s)) ∙ ap (λ (ys : List Item). x ∷ ys) (sym (items_of-given s xs)))
    (λ r other. first-other r z xs other ∙ sym (items_of-given r xs)) in
    values-same (feeds_given (z ∷ xs)) (with_items s (x ∷ items_of s f) f) (λ r. items_of-given r (z ∷ xs) ∙ more r)

-- feeds with one more item that has no fault are feeds
pub AreFeeds-push : (f : SensorLists) (s : Sensor) (x : Item) → AreFeeds f → item_fault s (mark_of (items_of s f)) x ≡ None → AreFeeds (with_items s (items_of s f ++ x ∷ []) f)
AreFeeds-push f s x fed h =
    let ok = item_fault-accepts s (mark_of (items_of s f)) x h in
    with_value-each IsFeed s (items_of s f ++ x ∷ []) f (IsFeedAfter-push s 0 (items_of s f) x (fed s) ok.0 ok.1) fed

-- what stands within a feed is accepted after what is before it
pub IsFeedAfter-within : (s : Sensor) (last : ℕ) (xs ys : List Item) (x : Item) → IsFeedAfter s last (xs ++ x ∷ ys) → item_fault s (mark_from last xs) x ≡ None
IsFeedAfter-within s last [] ys x fed = accepted-item_fault s last x fed.0 fed.1
IsFeedAfter-within s last (y ∷ xs) ys x fed = IsFeedAfter-within s y.moment xs ys x fed.2
