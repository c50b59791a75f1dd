-- What came of a sensor's offers.
use Rattle.std.proofs.Common.{◌≡◌, ◌∙◌, ℕ, zero, suc, ◌+◌, ◌<◌, ◌≤◌, Option, Some, None, List, [], ◌∷◌, ◌++◌, ap, arith, inl, inr, length, subst, sym, take}
use Rattle.std.proofs.lemmas.List.{length_push}
use Rattle.std.specs.Prelude.{get_or}
use Rattle.edr_items.specs.declared.Sensor.{Sensor}
use Rattle.edr_items.specs.declared.Item.{Item}
use Rattle.edr_items.specs.declared.ItemRefused.{ItemRefused}
use Rattle.edr_items.specs.Item.{IsFeed, IsFeedAfter, mark_from, mark_of, refusal_of}
use Rattle.edr_seats.specs.declared.seat.OfferRefused.{OfferRefused}
use Rattle.edr_seats.specs.declared.seat.OfferRefused.TheVariants as offer
use Rattle.edr_seats.specs.declared.seat.Seat.{Seat}
use Rattle.edr_seats.specs.declared.slow_seat.SlowRefused.{SlowRefused}
use Rattle.edr_seats.specs.declared.slow_seat.SlowRefused.TheVariants as slow_refused
use Rattle.edr_seats.specs.Offer.{Explains}
use Rattle.edr_seats.specs.Rings.{items_sent}
use Rattle.edr_seats.specs.Slow.{ExplainsSlow, grant_known}
use Rattle.edr_seats.specs.SlowContents.{SlowContents}
use Rattle.edr_loops.specs.declared.fast_sender.Offered.{Offered}
use Rattle.edr_loops.specs.declared.fast_sender.Offered.TheVariants.{Sent, Full, Over}
use Rattle.edr_loops.specs.declared.slow_sender.SlowSender.{SlowSender}
use Rattle.edr_loops.specs.FastSenders.{came_of_both}
use Rattle.edr_loops.specs.SlowSenders.{CameOfKept, CameOfPart, CameOfSlow, IsUngranted}

-- an item of a feed is accepted after those before it
accepted-after : (s : Sensor) (last : ℕ) (xs : List Item) (n : ℕ) (d : Item) → IsFeedAfter s last xs → n < length xs → refusal_of s (mark_from last (take n xs)) (get_or xs n d) ≡ None
accepted-after s last [] n d fed lt = absurd (omega arith)
accepted-after s last (x ∷ xs) zero d fed lt = fed.0
accepted-after s last (x ∷ xs) (suc n) d fed lt = accepted-after s x.moment xs n d fed.2 (omega arith)

pub accepted-next : (s r : Sensor) (last : ℕ) (xs : List Item) (n : ℕ) (d : Item) → IsFeed s xs → r ≡ s → last ≡ mark_of (take n xs) → n < length xs → refusal_of r last (get_or xs n d) ≡ None
accepted-next s r last xs n d fed same mark lt =
    subst (λ q. refusal_of q last (get_or xs n d) ≡ None) (sym same) (subst (λ m. refusal_of s m (get_or xs n d) ≡ None) (sym mark) (accepted-after s 0 xs n d fed lt))

-- an answer that names what speaks against an item isn't explained where nothing does
pub not-item : (o : Option ItemRefused) (seat : Seat) (answer : OfferRefused) (why : ItemRefused) → o ≡ None → answer ≡ offer.Item why → Explains o seat answer → ⊥
not-item None seat answer why none is told = grind arith
not-item (Some refused) seat answer why none is told = grind arith

pub not-slow_item : (o : Option ItemRefused) (x : Item) (s : SlowContents) (answer : SlowRefused) (why : ItemRefused) → o ≡ None → answer ≡ slow_refused.Item why → ExplainsSlow o x s answer → ⊥
not-slow_item None x s answer why none is told = grind arith
not-slow_item (Some refused) x s answer why none is told = grind arith

-- an item that isn't granted is past what was loaded of granted
pub ungranted-past : (o : Option ItemRefused) (x : Item) (s : SlowContents) (answer : SlowRefused) (granted : ℕ) → answer ≡ slow_refused.Ungranted granted → ExplainsSlow o x s answer → grant_known s < x.moment
ungranted-past None x s answer granted is told = told.1
ungranted-past (Some refused) x s answer granted is told = grind arith

-- the list of parts is longer with one more
pub one-longer : {A : Type 0} (xs ys : List A) (x : A) → ys ≡ xs ++ x ∷ [] → length xs < length ys
one-longer xs ys x more = let long = ap length more in let last = length_push xs x in omega (arith, long, last)

-- what came of a slow sensor's offers, and then of a look at what is asked
pub came-slow : (s : Sensor) (xs : List Item) (a m b : SlowSender) (kept sent : Offered) → a.next ≤ m.next → items_sent m.seat.sender ≡ items_sent a.seat.sender → b.next ≡ m.next → grant_known b.seat ≡ grant_known m.seat
    → CameOfKept s xs a m kept → CameOfPart m b sent → CameOfSlow s xs a b (came_of_both kept sent)
came-slow s xs a m b Sent part on same next granted k p = inl (omega (arith, k, next))
came-slow s xs a m b Full Sent on same next granted k p = inr (subst (λ ps. length ps < length (items_sent b.seat.sender)) same p)
came-slow s xs a m b Full Full on same next granted k p = (next ∙ k.0, p.0 ∙ same, inr p.1)
came-slow s xs a m b Full Over on same next granted k p = (next ∙ k.0, p.0 ∙ same, inl (ungranted-later xs m b next granted k.1)) where
  ungranted-later : (xs : List Item) (m b : SlowSender) → b.next ≡ m.next → grant_known b.seat ≡ grant_known m.seat → IsUngranted xs m → IsUngranted xs b
  ungranted-later xs m b next granted u = (u.0, subst (λ n. take (n + 1) xs ≡ take n xs ++ u.0 ∷ []) (sym next) u.1, omega (arith, granted, u.2))
came-slow s xs a m b Over Sent on same next granted k p = inr (subst (λ ps. length ps < length (items_sent b.seat.sender)) same p)
came-slow s xs a m b Over Full on same next granted k p = (next ∙ k.0, p.0 ∙ same, inr p.1)
came-slow s xs a m b Over Over on same next granted k p = (next ∙ k.0, p.0 ∙ same, (λ fed. let all = k.1 fed in omega (arith, next, all)), p.1)
