-- The shares of a fleet, one after the other, have its lines and its events.
use Rattle.std.proofs.Common.{◌≡◌, ◌∙◌, ℕ, zero, suc, ◌+◌, ◌*◌, ◌/◌, ◌%◌, ◌<◌, ◌≤◌, min, true, false, List, ◌++◌, append-nil, length, map, take, drop, get_or, Result, Ok, Err, sym, ap, ap₂, subst, arith, add-one, length-append, length-drop}
use Rattle.std.specs.Prelude.{◌∷◌, [], flat_map, sum_by, All, IsOk, IfOk, OnOk}
use Rattle.std.specs.Borrow.{Bor}
use Rattle.std.specs.Fork.{slice_chunk}
use Rattle.std.specs.declared.alloc.AllocError.{AllocError}
use Rattle.std.proofs.lemmas.List.Sums.{sum_by-le}
use Rattle.std.proofs.lemmas.List.{length-take, length-map, length-take-le, map-append, take_all}
use Rattle.std.proofs.Math.Seq.{take-add}
use Rattle.std.proofs.Math.Nat.{mod-add-div, mod-lt}
use Rattle.edr_fleet.specs.declared.parts.FleetPart.{FleetPart}
use Rattle.edr_fleet.specs.Parts.{HasShare, IsShareOf, events_of, lines_of}
use Rattle.edr_fleet.specs.Text.{all_events, image_lines}
use Rattle.edr_fleet.proofs.TextLemmas.{all_events-append, image_lines-append}
use Rattle.edr_fleet.proofs.JoinLemmas.{events_next, lines_next}

abbrev bytes_of : List (Bor (List ℕ)) → List (List ℕ)
bytes_of images = map (λ (i : Bor (List ℕ)). i.now) images

-- what a share says, where there was memory
share_of : (some : List (Bor (List ℕ))) (before : ℕ) (r : Result FleetPart AllocError) → IsOk r → IsShareOf some before r
    → (lines_of r ≡ image_lines (before + 1) (bytes_of some)) × (events_of r ≡ all_events (bytes_of some)) × (events_of r ≤ 16 * length some)
share_of some before (Ok p) ok share = (share.lines, share.events, share.few)
share_of some before (Err e) ok share = absurd (differ ok) where
  differ : false ≡ true → ⊥
  differ e = cc

module _ (before size : ℕ) (images : List (Bor (List ℕ))) (rs : List (Result FleetPart AllocError)) (none : Result FleetPart AllocError)
    (fine : (n : ℕ) (d : Result FleetPart AllocError) → n < length rs → IsOk (get_or rs n d))
    (within : (n : ℕ) → n < length rs → n * size ≤ length images)
    (shares : (n : ℕ) (d : Result FleetPart AllocError) → n < length rs → IsShareOf (slice_chunk images size n) (before + n * size) (get_or rs n d)) where
  abbrev Upto : ℕ → Type 0
  Upto k = (flat_map lines_of (take k rs) ≡ image_lines (before + 1) (bytes_of (take (k * size) images)))
      × (sum_by events_of (take k rs) ≡ all_events (bytes_of (take (k * size) images)))
      × (sum_by events_of (take k rs) ≤ 16 * length (take (k * size) images))

  step : (k : ℕ) → k < length rs → Upto k → Upto (k + 1)
  step k below so_far =
      let xs = bytes_of (take (k * size) images) in
      let ys = bytes_of (slice_chunk images size k) in
      let share = share_of (slice_chunk images size k) (before + k * size) (get_or rs k none) (fine k none below) (shares k none below) in
      let more : (k + 1) * size ≡ k * size + size = omega arith in
      let cut : bytes_of (take ((k + 1) * size) images) ≡ xs ++ ys =
      ap (λ (n : ℕ). bytes_of (take n images)) more
      ∙ ap bytes_of (take-add (k * size) size images)
      ∙ map-append (λ (i : Bor (List ℕ)). i.now) (take (k * size) images) (take size (drop (k * size) images)) in
      let long : length xs ≡ k * size = length-map (take (k * size) images) (λ (i : Bor (List ℕ)). i.now) ∙ length-take-le (k * size) images (within k below) in
      let place : before + 1 + length xs ≡ before + k * size + 1 = omega (arith, long) in
      let both = ap length (ap (λ (n : ℕ). take n images) more ∙ take-add (k * size) size images) ∙ length-append (take (k * size) images) (slice_chunk images size k) in
      let sum = events_next rs k none below in (
        lines_next rs k none below
            ∙ ap (λ (l : List ℕ). l ++ lines_of (get_or rs k none)) so_far.0
            ∙ ap (λ (l : List ℕ). image_lines (before + 1) xs ++ l) (share.0 ∙ ap (λ (n : ℕ). image_lines n ys) (sym place))
            ∙ sym (image_lines-append (before + 1) xs ys)
            ∙ ap (image_lines (before + 1)) (sym cut),
        sum
            ∙ ap (λ (n : ℕ). n + events_of (get_or rs k none)) so_far.1
            ∙ ap (λ (n : ℕ). all_events xs + n) share.1
            ∙ sym (all_events-append xs ys)
            ∙ ap all_events (sym cut),
        omega (arith, sum, so_far.2, share.2, both),
      )

  upto : (k : ℕ) → k ≤ length rs → Upto k
  upto zero below =
      let none_yet : 0 ≡ 0 * size = omega arith in (
        ap (λ (n : ℕ). image_lines (before + 1) (bytes_of (take n images))) none_yet,
        ap (λ (n : ℕ). all_events (bytes_of (take n images))) none_yet,
        omega arith,
      )
  upto (suc k) below = subst Upto (add-one k) (step k (omega arith) (upto k (omega arith)))

  pub all_shares : length images ≤ length rs * size
      → (flat_map lines_of rs ≡ image_lines (before + 1) (bytes_of images))
      × (sum_by events_of rs ≡ all_events (bytes_of images))
      × (sum_by events_of rs ≤ 16 * length images)
  all_shares enough =
      let all = upto (length rs) (omega arith) in
      let whole = take_all (length rs) rs (omega arith) in
      let every = take_all (length rs * size) images enough in (
        ap (flat_map lines_of) (sym whole) ∙ all.0 ∙ ap (λ (i : List (Bor (List ℕ))). image_lines (before + 1) (bytes_of i)) every,
        ap (sum_by events_of) (sym whole) ∙ all.1 ∙ ap (λ (i : List (Bor (List ℕ))). all_events (bytes_of i)) every,
        omega (arith, ap (sum_by events_of) whole, ap length every, all.2),
      )

-- each image has at most sixteen events
few_in : (some : List (Bor (List ℕ))) (before most : ℕ) (r : Result FleetPart AllocError) → length some ≤ most → IsShareOf some before r → events_of r ≤ 16 * most
few_in some before most (Ok p) few share = omega (arith, share.few, few)
few_in some before most (Err e) few share = omega arith

pub few_events : (before size : ℕ) (images : List (Bor (List ℕ))) (rs : List (Result FleetPart AllocError)) (most : ℕ) → length images ≤ most
    → ((n : ℕ) (d : Result FleetPart AllocError) → n < length rs → IsShareOf (slice_chunk images size n) (before + n * size) (get_or rs n d))
    → sum_by events_of rs ≤ length rs * (16 * most)
few_events before size images rs most few shares =
    sum_by-le events_of (16 * most) rs
    (λ n d within. few_in (slice_chunk images size n) (before + n * size) most (get_or rs n d)
    (omega (arith, length-take size (drop (n * size) images), length-drop (n * size) images, few))
    (shares n d within))

-- the shares are enough for all images
pub enough_shares : (n size many : ℕ) → 0 < size → many ≡ n / size + min 1 (n % size) → n ≤ many * size
enough_shares n size many pos is =
    let whole : n % size + size * (n / size) ≡ n = mod-add-div n size in
    let less : n % size < size = mod-lt n pos in
    let by : n ≤ (n / size + min 1 (n % size)) * size = by_rest (n % size) (n / size) less whole in
    subst (λ (m : ℕ). n ≤ m * size) (sym is) by where
      by_rest : (m q : ℕ) → m < size → m + size * q ≡ n → n ≤ (q + min 1 m) * size
      by_rest zero q less whole = let none : min 1 0 ≡ 0 = omega arith in rw none (omega arith)
      by_rest (suc m) q less whole = let one : min 1 (suc m) ≡ 1 = omega arith in rw one (omega arith)

-- the parts of shares one after the other are a share
pub joined_share : (before size : ℕ) (images : List (Bor (List ℕ))) (rs : List (Result FleetPart AllocError)) (r : Result FleetPart AllocError)
    → ((n : ℕ) → n < length rs → n * size ≤ length images)
    → ((n : ℕ) (d : Result FleetPart AllocError) → n < length rs → IsShareOf (slice_chunk images size n) (before + n * size) (get_or rs n d))
    → length images ≤ length rs * size → OnOk r (All IsOk rs)
    → IfOk r (λ p. p.lines.items ≡ flat_map lines_of rs) → IfOk r (λ p. p.events ≡ sum_by events_of rs) → IfOk r (HasShare images before)
joined_share before size images rs (Err e) within shares enough fine lines events = tt
joined_share before size images rs (Ok p) within shares enough fine lines events =
    let all = all_shares before size images rs (Err (record {})) fine within shares enough in
    record { lines = lines ∙ all.0; events = events ∙ all.1; few = omega (arith, events, all.2) }

-- so are the parts of two shares of any size
pub both_shares : (before : ℕ) (xs ys : List (Bor (List ℕ))) (a b r : Result FleetPart AllocError)
    → IsShareOf xs before a → IsShareOf ys (before + length xs) b → OnOk r (All IsOk (a ∷ b ∷ []))
    → IfOk r (λ p. p.lines.items ≡ flat_map lines_of (a ∷ b ∷ [])) → IfOk r (λ p. p.events ≡ sum_by events_of (a ∷ b ∷ []))
    → IfOk r (HasShare (xs ++ ys) before)
both_shares before xs ys a b (Err e) share_a share_b fine lines events = tt
both_shares before xs ys a b (Ok p) share_a share_b fine lines events =
    let first = share_of xs before a (fine 0 a (omega arith)) share_a in
    let second = share_of ys (before + length xs) b (fine 1 b (omega arith)) share_b in
    let both : bytes_of (xs ++ ys) ≡ bytes_of xs ++ bytes_of ys = map-append (λ (i : Bor (List ℕ)). i.now) xs ys in
    let two : sum_by events_of (a ∷ b ∷ []) ≡ events_of a + events_of b = omega arith in
    let place : before + length xs + 1 ≡ before + 1 + length (bytes_of xs) = omega (arith, length-map xs (λ (i : Bor (List ℕ)). i.now)) in
    record {
      lines = lines
          ∙ ap (λ (l : List ℕ). lines_of a ++ l) (append-nil (lines_of b))
          ∙ ap₂ (λ (l m : List ℕ). l ++ m) first.0 (second.0 ∙ ap (λ (n : ℕ). image_lines n (bytes_of ys)) place)
          ∙ sym (image_lines-append (before + 1) (bytes_of xs) (bytes_of ys))
          ∙ ap (image_lines (before + 1)) (sym both);
      events = events
          ∙ two
          ∙ ap₂ (λ (m n : ℕ). m + n) first.1 second.1
          ∙ sym (all_events-append (bytes_of xs) (bytes_of ys))
          ∙ ap all_events (sym both);
      few = omega (arith, events, two, first.2, second.2, length-append xs ys);
    }
