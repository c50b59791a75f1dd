-- What an image says where only the slots of its count changed.
use Rattle.std.proofs.Common.{◌≡◌, ◌≤◌, ◌<◌, ◌+◌, ◌∙◌, ℕ, zero, suc, Bool, true, false, cond, not, Option, Some, None, List, length, map, slice_index, refl, sym, ap, subst, inl, inr, ⊎_elim, max, arith}
use Rattle.std.specs.Prelude.{nat_eq, nat_lt, is_none, option_map, slice_range, find}
use Rattle.std.specs.List.{range_with_len}
use Rattle.std.specs.Option.{option_or}
use Rattle.std.proofs.lemmas.Grind.{common_steps, same_number_lists}
use Rattle.std.proofs.lemmas.Bool.Decides.{nat_tests}
use Rattle.edr_device.specs.Pieces.{SameBut}
use Rattle.edr_image.specs.declared.BankView.{BankView}
use Rattle.edr_image.specs.declared.Header.{Header}
use Rattle.edr_image.specs.declared.OpenFault.{OpenFault}
use Rattle.edr_image.specs.Banks.{Store}
use Rattle.edr_image.specs.PartBytes.{number_at}
use Rattle.edr_image.specs.Image.{View, bank_view, count_of, is_open, slot_count, header_of, header_refusal, image_refusal, image_size, magic, not_magic, place_of, store_of, view_of, header_refusal_by, image_refusal_by, view_by}
use Rattle.edr_cycle.specs.Counter.{IsCountAfterStop, IsNextSlot, SaysWith}
use Rattle.edr_cycle.proofs.ByteLemmas.{byte_beside, number_beside, same_wider}
use Rattle.edr_cycle.proofs.SlotLemmas.{IsCount, IsOlder, counted, older_is}

find_same : (f g : ℕ → Bool) (s n : ℕ) → ((k : ℕ) → s ≤ k → k < s + n → f k ≡ g k) → find f (range_with_len s n) ≡ find g (range_with_len s n)
find_same f g s zero h = refl
find_same f g s (suc n) h =
    let here = h s (omega arith) (omega arith) in
    let rest = find_same f g (s + 1) n (λ k low high. h k (omega arith) (omega arith)) in rw (here, rest) refl

map_same : {X : Type 0} (f g : ℕ → X) (s n : ℕ) → ((k : ℕ) → s ≤ k → k < s + n → f k ≡ g k) → map f (range_with_len s n) ≡ map g (range_with_len s n)
map_same f g s zero h = refl
map_same f g s (suc n) h =
    let here = h s (omega arith) (omega arith) in
    let rest = map_same f g (s + 1) n (λ k low high. h k (omega arith) (omega arith)) in cc

both_none : {X : Type 0} (o p : Option X) → option_or o p ≡ None → (o ≡ None) × (p ≡ None)
both_none None p e = (refl, e)
both_none (Some x) p e = absurd cc

none_mapped : {X Y : Type 0} (o : Option X) (f : X → Y) → option_map f o ≡ None → o ≡ None
none_mapped None f e = refl
none_mapped (Some x) f e = absurd cc

range_length : (xs : List ℕ) (at : ℕ) → at + 1024 ≤ length xs → length (slice_range xs at (at + 1024)) ≡ 1024
range_length xs at fits = grind (arith, common_steps)

range_read : (xs : List ℕ) (at j : ℕ) → at + 1024 ≤ length xs → j < 1024 → slice_index (slice_range xs at (at + 1024)) j ≡ slice_index xs (at + j)
range_read xs at j fits below = grind (arith, common_steps)

same_store : (h h' : Header) (b b' : List BankView) → h ≡ h' → b ≡ b' → ◌≡◌ {A = Store} (record { header = h; banks = b }) (record { header = h'; banks = b' })
same_store h h' b b' e f = rw (e, f) refl

-- ---- an image with a view

-- nothing is refused, and the view is what is read
pub record IsSeen (bytes : List ℕ) (v : View) : Type 0 where
  pub long : image_size (slice_index bytes 10) ≤ length bytes
  pub header : header_refusal bytes ≡ None
  pub same : v ≡ record { store = store_of bytes; count = count_of bytes }

long_enough : (short too_short : Bool) (x y : OpenFault) (o : Option OpenFault) → cond short (Some x) (option_or o (cond too_short (Some y) None)) ≡ None → (o ≡ None) × (too_short ≡ false)
long_enough true too_short x y o e = absurd cc
long_enough false too_short x y (Some z) e = absurd cc
long_enough false true x y None e = absurd cc
long_enough false false x y None e = (refl, refl)

seen_as : (o : Option OpenFault) (w v : View) → cond (is_none o) (Some w) None ≡ Some v → (o ≡ None) × (v ≡ w)
seen_as None w v e = (refl, cc)
seen_as (Some x) w v e = absurd cc

not_below : (a b : ℕ) → nat_lt a b ≡ false → b ≤ a
not_below a b e = grind (arith, nat_tests)

at_least : (a b : ℕ) → b ≤ a → nat_lt a b ≡ false
at_least a b h = grind (arith, nat_tests)

not_refused : (bytes : List ℕ) → image_refusal bytes ≡ None → (header_refusal bytes ≡ None) × (image_size (slice_index bytes 10) ≤ length bytes)
unfolding image_refusal_by
not_refused bytes e =
    let two = long_enough _ _ _ _ _ e in (none_mapped (header_refusal bytes) _ two.0, not_below (length bytes) (image_size (slice_index bytes 10)) two.1)

refused_none : (bytes : List ℕ) → header_refusal bytes ≡ None → image_size (slice_index bytes 10) ≤ length bytes → image_refusal bytes ≡ None
unfolding image_refusal_by
refused_none bytes header long = rw (at_least (length bytes) 96 (omega arith), header, at_least (length bytes) (image_size (slice_index bytes 10)) long) refl

pub view_is : (bytes : List ℕ) → header_refusal bytes ≡ None → image_size (slice_index bytes 10) ≤ length bytes → view_of bytes ≡ Some (record { store = store_of bytes; count = count_of bytes })
unfolding view_by
view_is bytes header long = rw (refused_none bytes header long) refl

pub seen : (bytes : List ℕ) (v : View) → view_of bytes ≡ Some v → IsSeen bytes v
unfolding view_by
seen bytes v e =
    let is = seen_as (image_refusal bytes) _ v e in
    let ok = not_refused bytes is.0 in
    record { long = ok.1; header = ok.0; same = is.1 }

-- ---- the same but for the slots

module _ (bytes image : List ℕ) (s : SameBut 32 64 bytes image) (fits : 96 ≤ length bytes) where
  front : (i : ℕ) → i < 32 → slice_index image i ≡ slice_index bytes i
  front i below = byte_beside 32 64 bytes image i s (omega arith) (inl below)

  magic_same : not_magic image ≡ not_magic bytes
  magic_same =
      find_same (λ k. not (nat_eq (slice_index image k) (slice_index magic k))) (λ k. not (nat_eq (slice_index bytes k) (slice_index magic k))) 0 8
      (λ k low high. rw (front k (omega arith)) refl)

  header_same : header_of image ≡ header_of bytes
  header_same = rw (front 10 (omega arith), front 11 (omega arith)) refl

  header_stays : header_refusal bytes ≡ None → header_refusal image ≡ None
  unfolding header_refusal_by
  header_stays e =
      let two = both_none _ _ e in
      let magic_none : not_magic image ≡ None = magic_same ∙ none_mapped (not_magic bytes) _ two.0 in
      let version : number_at image 8 2 ≡ number_at bytes 8 2 = number_beside 32 64 bytes image 8 2 s (omega arith) (inl (omega arith)) in
      rw (magic_none, version, front 10 (omega arith), front 11 (omega arith)) two.1

  bank_range : (at : ℕ) → 96 ≤ at → at + 1024 ≤ length bytes → slice_range image at (at + 1024) ≡ slice_range bytes at (at + 1024)
  bank_range at low high =
      let size = s.size in
      same_number_lists (slice_range image at (at + 1024)) (slice_range bytes at (at + 1024)) (range_length image at (omega arith) ∙ sym (range_length bytes at high)) (λ j below.
      let below' : j < 1024 = subst (λ (l : ℕ). j < l) (range_length image at (omega arith)) below in
      range_read image at j (omega arith) below' ∙ byte_beside 32 64 bytes image (at + j) s (omega arith) (inr (omega arith)) ∙ sym (range_read bytes at j high below'))

  store_same : image_size (slice_index bytes 10) ≤ length bytes → store_of image ≡ store_of bytes
  store_same long = same_store _ _ _ _ header_same (ap (λ (n : ℕ). map (λ m. bank_view (slice_range image (place_of m) (place_of m + 1024))) (range_with_len 1 n)) (front 10 (omega arith))
      ∙ map_same (λ m. bank_view (slice_range image (place_of m) (place_of m + 1024))) (λ m. bank_view (slice_range bytes (place_of m) (place_of m + 1024))) 1 (slice_index bytes 10) (λ k low high. ap bank_view (bank_range (place_of k) (omega arith) (omega arith))))

  -- the view is the same with the count that stands there
  pub view_same : (v : View) → view_of bytes ≡ Some v → view_of image ≡ Some (record v { count = count_of image })
  view_same v e =
      let is = seen bytes v e in
      let long = is.long in
      let size = s.size in
      let same_banks = front 10 (omega arith) in
      let long' : image_size (slice_index image 10) ≤ length image = omega arith in
      view_is image (header_stays is.header) long' ∙ ap Some (rw (store_same long, is.same) refl)

-- a start on the older slot
pub record Fits (slot : ℕ) (opened : Bool) (next : ℕ) (bytes : List ℕ) (v : View) : Type 0 where
  pub other : ℕ
  pub older : IsOlder slot other opened bytes
  pub places : (32 ≤ slot) × (slot + 32 ≤ 96)
  pub count_is : (image : List ℕ) → count_of image ≡ counted slot other image
  pub now_is : v.count ≡ counted slot other bytes
  pub more : max next (slot_count bytes other) ≡ next

pub fits_next : (slot : ℕ) (opened : Bool) (next : ℕ) (bytes : List ℕ) (v : View) → IsNextSlot slot opened next bytes v → Fits slot opened next bytes v
fits_next slot opened next bytes v h =
    let is = seen bytes v h.view_is in
    let long = is.long in
    let o = older_is bytes (omega arith) in
    let at_is : slot ≡ o.1 = h.slot_is ∙ sym o.2 in
    let now_is : v.count ≡ counted o.1 o.0 bytes = ap (λ (w : View). w.count) is.same ∙ o.6 bytes in
    let more : v.count < next = h.more in
    record {
      other = o.0;
      older = subst (λ (b : Bool). IsOlder slot o.0 b bytes) h.gate_is (subst (λ (at : ℕ). IsOlder at o.0 (is_open bytes at) bytes) (sym at_is) o.5);
      places = (omega (arith, at_is), omega (arith, at_is));
      count_is = λ image. o.6 image ∙ ap (λ (at : ℕ). counted at o.0 image) (sym at_is);
      now_is = now_is ∙ ap (λ (at : ℕ). counted at o.0 bytes) (sym at_is);
      more = greater_max next (slot_count bytes o.0) (omega arith);
    }
  where
    greater_max : (a b : ℕ) → b < a → max a b ≡ a
    greater_max a b h = omega arith

says : (slot : ℕ) (opened : Bool) (next count : ℕ) (bytes image : List ℕ) (v : View) → IsNextSlot slot opened next bytes v → (f : Fits slot opened next bytes v) → SameBut slot 32 bytes image → counted slot f.other image ≡ count → SaysWith count bytes v image
says slot opened next count bytes image v h f s is =
    let wide : SameBut 32 64 bytes image = same_wider slot 32 32 64 bytes image f.places.0 (let p = f.places.1 in omega arith) s in
    let long = (seen bytes v h.view_is).long in
    record {
      others = wide;
      view_is = view_same bytes image wide (omega arith) v h.view_is ∙ ap (λ (n : ℕ). Some (record v { count = n })) (f.count_is image ∙ is);
    }

pub says_counted : (slot : ℕ) (opened : Bool) (r next : ℕ) (bytes image : List ℕ) (v : View) → IsNextSlot slot opened next bytes v → (f : Fits slot opened next bytes v) → IsCount r slot f.other next bytes image → IsCountAfterStop r next bytes v image
says_counted slot opened r next bytes image v h f x = ⊎_elim
    (λ (same : counted slot f.other image ≡ counted slot f.other bytes). inl (says slot opened next v.count bytes image v h f x.others (same ∙ sym f.now_is)))
    (λ (later : (5 ≤ r) × (counted slot f.other image ≡ max next (slot_count bytes f.other))). inr (later.0, says slot opened next next bytes image v h f x.others (later.1 ∙ f.more)))
    x.count

-- a crash at any moment
pub says_later : (slot : ℕ) (opened : Bool) (next : ℕ) (bytes image : List ℕ) (v : View) → IsNextSlot slot opened next bytes v → (f : Fits slot opened next bytes v) → IsCount 5 slot f.other next bytes image → IsCountAfterStop 6 next bytes v image
says_later slot opened next bytes image v h f x = later (says_counted slot opened 5 next bytes image v h f x)
  where
    later : IsCountAfterStop 5 next bytes v image → IsCountAfterStop 6 next bytes v image
    later (inl same) = inl same
    later (inr more) = inr (omega arith, more.1)

pub says_made : (slot : ℕ) (opened : Bool) (next : ℕ) (bytes image : List ℕ) (v : View) → IsNextSlot slot opened next bytes v → (f : Fits slot opened next bytes v) → SameBut slot 32 bytes image → counted slot f.other image ≡ max next (slot_count bytes f.other) → SaysWith next bytes v image
says_made slot opened next bytes image v h f s e = says slot opened next next bytes image v h f s (e ∙ f.more)
