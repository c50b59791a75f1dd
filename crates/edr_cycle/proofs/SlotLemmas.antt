-- What the count is where most bytes are as they were.
use Rattle.std.proofs.Common.{◌≡◌, ◌⊎◌, ◌≤◌, ◌+◌, ◌*◌, ◌∙◌, max, ℕ, Bool, true, false, cond, not, ◌&&◌, ◌||◌, List, [], ◌∷◌, length, refl, sym, ap, subst, inl, inr, ⊎_elim, arith}
use Rattle.std.specs.Prelude.{nat_le, if◌then◌else◌}
use Rattle.std.proofs.lemmas.Bool.Decides.{nat_tests}
use Rattle.byteorder.specs.Endian.{big_number}
use Rattle.edr_image.specs.PartBytes.{number_at}
use Rattle.edr_image.specs.Image.{is_open, slot_count, count_of, older_slot}
use Rattle.edr_device.specs.Pieces.{IsGatedStop, SameBut, put_at}
use Rattle.edr_device.proofs.SettlingLemmas.{put_same, put_size}
use Rattle.edr_cycle.proofs.ByteLemmas.{byte_beside, number_beside, one_byte, put_number, same_chain, same_wider}

-- the slot that may be written: the other one has the count
pub record IsOlder (at other : ℕ) (opened : Bool) (bytes : List ℕ) : Type 0 where
  pub gate : is_open bytes at ≡ opened
  pub less : slot_count bytes at ≤ slot_count bytes other
  pub apart : (at + 32 ≤ other) ⊎ (other + 32 ≤ at)
  pub within : other + 32 ≤ length bytes

-- the greater of the two
abbrev pub counted : ℕ → ℕ → List ℕ → ℕ
counted at other bytes = max (slot_count bytes at) (slot_count bytes other)

-- the other bytes are as they were, and the count is as before, or from call r on the new one
pub record IsCount (r at other : ℕ) (next : ℕ) (bytes image : List ℕ) : Type 0 where
  pub others : SameBut at 32 bytes image
  pub count : (counted at other image ≡ counted at other bytes) ⊎ ((5 ≤ r) × (counted at other image ≡ max next (slot_count bytes other)))

-- a slot beside the range
slot_beside : (k n : ℕ) (bytes image : List ℕ) (other : ℕ) → SameBut k n bytes image → other + 32 ≤ length bytes → (k + n ≤ other) ⊎ (other + 32 ≤ k) → slot_count image other ≡ slot_count bytes other
slot_beside k n bytes image other s fits (inl above) = rw (byte_beside k n bytes image other s (omega arith) (inr (omega arith)), number_beside k n bytes image (other + 4) 4 s (omega arith) (inr (omega arith))) refl
slot_beside k n bytes image other s fits (inr below) = rw (byte_beside k n bytes image other s (omega arith) (inl (omega arith)), number_beside k n bytes image (other + 4) 4 s (omega arith) (inl (omega arith))) refl

abbrev shown_if : Bool → ℕ → ℕ
shown_if b n = cond b n 0

closed_less : (b : Bool) (k n : ℕ) → (b ≡ true → k ≤ n) → shown_if b k ≤ n
closed_less true k n h = h refl
closed_less false k n h = omega arith

least_max : (a b : ℕ) → a ≤ b → max a b ≡ b
least_max a b h = omega arith

abbrev pub closing : Bool → ℕ → ℕ
closing opened at = if opened then at else at + 1

-- while the gate is closed
pub close_image : (at other : ℕ) (opened : Bool) (next r : ℕ) (bytes image : List ℕ) → at + 32 ≤ length bytes → IsOlder at other opened bytes → SameBut (closing opened at) 1 bytes image → IsCount r at other next bytes image
close_image at other true next r bytes image fits older s = record {
  others = same_wider at 1 at 32 bytes image (omega arith) (omega arith) s;
  count = inl (
      let there = slot_beside at 1 bytes image other s older.within (⊎_elim (λ (a : at + 32 ≤ other). inl (omega arith)) (λ (b : other + 32 ≤ at). inr (omega arith)) older.apart) in
      let number = number_beside at 1 bytes image (at + 4) 4 s (omega arith) (inr (omega arith)) in
      let less : slot_count image at ≤ slot_count bytes other = subst (λ (n : ℕ). shown_if (is_open image at) n ≤ slot_count bytes other) (sym number)
      (closed_less (is_open image at) (number_at bytes (at + 4) 4) (slot_count bytes other) (λ e. subst (λ (b : Bool). shown_if b (number_at bytes (at + 4) 4) ≤ slot_count bytes other) older.gate older.less)) in
      rw there (least_max (slot_count image at) (slot_count bytes other) less ∙ sym (least_max (slot_count bytes at) (slot_count bytes other) older.less)));
}
close_image at other false next r bytes image fits older s = record {
  others = same_wider (at + 1) 1 at 32 bytes image (omega arith) (omega arith) s;
  count = inl (rw (
    byte_beside (at + 1) 1 bytes image at s (omega arith) (inl (omega arith)),
    number_beside (at + 1) 1 bytes image (at + 4) 4 s (omega arith) (inr (omega arith)),
    slot_beside (at + 1) 1 bytes image other s older.within (⊎_elim (λ (a : at + 32 ≤ other). inl (omega arith)) (λ (b : other + 32 ≤ at). inr (omega arith)) older.apart),
  ) refl);
}

-- after it the gate is closed
closed_gate : (at other : ℕ) (opened : Bool) (bytes : List ℕ) → at + 32 ≤ length bytes → IsOlder at other opened bytes → is_open (put_at (closing opened at) (0 ∷ []) bytes) at ≡ false
closed_gate at other true bytes fits older = rw (one_byte at 0 bytes (omega arith)) refl
closed_gate at other false bytes fits older = rw (byte_beside (at + 1) 1 bytes (put_at (at + 1) (0 ∷ []) bytes) at (put_same (at + 1) (0 ∷ []) bytes (omega arith)) (omega arith) (inl (omega arith))) older.gate

-- the gate beside a number that is written
opened_reads : (at other : ℕ) (number bytes mid image : List ℕ) → at + 32 ≤ length mid → other + 32 ≤ length mid → (at + 32 ≤ other) ⊎ (other + 32 ≤ at) → length number ≡ 4 → SameBut at 32 bytes mid → slot_count mid other ≡ slot_count bytes other
    → SameBut at 1 (put_at (at + 4) number mid) image → (slot_count image at ≡ shown_if (is_open image at) (big_number 4 number)) × (slot_count image other ≡ slot_count bytes other) × SameBut at 32 bytes image
opened_reads at other number bytes mid image fits within apart four same there x =
    let put = put_at (at + 4) number mid in
    let size : length put ≡ length mid = put_size (at + 4) number mid (omega arith) in
    let n : SameBut (at + 4) 4 mid put = subst (λ (n : ℕ). SameBut (at + 4) n mid put) four (put_same (at + 4) number mid (omega arith)) in
    let place : at + 4 ≡ at + 4 + 0 = omega arith in
    let stands : number_at image (at + 4) 4 ≡ big_number 4 number = number_beside at 1 put image (at + 4) 4 x (omega arith) (inr (omega arith)) ∙ ap (λ (k : ℕ). number_at put k 4) place ∙ put_number (at + 4) 0 4 number mid (omega arith) (omega arith) in
    let rest : slot_count image other ≡ slot_count bytes other = slot_beside at 1 put image other x (omega arith) (⊎_elim (λ (a : at + 32 ≤ other). inl (omega arith)) (λ (b : other + 32 ≤ at). inr (omega arith)) apart)
    ∙ slot_beside (at + 4) 4 mid put other n within (⊎_elim (λ (a : at + 32 ≤ other). inl (omega arith)) (λ (b : other + 32 ≤ at). inr (omega arith)) apart) ∙ there in (
      ap (shown_if (is_open image at)) stands,
      rest,
      same_chain at 32 bytes mid image same (same_chain at 32 mid put image (same_wider (at + 4) 4 at 32 mid put (omega arith) (omega arith) n) (same_wider at 1 at 32 put image (omega arith) (omega arith) x)),
    )

-- a closed slot, of which only the number or the gate may have changed; `mid` is what stands after the gate was closed
open_image : (at other : ℕ) (number : List ℕ) (next r s : ℕ) (bytes mid image : List ℕ) → at + 32 ≤ length mid → other + 32 ≤ length mid → (at + 32 ≤ other) ⊎ (other + 32 ≤ at) → length number ≡ 4 → big_number 4 number ≡ next
    → is_open mid at ≡ false → SameBut at 32 bytes mid → counted at other bytes ≡ slot_count mid other → slot_count mid other ≡ slot_count bytes other → r ≡ 2 + s → IsGatedStop s (at + 4) number at mid image → IsCount r at other next bytes image
open_image at other number next r s bytes mid image fits within apart four is closed same before there e (inl x) =
    let n : SameBut (at + 4) 4 mid image = subst (λ (n : ℕ). SameBut (at + 4) n mid image) four x in
    record {
      others = same_chain at 32 bytes mid image same (same_wider (at + 4) 4 at 32 mid image (omega arith) (omega arith) n);
      count = inl (
          let gate : is_open image at ≡ false = rw (byte_beside (at + 4) 4 mid image at n (omega arith) (inl (omega arith))) closed in
          let rest = slot_beside (at + 4) 4 mid image other n within (⊎_elim (λ (a : at + 32 ≤ other). inl (omega arith)) (λ (b : other + 32 ≤ at). inr (omega arith)) apart) in
          rw (gate, rest) (omega arith ∙ sym before));
    }
open_image at other number next r s bytes mid image fits within apart four is closed same before there e (inr x) =
    let o = opened_reads at other number bytes mid image fits within apart four same there x.1 in
    record { others = o.2; count = rw (o.0, o.1, is) (either (is_open image at) (omega arith)) }
  where
    either : (b : Bool) → 5 ≤ r → (max (shown_if b next) (slot_count bytes other) ≡ counted at other bytes) ⊎ ((5 ≤ r) × (max (shown_if b next) (slot_count bytes other) ≡ max next (slot_count bytes other)))
    either true late = inr (late, refl)
    either false late = inl (omega arith ∙ sym (before ∙ there))

after_close : (at other : ℕ) (opened : Bool) (bytes : List ℕ) → at + 32 ≤ length bytes → IsOlder at other opened bytes
    → let mid = put_at (closing opened at) (0 ∷ []) bytes in (length mid ≡ length bytes) × SameBut at 32 bytes mid × (slot_count mid other ≡ slot_count bytes other) × (counted at other bytes ≡ slot_count mid other)
after_close at other true bytes fits older =
    let s = put_same at (0 ∷ []) bytes (omega arith) in
    let there = slot_beside at 1 bytes (put_at at (0 ∷ []) bytes) other s older.within (⊎_elim (λ (a : at + 32 ≤ other). inl (omega arith)) (λ (b : other + 32 ≤ at). inr (omega arith)) older.apart) in
    (put_size at (0 ∷ []) bytes (omega arith), same_wider at 1 at 32 bytes _ (omega arith) (omega arith) s, there, least_max (slot_count bytes at) (slot_count bytes other) older.less ∙ sym there)
after_close at other false bytes fits older =
    let s = put_same (at + 1) (0 ∷ []) bytes (omega arith) in
    let there = slot_beside (at + 1) 1 bytes (put_at (at + 1) (0 ∷ []) bytes) other s older.within (⊎_elim (λ (a : at + 32 ≤ other). inl (omega arith)) (λ (b : other + 32 ≤ at). inr (omega arith)) older.apart) in
    (put_size (at + 1) (0 ∷ []) bytes (omega arith), same_wider (at + 1) 1 at 32 bytes _ (omega arith) (omega arith) s, there, least_max (slot_count bytes at) (slot_count bytes other) older.less ∙ sym there)

-- after the gate was closed
pub open_after : (at other : ℕ) (opened : Bool) (number : List ℕ) (next r s k : ℕ) (bytes image : List ℕ) → at + 32 ≤ length bytes → IsOlder at other opened bytes → length number ≡ 4 → big_number 4 number ≡ next → r ≡ 2 + s → k ≡ closing opened at
    → IsGatedStop s (at + 4) number at (put_at k (0 ∷ []) bytes) image → IsCount r at other next bytes image
open_after at other opened number next r s k bytes image fits older four value e is x =
    let mid = put_at (closing opened at) (0 ∷ []) bytes in
    let m = after_close at other opened bytes fits older in
    let w = older.within in
    let long : at + 32 ≤ length mid = subst (λ (n : ℕ). at + 32 ≤ n) (sym m.0) fits in
    let wide : other + 32 ≤ length mid = subst (λ (n : ℕ). other + 32 ≤ n) (sym m.0) w in
    open_image at other number next r s bytes mid image long wide older.apart four value (closed_gate at other opened bytes fits older) m.1 m.3 m.2 e
    (subst (λ (k : ℕ). IsGatedStop s (at + 4) number at (put_at k (0 ∷ []) bytes) image) is x)

pub close_at : (at other : ℕ) (opened : Bool) (next r k : ℕ) (bytes image : List ℕ) → at + 32 ≤ length bytes → IsOlder at other opened bytes → k ≡ closing opened at → SameBut k 1 bytes image → IsCount r at other next bytes image
close_at at other opened next r k bytes image fits older is s = close_image at other opened next r bytes image fits older (subst (λ (k : ℕ). SameBut k 1 bytes image) is s)

pub open_made : (at other : ℕ) (opened : Bool) (number : List ℕ) (next k : ℕ) (bytes : List ℕ) → at + 32 ≤ length bytes → IsOlder at other opened bytes → length number ≡ 4 → big_number 4 number ≡ next → k ≡ closing opened at
    → let now = put_at at (0xa5 ∷ []) (put_at (at + 4) number (put_at k (0 ∷ []) bytes)) in SameBut at 32 bytes now × (counted at other now ≡ max next (slot_count bytes other))
open_made at other opened number next k bytes fits older four value is = subst (λ (k : ℕ). SameBut at 32 bytes (put_at at (0xa5 ∷ []) (put_at (at + 4) number (put_at k (0 ∷ []) bytes))) × (counted at other (put_at at (0xa5 ∷ []) (put_at (at + 4) number (put_at k (0 ∷ []) bytes))) ≡ max next (slot_count bytes other))) (sym is) whole
  where
    whole : SameBut at 32 bytes (put_at at (0xa5 ∷ []) (put_at (at + 4) number (put_at (closing opened at) (0 ∷ []) bytes))) × (counted at other (put_at at (0xa5 ∷ []) (put_at (at + 4) number (put_at (closing opened at) (0 ∷ []) bytes))) ≡ max next (slot_count bytes other))
    whole =
        let mid = put_at (closing opened at) (0 ∷ []) bytes in
        let m = after_close at other opened bytes fits older in
        let w = older.within in
        let long : at + 32 ≤ length mid = subst (λ (n : ℕ). at + 32 ≤ n) (sym m.0) fits in
        let wide : other + 32 ≤ length mid = subst (λ (n : ℕ). other + 32 ≤ n) (sym m.0) w in
        let put = put_at (at + 4) number mid in
        let size : length put ≡ length mid = put_size (at + 4) number mid (omega arith) in
        let o = opened_reads at other number bytes mid (put_at at (0xa5 ∷ []) put) long wide older.apart four m.1 m.2 (put_same at (0xa5 ∷ []) put (omega arith)) in
        (o.2, rw (o.0, o.1, one_byte at 0xa5 put (omega arith), value) refl)

-- ---- of the two slots of an image

-- the older slot and the other one
pub older_is : (bytes : List ℕ) → 96 ≤ length bytes → (other : ℕ) × (at : ℕ) × (at ≡ 32 + 32 * older_slot bytes) × (at + 32 ≤ 96) × (32 ≤ at) × IsOlder at other (is_open bytes at) bytes × ((image : List ℕ) → count_of image ≡ counted at other image)
unfolding older_slot count_of
older_is bytes fits = by_gates (is_open bytes 32) (is_open bytes 64) (nat_le (slot_count bytes 64) (slot_count bytes 32)) refl refl refl
  where
    exchanged : (a b : ℕ) → max a b ≡ max b a
    exchanged a b = omega arith

    first : (slot_count bytes 32 ≤ slot_count bytes 64) → IsOlder 32 64 (is_open bytes 32) bytes
    first less = record { gate = refl; less = less; apart = inl (omega arith); within = fits }

    second : (slot_count bytes 64 ≤ slot_count bytes 32) → IsOlder 64 32 (is_open bytes 64) bytes
    second less = record { gate = refl; less = less; apart = inr (omega arith); within = omega arith }

    closed_slot : (at : ℕ) → is_open bytes at ≡ false → slot_count bytes at ≡ 0
    closed_slot at e = rw e refl

    by_gates : (a b c : Bool) → is_open bytes 32 ≡ a → is_open bytes 64 ≡ b → nat_le (slot_count bytes 64) (slot_count bytes 32) ≡ c
        → (other : ℕ) × (at : ℕ) × (at ≡ 32 + 32 * cond (a && (not b || c)) 1 0) × (at + 32 ≤ 96) × (32 ≤ at) × IsOlder at other (is_open bytes at) bytes × ((image : List ℕ) → max (slot_count image 32) (slot_count image 64) ≡ counted at other image)
    by_gates true true true e f g = (32, 64, refl, omega arith, omega arith, second (grind (arith, nat_tests)), λ image. exchanged (slot_count image 32) (slot_count image 64))
    by_gates true true false e f g = (64, 32, refl, omega arith, omega arith, first (grind (arith, nat_tests)), λ image. refl)
    by_gates true false c e f g = (32, 64, refl, omega arith, omega arith, second (let none = closed_slot 64 f in omega (arith, none)), λ image. exchanged (slot_count image 32) (slot_count image 64))
    by_gates false b c e f g = (64, 32, refl, omega arith, omega arith, first (let none = closed_slot 32 e in omega (arith, none)), λ image. refl)
