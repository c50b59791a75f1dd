-- What is told by the first bytes of an image, read by themselves.
use Rattle.std.proofs.Common.{◌≡◌, ◌≤◌, ◌<◌, ◌+◌, ◌∙◌, ℕ, zero, suc, Bool, true, false, cond, Option, Some, List, length, take, drop, slice_index, refl, sym, ap, subst, inl, inr, ⊎_elim, arith}
use Rattle.std.proofs.lemmas.Grind.{common_steps}
use Rattle.edr_device.specs.Device.{Elapses, Shows, Stays}
use Rattle.edr_device.proofs.SettlingLemmas.{stays_quiet}
use Rattle.edr_image.specs.PartBytes.{number_at}
use Rattle.edr_image.specs.Image.{View, is_open, older_slot, place_of_slot, slot_count}
use Rattle.edr_cycle.specs.Counter.{IsNextSlot}
use Rattle.edr_gates.specs.Found.{IsFound}
use Rattle.edr_cycle.proofs.FrontLemmas.{seen}

pub slot_within : (bytes : List ℕ) → older_slot bytes ≤ 1
unfolding older_slot
slot_within bytes = one _
  where
    one : (b : Bool) → cond b 1 0 ≤ 1
    one true = omega arith
    one false = omega arith

module _ (xs ys : List ℕ) (n : ℕ) (same : (i : ℕ) → i < n → slice_index xs i ≡ slice_index ys i) where
  number_same : (at m : ℕ) → at + m ≤ n → number_at xs at m ≡ number_at ys at m
  number_same at zero fits = refl
  number_same at (suc m) fits =
      let here = same at (omega arith) in
      let rest : number_at xs (suc at) m ≡ number_at ys (suc at) m = number_same (suc at) m (omega arith) in
      rw (here, rest) refl

  pub gate_same : (at : ℕ) → at < n → is_open xs at ≡ is_open ys at
  gate_same at below = rw (same at below) refl

  count_same : (at : ℕ) → at + 8 ≤ n → slot_count xs at ≡ slot_count ys at
  count_same at fits = rw (gate_same at (omega arith), number_same (at + 4) 4 (omega arith)) refl

  pub slot_same : 96 ≤ n → older_slot xs ≡ older_slot ys
  unfolding older_slot
  slot_same fits = rw (count_same 32 (omega arith), count_same 64 (omega arith), gate_same 32 (omega arith), gate_same 64 (omega arith)) refl

shown_same : (front bytes : List ℕ) → length front ≡ 96 → 96 ≤ length bytes → Shows 0 front (Some bytes) → (i : ℕ) → i < 96 → slice_index front i ≡ slice_index bytes i
shown_same front bytes size fits shows i below = ap (λ (xs : List ℕ). slice_index xs i) shows ∙ read bytes (length front) i (omega arith)
  where
    read : (bytes : List ℕ) (n i : ℕ) → i < n → slice_index (take n (drop 0 bytes)) i ≡ slice_index bytes i
    read bytes n i below = grind (arith, common_steps)

-- after a read the device is as it was
pub found_stays : (v : View) (content content' : Option (List ℕ)) (settled settled' : ℕ → Bool) (past since : ℕ → List ℕ → Type 0) (bytes : List ℕ) → Stays content settled past content' settled' since → IsFound v content settled bytes → IsFound v content' settled' bytes
found_stays v content content' settled settled' past since bytes s h = record { quiet = stays_quiet bytes content content' settled settled' past since h.quiet s; view_is = h.view_is }

pub stays_elapse : (content content' : Option (List ℕ)) (settled settled' : ℕ → Bool) (past middle since : ℕ → List ℕ → Type 0) (before before' : ℕ) (during : List ℕ → Type 0) → Stays content settled past content' settled' middle → before' ≡ before → Elapses before' middle since during → Elapses before past since during
stays_elapse content content' settled settled' past middle since before before' during s same h = record {
  nothing_else = λ t image within left. ⊎_elim (λ (had : middle t image). inl (s.nothing_else t image had)) (λ (d : during image). inr d) (h.nothing_else t image (omega (arith, within, same)) left);
  past_stays = λ t image within left. h.past_stays t image (omega (arith, within, same)) (s.past_stays t image left);
}

-- the slot that is found in the first bytes is the older one of the image
pub next_found : (front : List ℕ) (slot next : ℕ) (opened : Bool) (v : View) (content : Option (List ℕ)) (settled : ℕ → Bool) (bytes : List ℕ) → length front ≡ 96 → Shows 0 front content → slot ≡ place_of_slot (older_slot front) → is_open front slot ≡ opened
    → IsFound v content settled bytes → v.count < next → IsNextSlot slot opened next bytes v
next_found front slot next opened v content settled bytes size shows place gate h more =
    let told : Shows 0 front (Some bytes) = subst (λ (c : Option (List ℕ)). Shows 0 front c) h.quiet.0 shows in
    let long = (seen bytes v h.view_is).long in
    let same = shown_same front bytes size (omega arith) told in
    let within = slot_within front in
    record {
      view_is = h.view_is;
      slot_is = place ∙ ap place_of_slot (slot_same front bytes 96 same (omega arith));
      gate_is = sym (gate_same front bytes 96 same slot (omega (arith, place, within))) ∙ gate;
      more = more;
    }
