-- What has no fault as an item is accepted by its list.
use Rattle.std.proofs.Common.{arith, ◌≡◌, refl, ℕ, ◌+◌, ◌≤◌, Bool, true, false, nat_le, nat_lt, None}
use Rattle.std.proofs.lemmas.Bool.Decides.{nat_tests}
use Rattle.edr_items.specs.declared.TheConstants.{LATEST_MOMENT, LONGEST_GAP}
use Rattle.edr_items.specs.declared.Sensor.{Sensor}
use Rattle.edr_items.specs.declared.Item.{Item}
use Rattle.edr_items.specs.Item as item
use Rattle.edr_spell.specs.Fault.{item_fault}

not-late : (m n : ℕ) → nat_lt m n ≡ false → n ≤ m
not-late m n h = grind (arith, nat_tests)

late-not : (m n : ℕ) → n ≤ m → nat_lt m n ≡ false
late-not m n h = grind (arith, nat_tests)

-- what has no fault is accepted, and no gap is before it
pub item_fault-accepts : (s : Sensor) (last : ℕ) (x : Item) → item_fault s last x ≡ None → (item.refusal_of s last x ≡ None) × (x.moment ≤ last + LONGEST_GAP)
unfolding item.refusal_of item_fault
item_fault-accepts s last x h = by (nat_le x.moment last) (nat_lt LATEST_MOMENT x.moment) (item.has_value_in_range s x) (nat_lt (last + LONGEST_GAP) x.moment) refl refl refl refl
  where
    by : (a b c d : Bool) → nat_le x.moment last ≡ a → nat_lt LATEST_MOMENT x.moment ≡ b → item.has_value_in_range s x ≡ c → nat_lt (last + LONGEST_GAP) x.moment ≡ d
        → (item.refusal_of s last x ≡ None) × (x.moment ≤ last + LONGEST_GAP)
    by true b c d p q r t = let k = rw p at h in cc k
    by false true c d p q r t = let k = rw (p, q) at h in cc k
    by false false false d p q r t = let k = rw (p, q, r) at h in cc k
    by false false true true p q r t = let k = rw (p, q, r, t) at h in cc k
    by false false true false p q r t = (rw (p, q, r) refl, not-late _ _ t)

pub accepted-item_fault : (s : Sensor) (last : ℕ) (x : Item) → item.refusal_of s last x ≡ None → x.moment ≤ last + LONGEST_GAP → item_fault s last x ≡ None
unfolding item.refusal_of item_fault
accepted-item_fault s last x h near = by (nat_le x.moment last) (nat_lt LATEST_MOMENT x.moment) (item.has_value_in_range s x) refl refl refl
  where
    by : (a b c : Bool) → nat_le x.moment last ≡ a → nat_lt LATEST_MOMENT x.moment ≡ b → item.has_value_in_range s x ≡ c → item_fault s last x ≡ None
    by true b c p q r = let k = rw p at h in cc k
    by false true c p q r = let k = rw (p, q) at h in cc k
    by false false false p q r = let k = rw (p, q, r) at h in cc k
    by false false true p q r = rw (p, q, r, late-not _ _ near) refl
