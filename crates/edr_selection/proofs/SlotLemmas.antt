-- A walk back over a list finds the slot, and the lists of slots.
use Rattle.std.proofs.Common.{arith, refl, ap, sym, subst, ◌≡◌, ◌∙◌, ℕ, ◌+◌, ◌-◌, ◌*◌, ◌<◌, ◌≤◌, ◌⊎◌, inl, inr, true, false, ℤ, Bool, Option, Some, None, List, length, get_or, map, unsigned_abs}
use Rattle.std.specs.Prelude.{Contains, is_some, All, option_map}
use Rattle.std.specs.List.{range_with_len}
use Rattle.std.proofs.lemmas.Bool.{cases_lt}
use Rattle.std.proofs.Math.Nat.{eq-or-lt_of_le}
use Rattle.std.proofs.lemmas.List.{same_lists, length-map, get_or-map, get_or_default}
use Rattle.std.proofs.lemmas.List.Elements.{All-get_or}
use Rattle.std.proofs.lemmas.List.FromFn.{length-map-range_with_len, get_or-map-range_with_len}
use Rattle.edr_definitions.specs.declared.limits.TheConstants.{LONGEST_AGE}
use Rattle.edr_items.specs.declared.Item.{Item}
use Rattle.edr_items.specs.Item.{IsRising}
use Rattle.edr_record.specs.declared.TheConstants.{LONG_SLOTS, SINGLE_REACH, SLOT_REACH, SLOT_STEP}
use Rattle.edr_items.specs.SensorLists.{SensorLists}
use Rattle.edr_record.specs.declared.Place.{Place}
use Rattle.edr_record.specs.declared.Profile.TheVariants.{Long}
use Rattle.edr_record.specs.Parts.{PrePart}
use Rattle.edr_record.specs.Bounds.{IsUpTo, IsPre}
use Rattle.edr_definitions.specs.Facts.{IsRecent, HasNoSample}
use Rattle.edr_definitions.specs.Parts.{slot, slots_before, numbers, switch, switches, pre_part}
use Rattle.edr_definitions.proofs.SlotLaws.{latest-is_slot, none-is_slot}
use Rattle.edr_selection.specs.Places.{no_item, IsPlacePast}

-- ---- the slot at a tick

-- no item up to the tick t, from the place k on, has a value
pub record IsWalked (xs : List Item) (t past k : ℕ) : Type 0 where
  pub rising : IsRising xs
  pub past_is : IsPlacePast xs t past
  pub within : k ≤ past
  pub no_value : (i : ℕ) → k ≤ i → i < past → (get_or xs i no_item).value ≡ None

at_place : (xs : List Item) (x : Item) (inside : Contains xs x) → get_or xs inside.0 no_item ≡ x
at_place xs x inside = get_or_default xs inside.0 no_item x inside.1 ∙ inside.2

-- where those before the place k are too old, there is no sample
no_sample : (xs : List Item) (t past k : ℕ) → IsWalked xs t past k → ((i : ℕ) → i < k → (get_or xs i no_item).moment + LONGEST_AGE < t) → HasNoSample xs t
no_sample xs t past k w old = record { none = λ x inside recent. by_place x inside recent (cases_lt inside.0 k) (cases_lt inside.0 past) }
  where
    by_place : (x : Item) (inside : Contains xs x) → IsRecent t x → (inside.0 < k) ⊎ (k ≤ inside.0) → (inside.0 < past) ⊎ (past ≤ inside.0) → x.value ≡ None
    by_place x inside recent (inl before) p =
        let early = old inside.0 before in
        let same = ap (λ (y : Item). y.moment) (at_place xs x inside) in
        let near = recent.0 in
        absurd (omega arith)
    by_place x inside recent (inr from) (inl before) = ap (λ (y : Item). y.value) (sym (at_place xs x inside)) ∙ w.no_value inside.0 from before
    by_place x inside recent (inr from) (inr past) =
        let late = w.past_is.past inside.0 past inside.1 in
        let same = ap (λ (y : Item). y.moment) (at_place xs x inside) in
        let near = recent.1 in
        absurd (omega arith)

-- the items before a place are no later than the one there
no_later : (xs : List Item) (i j : ℕ) → IsRising xs → i ≤ j → j < length xs → (get_or xs i no_item).moment ≤ (get_or xs j no_item).moment
no_later xs i j r le lt = by (eq-or-lt_of_le le)
  where
    by : (i ≡ j) ⊎ (i < j) → (get_or xs i no_item).moment ≤ (get_or xs j no_item).moment
    by (inl same) = subst (λ (k : ℕ). (get_or xs i no_item).moment ≤ (get_or xs k no_item).moment) same (omega arith)
    by (inr before) = let h = r.rises i j no_item before lt in omega arith

pub slot-end : (xs : List Item) (t past k : ℕ) → IsWalked xs t past k → k ≡ 0 → slot xs t ≡ None
slot-end xs t past k w none = none-is_slot xs t (no_sample xs t past k w (λ i lt. absurd (omega arith)))

pub slot-old : (xs : List Item) (t past k : ℕ) → IsWalked xs t past (k + 1) → (get_or xs k no_item).moment + LONGEST_AGE < t → slot xs t ≡ None
slot-old xs t past k w old =
    let le = w.within in
    let in_list = w.past_is.in_list in
    none-is_slot xs t (no_sample xs t past (k + 1) w (λ i lt. let h = no_later xs i k w.rising (omega arith) (omega arith) in omega arith))

-- the item before the place has a value, and is not too old
found : (xs : List Item) (t past k : ℕ) (v : ℤ) → IsWalked xs t past (k + 1) → t ≤ (get_or xs k no_item).moment + LONGEST_AGE → (get_or xs k no_item).value ≡ Some v → slot xs t ≡ Some v
found xs t past k v w near value =
    let le = w.within in
    let in_list = w.past_is.in_list in
    let early = w.past_is.before k (omega arith) in
    latest-is_slot xs t v w.rising (record {
      item = get_or xs k no_item;
      in_list = (k, omega arith, get_or_default xs k (get_or xs k no_item) no_item (omega arith));
      recent = (near, early);
      value_is = value;
      latest = λ other u inside recent with_value. by_place other u inside recent with_value (cases_lt inside.0 (k + 1)) (cases_lt inside.0 past);
    })
  where
    by_place : (other : Item) (u : ℤ) (inside : Contains xs other) → IsRecent t other → other.value ≡ Some u → (inside.0 < k + 1) ⊎ (k + 1 ≤ inside.0) → (inside.0 < past) ⊎ (past ≤ inside.0) → other.moment ≤ (get_or xs k no_item).moment
    by_place other u inside recent with_value (inl before) p =
        let le = w.within in
        let in_list = w.past_is.in_list in
        let h = no_later xs inside.0 k w.rising (omega arith) (omega arith) in
        let same = ap (λ (y : Item). y.moment) (at_place xs other inside) in
        omega arith
    by_place other u inside recent with_value (inr from) (inl before) =
        let none = w.no_value inside.0 from before in
        let same = ap (λ (y : Item). y.value) (at_place xs other inside) in
        cc
    by_place other u inside recent with_value (inr from) (inr late) =
        let past = w.past_is.past inside.0 late inside.1 in
        let same = ap (λ (y : Item). y.moment) (at_place xs other inside) in
        let near = recent.1 in
        absurd (omega arith)

by_value : (xs : List Item) (t past k : ℕ) → IsWalked xs t past (k + 1) → t ≤ (get_or xs k no_item).moment + LONGEST_AGE → (o : Option ℤ) → (get_or xs k no_item).value ≡ o → is_some o ≡ true → slot xs t ≡ o
by_value xs t past k w near None e some = cc
by_value xs t past k w near (Some v) e some = found xs t past k v w near e

pub slot-here : (xs : List Item) (t past k : ℕ) → IsWalked xs t past (k + 1) → t ≤ (get_or xs k no_item).moment + LONGEST_AGE → is_some (get_or xs k no_item).value ≡ true → slot xs t ≡ (get_or xs k no_item).value
slot-here xs t past k w near some = by_value xs t past k w near (get_or xs k no_item).value refl some

-- an item without a value is passed
pub IsWalked-next : (xs : List Item) (t past k : ℕ) → IsWalked xs t past (k + 1) → (get_or xs k no_item).value ≡ None → IsWalked xs t past k
IsWalked-next xs t past k w none =
    let le = w.within in
    record {
      rising = w.rising;
      past_is = w.past_is;
      within = omega arith;
      no_value = λ i from lt. by i from lt (eq-or-lt_of_le from);
    } where
      by : (i : ℕ) → k ≤ i → i < past → (k ≡ i) ⊎ (k < i) → (get_or xs i no_item).value ≡ None
      by i from lt (inl same) = subst (λ (j : ℕ). (get_or xs j no_item).value ≡ None) same none
      by i from lt (inr later) = w.no_value i (omega arith) lt

-- ---- the same, counted down

none_of : (o : Option ℤ) → is_some o ≡ false → o ≡ None
none_of None e = refl
none_of (Some v) e = cc

last_of : (xs : List Item) (t past k : ℕ) → 0 < k → IsWalked xs t past k → IsWalked xs t past (k - 1 + 1)
last_of xs t past k some w = let same : k ≡ k - 1 + 1 = omega arith in subst (λ n. IsWalked xs t past n) same w

pub walked-first : (xs : List Item) (t past : ℕ) → IsRising xs → IsPlacePast xs t past → IsWalked xs t past past
walked-first xs t past r is = record { rising = r; past_is = is; within = omega arith; no_value = λ i from lt. absurd (omega arith) }

pub walked-old : (xs : List Item) (t past k : ℕ) → 0 < k → IsWalked xs t past k → (get_or xs (k - 1) no_item).moment < t - LONGEST_AGE → None ≡ slot xs t
walked-old xs t past k some w old = sym (slot-old xs t past (k - 1) (last_of xs t past k some w) (omega arith))

pub walked-here : (xs : List Item) (t past k : ℕ) → 0 < k → IsWalked xs t past k → t - LONGEST_AGE ≤ (get_or xs (k - 1) no_item).moment → is_some (get_or xs (k - 1) no_item).value ≡ true → (get_or xs (k - 1) no_item).value ≡ slot xs t
walked-here xs t past k some w near value = sym (slot-here xs t past (k - 1) (last_of xs t past k some w) (omega arith) value)

pub walked-next : (xs : List Item) (t past k : ℕ) → 0 < k → IsWalked xs t past k → is_some (get_or xs (k - 1) no_item).value ≡ false → IsWalked xs t past (k - 1)
walked-next xs t past k some w none = IsWalked-next xs t past (k - 1) (last_of xs t past k some w) (none_of (get_or xs (k - 1) no_item).value none)

pub walked-all : (xs : List Item) (t past k : ℕ) → k ≤ 0 → IsWalked xs t past k → None ≡ slot xs t
walked-all xs t past k none w = sym (slot-end xs t past k w (omega arith))

-- ---- lists of slots

-- a list that has f of each slot in its place
pub filled-slots : {Y : Type 0} → (f : Option ℤ → Y) (xs : List Item) (z : ℕ) (ys : List Y) (e : Y) → length ys ≡ LONG_SLOTS → ((k : ℕ) → k < LONG_SLOTS → get_or ys k e ≡ f (slot xs (z + SLOT_STEP * k - SLOT_REACH))) → ys ≡ map f (slots_before xs z)
unfolding slots_before
filled-slots f xs z ys e long each =
    let at = λ (k : ℕ). slot xs (z + SLOT_STEP * k - SLOT_REACH) in
    let slots = map at (range_with_len 0 LONG_SLOTS) in
    let many : length slots ≡ LONG_SLOTS = length-map-range_with_len at 0 LONG_SLOTS in
    same_lists ys (map f slots) (long ∙ sym (length-map slots f ∙ many)) (λ k g lt.
    let within : k < LONG_SLOTS = omega arith in
    get_or_default ys k g e lt ∙ each k within ∙ sym (get_or-map f slots k None g (omega arith) ∙ ap f (get_or-map-range_with_len at 0 LONG_SLOTS k k None within (omega arith))))

-- the slot in a place has the bound of all
pub number-at : (highest : ℕ) (xs : List Item) (z k : ℕ) → All (IsUpTo highest) (numbers (slots_before xs z)) → k < LONG_SLOTS → IsUpTo highest (option_map unsigned_abs (slot xs (z + SLOT_STEP * k - SLOT_REACH)))
unfolding slots_before
number-at highest xs z k all within =
    let at = λ (i : ℕ). slot xs (z + SLOT_STEP * i - SLOT_REACH) in
    let slots = map at (range_with_len 0 LONG_SLOTS) in
    let many : length slots ≡ LONG_SLOTS = length-map-range_with_len at 0 LONG_SLOTS in
    let long : length (numbers slots) ≡ LONG_SLOTS = length-map slots (λ s. option_map unsigned_abs s) ∙ many in
    subst (IsUpTo highest) (get_or-map (λ s. option_map unsigned_abs s) slots k None None (omega arith) ∙ ap (λ s. option_map unsigned_abs s) (get_or-map-range_with_len at 0 LONG_SLOTS k k None within (omega arith)))
    (All-get_or (IsUpTo highest) (numbers slots) k None (omega arith) all)

-- ---- the parts together

pub pre-is : (f : SensorLists) (n z : ℕ) (place : Place) (ss ts : List (Option ℕ)) (bs : List (Option Bool)) (b l : Option Bool) → ss ≡ numbers (slots_before f.speed z) → ts ≡ numbers (slots_before f.throttle z) → bs ≡ switches (slots_before f.brake z) → b ≡ switch (slot f.belt (z - SINGLE_REACH)) → l ≡ switch (slot f.lamp (z - SINGLE_REACH)) → ◌≡◌ {A = PrePart} (record { key = record { cycle = n; zero = z }; place = place; profile = Long; speed = ss; throttle = ts; brake = bs; belt = b; lamp = l }) (pre_part f n place z)
unfolding pre_part
pre-is f n z place ss ts bs b l p q r g h = rw (p, q, r, g, h) refl

pub speeds-bounded : (f : SensorLists) (n z : ℕ) (place : Place) → IsPre (pre_part f n place z) → All (IsUpTo 300) (numbers (slots_before f.speed z))
unfolding pre_part
speeds-bounded f n z place h = h.speed

pub throttles-bounded : (f : SensorLists) (n z : ℕ) (place : Place) → IsPre (pre_part f n place z) → All (IsUpTo 100) (numbers (slots_before f.throttle z))
unfolding pre_part
throttles-bounded f n z place h = h.throttle
