-- A write and the sync after it, on a device on which nothing is pending.
use Rattle.std.specs.Prelude.{◌≡◌, ◌≢◌, ◌⊎◌, ◌+◌, ◌≤◌, ◌<◌, ℕ, false, List, ◌++◌, length, take, drop, slice_index, Result, OnOk, OnErr}
use Rattle.edr_device.specs.Device.{is_in}
use Rattle.edr_device.specs.Faults.{last_number}

-- the bytes with a piece in their place
abbrev pub put_at : {A : Type 0} → ℕ → List A → List A → List A
put_at at piece bytes = take at bytes ++ piece ++ drop (at + length piece) bytes

-- the image has the bytes, but perhaps not in the n offsets from `at` on
pub record SameBut (at n : ℕ) (bytes image : List ℕ) : Type 0 where
  pub size : length image ≡ length bytes
  pub same : (i : ℕ) → i < length bytes → is_in at n i ≡ false → slice_index image i ≡ slice_index bytes i

-- n writes and syncs, which may be none, that end where one fails. `now` is the clock after them, and `good'` the last good moment.
-- Unless the clock stands at its last value, some call was made, and nothing follows the one that failed.
pub record Makes {T E : Type 0} (n before now good good' : ℕ) (result : Result T E) : Type 0 where
  pub later : before ≤ now
  pub ok : OnOk result (now ≡ before + n)
  pub good_is : OnOk result ((0 < n → good' ≡ now) × (n ≡ 0 → good' ≡ good))
  pub few : OnErr result (now ≤ before + n)
  pub made : OnErr result (now ≢ last_number → before < now)
  pub last : OnErr result (now ≢ last_number → ((now ≡ before + 1) × (good' ≡ good)) ⊎ (now ≡ good' + 1))

-- After a stop in a write and a sync of a piece: the bytes but for the piece's place, and all of them where the clock has not moved.
abbrev pub IsPieceStop : ℕ → ℕ → ℕ → List ℕ → List ℕ → List ℕ → Type 0
IsPieceStop before now at piece bytes image = SameBut at (length piece) bytes image × (now ≡ before → image ≡ bytes)

-- After a stop in call r of a write and a sync of a piece, and a write and a sync of a gate: the bytes but for the piece's place, or
-- from the third call on the bytes with the piece but for the gate's place.
abbrev pub IsGatedStop : ℕ → ℕ → List ℕ → ℕ → List ℕ → List ℕ → Type 0
IsGatedStop r at piece gate_at bytes image = SameBut at (length piece) bytes image ⊎ ((3 ≤ r) × SameBut gate_at 1 (put_at at piece bytes) image)
