-- What a call of a memory without power does, where the memory tells its content, and what a crash may leave.
use Rattle.std.specs.Prelude.{◌≡◌, ◌⊎◌, ◌+◌, ◌≤◌, ◌<◌, ℕ, Bool, true, false, not, ◌&&◌, nat_le, nat_lt, List, ◌++◌, length, take, drop, slice_index, Option, Some, None, Result, OnOk, OnErr, MatchResult, ⊤}
use Rattle.edr_device.specs.Faults.{next_number}
use Rattle.edr_device.specs.Told.{Told}

-- whether an offset lies among the n offsets from `at` on
abbrev pub is_in : ℕ → ℕ → ℕ → Bool
is_in at n i = nat_le at i && nat_lt i (at + n)

-- the settled offsets, without the n from `at` on
abbrev pub outside : ℕ → ℕ → (ℕ → Bool) → ℕ → Bool
outside at n settled i = settled i && not (is_in at n i)

-- an image that agrees with the bytes at the settled offsets
pub record Agrees (settled : ℕ → Bool) (bytes image : List ℕ) : Type 0 where
  pub size : length image ≡ length bytes
  pub same : (i : ℕ) → i < length bytes → settled i ≡ true → slice_index image i ≡ slice_index bytes i

-- what a crash at this moment may leave: of a memory that does not tell its content, anything
abbrev pub MayLeave : Option (List ℕ) → (ℕ → Bool) → List ℕ → Type 0
MayLeave None settled image = ⊤
MayLeave (Some bytes) settled image = Agrees settled bytes image

-- all offsets are settled
abbrev pub IsSettled : (ℕ → Bool) → Type 0
IsSettled settled = (i : ℕ) → settled i ≡ true

-- the device tells these bytes, and all are settled: nothing is pending
abbrev pub IsQuiet : Option (List ℕ) → (ℕ → Bool) → List ℕ → Type 0
IsQuiet content settled bytes = (content ≡ Some bytes) × IsSettled settled

-- what is read at an offset
abbrev pub Shows : ℕ → List ℕ → Option (List ℕ) → Type 0
Shows at piece None = ⊤
Shows at piece (Some bytes) = piece ≡ take (length piece) (drop at bytes)

-- ---- what a call changes

-- bytes are written at an offset, and unsettled there
pub record Writes (at : ℕ) (piece : List ℕ) (settled : ℕ → Bool) (old new : List ℕ) (settled' : ℕ → Bool) : Type 0 where
  pub bytes : new ≡ take at old ++ piece ++ drop (at + length piece) old
  pub unsettled : (i : ℕ) → settled' i ≡ outside at (length piece) settled i

-- outside the n offsets from `at` on each settled byte stays, and stays settled
pub record KeepsOutside (at n : ℕ) (settled : ℕ → Bool) (old new : List ℕ) (settled' : ℕ → Bool) : Type 0 where
  pub size : length new ≡ length old
  pub same : (i : ℕ) → i < length old → settled i ≡ true → is_in at n i ≡ false → (slice_index new i ≡ slice_index old i) × (settled' i ≡ true)

-- it does not begin or cease to tell it
abbrev pub StillTells : Option (List ℕ) → Option (List ℕ) → Type 0
StillTells old new = Told (λ a b. ⊤) old new

abbrev pub Settles : (ℕ → Bool) → List ℕ → List ℕ → Type 0
Settles settled' old new = (new ≡ old) × IsSettled settled'

-- after the power was away: an image that the crash may have left, all of it settled
abbrev pub Comes : (ℕ → Bool) → (ℕ → Bool) → List ℕ → List ℕ → Type 0
Comes settled settled' old new = Agrees settled old new × IsSettled settled'

-- nothing is changed: what a read gives, what is settled, and what a crash may have left since each moment
pub record Stays (content : Option (List ℕ)) (settled : ℕ → Bool) (past : ℕ → List ℕ → Type 0) (content' : Option (List ℕ)) (settled' : ℕ → Bool) (since : ℕ → List ℕ → Type 0) : Type 0 where
  pub same_content : content' ≡ content
  pub same_settled : (i : ℕ) → settled' i ≡ settled i
  pub nothing_else : (t : ℕ) (image : List ℕ) → since t image → past t image
  pub past_stays : (t : ℕ) (image : List ℕ) → past t image → since t image

abbrev pub Wrote : {T E : Type 0} → ℕ → List ℕ → Result T E → Option (List ℕ) → (ℕ → Bool) → Option (List ℕ) → (ℕ → Bool) → Type 0
Wrote at piece result old settled new settled' = MatchResult result
    (λ _. Told (λ a b. Writes at piece settled a b settled') old new)
    (λ _. Told (λ a b. KeepsOutside at (length piece) settled a b settled') old new)

abbrev pub Synced : {T E : Type 0} → Result T E → Option (List ℕ) → (ℕ → Bool) → Option (List ℕ) → (ℕ → Bool) → Type 0
Synced result old settled new settled' = MatchResult result
    (λ _. Told (Settles settled') old new)
    (λ _. Told (λ a b. KeepsOutside 0 0 settled a b settled') old new)

abbrev pub Cycled : {T E : Type 0} → Result T E → Option (List ℕ) → (ℕ → Bool) → (ℕ → List ℕ → Type 0) → Option (List ℕ) → (ℕ → Bool) → (ℕ → List ℕ → Type 0) → Type 0
Cycled result old settled past new settled' since = MatchResult result
    (λ _. Told (Comes settled settled') old new)
    (λ _. Stays old settled past new settled' since)

-- ---- time

-- a write or sync is one moment more; a good one is the last good moment
pub record Ticks {T E : Type 0} (before now good good' : ℕ) (result : Result T E) : Type 0 where
  pub later : before ≤ now
  pub clock : now ≡ next_number before
  pub ok : OnOk result (good' ≡ now)
  pub err : OnErr result (good' ≡ good)

-- a crash since an earlier moment may have left what it might have left before, or what a crash during the call may leave
pub record Elapses (before : ℕ) (past since : ℕ → List ℕ → Type 0) (during : List ℕ → Type 0) : Type 0 where
  pub nothing_else : (t : ℕ) (image : List ℕ) → t ≤ before → since t image → past t image ⊎ during image
  pub past_stays : (t : ℕ) (image : List ℕ) → t ≤ before → past t image → since t image

-- ---- the same of a device before and after a call, by what it tells

-- of what a read gives and of what is settled
abbrev pub Across : {D : Type 0} {X : Type 1} → (D → Option (List ℕ)) → (D → ℕ → Bool) → (Option (List ℕ) → (ℕ → Bool) → Option (List ℕ) → (ℕ → Bool) → X) → D → D → X
Across content settled says old new = says (content old) (settled old) (content new) (settled new)

-- nothing is changed
abbrev pub Unchanged : {D : Type 0} → (D → Option (List ℕ)) → (D → ℕ → Bool) → (D → ℕ → List ℕ → Type 0) → D → D → Type 0
Unchanged content settled since old new = Stays (content old) (settled old) (since old) (content new) (settled new) (since new)

-- the power was taken away and given back, with this result
abbrev pub Repowered : {T E D : Type 0} → (D → Option (List ℕ)) → (D → ℕ → Bool) → (D → ℕ → List ℕ → Type 0) → Result T E → D → D → Type 0
Repowered content settled since result old new = Cycled result (content old) (settled old) (since old) (content new) (settled new) (since new)

-- what a crash inside a call may leave, which begins at this moment: in a write what is settled outside the range of the piece, in a
-- sync what was settled
abbrev pub CrashInWrite : {D : Type 0} → (D → Option (List ℕ)) → (D → ℕ → Bool) → (D → ℕ → List ℕ → Type 0) → ℕ → ℕ → List ℕ → D → D → Type 0
CrashInWrite content settled since moment at piece old new = Elapses moment (since old) (since new) (MayLeave (content old) (outside at (length piece) (settled old)))

abbrev pub CrashInSync : {D : Type 0} → (D → Option (List ℕ)) → (D → ℕ → Bool) → (D → ℕ → List ℕ → Type 0) → ℕ → D → D → Type 0
CrashInSync content settled since moment old new = Elapses moment (since old) (since new) (MayLeave (content old) (settled old))
