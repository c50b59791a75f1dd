-- What a clause sees of a memory in memory, and what a call changes there.
use Rattle.std.specs.Prelude.{◌≡◌, ◌⊎◌, ◌+◌, ◌≤◌, if◌then◌else◌, ℕ, Bool, true, false, List, [], ◌∷◌, ◌++◌, length, replicate, Option, Some, unwrap_or}
use Rattle.std.proofs.Common.{◌∙◌, refl, sym, subst, ap}
use Rattle.std.proofs.Math.Nat.{min-le_left}
use Rattle.std.specs.List.{Contains}
use Rattle.edr_device.specs.Device.{Unchanged}
use Rattle.edr_device.specs.Draw.{image_after}
use Rattle.edr_device.specs.Faults.{next_number}
use Rattle.edr_device.specs.Past.{MayBeLeftSince, settled_at}
use Rattle.edr_device.specs.Pieces.{put_at}
use Rattle.edr_device.specs.declared.moment.Call.{Call}
use Rattle.edr_device.specs.declared.mem_nvm.MemNvm.{MemNvm}

-- The bytes that a read gives, which of them are settled, and the bytes as they were last settled. How many changing calls it takes,
-- the numbers of those and of the reads that are to fail, and what picks the image that a power cycle leaves.
pub record MemoryState : Type 0 where
  pub image : List ℕ
  pub settled : List Bool
  pub stored : List ℕ
  pub calls : ℕ
  pub fails : List ℕ
  pub read_fails : List ℕ
  pub pick : ℕ
  pub clock : ℕ
  pub last_good : ℕ
  pub reads : ℕ
  pub faults : ℕ

abbrev pub memory_state : MemNvm → MemoryState
memory_state m = record {
  image = m.state.image.items;
  settled = m.state.settled.items;
  stored = m.stored.items;
  calls = m.calls;
  fails = m.fails.items;
  read_fails = m.read_fails.items;
  pick = m.pick;
  clock = m.clock;
  last_good = m.last_good;
  reads = m.reads;
  faults = m.faults;
}

abbrev pub memory_image : MemNvm → List ℕ
memory_image m = m.state.image.items

-- ---- what a call changes

abbrev pub new_memory : List ℕ → ℕ → List ℕ → List ℕ → ℕ → MemoryState
new_memory image calls fails read_fails pick = record {
  image = image;
  settled = replicate (length image) true;
  stored = image;
  calls = calls;
  fails = fails;
  read_fails = read_fails;
  pick = pick;
  clock = 0;
  last_good = 0;
  reads = 0;
  faults = 0;
}

-- the next write or sync fails: none is left, or it is numbered
abbrev pub ChangeFails : MemoryState → Type 0
ChangeFails s = (s.calls ≤ s.clock) ⊎ Contains s.fails (s.clock + 1)

-- the next read fails
abbrev pub ReadFails : MemoryState → Type 0
ReadFails s = Contains s.read_fails (next_number s.reads)

abbrev pub after_read : Bool → MemoryState → MemoryState
after_read succeeded s = record s { reads = next_number s.reads; faults = (if succeeded then s.faults else next_number s.faults) }

abbrev pub after_failed_change : MemoryState → MemoryState
after_failed_change s = record s { clock = next_number s.clock; faults = next_number s.faults }

abbrev pub after_write : Bool → ℕ → List ℕ → MemoryState → MemoryState
after_write succeeded at piece s =
    if succeeded
    then record s { clock = s.clock + 1; last_good = s.clock + 1; image = put_at at piece s.image; settled = put_at at (replicate (length piece) false) s.settled }
    else after_failed_change s

abbrev pub after_sync : Bool → MemoryState → MemoryState
after_sync succeeded s =
    if succeeded
    then record s { clock = s.clock + 1; last_good = s.clock + 1; settled = replicate (length s.image) true; stored = s.image }
    else after_failed_change s

abbrev pub after_power_cycle : MemoryState → MemoryState
after_power_cycle s =
    let image = image_after s.pick s.settled s.stored s.image in
    record s { image = image; settled = replicate (length s.image) true; stored = image }

-- what was chosen when it was made stays
pub record SameChoices (old new : MemNvm) : Type 0 where
  pub calls : new.calls ≡ old.calls
  pub fails : new.fails.items ≡ old.fails.items
  pub read_fails : new.read_fails.items ≡ old.read_fails.items
  pub pick : new.pick ≡ old.pick

pub same_choices_self : (m : MemNvm) → SameChoices m m
same_choices_self m = record {
  calls = refl;
  fails = refl;
  read_fails = refl;
  pick = refl;
}

pub same_choices_again : (a b c : MemNvm) → SameChoices a b → SameChoices b c → SameChoices a c
same_choices_again a b c p q = record {
  calls = q.calls ∙ p.calls;
  fails = q.fails ∙ p.fails;
  read_fails = q.read_fails ∙ p.read_fails;
  pick = q.pick ∙ p.pick;
}

-- ---- what it tells as a device

abbrev pub memory_content : MemNvm → Option (List ℕ)
memory_content m = Some m.state.image.items

abbrev pub memory_settled : MemNvm → ℕ → Bool
memory_settled m = settled_at m.state

abbrev pub memory_since : MemNvm → ℕ → List ℕ → Type 0
memory_since m = MayBeLeftSince m.past.items m.state

-- nothing of this is changed
abbrev pub MemoryStays : MemNvm → MemNvm → Type 0
MemoryStays old new = Unchanged memory_content memory_settled memory_since old new

pub told_length : (xs ys : List ℕ) → Some xs ≡ Some ys → length ys ≡ length xs
told_length xs ys e = sym (ap (λ (o : Option (List ℕ)). length (unwrap_or o [])) e)

-- no more calls are kept than there were
pub past_within : (m : MemNvm) → length m.past.items ≤ m.clock
past_within m = subst (λ (n : ℕ). n ≤ m.clock) (sym m.kept) (min-le_left m.clock m.calls)

-- a call of which the memory keeps what stood before it and after it
abbrev pub HasKept : MemNvm → MemNvm → Type 0
HasKept old new = (length old.past.items ≡ old.clock) × (c : Call) × (c.before.value ≡ old.state) × (c.after.value ≡ new.state) × (new.past.items ≡ old.past.items ++ c ∷ [])

-- it keeps it, or there is nothing to keep
abbrev pub Remembers : MemNvm → MemNvm → Type 0
Remembers old new = HasKept old new ⊎ ((new.past.items ≡ old.past.items) × (new.state ≡ old.state))
