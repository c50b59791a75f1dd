-- What is so of a memory that was lent to a call, whatever the call does to its bytes.
use Rattle.std.specs.Prelude.{◌≡◌, ◌≤◌, ℕ, Bool, List, Option, Result}
use Rattle.edr_device.specs.Device.{Elapses, IsQuiet, MayLeave, StillTells, Stays}
use Rattle.edr_device.specs.Faults.{HasCause}
use Rattle.edr_device.specs.Pieces.{Makes}
use Rattle.edr_device.specs.declared.device.Nvm.{Ghosts}

-- it has its size, is the device that it was, and tells its bytes exactly where it told them; its count of faults did not fall
pub record GoesOn {D : Type 0} (g : Ghosts D) (old new : D) : Type 0 where
  pub size : g.extent new ≡ g.extent old
  pub device : g.goes_on old new
  pub tells : StillTells (g.content old) (g.content new)
  pub later : g.faults old ≤ g.faults new

-- the same, and it counted a fault if the call failed
pub record Lent {T E D : Type 0} (g : Ghosts D) (old new : D) (result : Result T E) : Type 0 where
  pub size : g.extent new ≡ g.extent old
  pub device : g.goes_on old new
  pub tells : StillTells (g.content old) (g.content new)
  pub cause : HasCause (g.faults old) (g.faults new) result

-- it was only read: its bytes, what a crash may have left and the time are as they were; its count of faults did not fall
pub record OnlyRead {D : Type 0} (g : Ghosts D) (old new : D) : Type 0 where
  pub size : g.extent new ≡ g.extent old
  pub device : g.goes_on old new
  pub later : g.faults old ≤ g.faults new
  pub stays : Stays (g.content old) (g.settled old) (g.since old) (g.content new) (g.settled new) (g.since new)
  pub clock : g.clock new ≡ g.clock old
  pub good : g.last_good new ≡ g.last_good old

-- ---- what is said of a memory's words, said of the memory

-- of what a read gives and of what is settled
abbrev pub At : {D : Type 0} {X : Type 1} → Ghosts D → (Option (List ℕ) → (ℕ → Bool) → X) → D → X
At g says d = says (g.content d) (g.settled d)

-- the same at two moments
abbrev pub Between : {D : Type 0} {X : Type 1} → Ghosts D → (Option (List ℕ) → (ℕ → Bool) → Option (List ℕ) → (ℕ → Bool) → X) → D → D → X
Between g says old new = says (g.content old) (g.settled old) (g.content new) (g.settled new)

-- a crash meanwhile leaves such an image
abbrev pub Meanwhile : {D : Type 0} → Ghosts D → D → D → (List ℕ → Type 0) → Type 0
Meanwhile g old new during = Elapses (g.clock old) (g.since old) (g.since new) during

-- a crash since then may have left this image
abbrev pub LeftSince : {D : Type 0} → Ghosts D → D → D → List ℕ → Type 0
LeftSince g old new image = g.since new (g.clock old) image

-- n writes and syncs that end where one fails
abbrev pub MakesCalls : {T E D : Type 0} → ℕ → Ghosts D → D → D → Result T E → Type 0
MakesCalls n g old new result = Makes n (g.clock old) (g.clock new) (g.last_good old) (g.last_good new) result

-- ---- of a memory on which nothing was pending, whatever its bytes were

-- nothing is pending again, and its bytes are what becomes of those
abbrev pub SettlesTo : {D : Type 0} → Ghosts D → (List ℕ → List ℕ) → D → D → Type 0
SettlesTo g becomes old new = (bytes : List ℕ) → At g IsQuiet old bytes → At g IsQuiet new (becomes bytes)

-- a crash after the call leaves such an image of them
abbrev pub LeavesAfter : {D : Type 0} → Ghosts D → (List ℕ → List ℕ → Type 0) → D → D → Type 0
LeavesAfter g leaves old new = (bytes image : List ℕ) → At g IsQuiet old bytes → At g MayLeave new image → leaves bytes image

-- a crash meanwhile leaves such an image of them
abbrev pub LeavesMeanwhile : {D : Type 0} → Ghosts D → (List ℕ → List ℕ → Type 0) → D → D → Type 0
LeavesMeanwhile g leaves old new = (bytes : List ℕ) → At g IsQuiet old bytes → Meanwhile g old new (leaves bytes)
