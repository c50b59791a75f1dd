-- What a laying leaves of an image, and what a crash inside it may leave.
use Rattle.std.specs.Prelude.{◌≡◌, ◌≢◌, ◌⊎◌, ◌≤◌, ◌<◌, ℕ, Bool, true, List, ◌++◌, length, drop, slice_index, Option, Some, None, IsSome, Result, Err, IfErr, OnOk}
use Rattle.edr_device.specs.Device.{IsQuiet}
use Rattle.edr_device.specs.Faults.{Rose}
use Rattle.edr_device.specs.Lent.{At, GoesOn, LeavesMeanwhile, LeftSince, Meanwhile, OnlyRead, SettlesTo}
use Rattle.edr_device.specs.Pieces.{SameBut}
use Rattle.edr_device.specs.declared.device.Nvm as device
use Rattle.edr_image.specs.Image.{image_size, not_magic}
use Rattle.edr_image.specs.declared.places.TheConstants.{MOST_BANKS}
use Rattle.edr_banks.specs.declared.FormatFault.{FormatFault}
use Rattle.edr_banks.specs.declared.FormatFault.TheVariants.{Short, Formatted, StoreFault}
use Rattle.edr_banks.specs.declared.image.Image as laid

-- ---- what is left of it

-- an image of this many bytes, and past it what stood there
abbrev pub over : ℕ → List ℕ → List ℕ → List ℕ
over full target bytes = target ++ drop full bytes

abbrev pub IsLaidOver : ℕ → List ℕ → List ℕ → List ℕ → Type 0
IsLaidOver full target bytes image = image ≡ over full target bytes

-- the magic doesn't stand
abbrev pub LacksMagic : List ℕ → Type 0
LacksMagic image = IsSome (not_magic image)

-- what stands past this many bytes is as it was
abbrev pub StandsPast : ℕ → List ℕ → List ℕ → Type 0
StandsPast full bytes image = (i : ℕ) → full ≤ i → i < length bytes → slice_index image i ≡ slice_index bytes i

-- the bytes are as they were, or the magic doesn't stand, or the image is a new one; and what stands past it is as it was
pub record IsPartlyLaid (full : ℕ) (IsNew : List ℕ → Type 0) (bytes image : List ℕ) : Type 0 where
  pub size : length image ≡ length bytes
  pub past : StandsPast full bytes image
  pub says : (image ≡ bytes) ⊎ (LacksMagic image ⊎ IsNew image)

-- the same of the image that is laid over the bytes
abbrev pub IsPartlyOver : ℕ → List ℕ → List ℕ → List ℕ → Type 0
IsPartlyOver full target bytes image = IsPartlyLaid full (IsLaidOver full target bytes) bytes image

-- ---- on the way

-- the first byte of the magic
abbrev pub first_magic : ℕ
first_magic = 0x45

-- so many bytes, the first of which is that of the magic
pub record IsImageOf (full : ℕ) (target : List ℕ) : Type 0 where
  pub some : 0 < full
  pub size : length target ≡ full
  pub marked : slice_index target 0 ≡ first_magic

-- nothing is pending, and byte 0 isn't that of the magic
abbrev pub IsBare : Option (List ℕ) → (ℕ → Bool) → List ℕ → Type 0
IsBare content settled bytes = IsQuiet content settled bytes × (slice_index bytes 0 ≢ first_magic)

-- the bytes are as they were, or only byte 0 is another one, and not that of the magic
abbrev pub IsUnmarking : List ℕ → List ℕ → Type 0
IsUnmarking bytes image = (image ≡ bytes) ⊎ (SameBut 0 1 bytes image × (slice_index image 0 ≢ first_magic))

-- byte 0 isn't that of the magic, and what stands past the image is as it was
pub record IsUnmarked (full : ℕ) (bytes image : List ℕ) : Type 0 where
  pub size : length image ≡ length bytes
  pub first : slice_index image 0 ≢ first_magic
  pub past : StandsPast full bytes image

-- the bytes of the image from 1 to n stand, perhaps not settled
pub record IsLaid (full : ℕ) (target : List ℕ) (n : ℕ) (bytes now : List ℕ) (settled : ℕ → Bool) : Type 0 where
  pub size : length now ≡ length bytes
  pub first : (slice_index now 0 ≢ first_magic) × (settled 0 ≡ true)
  pub laid : (i : ℕ) → 1 ≤ i → i < n → slice_index now i ≡ slice_index target i
  pub past : (i : ℕ) → full ≤ i → i < length bytes → (slice_index now i ≡ slice_index bytes i) × (settled i ≡ true)

abbrev pub Laid : ℕ → List ℕ → ℕ → List ℕ → Option (List ℕ) → (ℕ → Bool) → Type 0
Laid full target n bytes None settled = ⊥
Laid full target n bytes (Some now) settled = IsLaid full target n bytes now settled

-- all of it stands but byte 0, which isn't that of the magic
pub record IsFilled (full : ℕ) (target bytes now : List ℕ) : Type 0 where
  pub same : SameBut 0 1 (over full target bytes) now
  pub first : slice_index now 0 ≢ first_magic

-- ---- of an image by its words

-- how many bytes it has
abbrev pub full_size : {I : Type 0} → laid.Ghosts I → I → ℕ
full_size g image = image_size (g.bank_count image)

-- it can tell its bytes, which are those of so many banks, over a device with so much room
pub record HasPlace {I : Type 0} (g : laid.Ghosts I) (image : I) (extent : ℕ) : Type 0 where
  pub told : g.is_told image
  pub whole : IsImageOf (full_size g image) (g.bytes image)
  pub few : g.bank_count image ≤ MOST_BANKS
  pub room : full_size g image ≤ extent

-- all of its bytes stand but the first, perhaps not settled
abbrev pub AllLaid : {I : Type 0} → laid.Ghosts I → I → List ℕ → Option (List ℕ) → (ℕ → Bool) → Type 0
AllLaid g image bytes content settled = Laid (full_size g image) (g.bytes image) (full_size g image) bytes content settled

-- the same, and nothing is pending
abbrev pub AllFilled : {I : Type 0} → laid.Ghosts I → I → List ℕ → Option (List ℕ) → (ℕ → Bool) → Type 0
AllFilled g image bytes content settled =
    (now : List ℕ) × IsQuiet content settled now × IsFilled (full_size g image) (g.bytes image) bytes now

-- what becomes of the bytes
abbrev pub laid_over : {I : Type 0} → laid.Ghosts I → I → List ℕ → List ℕ
laid_over g image bytes = over (full_size g image) (g.bytes image) bytes

-- these stand, and nothing is pending
abbrev pub AllOver : {I : Type 0} → laid.Ghosts I → I → List ℕ → Option (List ℕ) → (ℕ → Bool) → Type 0
AllOver g image bytes content settled = IsQuiet content settled (laid_over g image bytes)

-- what a crash inside it may leave of them
abbrev pub PartlyOver : {I : Type 0} → laid.Ghosts I → I → List ℕ → List ℕ → Type 0
PartlyOver g image bytes left = IsPartlyOver (full_size g image) (g.bytes image) bytes left

-- ---- of a memory over which it is laid

-- where nothing was pending and byte 0 wasn't that of the magic, this is so of its bytes
abbrev pub FromBare : {D : Type 0} → device.Ghosts D → (List ℕ → Option (List ℕ) → (ℕ → Bool) → Type 0) → D → D → Type 0
FromBare g becomes old new = (bytes : List ℕ) → At g IsBare old bytes → At g (becomes bytes) new

-- and a crash meanwhile leaves such an image of them
abbrev pub BareMeanwhile : {D : Type 0} → device.Ghosts D → (List ℕ → List ℕ → Type 0) → D → D → Type 0
BareMeanwhile g leaves old new = (bytes : List ℕ) → At g IsBare old bytes → Meanwhile g old new (leaves bytes)

-- the same where nothing was pending and this was byte 0
abbrev pub FromFirst : {D : Type 0} → device.Ghosts D → ℕ → (List ℕ → Option (List ℕ) → (ℕ → Bool) → Type 0) → D → D → Type 0
FromFirst g first becomes old new =
    (bytes : List ℕ) → At g IsQuiet old bytes → slice_index bytes 0 ≡ first → At g (becomes bytes) new

abbrev pub FirstMeanwhile : {D : Type 0} → device.Ghosts D → ℕ → (List ℕ → List ℕ → Type 0) → D → D → Type 0
FirstMeanwhile g first leaves old new =
    (bytes : List ℕ) → At g IsQuiet old bytes → slice_index bytes 0 ≡ first → Meanwhile g old new (leaves bytes)

-- nothing is pending, and byte 0 alone is another one, which isn't that of the magic
abbrev pub IsBared : List ℕ → Option (List ℕ) → (ℕ → Bool) → Type 0
IsBared bytes content settled = (now : List ℕ) × IsBare content settled now × SameBut 0 1 bytes now

-- nothing is pending again, and its bytes are such ones of those
abbrev pub SettlesIn : {D : Type 0} → device.Ghosts D → (List ℕ → List ℕ → Type 0) → D → D → Type 0
SettlesIn g becomes old new =
    (bytes : List ℕ) → At g IsQuiet old bytes → (now : List ℕ) × At g IsQuiet new now × becomes bytes now

-- where nothing was pending, each image that a crash may have left since then is such a one of its bytes
abbrev pub LeavesSince : {D : Type 0} → device.Ghosts D → (List ℕ → List ℕ → Type 0) → D → D → Type 0
LeavesSince g leaves old new =
    (bytes left : List ℕ) → At g IsQuiet old bytes → LeftSince g old new left → leaves bytes left

-- ---- why nothing is laid

-- a device is too short exactly by these numbers
abbrev pub IsShortBy : ℕ → ℕ → FormatFault → Type 0
IsShortBy extent full e =
    (size needed : ℕ) → e ≡ Short size needed → (size ≡ extent) × (needed ≡ full) × (size < needed)

-- the magic stands, on a device that is long enough
abbrev pub HasRoomAndMagic : Option (List ℕ) → ℕ → ℕ → FormatFault → Type 0
HasRoomAndMagic content extent full e =
    e ≡ Formatted → (full ≤ extent) × ((bytes : List ℕ) → content ≡ Some bytes → not_magic bytes ≡ None)

-- ---- the outcome of laying an image, in one record

-- Whatever comes of it, the memory goes on. Each refusal has its cause and changes nothing; nor does a fault where the magic stands.
-- At Ok this is done; and a crash meanwhile or later leaves such an image of the bytes.
pub record LaysImage {T D : Type 0} (g : device.Ghosts D) (full : ℕ) (Done : Type 0) (leaves : List ℕ → List ℕ → Type 0) (old new : D) (result : Result T FormatFault) : Type 0 where
  pub lent : GoesOn g old new
  pub later : g.clock old ≤ g.clock new
  pub short : g.extent old < full → result ≡ Err (Short (g.extent old) full)
  pub sizes : IfErr result (IsShortBy (g.extent old) full)
  pub formatted : IfErr result (HasRoomAndMagic (g.content old) (g.extent old) full)
  pub fault : IfErr result (λ e. e ≡ StoreFault → (full ≤ g.extent old) × Rose (g.faults old) (g.faults new))
  pub not_formatted : OnOk result ((bytes : List ℕ) → g.content old ≡ Some bytes → LacksMagic bytes)
  pub room : OnOk result (full ≤ g.extent old)
  pub refused : IfErr result (λ e. e ≢ StoreFault → OnlyRead g old new)
  pub magic_stays : (bytes : List ℕ) → g.content old ≡ Some bytes → not_magic bytes ≡ None → OnlyRead g old new
  pub done : OnOk result Done
  pub any_moment : LeavesMeanwhile g leaves old new
  pub each : LeavesSince g leaves old new

-- the bytes of an image stand over those of the memory
abbrev pub Lays : {T I D : Type 0} → device.Ghosts D → laid.Ghosts I → I → D → D → Result T FormatFault → Type 0
Lays g i image old new result = LaysImage g (full_size i image) (SettlesTo g (laid_over i image) old new) (PartlyOver i image) old new result
