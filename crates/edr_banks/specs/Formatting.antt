-- What formatting leaves of an image, and what a crash inside it may leave.
use Rattle.std.specs.Prelude.{◌≡◌, ◌⊎◌, ℕ, List, replicate, Some, Result}
use Rattle.edr_device.specs.Device.{IsQuiet}
use Rattle.edr_device.specs.Lent.{At, LeftSince}
use Rattle.edr_device.specs.declared.device.Nvm.{Ghosts}
use Rattle.edr_image.specs.declared.Choice.{Choice}
use Rattle.edr_image.specs.declared.Header.{Header}
use Rattle.edr_image.specs.declared.BankView.TheVariants.{Void}
use Rattle.edr_image.specs.Image.{View, image_size, new_image, view_of}
use Rattle.edr_image.specs.Kept.{IsKept}
use Rattle.edr_banks.specs.declared.FormatFault.{FormatFault}
use Rattle.edr_banks.specs.Laying.{IsPartlyLaid, LaysImage, SettlesIn, StandsPast, over}
pub use Rattle.edr_banks.specs.Laying.{LacksMagic}

-- the image of a header with void banks, and past it what stood there
abbrev pub formatted_image : Header → List ℕ → List ℕ
formatted_image h bytes = over (image_size h.banks) (new_image h) bytes

-- what it says
abbrev pub new_view : Header → View
new_view h = record { store = record { header = h; banks = replicate h.banks Void }; count = 0 }

-- what stands past the image is as it was
abbrev pub SamePast : Header → List ℕ → List ℕ → Type 0
SamePast h bytes image = StandsPast (image_size h.banks) bytes image

-- the image is formatted: it says void banks and count 0
pub record IsNew (h : Header) (bytes image : List ℕ) : Type 0 where
  pub same : image ≡ formatted_image h bytes
  pub view : view_of image ≡ Some (new_view h)

-- the bytes are as they were, or the magic doesn't stand, or the image is formatted; and what stands past it is as it was
abbrev pub IsPartlyFormatted : Header → List ℕ → List ℕ → Type 0
IsPartlyFormatted h bytes image = IsPartlyLaid (image_size h.banks) (IsNew h bytes) bytes image

-- the header of a new image
abbrev pub new_header : ℕ → Choice → Header
new_header banks choice = record { banks = banks; choice = choice }

-- where the image was kept, so is each that a crash may have left since then, or it has no magic
abbrev pub LeavesKept : {D : Type 0} → Ghosts D → D → D → Type 0
LeavesKept g old new =
    (bytes image : List ℕ) → At g IsQuiet old bytes → IsKept bytes → LeftSince g old new image → IsKept image ⊎ LacksMagic image

-- a new image of this header is laid over the memory
abbrev pub LaysNew : {T D : Type 0} → Ghosts D → Header → D → D → Result T FormatFault → Type 0
LaysNew g h old new result = LaysImage g (image_size h.banks) (SettlesIn g (IsNew h) old new) (IsPartlyFormatted h) old new result
