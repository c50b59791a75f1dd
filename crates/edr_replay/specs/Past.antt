-- What stands past the image on the memory of the records stays as it was.
use Rattle.std.specs.Prelude.{ℕ, Bool, List, Option}
use Rattle.edr_device.specs.Device.{MayLeave}
use Rattle.edr_image.specs.Image.{View}
use Rattle.edr_gates.specs.Found.{IsFound}
use Rattle.edr_cycle.specs.Past.{KeepsPast}

-- where the device held this image and nothing was pending, each image that a crash may leave has what stood past it
abbrev pub LeavesPastOf : View → Option (List ℕ) → (ℕ → Bool) → Option (List ℕ) → (ℕ → Bool) → Type 0
LeavesPastOf v content settled content' settled' =
    (bytes image : List ℕ) → IsFound v content settled bytes → MayLeave content' settled' image → KeepsPast v.store.header bytes image

-- the same of whichever image it held
pub record LeavesPast (content : Option (List ℕ)) (settled : ℕ → Bool) (content' : Option (List ℕ)) (settled' : ℕ → Bool) : Type 0 where
  pub keeps : (v : View) → LeavesPastOf v content settled content' settled'
