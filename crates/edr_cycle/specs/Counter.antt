-- The count of ignition cycles, in two slots.
use Rattle.std.specs.Prelude.{◌≡◌, ◌⊎◌, ◌*◌, ◌≤◌, ◌<◌, ℕ, Bool, Some, List}
use Rattle.edr_device.specs.Pieces.{SameBut}
use Rattle.edr_image.specs.declared.places.TheConstants.{FIRST_SLOT, SLOT_SIZE}
use Rattle.edr_image.specs.Image.{View, is_open, older_slot, place_of_slot, view_of}

-- the older slot of these bytes, with its gate as it is, and a count that follows theirs
pub record IsNextSlot (slot : ℕ) (opened : Bool) (next : ℕ) (bytes : List ℕ) (v : View) : Type 0 where
  pub view_is : view_of bytes ≡ Some v
  pub slot_is : slot ≡ place_of_slot (older_slot bytes)
  pub gate_is : is_open bytes slot ≡ opened
  pub more : v.count < next

-- the image says the same with this count, and is the same but for the two slots
pub record SaysWith (count : ℕ) (bytes : List ℕ) (v : View) (image : List ℕ) : Type 0 where
  pub others : SameBut FIRST_SLOT (2 * SLOT_SIZE) bytes image
  pub view_is : view_of image ≡ Some (record v { count = count })

-- after a stop in call r of a start: the count is as before, or from call 5 on the next one
abbrev pub IsCountAfterStop : ℕ → ℕ → List ℕ → View → List ℕ → Type 0
IsCountAfterStop r next bytes v image = SaysWith v.count bytes v image ⊎ ((5 ≤ r) × SaysWith next bytes v image)
