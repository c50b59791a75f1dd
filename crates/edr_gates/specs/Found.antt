-- What an image says, and a device that tells it with nothing pending.
use Rattle.std.specs.Prelude.{◌≡◌, ℕ, Bool, Option, Some, List}
use Rattle.edr_device.specs.Device.{IsQuiet}
use Rattle.edr_image.specs.Banks.{Store}
use Rattle.edr_image.specs.Image.{View, view_of}

-- the image says these banks and this count
abbrev pub Says : List ℕ → Store → ℕ → Type 0
Says image v n = view_of image ≡ Some (record { store = v; count = n })

-- the device tells bytes that say these banks and this count, and nothing is pending
pub record IsFound (v : View) (content : Option (List ℕ)) (settled : ℕ → Bool) (bytes : List ℕ) : Type 0 where
  pub quiet : IsQuiet content settled bytes
  pub view_is : view_of bytes ≡ Some v

-- the same of whichever bytes it tells
pub record Holds (content : Option (List ℕ)) (settled : ℕ → Bool) (store : Store) (count : ℕ) : Type 0 where
  pub bytes : List ℕ
  pub found : IsFound (record { store = store; count = count }) content settled bytes
