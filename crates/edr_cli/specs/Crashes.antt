-- What a crash leaves, where nothing was pending at first.
use Rattle.std.specs.Prelude.{◌≡◌, ℕ, List, None}
use Rattle.edr_device.specs.declared.device.Nvm as device
use Rattle.edr_device.specs.Device.{IsQuiet, MayLeave}
use Rattle.edr_device.specs.Lent.{At}
use Rattle.edr_image.specs.Image.{not_magic}

-- the magic stands
abbrev pub HasMagic : List ℕ → Type 0
HasMagic bytes = not_magic bytes ≡ None

-- of the bytes at first and those that a crash at the end may leave, this is so
abbrev pub OfCrash : {D : Type 0} → device.Ghosts D → D → D → (List ℕ → List ℕ → Type 0) → Type 0
OfCrash d nvm nvm' says = (bytes image : List ℕ) → At d IsQuiet nvm bytes → At d MayLeave nvm' image → says bytes image

-- the bytes are left as they were
abbrev pub KeepsBytes : {D : Type 0} → device.Ghosts D → D → D → Type 0
KeepsBytes d nvm nvm' = OfCrash d nvm nvm' (λ bytes image. image ≡ bytes)

-- an image that is there is
abbrev pub KeepsImage : {D : Type 0} → device.Ghosts D → D → D → Type 0
KeepsImage d nvm nvm' = (bytes image : List ℕ) → At d IsQuiet nvm bytes → HasMagic bytes → At d MayLeave nvm' image → image ≡ bytes
