-- What stands past an image, on a memory that is longer.
use Rattle.std.specs.Prelude.{◌≡◌, ℕ, List, length}
use Rattle.edr_image.specs.declared.Header.{Header}
use Rattle.edr_banks.specs.Formatting.{SamePast}

-- the image is as long as the bytes, and what stands past the banks of this header is as it was
pub record KeepsPast (h : Header) (bytes image : List ℕ) : Type 0 where
  pub size : length image ≡ length bytes
  pub past : SamePast h bytes image
