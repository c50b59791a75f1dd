-- An image of version 1 that was read.
use Rattle.std.specs.Prelude.{◌≤◌, ◌<◌, ◌^◌, ℕ, List, length}
use Rattle.edr_image.specs.declared.Header.{Header}
use Rattle.edr_image.specs.declared.forms.TheConstants.{OLD_MOST_BANKS}
use Rattle.edr_image.specs.declared.places.TheConstants.{FEWEST_BANKS}
use Rattle.edr_image.specs.Image.{View, old_banks_of, old_image_size}
use Rattle.edr_migrate.specs.Migrated.{IsWhole}

-- the most bytes that an image of version 1 is read from, as many as a source may give
abbrev pub largest_old : ℕ
largest_old = 67_108_864

-- what its bytes say, with this header and this count
abbrev pub view_in : Header → ℕ → List ℕ → View
view_in h count old = record { store = record { header = h; banks = old_banks_of h.banks old }; count = count }

-- the bytes are those of an image with this header and this count, and none of its banks is damaged
pub record IsOld (h : Header) (count : ℕ) (old : List ℕ) : Type 0 where
  pub whole : IsWhole old (view_in h count old)
  pub from : FEWEST_BANKS ≤ h.banks
  pub to : h.banks ≤ OLD_MOST_BANKS
  pub fits : old_image_size h.banks ≤ length old
  pub small : count < 2 ^ 32
