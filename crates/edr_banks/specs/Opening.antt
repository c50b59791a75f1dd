-- What an opening says of the image.
use Rattle.std.specs.Prelude.{◌≡◌, ◌+◌, ℕ, nat_lt, if◌then◌else◌, List, slice_index, slice_range, Option, Some, None, option_map}
use Rattle.std.specs.Option.{ForSome, option_or}
use Rattle.edr_image.specs.declared.BankView.{BankView}
use Rattle.edr_image.specs.declared.OpenFault.{OpenFault}
use Rattle.edr_image.specs.declared.OpenFault.TheVariants.{Short, Header, StoreFault, OutOfMemory}
use Rattle.edr_image.specs.declared.places.TheConstants.{BANKS, BANK_SIZE}
use Rattle.edr_image.specs.Image.{View, bank_view, header_refusal, image_refusal, image_size, place_of, view_of}
use Rattle.edr_banks.specs.Opened.{OpenedBanks}

-- the image is refused by what it says
abbrev pub IsRefusal : OpenFault → Type 0
IsRefusal (Short size needed) = Unit {0}
IsRefusal (Header h) = Unit {0}
IsRefusal StoreFault = ⊥
IsRefusal OutOfMemory = ⊥

-- where the device tells its bytes, a refusal of the image is the one that they deserve
abbrev pub RefusesRightly : Option (List ℕ) → OpenFault → Type 0
RefusesRightly content e = IsRefusal e → ForSome content (λ bytes. image_refusal bytes ≡ Some e)

-- where the device tells its bytes, they say this
abbrev pub TellsView : Option (List ℕ) → View → Type 0
TellsView content v = ForSome content (λ bytes. view_of bytes ≡ Some v)

-- what a bank of an image holds
abbrev pub bank_in : ℕ → List ℕ → BankView
bank_in bank bytes = bank_view (slice_range bytes (place_of bank) (place_of bank + BANK_SIZE))

-- what the image said when it was opened
abbrev pub view_when_opened : OpenedBanks → View
view_when_opened o = record { store = o.store; count = o.count }

-- why an image that has a front is refused, by its first bytes and its size
unfoldable pub refusal_by : List ℕ → ℕ → Option OpenFault
refusal_by first size =
    let needed = image_size (slice_index first BANKS) in
    option_or (option_map (λ h. Header h) (header_refusal first)) (if nat_lt size needed then Some (Short size needed) else None)
