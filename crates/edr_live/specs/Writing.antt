-- What a writer shows of a command.
use Rattle.std.specs.Prelude.{◌≡◌, ◌≤◌, ℕ, List, Option, Some, None, ⊤}
use Rattle.edr_image.specs.declared.Applied.{Applied}
use Rattle.edr_image.specs.declared.Applied.TheVariants.{Kept, Locked, Done, NotKept}
use Rattle.edr_image.specs.declared.BankView.{BankView}
use Rattle.edr_image.specs.Banks.{bank_at}
use Rattle.edr_banks.specs.Opened.{OpenedBanks}
use Rattle.edr_live.specs.declared.shown.LiveView.{LiveView}
use Rattle.edr_live.specs.declared.shown.ShownCommand.{ShownCommand}
use Rattle.edr_live.specs.declared.shown.ShownCommand.TheVariants.{Put, Nothing}
use Rattle.edr_live.specs.Shown.{after_shown, padded}

-- the bank that the answer of a command names
abbrev pub bank_named : Applied → Option ℕ
bank_named (Kept m) = Some m
bank_named (Locked m) = Some m
bank_named (Done m) = Some m
bank_named NotKept = None

-- the bank that is named, if one is, is one of so many
abbrev pub IsOneOf : ℕ → Option ℕ → Type 0
IsOneOf banks None = ⊤
IsOneOf banks (Some m) = (1 ≤ m) × (m ≤ banks)

-- what is shown of a command: the view that these banks have of the bank that its answer names, or none
abbrev pub shown_for : Option ℕ → List BankView → ShownCommand
shown_for None banks = Nothing
shown_for (Some m) banks = Put m (bank_at banks m)

-- what is shown of opened banks: their views, and void ones past their number
abbrev pub first_view : OpenedBanks → LiveView
first_view o = record { applied = 0; banks = o.store.header.banks; views = padded 16 o.store.banks }

-- with the view of the bank that is named, these views are those of the banks: they differ by that bank alone
abbrev pub DifferBy : Option ℕ → LiveView → OpenedBanks → Type 0
DifferBy named v o = after_shown v.views (shown_for named o.store.banks) ≡ padded 16 o.store.banks
