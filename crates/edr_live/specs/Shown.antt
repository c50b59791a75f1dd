-- The banks after shown commands.
use Rattle.std.specs.Prelude.{ℕ, zero, suc, List, [], ◌∷◌, fold, length}
use Rattle.edr_image.specs.declared.BankView.{BankView}
use Rattle.edr_image.specs.declared.BankView.TheVariants.{Void}
use Rattle.edr_image.specs.Banks.{with_bank}
use Rattle.edr_live.specs.declared.shown.LiveView.{LiveView}
use Rattle.edr_live.specs.declared.shown.ShownCommand.{ShownCommand}
use Rattle.edr_live.specs.declared.shown.ShownCommand.TheVariants.{Put, Nothing}

-- the views after a shown command: one bank's new view is put, or none
abbrev pub after_shown : List BankView → ShownCommand → List BankView
after_shown views (Put m view) = with_bank views m view
after_shown views Nothing = views

-- the banks v after the shown commands xs, with how many these are
abbrev pub shown_view : LiveView → List ShownCommand → LiveView
shown_view v xs = record v { applied = length xs; views = fold after_shown v.views xs }

-- the views of these banks, and void ones until they are so many
abbrev pub padded : ℕ → List BankView → List BankView
padded zero banks = []
padded (suc n) [] = Void ∷ padded n []
padded (suc n) (b ∷ banks) = b ∷ padded n banks
