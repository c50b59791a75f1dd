-- What is shown after small lists of commands.
use Rattle.std.proofs.Common.{◌≡◌, [], ◌∷◌, ap, arith, length, refl}
use Rattle.edr_image.specs.declared.Applied.TheVariants.{Kept, NotKept}
use Rattle.edr_image.specs.declared.BankView.{BankView}
use Rattle.edr_image.specs.declared.BankView.TheVariants.{Void}
use Rattle.edr_live.specs.declared.shown.LiveView.{LiveView}
use Rattle.edr_live.specs.declared.shown.ShownCommand.TheVariants.{Put, Nothing}
use Rattle.edr_live.specs.Shown.{padded, shown_view}
use Rattle.edr_live.specs.Writing.{bank_named, shown_for}
use Rattle.edr_live.specs.Rule.{BeginsWithAll}

-- two void banks
abbrev pub two : LiveView
two = record { applied = 0; banks = 2; views = padded 16 (Void ∷ Void ∷ []) }

module _ (e f : BankView) where
  -- the second of two commands keeps nothing: it counts
  pub nothing_counts : shown_view two (Put 1 e ∷ Nothing ∷ []) ≡ record { applied = 2; banks = 2; views = e ∷ Void ∷ padded 14 [] }
  nothing_counts = refl

  -- of two views of one bank the later one stands
  pub later_stands : shown_view two (Put 2 e ∷ Put 1 f ∷ Put 2 f ∷ []) ≡ record { applied = 3; banks = 2; views = f ∷ f ∷ padded 14 [] }
  later_stands = refl

  -- what is shown of an answer is the view of the bank that it names
  pub the_named_bank : shown_for (bank_named (Kept 2)) (e ∷ f ∷ []) ≡ Put 2 f
  the_named_bank = refl

  pub none_named : shown_for (bank_named NotKept) (e ∷ f ∷ []) ≡ Nothing
  none_named = refl

  -- a list that goes back begins with less than was known
  pub goes_back : ¬ (BeginsWithAll (Put 1 e ∷ []) ((Put 1 e ∷ Nothing ∷ []) ∷ []))
  goes_back h = let n = ap length h.0.1 in absurd (omega (arith, n))
