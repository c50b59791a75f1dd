-- What the ends know of the shown commands.
use Rattle.std.specs.Prelude.{◌≡◌, ℕ, List, [], ◌∷◌, Option, Some, None, ⊤}
use mathlib.Core.Option.{some}
use mathlib.Core.List.{IsPrefix}
use lib.ListN.{get_elem?}
use Rattle.edr_live.specs.declared.shown.LiveView.{LiveView}
use Rattle.edr_live.specs.declared.shown.ShownCommand.{ShownCommand}
use Rattle.edr_live.specs.declared.copy.LiveCopy.{LiveCopy}
use Rattle.edr_live.specs.declared.knowledge.Knowledge.{Knowledge}
use Rattle.edr_live.specs.Copies.{commands_of_copy}

-- the list begins with each of these
abbrev pub BeginsWithAll : List ShownCommand → List (List ShownCommand) → Type 0
BeginsWithAll xs [] = ⊤
BeginsWithAll xs (l ∷ ls) = IsPrefix l xs × BeginsWithAll xs ls

-- the banks at opening are these, if they are known
abbrev pub IsOpening : LiveView → Option LiveView → Type 0
IsOpening v None = ⊤
IsOpening v (Some o) = v ≡ o

-- all that is known applies to this copy
pub record IsKnownOf (x : LiveCopy) (v : Knowledge) : Type 0 where
  pub opening : IsOpening x.opening.value v.opening
  pub lists : BeginsWithAll (commands_of_copy x) v.lists

-- what each end knows applies to the copy that is shown
abbrev pub KeepsShown : LiveCopy → List Knowledge → Type 0
KeepsShown x views = (seat : ℕ) (v : Knowledge) → get_elem? views seat ≡ some v → IsKnownOf x v

-- an end that knows nothing
abbrev pub newcomer : Knowledge
newcomer = record { opening = None; lists = [] }

-- what a writer knows that has shown just this
abbrev pub all_of : LiveCopy → Knowledge
all_of x = record { opening = Some x.opening.value; lists = commands_of_copy x ∷ [] }

-- a reader that looks finds a copy to which all applies that it knew, and it knows that copy's commands too
abbrev pub Learns : Knowledge → LiveCopy → LiveCopy → Knowledge → Type 0
Learns v x y w = IsKnownOf y v × (w ≡ record { opening = Some y.opening.value; lists = commands_of_copy y ∷ v.lists })

-- a writer that shows knows what it has shown
abbrev pub KnowsAll : Knowledge → LiveCopy → LiveCopy → Knowledge → Type 0
KnowsAll v x y w = w ≡ all_of y
