-- What a call of a core says, whatever the core was told.
use Rattle.std.specs.Prelude.{◌≡◌, ℕ, Some}
use Rattle.edr_items.specs.declared.Sensor.{Sensor}
use Rattle.edr_items.specs.declared.Item.{Item}
use Rattle.edr_definitions.specs.Schedule.{Progress}
use Rattle.edr_merge.specs.declared.MergeRefused.{MergeRefused}
use Rattle.edr_merge.specs.Answers.{give_refusal_of}
use Rattle.edr_core.specs.declared.split.SplitStep.{SplitStep}
use Rattle.edr_core.specs.Parts.{PartSlots, AreSlotsOf}
use Rattle.edr_core.specs.Contents.{CoreContents}
use Rattle.edr_core.specs.StandsFor.{CoreIsFor}
use Rattle.edr_core.specs.SplitContents.{SplitContents}
use Rattle.edr_core.specs.SplitHistory.{History}
use Rattle.edr_core.specs.SplitStandsFor.{SplitCoreStandsFor}
use Rattle.edr_core.specs.SplitAnswers.{HasTheCommandsWith, HasTheIssuesWith}

-- this is why the item is refused
abbrev pub IsWhyRefused : Sensor → Item → Progress → MergeRefused → Type 0
IsWhyRefused s x p e = give_refusal_of s x p ≡ Some e

-- whatever was given and closed, this follows it
abbrev pub CoreFollows : (Progress → Progress) → CoreContents → CoreContents → Type 0
CoreFollows next c d = (n : ℕ) (p : Progress) → CoreIsFor c n p → CoreIsFor d n (next p)

-- whatever the split core was told, this follows it
abbrev pub SplitFollows : (History → History) → SplitContents → SplitContents → Type 0
SplitFollows next c d = (h : History) → SplitCoreStandsFor c h → SplitCoreStandsFor d (next h)

-- the step has the commands of its tick, whatever slots the parts make that were taken
abbrev pub GivesTheCommands : SplitContents → SplitStep → Type 0
GivesTheCommands c step =
    (h : History) (slots : PartSlots) → SplitCoreStandsFor c h → AreSlotsOf h.parts slots → HasTheCommandsWith slots h.cycle h.past step

-- the same with their ticks
abbrev pub GivesTheIssues : SplitContents → SplitStep → Type 0
GivesTheIssues c step =
    (h : History) (slots : PartSlots) → SplitCoreStandsFor c h → AreSlotsOf h.parts slots → HasTheIssuesWith slots h.cycle h.past step
