-- What a split core answers.
use Rattle.std.specs.Prelude.{◌≡◌, ℕ, ◌+◌, true, false, not, nat_eq, is_some, if◌then◌else◌, Option, Some, None, ◌++◌, map}
use Rattle.edr_definitions.specs.Commands.{issue_at}
use Rattle.edr_definitions.specs.Schedule.{Progress, Close, after_step}
use Rattle.edr_definitions.specs.Core.{commands_of}
use Rattle.edr_capture.specs.SensorPart.{SensorPart}
use Rattle.edr_core.specs.declared.candidate.Issued.{Issued}
use Rattle.edr_core.specs.declared.split.SplitStep.{SplitStep}
use Rattle.edr_core.specs.declared.split.SplitStep.TheVariants.{Waiting, Ask, Parts, Closed}
use Rattle.edr_core.specs.declared.split.SplitClosing.{SplitClosing}
use Rattle.edr_core.specs.declared.split.SplitClosing.TheVariants as closing
use Rattle.edr_core.specs.declared.ask.PartRefused.{PartRefused}
use Rattle.edr_core.specs.declared.ask.PartRefused.TheVariants as refused
use Rattle.edr_core.specs.Answers.{issues_put}
use Rattle.edr_core.specs.Parts.{PartSlots, commands_with, issues_with, part_in}
use Rattle.edr_core.specs.SplitHistory.{History, Answer, Waits, Asks, Lacks, Closes}

-- an answer without its commands
abbrev pub answer_of : SplitStep → Answer
answer_of (Waiting s) = Waits s
answer_of (Ask z) = Asks z
answer_of (Parts s) = Lacks s
answer_of (Closed t take lock crash) = Closes t

-- where an answer leads
abbrev pub after_split : History → SplitStep → History
after_split h (Waiting s) = h
after_split h (Ask z) = record h { asking = true }
after_split h (Parts s) = h
after_split h (Closed t take lock crash) = record h { past = after_step h.past Close; asking = false }

-- a closed tick is the next one, and carries exactly its commands of cycle n, each pre part made of the parts of its time zero
abbrev pub HasTheCommandsWith : PartSlots → ℕ → Progress → SplitStep → Type 0
HasTheCommandsWith slots n p (Waiting s) = Unit {0}
HasTheCommandsWith slots n p (Ask z) = Unit {0}
HasTheCommandsWith slots n p (Parts s) = Unit {0}
HasTheCommandsWith slots n p (Closed t take lock crash) =
    (t ≡ p.closed + 1) × (commands_with slots p.given n t ≡ commands_with slots p.given n p.closed ++ commands_of (record { take = take; lock = lock; done = crash }))

-- the same with their ticks
abbrev pub HasTheIssuesWith : PartSlots → ℕ → Progress → SplitStep → Type 0
HasTheIssuesWith slots n p (Waiting s) = Unit {0}
HasTheIssuesWith slots n p (Ask z) = Unit {0}
HasTheIssuesWith slots n p (Parts s) = Unit {0}
HasTheIssuesWith slots n p (Closed t take lock crash) =
    issues_with slots p.given n t ≡ issues_with slots p.given n p.closed ++ map (issue_at t) (commands_of (record { take = take; lock = lock; done = crash }))

-- an answer with what was put aside, as a step
abbrev pub split_step_of : SplitClosing → Issued → SplitStep
split_step_of (closing.Waiting s) i = Waiting s
split_step_of (closing.Ask z) i = Ask z
split_step_of (closing.Parts s) i = Parts s
split_step_of (closing.Closed t some) i = Closed t (issues_put some i).take (issues_put some i).lock (issues_put some i).done

-- nothing is put aside
abbrev pub IsSplitQuiet : SplitClosing → Type 0
IsSplitQuiet (closing.Waiting s) = Unit {0}
IsSplitQuiet (closing.Ask z) = Unit {0}
IsSplitQuiet (closing.Parts s) = Unit {0}
IsSplitQuiet (closing.Closed t some) = some ≡ false

-- why a part isn't taken, if it isn't: parts are asked for, it is of that time zero, and none of its sensor is in
abbrev pub part_refusal_of : SensorPart → History → Option PartRefused
part_refusal_of q h =
    let zero = h.past.closed + 1 in
    if not h.asking then Some refused.NotAsked
    else if not (nat_eq q.zero zero) then Some (refused.Zero zero)
    else if is_some (part_in h.parts q.sensor zero) then Some refused.Twice
    else None
