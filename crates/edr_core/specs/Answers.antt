-- What a step of a core answers.
use Rattle.std.specs.Prelude.{◌≡◌, ℕ, ◌+◌, Bool, true, false, Option, Some, None, List, ◌++◌, map}
use Rattle.edr_items.specs.declared.Sensor.{Sensor}
use Rattle.edr_record.specs.declared.Command.{Command}
use Rattle.edr_definitions.specs.Commands.{issue_at, issues, commands}
use Rattle.edr_definitions.specs.Schedule.{Progress, Close, after_step}
use Rattle.edr_definitions.specs.Core.{commands_of}
use Rattle.edr_core.specs.declared.Step.{Step}
use Rattle.edr_core.specs.declared.Step.TheVariants.{Waiting, Closed}
use Rattle.edr_core.specs.declared.Closing.{Closing}
use Rattle.edr_core.specs.declared.Closing.TheVariants as closing
use Rattle.edr_core.specs.declared.candidate.Issued.{Issued}
use Rattle.edr_core.specs.Candidate.{no_issues}

-- the answer is a closed tick
abbrev pub IsClosed : Step → Type 0
IsClosed (Waiting s) = ⊥
IsClosed (Closed t take lock crash) = Unit {0}

-- the sensor that an answer waits for
abbrev pub awaited_sensor : Step → Option Sensor
awaited_sensor (Waiting s) = Some s
awaited_sensor (Closed t take lock crash) = None

-- where an answer leads
abbrev pub after_answer : Progress → Step → Progress
after_answer p (Waiting s) = p
after_answer p (Closed t take lock crash) = after_step p Close

-- a closed tick is the next one, and carries exactly its commands of cycle n
abbrev pub HasTheCommands : ℕ → Progress → Step → Type 0
HasTheCommands n p (Waiting s) = Unit {0}
HasTheCommands n p (Closed t take lock crash) =
    (t ≡ p.closed + 1) × (commands p.given n t ≡ commands p.given n p.closed ++ commands_of (record { take = take; lock = lock; done = crash }))

-- the same with their ticks
abbrev pub HasTheIssues : ℕ → Progress → Step → Type 0
HasTheIssues n p (Waiting s) = Unit {0}
HasTheIssues n p (Closed t take lock crash) =
    issues p.given n t ≡ issues p.given n p.closed ++ map (issue_at t) (commands_of (record { take = take; lock = lock; done = crash }))

-- what a closed tick issues of what was put aside
abbrev pub issues_put : Bool → Issued → Issued
issues_put false i = no_issues
issues_put true i = i

-- the commands of a closed tick, by what was put aside
abbrev pub commands_put : Bool → Issued → List Command
commands_put some i = commands_of (record { take = (issues_put some i).take; lock = (issues_put some i).lock; done = (issues_put some i).done })

-- an answer with what was put aside, as a step
abbrev pub step_of : Closing → Issued → Step
step_of (closing.Waiting s) i = Waiting s
step_of (closing.Closed t some) i = Closed t (issues_put some i).take (issues_put some i).lock (issues_put some i).done

-- nothing is put aside
abbrev pub PutsNothingAside : Closing → Type 0
PutsNothingAside (closing.Waiting s) = Unit {0}
PutsNothingAside (closing.Closed t some) = some ≡ false
