-- Runs with the live line of each cycle that ran.
use Rattle.std.specs.Prelude.{◌≡◌, ℕ, ◌+◌, ◌<◌, List, [], ◌∷◌, ◌++◌, count_by, length}
use Rattle.edr_items.specs.SensorLists.{SensorLists}
use Rattle.edr_image.specs.Banks.{Store, holds_event}
use Rattle.edr_image.specs.Reports.{Report, StartStopped, Ran}
use Rattle.edr_image.specs.Steps.{after}
use Rattle.edr_spell.specs.declared.CycleInput.{CycleInput}
use Rattle.edr_run.specs.declared.live.LiveLine.{LiveLine}
use Rattle.edr_run.specs.Cycle.{End, IsCycle, IsRun, Outcome, last_count}
use Rattle.edr_run.specs.Schedule.{steps_of_first}

-- how many banks hold an event after the first p commands of the cycle with the number n, from the banks v on
abbrev pub events_after : SensorLists → ℕ → Store → ℕ → ℕ
events_after f n v p = count_by holds_event (after v (steps_of_first f n v p)).banks

-- what is told of the cycle in place i of a run, whose report is this: of one that ran the commands of its log, and the
-- events after these; of one whose start was stopped nothing
abbrev pub live_lines_of : ℕ → SensorLists → Store → Report → List LiveLine
live_lines_of i f v (StartStopped j) = []
live_lines_of i f v (Ran n stop log) = record { cycle = i; commands = length log; events = events_after f n v (length log) } ∷ []

-- a run over these cycles, of which the first stands in place i, may come to this outcome, and these are its live lines
abbrev pub IsLiveRun : ℕ → List CycleInput → Store → ℕ → Outcome → List LiveLine → Type 0
IsLiveRun i [] v n o lines = IsRun [] v n o × (lines ≡ [])
IsLiveRun i (c ∷ cs) v n o lines =
    (n < last_count) × (e : End) × IsCycle c v n e × (rest : List Report) × (more : List LiveLine)
    × IsLiveRun (i + 1) cs e.store e.count (record o { reports = rest }) more
    × (o.reports ≡ e.report ∷ rest) × (lines ≡ live_lines_of i c.feeds v e.report ++ more)

-- each cycle of the reports that ran, with its place and the length of its log
abbrev pub logs_told : ℕ → List Report → List (ℕ × ℕ)
logs_told i [] = []
logs_told i (StartStopped j ∷ reports) = logs_told (i + 1) reports
logs_told i (Ran n stop log ∷ reports) = (i, length log) ∷ logs_told (i + 1) reports
