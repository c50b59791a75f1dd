-- What a run of cycles by threads comes to beside which a reader saw the banks.
use Rattle.std.specs.Prelude.{◌≡◌, ◌⊎◌, ◌<◌, ℕ, Bool, List, [], ◌∷◌, Option, Some, None, Result, map}
use Rattle.edr_device.specs.declared.device.Nvm.{Ghosts}
use Rattle.edr_gates.specs.Found.{Holds}
use Rattle.edr_image.specs.declared.log.CycleReport.{CycleReport}
use Rattle.edr_image.specs.Banks.{Store}
use Rattle.edr_image.specs.Reports.{report_of}
use Rattle.edr_spell.specs.declared.CycleInput.{CycleInput}
use Rattle.edr_run.specs.declared.live.LiveLine.{LiveLine}
use Rattle.edr_run.specs.Cycle.{End, IsCycle, Outcome, last_count}
use Rattle.edr_run.specs.Live.{IsLiveRun, live_lines_of}
use Rattle.edr_cycle.specs.declared.started.StartFault.{StartFault}
use Rattle.edr_replay.specs.declared.live.LiveCycle.{LiveCycle}
use Rattle.edr_replay.specs.declared.live.LiveRun.{LiveRun}
use Rattle.edr_replay.specs.Replayed.{ByAnswer, EndsCutShort, EndsSpent, IsTrulySpent, LeavesPart, LeavesReached, Leaving, LeftOrCounted, RunsTo, WantLeaves}

-- the line of a cycle, if it has one
abbrev pub lines_with : Option LiveLine → List LiveLine
lines_with None = []
lines_with (Some line) = line ∷ []

-- ---- one cycle

-- the cycle in place i of a run ran as its report tells, its live lines are this one or none, and the device holds what it came to
abbrev pub HasRunCycleLive : ℕ → CycleInput → ByAnswer LiveCycle
HasRunCycleLive i c content settled content' settled' x =
    (v : Store) (n : ℕ) → Holds content settled v n
    → (n < last_count) × (e : End) × IsCycle c v n e × (e.report ≡ report_of x.report)
    × (lines_with x.line ≡ live_lines_of i c.feeds v e.report) × Holds content' settled' e.store e.count

-- banks are left as they were, or counted, or those of an end of the cycle
abbrev pub LeftOrEnded : CycleInput → Leaving
LeftOrEnded c v n content settled =
    LeftOrCounted v n content settled ⊎ ((n < last_count) × (e : End) × IsCycle c v n e × Holds content settled e.store e.count)

-- the cycle in place i of a run, after which memory may be wanted too
abbrev pub RunsCycleLive : {D : Type 0} → Ghosts D → ℕ → CycleInput → D → D → Result LiveCycle StartFault → Type 0
RunsCycleLive g i c old new result =
    RunsTo g (HasRunCycleLive i c) IsTrulySpent (WantLeaves (LeftOrEnded c)) (LeavesPart c) old new result

-- ---- a run

-- the cycles ran as these reports tell, with these live lines, and the device holds what they came to
unfoldable pub HasRunLive : List CycleInput → Option (List ℕ) → (ℕ → Bool) → Option (List ℕ) → (ℕ → Bool) → List CycleReport → List LiveLine → Type 0
HasRunLive cs content settled content' settled' reports lines =
    (v : Store) (n : ℕ) → Holds content settled v n
    → (o : Outcome) × IsLiveRun 1 cs v n o lines × (o.reports ≡ map report_of reports) × Holds content' settled' o.store o.count

abbrev pub HaveRunLive : List CycleInput → ByAnswer LiveRun
HaveRunLive cs content settled content' settled' run = HasRunLive cs content settled content' settled' run.reports.items run.lines.items

-- what is left where it ends early is what is left of a run by threads
abbrev pub DrivesLive : {D : Type 0} → Ghosts D → List CycleInput → D → D → Result LiveRun StartFault → Type 0
DrivesLive g cs old new result = RunsTo g (HaveRunLive cs) (EndsSpent cs) (EndsCutShort cs) (LeavesReached cs) old new result
