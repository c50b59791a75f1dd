-- What the steps of a run say of each other. The clauses of the top call need none of this.
use Rattle.std.specs.Prelude.{◌≡◌, ◌⊎◌, ℕ, List, Some, IfSome}
use Rattle.edr_device.specs.Faults.{Rose}
use Rattle.edr_spell.specs.declared.CycleInput.{CycleInput}
use Rattle.edr_image.specs.Banks.{Store}
use Rattle.edr_image.specs.Reports.{Report}
use Rattle.edr_words.specs.declared.Form.{Form}
use Rattle.edr_gates.specs.Found.{Holds, Says}
use Rattle.edr_run.specs.Cycle.{Outcome, IsRun}
use Rattle.edr_replay.specs.Reached.{IsCutShort, RanFirst}
use Rattle.edr_replay.specs.Replayed.{IsShortOf, LeavesReached, RanToTheLast}
use Rattle.edr_cli.specs.declared.fault.Fault.TheVariants as fault
use Rattle.edr_cli.specs.declared.fault.Fault.{Fault}
use Rattle.edr_cli.specs.Migrations.{TookOver}
use Rattle.edr_cli.specs.Outside.{Memory}
use Rattle.edr_cli.specs.Reports.{report_in}

-- the text is the report of a run of these cycles over what the device held
abbrev pub Reports : Form → List CycleInput → Memory → Memory → List ℕ → Type 0
Reports form cycles old new text = (v : Store) (n : ℕ) → Holds old.content old.settled v n
    → (o : Outcome) × IsRun cycles v n o × Holds new.content new.settled o.store o.count × (text ≡ report_in form o.reports o.store o.count)

-- the device held no banks and count
abbrev pub HeldNone : Memory → Type 0
HeldNone old = (v : Store) (n : ℕ) → ¬ Holds old.content old.settled v n

-- why there is no report of a run of these cycles
abbrev pub IsRunCause : List CycleInput → Memory → Memory → Fault → Type 0
IsRunCause cycles old new fault.Store = Rose old.faults new.faults × LeavesReached cycles old.content old.settled new.content new.settled
IsRunCause cycles old new (fault.Short size needed) = HeldNone old × IsShortOf old.size size needed
IsRunCause cycles old new (fault.Header h) = HeldNone old
IsRunCause cycles old new fault.Spent = (v : Store) (n : ℕ) → Holds old.content old.settled v n
    → (o : Outcome) × RanToTheLast cycles v n o × Holds new.content new.settled o.store o.count
IsRunCause cycles old new fault.OutOfMemory = (v : Store) (n : ℕ) → Holds old.content old.settled v n
    → (p : ℕ) × (o : Outcome) × RanFirst cycles v n p o × Holds new.content new.settled o.store o.count
IsRunCause cycles old new other = ⊥

-- the text is the report of these cycles, and of the banks and the count that the device held
abbrev pub ReportsHeld : Form → List Report → Memory → List ℕ → Type 0
ReportsHeld form reports old text =
    (v : Store) × (n : ℕ) × ((image : List ℕ) → old.content ≡ Some image → Says image v n) × (text ≡ report_in form reports v n)

-- an old image that was given was taken over
abbrev pub IsTakenOver : List ℕ → Memory → Memory → List ℕ → Type 0
IsTakenOver image old new text = IfSome old.content (λ bytes. TookOver image bytes new text)

-- the device holds what some first cycles came to, or these and the start of the next one
abbrev pub HoldsCutShort : List CycleInput → Memory → Memory → Type 0
HoldsCutShort cycles old new = (v : Store) (n : ℕ) → Holds old.content old.settled v n
    → (w : Store) × (m : ℕ) × IsCutShort cycles v n w m × Holds new.content new.settled w m

-- why there is no report of a run of these cycles by threads
abbrev pub IsDrivenCause : List CycleInput → Memory → Memory → Fault → Type 0
IsDrivenCause cycles old new f = IsRunCause cycles old new f ⊎ ((f ≡ fault.OutOfMemory) × HoldsCutShort cycles old new)
