-- Which events may stand in the banks after a run.
use Rattle.std.specs.Prelude.{◌≡◌, ◌<◌, ◌≤◌, ◌⊎◌, ℕ, Option, Some, List, slice_get, Contains}
use Rattle.edr_items.specs.SensorLists.{SensorLists, horizon_of}
use Rattle.edr_record.specs.Parts.{PrePart, CrashPart}
use Rattle.edr_record.specs.declared.Place.{Place}
use Rattle.edr_record.specs.declared.Record.{Record}
use Rattle.edr_definitions.specs.Signals.{signals_of}
use Rattle.edr_definitions.specs.Selection.{Event}
use Rattle.edr_definitions.specs.Parts.{pre_part, crash_part}
use Rattle.edr_definitions.specs.Commands.{placed_events}
use Rattle.edr_image.specs.declared.Ack.{Ack}
use Rattle.edr_image.specs.declared.BankView.{BankView}
use Rattle.edr_image.specs.declared.BankView.TheVariants as bank
use Rattle.edr_image.specs.Order.{IsOwn}
use Rattle.edr_spell.specs.declared.CycleInput.{CycleInput}
use Rattle.edr_image.specs.Reports.{Report, Ran}

-- the events of a cycle with these lists, each with its place
abbrev pub events_in : SensorLists → List (Event × Place)
events_in f = placed_events (signals_of f) (horizon_of f)

-- the pre part is that of an event of the cycle with the number n
abbrev pub IsPreOfCycle : SensorLists → ℕ → PrePart → Type 0
IsPreOfCycle f n pre = (e : Event × Place) × Contains (events_in f) e × (pre ≡ pre_part f n e.1 e.0.zero_tick)

-- both parts are those of one event of that cycle
abbrev pub ArePartsOf : SensorLists → ℕ → PrePart → CrashPart → Type 0
ArePartsOf f n pre crash =
    (e : Event × Place) × Contains (events_in f) e × (pre ≡ pre_part f n e.1 e.0.zero_tick) × (crash ≡ crash_part (signals_of f) e.0.zero_tick e.0.end_tick)

-- the record is that of an event of that cycle: it has its pre part, and its crash part or none
abbrev pub IsRecordOf : SensorLists → ℕ → Record → Type 0
IsRecordOf f n r = IsOwn (IsPreOfCycle f n) (ArePartsOf f n) r

-- the cycle c of the run had the number n
abbrev pub RanAs : List CycleInput → List Report → ℕ → CycleInput → Type 0
RanAs cs reports n c =
    (k : ℕ) × (slice_get cs k ≡ Some c) × (stop : Option ℕ) × (log : List Ack) × (slice_get reports k ≡ Some (Ran n stop log))

-- an event up to the count n stood in its bank at first; one above it is an event of the cycle that had its number
abbrev pub IsInWindow : List CycleInput → List BankView → ℕ → List Report → ℕ → Record → Type 0
IsInWindow cs first n reports i r =
    ((r.pre.key.cycle ≤ n) × (slice_get first i ≡ Some (bank.Event r)))
    ⊎ ((n < r.pre.key.cycle) × (c : CycleInput) × RanAs cs reports r.pre.key.cycle c × IsRecordOf c.feeds r.pre.key.cycle r)
