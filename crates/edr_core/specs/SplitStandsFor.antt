-- What a `SplitCore` stands for: what it was told of its cycle.
use Rattle.std.specs.Prelude.{◌≡◌, ℕ, ◌+◌, ◌≤◌, true, false, if◌then◌else◌, Option, Some, None, is_some, List, All}
use Rattle.edr_items.specs.declared.TheConstants.{LONGEST_GAP}
use Rattle.edr_items.specs.declared.Sensor.{Sensor}
use Rattle.edr_items.specs.Item.{mark_of}
use Rattle.edr_items.specs.PerSlowSensor.{EachSlow, slow_at}
use Rattle.edr_items.specs.SensorLists.{items_of}
use Rattle.edr_record.specs.Parts.{PrePart}
use Rattle.edr_definitions.specs.Signals.{signals_of}
use Rattle.edr_definitions.specs.Search.{Search}
use Rattle.edr_definitions.specs.Change.{tick_change}
use Rattle.edr_definitions.specs.Schedule.{Progress, Close, after_step}
use Rattle.edr_definitions.specs.OpenCrash.{OpenCrash}
use Rattle.edr_definitions.specs.Core.{CoreState, is_open, WholeCoreStandsFor}
use Rattle.edr_capture.specs.SensorPart.{SensorPart}
use Rattle.edr_merge.specs.StandsFor.{MergeStandsFor}
use Rattle.edr_detect.specs.Stages.{told_of}
use Rattle.edr_detect.specs.Detected.{DetectStandsFor}
use Rattle.edr_core.specs.declared.candidate.Candidate.{Candidate}
use Rattle.edr_core.specs.declared.ask.OpenAsk.{OpenAsk}
use Rattle.edr_core.specs.Ask.{TakenParts}
use Rattle.edr_core.specs.Rows.{RowIs, rows_of}
use Rattle.edr_core.specs.Parts.{PartSlots, AreSlotsOf, with_parts, part_in}
use Rattle.edr_core.specs.SplitHistory.{History}
use Rattle.edr_core.specs.SplitContents.{SplitContents}

-- ---- the open candidate

-- q is the pre part p with the slots that were taken
pub record IsMadeOf (parts : List SensorPart) (p q : PrePart) : Type 0 where
  pub key_is : q.key ≡ p.key
  pub place_is : q.place ≡ p.place
  pub made : (slots : PartSlots) → AreSlotsOf parts slots → q ≡ with_parts slots p

-- an open candidate is what is kept of one, but for the slots of its pre part
abbrev pub HoldsCandidateWith : List SensorPart → Option Candidate → CoreState → OpenCrash → Type 0
HoldsCandidateWith parts None k crash = Unit {0}
HoldsCandidateWith parts (Some o) k crash = IsMadeOf parts k.frozen o.pre × (o.end ≡ k.ended) × (o.crash ≡ crash)

-- ---- the open ask

-- the parts of the time zero z are those that were taken
pub record PartsAre (ps : TakenParts) (taken : List SensorPart) (z : ℕ) : Type 0 where
  pub each : EachSlow (λ s. slow_at s ps ≡ part_in taken s z)

-- the next tick is a time zero, and this is what was given of it, what stands there, and its parts as far as they were taken
pub record AskIs (a : OpenAsk) (h : History) : Type 0 where
  pub asking : h.asking ≡ true
  pub row : RowIs (signals_of h.past.given) (h.past.closed + 1) a.row
  pub change : told_of a.change ≡ tick_change (signals_of h.past.given) (h.past.closed + 1)
  pub zero : a.change.zero ≡ true
  pub parts : PartsAre a.parts h.parts (h.past.closed + 1)

-- an ask is open where parts are asked for
abbrev pub HoldsAsk : Option OpenAsk → History → Type 0
HoldsAsk None h = h.asking ≡ false
HoldsAsk (Some a) h = AskIs a h

-- ---- the whole of it

-- how far the merge has come: the tick of an open ask is merged
abbrev pub merge_progress : History → Progress
merge_progress h = if h.asking then after_step h.past Close else h.past

-- the split core was told this
pub record SplitCoreStandsFor (c : SplitContents) (h : History) : Type 0 where
  pub cycle_is : c.cycle ≡ h.cycle
  pub cycle_from : 1 ≤ h.cycle
  pub cycle_to : h.cycle ≤ 4_294_967_295
  pub closed_is : c.closed ≡ h.past.closed
  pub near : (s : Sensor) → mark_of (items_of s h.past.given) ≤ h.past.closed + LONGEST_GAP
  pub merge_is : MergeStandsFor c.merge (merge_progress h)
  pub detect_is : DetectStandsFor c.detect (rows_of (signals_of h.past.given) (merge_progress h).closed)
  pub search : Search
  pub kept : CoreState
  pub crash : OpenCrash
  pub whole_is : WholeCoreStandsFor h.past.given h.cycle h.past.closed search kept crash
  pub link_is : c.link ≡ kept.linked
  pub open_is : is_some c.candidate ≡ is_open search.phase
  pub candidate_is : HoldsCandidateWith h.parts c.candidate kept crash
  pub ask_is : HoldsAsk c.ask h
  pub early : All (λ q. q.zero ≤ (merge_progress h).closed) h.parts
