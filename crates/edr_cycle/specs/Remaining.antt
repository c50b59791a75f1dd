-- A cycle of which a core was told some moments of the slow sensors, and ticks were closed: what is left of it.
use Rattle.std.specs.Prelude.{◌≡◌, ◌+◌, ◌<◌, ◌≤◌, ◌++◌, ℕ, true, List, ◌∷◌, length, map, IsSome}
use Rattle.edr_items.specs.declared.TheConstants.{LONGEST_GAP}
use Rattle.edr_items.specs.declared.Sensor.{Sensor}
use Rattle.edr_items.specs.declared.Item.{Item}
use Rattle.edr_items.specs.Item.{mark_of}
use Rattle.edr_items.specs.Sensor.{IsSlow}
use Rattle.edr_items.specs.PerSensor.{total_of}
use Rattle.edr_items.specs.SensorLists.{SensorLists, AreFeeds, horizon_of, items_of}
use Rattle.edr_definitions.specs.Commands.{issue_at, issues}
use Rattle.edr_definitions.specs.Schedule.{BeginsWith}
use Rattle.edr_capture.specs.Capture.{CaptureStandsFor}
use Rattle.edr_core.specs.declared.Closing.{Closing}
use Rattle.edr_core.specs.declared.Closing.TheVariants.{Waiting, Closed}
use Rattle.edr_core.specs.declared.candidate.Issued.{Issued}
use Rattle.edr_core.specs.Answers.{commands_put}
use Rattle.edr_core.specs.Captures.{kept_lists}
use Rattle.edr_core.specs.Parts.{AreSlotsOf, parts_of, part_in}
use Rattle.edr_core.specs.SplitHistory.{History}
use Rattle.edr_core.specs.SplitContents.{SplitContents}
use Rattle.edr_core.specs.SplitStandsFor.{SplitCoreStandsFor}
use Rattle.edr_cycle.specs.declared.remaining.Remaining.{Remaining}

-- ---- what was told, and what is left

-- what is done of a slow sensor stands in its capture; what is done of a fast one was given to the core
pub record KeepsGiven (s : Sensor) (done given kept : List Item) : Type 0 where
  pub slow : IsSlow s → CaptureStandsFor kept done
  pub fast : (¬ IsSlow s) → given ≡ done

-- a sensor's list is what is done and then what is left of it, and what the core was given reaches at least as far as what is done
pub record IsRest (s : Sensor) (items given left kept : List Item) : Type 0 where
  pub done : List Item
  pub whole : items ≡ done ++ left
  pub reached : mark_of done ≤ mark_of given
  pub keeps : KeepsGiven s done given kept

-- the core of cycle n was told h, and this is left of its lists: each part that it took is that of the whole list
pub record RemainsAt (lists : SensorLists) (n : ℕ) (h : History) (core : SplitContents) (rest : Remaining) : Type 0 where
  pub feeds : AreFeeds lists
  pub core_is : SplitCoreStandsFor core h
  pub cycle_is : h.cycle ≡ n
  pub within : h.past.closed ≤ horizon_of lists
  pub parts_are : AreSlotsOf h.parts (parts_of lists)
  pub rests : (s : Sensor) → IsRest s (items_of s lists) (items_of s h.past.given) (items_of s rest.left) (items_of s (kept_lists rest.captures))

-- the core was told h of these lists: of the fast sensors beginnings with these last moments, and parts of the whole lists
pub record WasTold (lists : SensorLists) (h : History) (core : SplitContents) (along across restraint : ℕ) : Type 0 where
  pub core_is : SplitCoreStandsFor core h
  pub within : h.past.closed ≤ horizon_of lists
  pub parts_are : AreSlotsOf h.parts (parts_of lists)
  pub along_begins : BeginsWith lists.along h.past.given.along
  pub across_begins : BeginsWith lists.across h.past.given.across
  pub restraint_begins : BeginsWith lists.restraint h.past.given.restraint
  pub along_last : along ≡ mark_of h.past.given.along
  pub across_last : across ≡ mark_of h.past.given.across
  pub restraint_last : restraint ≡ mark_of h.past.given.restraint

-- it was told something
pub record Remains (lists : SensorLists) (n : ℕ) (core : SplitContents) (rest : Remaining) : Type 0 where
  pub history : History
  pub remains : RemainsAt lists n history core rest

-- ---- what the next tick waits for

-- some tick is still to be closed
pub record IsOpenAt (lists : SensorLists) (n : ℕ) (h : History) (core : SplitContents) (rest : Remaining) : Type 0 where
  pub remains : RemainsAt lists n h core rest
  pub below : h.past.closed < horizon_of lists

-- of this sensor something is left, which is no further ahead of the closed tick than a gap may be
pub record HasNext (lists : SensorLists) (n : ℕ) (h : History) (core : SplitContents) (rest : Remaining) (s : Sensor) : Type 0 where
  pub remains : RemainsAt lists n h core rest
  pub item : Item
  pub more : List Item
  pub left_is : items_of s rest.left ≡ item ∷ more
  pub near : item.moment ≤ h.past.closed + LONGEST_GAP

-- the core asks for the parts of this time zero
pub record IsAsked (lists : SensorLists) (n : ℕ) (h : History) (core : SplitContents) (rest : Remaining) (zero : ℕ) : Type 0 where
  pub stands : IsOpenAt lists n h core rest
  pub asking : h.asking ≡ true
  pub zero_is : zero ≡ h.past.closed + 1

-- the same was asked and taken, and the same ticks are closed
pub record SameAsk (h h' : History) : Type 0 where
  pub closed : h'.past.closed ≡ h.past.closed
  pub asking : h'.asking ≡ h.asking
  pub parts : h'.parts ≡ h.parts

-- the part of that sensor is taken, and all that were before
pub record IsTakenOf (s : Sensor) (zero : ℕ) (h h' : History) : Type 0 where
  pub taken : IsSome (part_in h'.parts s zero)
  pub others : (r : Sensor) → IsSome (part_in h.parts r zero) → IsSome (part_in h'.parts r zero)

-- ---- how it goes on

-- how many items are left
abbrev pub count_left : SensorLists → ℕ
count_left left = total_of length left

-- where an answer leads: to the next item of the sensor that is waited for, or past the next tick with its issues
abbrev pub AnswerLeads : SensorLists → ℕ → History → Closing → Issued → SplitContents → Remaining → Type 0
AnswerLeads lists n h (Waiting s) i core rest = (h' : History) × (h'.past.closed ≡ h.past.closed) × HasNext lists n h' core rest s
AnswerLeads lists n h (Closed t some) i core rest =
    (h' : History) × (h'.past.closed ≡ t) × RemainsAt lists n h' core rest × (t ≡ h.past.closed + 1)
    × (issues lists n t ≡ issues lists n h.past.closed ++ map (issue_at t) (commands_put some i))

-- the core still asks for the parts of this time zero, and what it was told has grown in this way
abbrev pub KeepsAsking : ℕ → (History → History → Type 0) → SplitContents → SplitContents → Remaining → Remaining → Type 0
KeepsAsking asked grows core core' rest rest' =
    (f : SensorLists) (n : ℕ) (h : History) → IsAsked f n h core rest asked → (h' : History) × IsAsked f n h' core' rest' asked × grows h h'
