-- What a split core was told, and what it answers next.
use Rattle.std.specs.Prelude.{ℕ, ◌+◌, Bool, false, if◌then◌else◌, Option, is_none, List, [], ◌∷◌, find}
use Rattle.std.specs.Option.{option_map_or}
use Rattle.edr_items.specs.declared.Sensor.{Sensor}
use Rattle.edr_items.specs.declared.Item.{Item}
use Rattle.edr_items.specs.Sensor.{slow_sensors}
use Rattle.edr_items.specs.SensorLists.{no_items}
use Rattle.edr_definitions.specs.Signals.{signals_of}
use Rattle.edr_definitions.specs.Change.{tick_change}
use Rattle.edr_definitions.specs.Schedule.{Progress, Give, after_step}
use Rattle.edr_capture.specs.SensorPart.{SensorPart}
use Rattle.edr_merge.specs.Answers.{waited_for}
use Rattle.edr_core.specs.Parts.{part_in}

-- the cycle, the items that were accepted and the closed tick, whether the parts of the next tick are asked for, and the parts
-- that were taken, the newest first
pub record History : Type 0 where
  pub cycle : ℕ
  pub past : Progress
  pub asking : Bool
  pub parts : List SensorPart

-- nothing was given of cycle n
abbrev pub start_of : ℕ → History
start_of n = record { cycle = n; past = record { given = no_items; closed = 0 }; asking = false; parts = [] }

-- one more item of that sensor
abbrev pub after_item : Sensor → Item → History → History
after_item s x h = record h { past = after_step h.past (Give s x) }

-- one more part
abbrev pub after_part : SensorPart → History → History
after_part q h = record h { parts = q ∷ h.parts }

-- the part of that sensor and of the tick past the closed one wasn't taken
abbrev pub is_missing : History → Sensor → Bool
is_missing h s = is_none (part_in h.parts s (h.past.closed + 1))

-- the lowest-numbered sensor whose part is missing
unfoldable pub missing_part : History → Option Sensor
missing_part h = find (is_missing h) slow_sensors

-- the tick past the closed one is a time zero
abbrev pub is_zero_next : Progress → Bool
is_zero_next p = (tick_change (signals_of p.given) (p.closed + 1)).zero

-- what a step can answer
pub data Answer : Type 0 where
  Waits : Sensor → Answer
  Asks : ℕ → Answer
  Lacks : Sensor → Answer
  Closes : ℕ → Answer

-- what the next step answers: while the parts of a time zero are asked for it waits for no item, and else it first waits for items
abbrev pub due : History → Answer
due h =
    let t = h.past.closed + 1 in
    if h.asking then option_map_or Lacks (missing_part h) (Closes t)
    else option_map_or Waits (waited_for h.past) (if is_zero_next h.past then Asks t else Closes t)
