-- What the captures stand for.
use Rattle.std.specs.Prelude.{◌<◌, []}
use Rattle.edr_items.specs.declared.Sensor.{Sensor}
use Rattle.edr_items.specs.declared.Item.{Item}
use Rattle.edr_items.specs.Item.{mark_of}
use Rattle.edr_items.specs.PerSlowSensor.{with_slow_value, each_slow_value, EachSlow, slow_at, with_slow_values}
use Rattle.edr_items.specs.SensorLists.{SensorLists, items_of}
use Rattle.edr_capture.specs.Capture.{CaptureStandsFor, kept_after}
use Rattle.edr_core.specs.declared.captures.Captures.{Captures}

-- nothing is kept
abbrev pub no_captures : Captures
no_captures = record { kept = each_slow_value [] }

-- what is kept, as lists of a cycle
abbrev pub kept_lists : Captures → SensorLists
kept_lists c = with_slow_values [] c.kept

-- one more item of that sensor: of the other three nothing is kept
abbrev pub with_kept : Sensor → Item → Captures → Captures
with_kept s x c = record { kept = with_slow_value s (kept_after (slow_at s c.kept) x) c.kept }

-- the item is later than all that is kept of its sensor
abbrev pub IsLater : Sensor → Item → Captures → Type 0
IsLater s x c = mark_of (items_of s (kept_lists c)) < x.moment

-- the captures were given these lists
pub record CapturesStandFor (c : Captures) (f : SensorLists) : Type 0 where
  pub each : EachSlow (λ s. CaptureStandsFor (slow_at s c.kept) (items_of s f))
