-- The parts of a time zero as they are taken, and the pre part that they make.
use Rattle.std.specs.Prelude.{◌≡◌, ◌≢◌, ◌⊎◌, ℕ, ◌≤◌, IsSome, IfSome, Option, Some, None, option_and_then}
use Rattle.edr_items.specs.declared.TheConstants.{LATEST_MOMENT}
use Rattle.edr_items.specs.declared.Sensor.{Sensor}
use Rattle.edr_items.specs.declared.per_slow_sensor.PerSlowSensor.{PerSlowSensor}
use Rattle.edr_items.specs.PerSlowSensor.{slow_value_of, with_slow_value, each_slow_value, map_slow_values, EachSlow, slow_at}
use Rattle.edr_record.specs.declared.Key.{Key}
use Rattle.edr_record.specs.declared.Place.TheVariants.{First}
use Rattle.edr_record.specs.declared.Profile.TheVariants.{Long}
use Rattle.edr_record.specs.Parts.{PrePart}
use Rattle.edr_definitions.specs.Parts.{numbers, switch, switches}
use Rattle.edr_capture.specs.SensorPart.{SensorPart}
use Rattle.edr_core.specs.declared.ask.OpenAsk.{OpenAsk}
use Rattle.edr_core.specs.declared.ask.PartRefused.{PartRefused}
use Rattle.edr_core.specs.declared.ask.PartRefused.TheVariants.{NotAsked, Zero, Twice}
use Rattle.edr_core.specs.Parts.{first_slot}

-- the parts that were taken, and all of them
abbrev pub TakenParts : Type 0
TakenParts = PerSlowSensor (Option SensorPart)

abbrev pub AllParts : Type 0
AllParts = PerSlowSensor SensorPart

-- none was taken
abbrev pub no_parts : TakenParts
no_parts = each_slow_value None

-- the part of one sensor
abbrev pub part_at : Sensor → TakenParts → Option SensorPart
part_at s ps = option_and_then (λ o. o) (slow_value_of s ps)

-- one more part, in its sensor's place
abbrev pub with_part : SensorPart → TakenParts → TakenParts
with_part q ps = with_slow_value q.sensor (Some q) ps

-- a part of that sensor was taken before
abbrev pub IsTwice : PartRefused → Type 0
IsTwice e = e ≡ Twice

-- the part is of the time zero that is asked for, none of its sensor was taken, and it stands there now
pub record HasTaken (asked : ℕ) (q : SensorPart) (old new : OpenAsk) : Type 0 where
  pub zero : q.zero ≡ asked
  pub free : part_at q.sensor old.parts ≡ None
  pub is : new ≡ record old { parts = with_part q old.parts }

-- why it isn't taken
abbrev pub IsWhyNotTaken : ℕ → SensorPart → OpenAsk → PartRefused → Type 0
IsWhyNotTaken asked q a e =
    (q.zero ≢ asked) × (e ≡ Zero asked) ⊎ (q.zero ≡ asked) × IsSome (part_at q.sensor a.parts) × (e ≡ Twice)

-- the same of the place of an ask, which has to be open
abbrev pub HasTakenThere : ℕ → SensorPart → Option OpenAsk → Option OpenAsk → Type 0
HasTakenThere asked q old new =
    (a b : OpenAsk) × (old ≡ Some a) × (new ≡ Some b) × HasTaken asked q a b

abbrev pub IsWhyNotThere : ℕ → SensorPart → Option OpenAsk → PartRefused → Type 0
IsWhyNotThere asked q None e = e ≡ NotAsked
IsWhyNotThere asked q (Some a) e = IsWhyNotTaken asked q a e

-- all were taken
abbrev pub in_places : AllParts → TakenParts
in_places a = map_slow_values Some a

-- each that was taken stands in its sensor's place
pub record AreOfTheirSensors (ps : TakenParts) : Type 0 where
  pub each : EachSlow (λ s. IfSome (slow_at s ps) (λ q. q.sensor ≡ s))

-- the key of an event
pub record IsKey (k : Key) : Type 0 where
  pub cycle_from : 1 ≤ k.cycle
  pub cycle_to : k.cycle ≤ 4_294_967_295
  pub zero_from : 1 ≤ k.zero
  pub zero_to : k.zero ≤ LATEST_MOMENT

-- the long pre part of these parts, as that of a first event
abbrev pub pre_of : AllParts → Key → PrePart
pre_of a key = record {
  key = key;
  place = First;
  profile = Long;
  speed = numbers a.speed.slots;
  throttle = numbers a.throttle.slots;
  brake = switches a.brake.slots;
  belt = switch (first_slot a.belt.slots);
  lamp = switch (first_slot a.lamp.slots);
}

-- all were taken, and make that pre part
pub record AreMade (ps : TakenParts) (key : Key) (pre : PrePart) : Type 0 where
  pub all : AllParts
  pub all_is : ps ≡ in_places all
  pub pre_is : pre ≡ pre_of all key
