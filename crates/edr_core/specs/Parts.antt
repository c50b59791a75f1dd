-- Pre parts that are made of the parts of their time zero.
use Rattle.std.specs.Prelude.{◌≡◌, ℕ, ℤ, Bool, ◌&&◌, nat_eq, Option, None, List, [], ◌∷◌, map, find, All}
use Rattle.edr_items.specs.declared.Sensor.{Sensor}
use Rattle.edr_items.specs.declared.Sensor.TheVariants.{Speed, Throttle, Brake, Belt, Lamp}
use Rattle.edr_items.specs.Sensor.{number_of}
use Rattle.edr_items.specs.SensorLists.{SensorLists, items_of}
use Rattle.edr_record.specs.declared.Command.{Command}
use Rattle.edr_record.specs.declared.Command.TheVariants.{Take, Lock, Done}
use Rattle.edr_record.specs.Parts.{PrePart}
use Rattle.edr_definitions.specs.Parts.{numbers, switch, switches}
use Rattle.edr_definitions.specs.Commands.{Issue, issues, commands}
use Rattle.edr_capture.specs.SensorPart.{SensorPart, part_slots}

-- the slots of each slow sensor's part, by its time zero
abbrev pub PartSlots : Type 0
PartSlots = Sensor → ℕ → List (Option ℤ)

-- the first slot of a part
abbrev pub first_slot : List (Option ℤ) → Option ℤ
first_slot [] = None
first_slot (o ∷ os) = o

-- a pre part with the slots of its time zero
abbrev pub with_parts : PartSlots → PrePart → PrePart
with_parts slots p = record p {
  speed = numbers (slots Speed p.key.zero);
  throttle = numbers (slots Throttle p.key.zero);
  brake = switches (slots Brake p.key.zero);
  belt = switch (first_slot (slots Belt p.key.zero));
  lamp = switch (first_slot (slots Lamp p.key.zero));
}

abbrev pub command_with : PartSlots → Command → Command
command_with slots (Take p) = Take (with_parts slots p)
command_with slots (Lock p) = Lock (with_parts slots p)
command_with slots (Done c) = Done c

-- the commands of a cycle, each pre part made of the parts of its time zero
abbrev pub commands_with : PartSlots → SensorLists → ℕ → ℕ → List Command
commands_with slots f n t = map (command_with slots) (commands f n t)

-- the same with their ticks
abbrev pub issue_with : PartSlots → Issue → Issue
issue_with slots i = record { tick = i.tick; command = command_with slots i.command }

abbrev pub issues_with : PartSlots → SensorLists → ℕ → ℕ → List Issue
issues_with slots f n t = map (issue_with slots) (issues f n t)

-- the parts of a cycle's own lists
abbrev pub parts_of : SensorLists → PartSlots
parts_of f s z = part_slots s (items_of s f) z

-- the slots are those of each of these parts
abbrev pub AreSlotsOf : List SensorPart → PartSlots → Type 0
AreSlotsOf parts slots = All (λ q. slots q.sensor q.zero ≡ q.slots) parts

-- the part is that of the sensor s and the time zero z
abbrev pub is_part_of : Sensor → ℕ → SensorPart → Bool
is_part_of s z q = nat_eq (number_of q.sensor) (number_of s) && nat_eq q.zero z

-- the part of the sensor s and the time zero z, if it is one of these
unfoldable pub part_in : List SensorPart → Sensor → ℕ → Option SensorPart
part_in parts s z = find (is_part_of s z) parts

-- the lists have the same items of the sensors that a row is made of
pub record HaveTheFastItems (f g : SensorLists) : Type 0 where
  pub along : f.along ≡ g.along
  pub across : f.across ≡ g.across
  pub restraint : f.restraint ≡ g.restraint
