-- In what order items may be given and ticks closed.
use Rattle.std.specs.Prelude.{◌≡◌, ℕ, ◌+◌, ◌<◌, ◌≤◌, None, if◌then◌else◌, nat_eq, List, [], ◌∷◌, ◌++◌, flat_map}
use Rattle.edr_items.specs.declared.TheConstants.{LONGEST_GAP}
use Rattle.edr_items.specs.declared.Sensor.{Sensor}
use Rattle.edr_items.specs.declared.Item.{Item}
use Rattle.edr_items.specs.Sensor.{number_of}
use Rattle.edr_items.specs.Item.{refusal_of, mark_of}
use Rattle.edr_items.specs.SensorLists.{SensorLists, items_of, with_items, horizon_of}

-- ---- one step

-- what was given of each sensor, and the tick up to which all are closed
pub record Progress : Type 0 where
  pub given : SensorLists
  pub closed : ℕ

-- one sensor gives one more item, or one more tick is closed
pub data CoreMove : Type 0 where
  Give : Sensor → Item → CoreMove
  Close : CoreMove

-- the lists with that item at the end of its sensor's
abbrev pub with_item : Sensor → Item → SensorLists → SensorLists
with_item s x f = with_items s (items_of s f ++ x ∷ []) f

-- the sensor may give the item after what it gave, and it is no further ahead of the closed tick than a gap may be
abbrev pub MayGive : Sensor → Item → Progress → Type 0
MayGive s x p = (refusal_of s (mark_of (items_of s p.given)) x ≡ None) × (x.moment ≤ p.closed + LONGEST_GAP)

-- an item may be given by this rule; a tick may be closed where it is not past the horizon
abbrev pub IsAllowed : CoreMove → Progress → Type 0
IsAllowed (Give s x) p = MayGive s x p
IsAllowed Close p = p.closed < horizon_of p.given

-- where a step leads
abbrev pub after_step : Progress → CoreMove → Progress
after_step p (Give s x) = record { given = with_item s x p.given; closed = p.closed }
after_step p Close = record { given = p.given; closed = p.closed + 1 }

-- ---- steps one after the other

-- where steps lead that are taken one after the other
abbrev pub after_steps : Progress → List CoreMove → Progress
after_steps p [] = p
after_steps p (s ∷ ss) = after_steps (after_step p s) ss

-- what a step gives of the sensor
abbrev pub given_by : Sensor → CoreMove → List Item
given_by s (Give r x) = if nat_eq (number_of r) (number_of s) then x ∷ [] else []
given_by s Close = []

-- what steps give of the sensor, in their order
abbrev pub items_given : Sensor → List CoreMove → List Item
items_given s steps = flat_map (given_by s) steps

-- ---- feeds that are being given

-- the list begins with the other one
abbrev pub BeginsWith : List Item → List Item → Type 0
BeginsWith xs ys = (rest : List Item) × (xs ≡ ys ++ rest)

-- x is the item of the feeds that the sensor gives next
abbrev pub IsNextItem : SensorLists → Progress → Sensor → Item → Type 0
IsNextItem f p s x = BeginsWith (items_of s f) (items_of s p.given ++ x ∷ [])

-- the feeds are being given: each list begins with what was given of it, and no tick past the horizon of that is closed
pub record IsUnderWay (f : SensorLists) (p : Progress) : Type 0 where
  pub begun : (s : Sensor) → BeginsWith (items_of s f) (items_of s p.given)
  pub within : p.closed ≤ horizon_of p.given

-- some step is allowed after which they still are
pub record CanGoOn (f : SensorLists) (p : Progress) : Type 0 where
  pub step : CoreMove
  pub allowed : IsAllowed step p
  pub leads : IsUnderWay f (after_step p step)

-- all items are given, and the closed tick is the horizon
pub record IsOver (f : SensorLists) (p : Progress) : Type 0 where
  pub all_given : p.given ≡ f
  pub all_closed : p.closed ≡ horizon_of f
