-- What a merge answers, by what was given so far and the closed tick.
use Rattle.std.specs.Prelude.{ℕ, ◌+◌, Bool, nat_eq, nat_le, if◌then◌else◌, Option, Some, None, find}
use Rattle.std.specs.Option.{option_map_or}
use Rattle.edr_items.specs.declared.TheConstants.{LONGEST_GAP}
use Rattle.edr_items.specs.declared.Sensor.{Sensor}
use Rattle.edr_items.specs.declared.Item.{Item}
use Rattle.edr_items.specs.declared.ItemRefused.{ItemRefused}
use Rattle.edr_items.specs.Item.{refusal_of, mark_of}
use Rattle.edr_items.specs.SensorLists.{items_of, sensors}
use Rattle.edr_definitions.specs.Signals.{signals_of}
use Rattle.edr_definitions.specs.Schedule.{Progress, Close, after_step}
use Rattle.edr_merge.specs.declared.MergeRefused.{MergeRefused}
use Rattle.edr_merge.specs.declared.MergeRefused.TheVariants as refused
use Rattle.edr_merge.specs.declared.Next.{Next}
use Rattle.edr_merge.specs.declared.Next.TheVariants.{Waiting, Row}

-- an item that its sensor may give is refused where it is too far ahead of the closed tick
abbrev pub refusal_or_ahead : Option ItemRefused → ℕ → ℕ → Option MergeRefused
refusal_or_ahead (Some e) closed moment = Some (refused.Item e)
refusal_or_ahead None closed moment = if nat_le (closed + LONGEST_GAP + 1) moment then Some (refused.Ahead closed) else None

-- why the item of that sensor is refused, if it is
abbrev pub give_refusal_of : Sensor → Item → Progress → Option MergeRefused
give_refusal_of s x p = refusal_or_ahead (refusal_of s (mark_of (items_of s p.given)) x) p.closed x.moment

-- the sensor may still give an item of the tick past the closed one
abbrev pub is_waited_for : Progress → Sensor → Bool
is_waited_for p s = nat_eq (mark_of (items_of s p.given)) p.closed

-- the lowest-numbered sensor that is waited for
unfoldable pub waited_for : Progress → Option Sensor
waited_for p = find (is_waited_for p) sensors

-- what was given of that tick: the sample of either axis, and the restraints that fire
abbrev pub row_at : Progress → ℕ → Next
row_at p t = let m = signals_of p.given in Row t (m.along t) (m.across t) (record { 0 = m.fired t })

-- the sensor that is waited for, or else the row of the next tick
abbrev pub next_of : Progress → Next
next_of p = option_map_or Waiting (waited_for p) (row_at p (p.closed + 1))

-- the answer is a row
abbrev pub AnswersRow : Next → Type 0
AnswersRow (Waiting s) = ⊥
AnswersRow (Row t along across fired) = Unit {0}

-- a row closes its tick
abbrev pub after_next : Progress → Next → Progress
after_next p (Waiting s) = p
after_next p (Row t along across fired) = after_step p Close
