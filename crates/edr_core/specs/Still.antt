-- A tick at which neither axis moves, and which a core passes without a search.
use Rattle.std.specs.Prelude.{◌≡◌, ℕ, ◌+◌, false, IsTrue, None}
use Rattle.edr_items.specs.declared.Sensor.TheVariants.{Along, Across}
use Rattle.edr_definitions.specs.Commands.{issues}
use Rattle.edr_definitions.specs.Schedule.{Progress}
use Rattle.edr_merge.specs.Still.{still_item, still_given, after_still, IsStillNext}
use Rattle.edr_core.specs.Parts.{PartSlots, AreSlotsOf, issues_with}
use Rattle.edr_core.specs.Contents.{CoreContents}
use Rattle.edr_core.specs.StandsFor.{CoreIsFor}
use Rattle.edr_core.specs.SplitContents.{SplitContents}
use Rattle.edr_core.specs.SplitHistory.{History, after_item}
use Rattle.edr_core.specs.SplitStandsFor.{SplitCoreStandsFor}

-- the tick past the closed one
abbrev pub next_tick : Progress → ℕ
next_tick p = p.closed + 1

-- one axis gave its sample of 0 of the next tick, and then both had
abbrev pub with_along : History → History
with_along h = after_item Along (still_item (next_tick h.past)) h

abbrev pub with_both : History → History
with_both h = after_item Across (still_item (next_tick h.past)) (with_along h)

-- no part is asked for, no candidate is open, the search rests, and both axes may give their sample of 0, which is all of the tick
pub record CanPassStill (c : SplitContents) (p : Progress) : Type 0 where
  pub free : c.ask ≡ None
  pub none_open : c.candidate ≡ None
  pub rests : IsTrue c.detect.rests
  pub next : IsStillNext p

-- both gave it while no part was asked for, and then the tick was closed, which issues nothing
pub record SplitPassesStill (h : History) (new : SplitContents) : Type 0 where
  pub free : h.asking ≡ false
  pub next : IsStillNext h.past
  pub first : SplitContents
  pub first_is : SplitCoreStandsFor first (with_along h)
  pub both : SplitContents
  pub both_is : SplitCoreStandsFor both (with_both h)
  pub stands : SplitCoreStandsFor new (record h { past = after_still h.past })
  pub quiet : (slots : PartSlots) → AreSlotsOf h.parts slots
      → issues_with slots (still_given h.past).given h.cycle (next_tick h.past) ≡ issues_with slots (still_given h.past).given h.cycle h.past.closed

-- the same of a core of all sensors
pub record CorePassesStill (n : ℕ) (p : Progress) (new : CoreContents) : Type 0 where
  pub next : IsStillNext p
  pub stands : CoreIsFor new n (after_still p)
  pub quiet : issues (still_given p).given n (next_tick p) ≡ issues (still_given p).given n p.closed
