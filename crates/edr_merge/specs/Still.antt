-- A tick at which neither axis moves.
use Rattle.std.specs.Prelude.{◌≡◌, ℕ, ◌+◌, pos, Some}
use Rattle.edr_items.specs.declared.Sensor.TheVariants.{Along, Across}
use Rattle.edr_items.specs.declared.Item.{Item}
use Rattle.edr_definitions.specs.Schedule.{Progress, Give, Close, IsAllowed, after_step}
use Rattle.edr_merge.specs.declared.Next.TheVariants.{Row}
use Rattle.edr_merge.specs.State.{MergeState}
use Rattle.edr_merge.specs.Answers.{next_of}
use Rattle.edr_merge.specs.StandsFor.{MergeStandsFor}

-- the sample of 0 of the tick t
abbrev pub still_item : ℕ → Item
still_item t = record { moment = t; value = Some (pos 0) }

-- the first axis gives that of the tick past the closed one, and then the second does
abbrev pub along_given : Progress → Progress
along_given p = after_step p (Give Along (still_item (p.closed + 1)))

abbrev pub still_given : Progress → Progress
still_given p = after_step (along_given p) (Give Across (still_item (p.closed + 1)))

-- the tick is closed then
abbrev pub after_still : Progress → Progress
after_still p = after_step (still_given p) Close

-- both axes may give it, then the tick may be closed, and no restraint fires in it
pub record IsStillNext (p : Progress) : Type 0 where
  pub along : IsAllowed (Give Along (still_item (p.closed + 1))) p
  pub across : IsAllowed (Give Across (still_item (p.closed + 1))) (along_given p)
  pub closes : IsAllowed Close (still_given p)
  pub row : Row (p.closed + 1) (Some (pos 0)) (Some (pos 0)) (record { 0 = 0 }) ≡ next_of (still_given p)

-- first one axis gave it, then both had, and at last the tick was closed
pub record PassesStill (p : Progress) (new : MergeState) : Type 0 where
  pub next : IsStillNext p
  pub first : MergeState
  pub first_is : MergeStandsFor first (along_given p)
  pub both : MergeState
  pub both_is : MergeStandsFor both (still_given p)
  pub stands : MergeStandsFor new (after_still p)
