-- Places of events, and the commands that they issue.
use Rattle.std.proofs.Common.{refl, ◌≡◌, ℕ, pos, true, false, Some, None, List, [], ◌∷◌, map}
use Rattle.edr_items.specs.SensorLists.{SensorLists, no_items}
use Rattle.edr_record.specs.declared.Place.TheVariants.{First, Second}
use Rattle.edr_record.specs.declared.Command.TheVariants.{Take, Lock, Done}
use Rattle.edr_definitions.specs.Ticks.{first_tick, greatest}
use Rattle.edr_definitions.specs.Signals.{sample_at, signals_of}
use Rattle.edr_definitions.specs.Windows.{delta_v, largest_change, swing}
use Rattle.edr_definitions.specs.Selection.{is_triggered, is_time_zero, is_end, end_of, candidate_at, chain_from}
use Rattle.edr_definitions.specs.Parts.{pre_part, crash_part, points, extreme, missing_count, firings, result_at, first_firing, first_greatest, slots_before, slot}
use Rattle.edr_definitions.specs.Commands.{places, last_placed, is_locking, lock_of, issues_of, issues, commands, rank_of}
use Rattle.edr_definitions.proofs.VectorPulses.{sample, firing, only_fired}

-- ---- places
-- the second is within 5 s of the first, the third within 5 s of the second, which is no first
places_three : places (6000 ∷ 9000 ∷ 12000 ∷ []) ≡ First ∷ Second 3000 ∷ First ∷ []
places_three = refl

-- 5,000 ms are within 5 s, 5,001 aren't
places_5000 : places (6000 ∷ 11000 ∷ []) ≡ First ∷ Second 5000 ∷ []
places_5000 = refl

places_5001 : places (6000 ∷ 11001 ∷ []) ≡ First ∷ First ∷ []
places_5001 = refl

-- a third that is first can have a second again
places_four : places (6000 ∷ 9000 ∷ 12000 ∷ 12100 ∷ []) ≡ First ∷ Second 3000 ∷ First ∷ Second 100 ∷ []
places_four = refl

last_of_three : last_placed (6000 ∷ 9000 ∷ 12000 ∷ []) ≡ Some (First, 12000)
last_of_three = refl

-- ---- what locks
-- any of the six air bags locks
side_air_bag : is_locking (only_fired (firing 7 4)) 7 ≡ true
side_air_bag = refl

curtain : is_locking (only_fired (firing 7 32)) 7 ≡ true
curtain = refl

-- the two pretensioners don't, alone or together
pretensioners : is_locking (only_fired (firing 7 192)) 7 ≡ false
pretensioners = refl

-- with an air bag they do
pretensioner_and_air_bag : is_locking (only_fired (firing 7 65)) 7 ≡ true
pretensioner_and_air_bag = refl

-- a lock comes up to the close, 52, and not past it
lock_at_close : lock_of (only_fired (firing 52 1)) 2 22 ≡ Some 52
unfolding first_tick
lock_at_close = refl

no_lock_past_close : lock_of (only_fired (firing 53 1)) 2 22 ≡ None
unfolding first_tick
no_lock_past_close = refl

-- ---- commands
-- a pretensioner at tick 2, and the driver's frontal air bag at the tick b
abbrev restraints_at : ℕ → SensorLists
restraints_at b = record no_items { restraint = sample 2 (pos 64) ∷ sample b (pos 1) ∷ [] }

-- the ticks and the kinds of what is issued, 0 Take, 1 Lock, 2 Done
abbrev when : SensorLists → ℕ → List (ℕ × ℕ)
when f t = map (λ i. (i.tick, rank_of i.command)) (issues f 1 t)

-- Take at time zero, Lock at the air bag, Done at the close
take_lock_done : when (restraints_at 10) 60 ≡ (2, 0) ∷ (10, 1) ∷ (52, 2) ∷ []
unfolding issues_of pre_part slots_before slot crash_part points extreme missing_count firings result_at first_firing first_greatest chain_from candidate_at end_of is_end is_time_zero is_triggered first_tick swing largest_change greatest delta_v sample_at
take_lock_done = refl

-- at the close itself Lock stands before Done
lock_before_done : when (restraints_at 52) 60 ≡ (2, 0) ∷ (52, 1) ∷ (52, 2) ∷ []
unfolding issues_of pre_part slots_before slot crash_part points extreme missing_count firings result_at first_firing first_greatest chain_from candidate_at end_of is_end is_time_zero is_triggered first_tick swing largest_change greatest delta_v sample_at
lock_before_done = refl

-- one past the close it is the next event's
lock_of_next : when (restraints_at 53) 60 ≡ (2, 0) ∷ (52, 2) ∷ (53, 0) ∷ (53, 1) ∷ []
unfolding issues_of pre_part slots_before slot crash_part points extreme missing_count firings result_at first_firing first_greatest chain_from candidate_at end_of is_end is_time_zero is_triggered first_tick swing largest_change greatest delta_v sample_at
lock_of_next = refl

-- only what is issued by the tick counts
by_51 : when (restraints_at 10) 51 ≡ (2, 0) ∷ (10, 1) ∷ []
unfolding issues_of pre_part slots_before slot crash_part points extreme missing_count firings result_at first_firing first_greatest chain_from candidate_at end_of is_end is_time_zero is_triggered first_tick swing largest_change greatest delta_v sample_at
by_51 = refl

-- an air bag at tick 2 and nothing else
abbrev deployment : SensorLists
deployment = record no_items { restraint = sample 2 (pos 1) ∷ [] }

-- it is taken and locked at once with one pre part, and done with the crash part of time zero 2 and end 22
deployment_commands : commands deployment 1 52 ≡ Take (pre_part deployment 1 First 2) ∷ Lock (pre_part deployment 1 First 2) ∷ Done (crash_part (signals_of deployment) 2 22) ∷ []
unfolding commands issues_of crash_part points extreme missing_count firings result_at first_firing first_greatest chain_from candidate_at end_of is_end is_time_zero is_triggered first_tick swing largest_change greatest delta_v sample_at
deployment_commands = refl
