-- What stands at a tick.
use Rattle.std.proofs.Common.{refl, ◌≡◌, pos, true, false}
use Rattle.edr_definitions.specs.Ticks.{first_tick, greatest}
use Rattle.edr_definitions.specs.Windows.{delta_v, largest_change, swing}
use Rattle.edr_definitions.specs.Selection.{is_triggered, is_time_zero, is_end, end_of, candidate_at, chain_from}
use Rattle.edr_definitions.specs.Change.{Change, tick_change}
use Rattle.edr_definitions.proofs.VectorPulses.{pulse, firing, only_along, only_fired}

-- nothing
abbrev none : Change
none = record { zero = false; confirmed = false; locked = false; ended = false; dropped = false; closed = false }

-- an air bag at tick 2: time zero, confirmation and lock at once
deployment_at_2 : tick_change (only_fired (firing 2 1)) 2 ≡ record none { zero = true; confirmed = true; locked = true }
unfolding chain_from candidate_at end_of is_end is_time_zero is_triggered first_tick swing largest_change greatest delta_v
deployment_at_2 = refl

-- a pretensioner locks nothing
pretensioner_at_2 : tick_change (only_fired (firing 2 64)) 2 ≡ record none { zero = true; confirmed = true }
unfolding chain_from candidate_at end_of is_end is_time_zero is_triggered first_tick swing largest_change greatest delta_v
pretensioner_at_2 = refl

-- its end at 22, nothing at 23, its close at 52
end_at_22 : tick_change (only_fired (firing 2 1)) 22 ≡ record none { ended = true }
unfolding chain_from candidate_at end_of is_end is_time_zero is_triggered first_tick swing largest_change greatest delta_v
end_at_22 = refl

nothing_at_23 : tick_change (only_fired (firing 2 1)) 23 ≡ none
unfolding chain_from candidate_at end_of is_end is_time_zero is_triggered first_tick swing largest_change greatest delta_v
nothing_at_23 = refl

close_at_52 : tick_change (only_fired (firing 2 1)) 52 ≡ record none { closed = true }
unfolding chain_from candidate_at end_of is_end is_time_zero is_triggered first_tick swing largest_change greatest delta_v
close_at_52 = refl

-- a candidate without a confirmation is dropped at its end
drop_at_21 : tick_change (only_along (pulse 1 1 (pos 9000))) 21 ≡ record none { ended = true; dropped = true }
unfolding chain_from candidate_at end_of is_end is_time_zero is_triggered first_tick swing largest_change greatest delta_v
drop_at_21 = refl
