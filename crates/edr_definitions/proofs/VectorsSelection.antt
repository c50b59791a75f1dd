-- The three tests of the search, each at its threshold.
use Rattle.std.proofs.Common.{refl, ◌≡◌, pos, negsuc, true, false}
use Rattle.edr_definitions.specs.Ticks.{first_tick, greatest}
use Rattle.edr_definitions.specs.Windows.{delta_v, largest_change, swing}
use Rattle.edr_definitions.specs.Selection.{is_triggered, is_time_zero, is_end, end_of, window_of, close_of}
use Rattle.edr_definitions.proofs.VectorPulses.{pulse, both, firing, only_along, only_across, only_fired}

-- ---- the trigger
-- two samples of 40,000 trigger, on either axis and either way
along_80000 : is_triggered (only_along (pulse 1 2 (pos 40000))) 0 2 ≡ true
unfolding is_triggered swing largest_change greatest delta_v
along_80000 = refl

along_79999 : is_triggered (only_along (both (pulse 1 1 (pos 40000)) (pulse 2 2 (pos 39999)))) 0 2 ≡ false
unfolding is_triggered swing largest_change greatest delta_v
along_79999 = refl

across_80000 : is_triggered (only_across (pulse 1 2 (negsuc 39999))) 0 2 ≡ true
unfolding is_triggered swing largest_change greatest delta_v
across_80000 = refl

-- the two axes don't add up
one_each : is_triggered (record { along = pulse 1 1 (pos 79999); across = pulse 1 1 (pos 79999); fired = λ t. 0 }) 0 1 ≡ false
unfolding is_triggered swing largest_change greatest delta_v
one_each = refl

-- over 150 ticks they count together, over 151 they don't
over_150_ticks : is_triggered (only_along (both (pulse 1 1 (pos 40000)) (pulse 150 150 (pos 40000)))) 0 150 ≡ true
unfolding is_triggered swing largest_change greatest delta_v
over_150_ticks = refl

over_151_ticks : is_triggered (only_along (both (pulse 1 1 (pos 40000)) (pulse 151 151 (pos 40000)))) 0 151 ≡ false
unfolding is_triggered swing largest_change greatest delta_v
over_151_ticks = refl

-- the trigger's changes begin no earlier than its bound: from 9 on tick 10 counts, from 10 on it doesn't
since_9 : is_triggered (only_along (both (pulse 10 10 (pos 40000)) (pulse 12 12 (pos 40000)))) 9 12 ≡ true
unfolding is_triggered swing largest_change greatest delta_v
since_9 = refl

since_10 : is_triggered (only_along (both (pulse 10 10 (pos 40000)) (pulse 12 12 (pos 40000)))) 10 12 ≡ false
unfolding is_triggered swing largest_change greatest delta_v
since_10 = refl

-- any firing triggers, a pretensioner's too, at its own tick alone
pretensioner : is_triggered (only_fired (firing 7 128)) 0 7 ≡ true
unfolding is_triggered swing largest_change greatest delta_v
pretensioner = refl

pretensioner_past : is_triggered (only_fired (firing 7 128)) 0 8 ≡ false
unfolding is_triggered swing largest_change greatest delta_v
pretensioner_past = refl

-- a lateral change of 0.054 km/h a tick: 148 ticks give 79,920 steps and 149 give 80,460
lateral_148 : is_triggered (only_across (pulse 1 400 (pos 540))) 0 148 ≡ false
unfolding is_triggered swing largest_change greatest delta_v
lateral_148 = refl

lateral_149 : is_triggered (only_across (pulse 1 400 (pos 540))) 0 149 ≡ true
unfolding is_triggered swing largest_change greatest delta_v
lateral_149 = refl

-- ---- time zero
-- a sum of 8,000 is none, one of 8,001 is
zero_at_8000 : is_time_zero (only_along (pulse 1 1 (pos 8000))) (record { after = 0; since = 0 }) 1 ≡ false
unfolding is_time_zero is_triggered swing largest_change greatest delta_v
zero_at_8000 = refl

zero_at_8001 : is_time_zero (only_along (pulse 1 1 (negsuc 8000))) (record { after = 0; since = 0 }) 1 ≡ true
unfolding is_time_zero is_triggered swing largest_change greatest delta_v
zero_at_8001 = refl

-- along within 20 ms
along_20 : is_time_zero (only_along (both (pulse 1 1 (pos 4001)) (pulse 20 20 (pos 4000)))) (record { after = 0; since = 0 }) 20 ≡ true
unfolding is_time_zero is_triggered swing largest_change greatest delta_v
along_20 = refl

along_21 : is_time_zero (only_along (both (pulse 1 1 (pos 4001)) (pulse 21 21 (pos 4000)))) (record { after = 0; since = 0 }) 21 ≡ false
unfolding is_time_zero is_triggered swing largest_change greatest delta_v
along_21 = refl

-- across within 5 ms
across_5 : is_time_zero (only_across (both (pulse 1 1 (pos 4001)) (pulse 5 5 (pos 4000)))) (record { after = 0; since = 0 }) 5 ≡ true
unfolding is_time_zero is_triggered swing largest_change greatest delta_v
across_5 = refl

across_6 : is_time_zero (only_across (both (pulse 1 1 (pos 4001)) (pulse 6 6 (pos 4000)))) (record { after = 0; since = 0 }) 6 ≡ false
unfolding is_time_zero is_triggered swing largest_change greatest delta_v
across_6 = refl

-- a change across that is too slow for 5 ms is a time zero once it triggers
lateral_zero : is_time_zero (only_across (pulse 1 400 (pos 540))) (record { after = 0; since = 0 }) 149 ≡ true
unfolding is_time_zero is_triggered swing largest_change greatest delta_v
lateral_zero = refl

-- 400 steps a tick are never over within 20 ms, 401 are at the 20th tick
steady_400 : is_time_zero (only_along (pulse 1 2000 (pos 400))) (record { after = 0; since = 0 }) 20 ≡ false
unfolding is_time_zero is_triggered swing largest_change greatest delta_v
steady_400 = refl

steady_401 : is_time_zero (only_along (pulse 1 2000 (pos 401))) (record { after = 0; since = 0 }) 20 ≡ true
unfolding is_time_zero is_triggered swing largest_change greatest delta_v
steady_401 = refl

-- a time zero comes after its bound: a firing at the bound is none, one past it is
at_bound : is_time_zero (only_fired (firing 52 1)) (record { after = 52; since = 52 }) 52 ≡ false
unfolding is_time_zero is_triggered swing largest_change greatest delta_v
at_bound = refl

past_bound : is_time_zero (only_fired (firing 53 1)) (record { after = 52; since = 52 }) 53 ≡ true
unfolding is_time_zero is_triggered swing largest_change greatest delta_v
past_bound = refl

-- the two bounds are apart: past a dropped candidate the trigger reaches back, the other two don't
zero_bound : is_time_zero (only_along (pulse 10 10 (pos 9000))) (record { after = 10; since = 0 }) 11 ≡ false
unfolding is_time_zero is_triggered swing largest_change greatest delta_v
zero_bound = refl

trigger_bound : is_time_zero (only_along (pulse 10 10 (pos 80000))) (record { after = 10; since = 0 }) 11 ≡ true
unfolding is_time_zero is_triggered swing largest_change greatest delta_v
trigger_bound = refl

-- ---- the end
-- quiet counts from 20 ms past time zero on
end_at_19 : is_end (only_along (pulse 1 1 (pos 80000))) 1 20 ≡ false
unfolding is_end delta_v
end_at_19 = refl

end_at_20 : is_end (only_along (pulse 1 1 (pos 80000))) 1 21 ≡ true
unfolding is_end delta_v
end_at_20 = refl

-- the last 20 ticks hold 8,000 steps along, or that and 1 across
end_at_limit : is_end (only_along (pulse 21 21 (pos 8000))) 1 21 ≡ true
unfolding is_end delta_v
end_at_limit = refl

end_past_limit : is_end (record { along = pulse 21 21 (pos 8000); across = pulse 21 21 (pos 1); fired = λ t. 0 }) 1 21 ≡ false
unfolding is_end delta_v
end_past_limit = refl

-- a change 20 ticks back is out of the last 20 ms
end_tick_19_back : is_end (only_along (pulse 11 11 (pos 9000))) 1 30 ≡ false
unfolding is_end delta_v
end_tick_19_back = refl

end_tick_20_back : is_end (only_along (pulse 11 11 (pos 9000))) 1 31 ≡ true
unfolding is_end delta_v
end_tick_20_back = refl

-- where it is never quiet, the reset at 500 ms is the end, and no tick beside it
reset_499 : is_end (only_along (pulse 1 2000 (pos 401))) 20 519 ≡ false
unfolding is_end delta_v
reset_499 = refl

reset_500 : is_end (only_along (pulse 1 2000 (pos 401))) 20 520 ≡ true
unfolding is_end delta_v
reset_500 = refl

reset_501 : is_end (only_along (pulse 1 2000 (pos 401))) 20 521 ≡ false
unfolding is_end delta_v
reset_501 = refl

end_by_reset : end_of (only_along (pulse 1 2000 (pos 401))) 20 ≡ 520
unfolding end_of is_end first_tick delta_v
end_by_reset = refl

-- the firing itself is no reason to go on: 20 ms later all is quiet
end_of_firing : end_of (only_fired (firing 2 1)) 2 ≡ 22
unfolding end_of is_end first_tick delta_v
end_of_firing = refl

-- ---- the close
-- 30 ms past the end, as long as that is within 300 ms of time zero
close_of_20 : close_of 1000 1020 ≡ 1050
close_of_20 = refl

close_of_270 : close_of 1000 1270 ≡ 1300
close_of_270 = refl

close_of_271 : close_of 1000 1271 ≡ 1300
close_of_271 = refl

-- an end past 300 ms is the close
close_of_301 : close_of 1000 1301 ≡ 1301
close_of_301 = refl

window_of_301 : window_of 1000 1301 ≡ 300
window_of_301 = refl
