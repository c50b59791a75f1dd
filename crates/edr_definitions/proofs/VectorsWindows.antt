-- Sums and windows at their edges.
use Rattle.std.proofs.Common.{refl, ◌≡◌, ◌-◌, pos, negsuc, true, false, [], ◌∷◌}
use Rattle.edr_definitions.specs.declared.limits.TheConstants.{TRIGGER}
use Rattle.edr_definitions.specs.Ticks.{greatest}
use Rattle.edr_definitions.specs.Signals.{sample_at}
use Rattle.edr_definitions.specs.Windows.{delta_v, sum_between, largest_change, swing, is_over, meets_trigger, is_quiet}
use Rattle.edr_definitions.proofs.VectorPulses.{pulse, both, sample, silence}

-- delta-V counts the ticks after its beginning and up to its end: 4, 5 and 6 of 1 to 9
interval : delta_v (pulse 1 9 (pos 1000)) 3 6 ≡ pos 3000
unfolding delta_v
interval = refl

-- an interval that ends where it begins holds no tick
empty_interval : delta_v (pulse 1 9 (pos 1000)) 6 6 ≡ pos 0
unfolding delta_v
empty_interval = refl

-- a silent moment and a tick without an item both add 0
gaps_add_nothing : delta_v (sample_at (sample 1 (pos 700) ∷ silence 2 ∷ sample 4 (negsuc 299) ∷ [])) 0 5 ≡ pos 400
unfolding delta_v sample_at
gaps_add_nothing = refl

-- the same as a sum over the list
sum_over_list : sum_between (sample 1 (pos 700) ∷ silence 2 ∷ sample 4 (negsuc 299) ∷ []) 0 5 ≡ pos 400
unfolding sum_between
sum_over_list = refl

-- within 20 ms: the tick that is 19 before t is in the longest interval, which begins 20 before t; the one before it is not
twenty_in : swing (pulse 1 1 (pos 9000)) 20 0 20 ≡ 9000
unfolding swing largest_change greatest delta_v
twenty_in = refl

twenty_out : swing (pulse 1 1 (pos 9000)) 20 0 21 ≡ 0
unfolding swing largest_change greatest delta_v
twenty_out = refl

-- within 5 ms
five_in : swing (pulse 1 1 (pos 9000)) 5 0 5 ≡ 9000
unfolding swing largest_change greatest delta_v
five_in = refl

five_out : swing (pulse 1 1 (pos 9000)) 5 0 6 ≡ 0
unfolding swing largest_change greatest delta_v
five_out = refl

-- within 150 ms
hundred_fifty_in : swing (pulse 1 1 (pos 9000)) 150 0 150 ≡ 9000
unfolding swing largest_change greatest delta_v
hundred_fifty_in = refl

hundred_fifty_out : swing (pulse 1 1 (pos 9000)) 150 0 151 ≡ 0
unfolding swing largest_change greatest delta_v
hundred_fifty_out = refl

-- a change doesn't begin before its bound: from 10 on the sample of tick 11 counts, that of tick 10 doesn't
bound_in : swing (pulse 11 11 (pos 9000)) 20 10 15 ≡ 9000
unfolding swing largest_change greatest delta_v
bound_in = refl

bound_out : swing (pulse 10 10 (pos 9000)) 20 10 15 ≡ 0
unfolding swing largest_change greatest delta_v
bound_out = refl

-- at its bound and before it a swing is 0
no_beginning : swing (pulse 1 9 (pos 9000)) 20 9 9 ≡ 0
unfolding swing largest_change greatest delta_v
no_beginning = refl

-- a part of the window counts, either way: up by 3,000, then down by 5,000
turned : swing (both (pulse 1 1 (pos 3000)) (pulse 2 2 (negsuc 4999))) 20 0 2 ≡ 5000
unfolding swing largest_change greatest delta_v
turned = refl

-- 0.8 km/h itself isn't over
over_8000 : is_over 8_000 ≡ false
over_8000 = refl

over_8001 : is_over 8_001 ≡ true
over_8001 = refl

-- the trigger threshold itself is met
trigger_below_limit : meets_trigger (TRIGGER - 1) ≡ false
trigger_below_limit = refl

trigger_at_limit : meets_trigger TRIGGER ≡ true
trigger_at_limit = refl

-- a resultant of 0.8 km/h itself is quiet: squares of 64,000,000, and 64,000,001
quiet_at_limit : is_quiet (negsuc 7999) (pos 0) ≡ true
quiet_at_limit = refl

quiet_past_limit : is_quiet (negsuc 7999) (pos 1) ≡ false
quiet_past_limit = refl

-- 4,800 along and 6,400 across make up a resultant of 8,000
quiet_resultant : is_quiet (pos 4800) (negsuc 6399) ≡ true
quiet_resultant = refl
