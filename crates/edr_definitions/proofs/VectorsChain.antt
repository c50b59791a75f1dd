-- Candidates, dropped and confirmed, and where the search goes on after each.
use Rattle.std.proofs.Common.{refl, ◌≡◌, ℕ, pos, negsuc, ◌+◌, ◌-◌, Some, None, [], ◌∷◌}
use Rattle.edr_definitions.specs.declared.limits.TheConstants.{TRIGGER}
use Rattle.edr_definitions.specs.Ticks.{first_tick, greatest}
use Rattle.edr_definitions.specs.Signals.{Signals}
use Rattle.edr_definitions.specs.Windows.{delta_v, largest_change, swing}
use Rattle.edr_definitions.specs.Selection.{is_triggered, is_time_zero, is_end, end_of, candidate_at, bounds_after, chain_from, chain, events}
use Rattle.edr_definitions.proofs.VectorPulses.{pulse, both, divided_up, nothing, firing, only_along, only_fired}

-- past a confirmed candidate both bounds are its close, 50 ms past a time zero whose end is 20 ms past it
after_event : bounds_after (record { after = 0; since = 0 }) (record { zero_tick = 2; end_tick = 22; confirmed = Some 2 }) ≡ record { after = 52; since = 52 }
after_event = refl

-- past a dropped one a time zero comes after its end, and the trigger's bound stays
after_drop : bounds_after (record { after = 9; since = 9 }) (record { zero_tick = 10; end_tick = 30; confirmed = None }) ≡ record { after = 30; since = 9 }
after_drop = refl

-- one that lasts to the reset is dropped there
after_reset : bounds_after (record { after = 0; since = 0 }) (record { zero_tick = 20; end_tick = 520; confirmed = None }) ≡ record { after = 520; since = 0 }
after_reset = refl

-- one step of 0.9 km/h is a time zero, and is dropped at the end
bump : chain (only_along (pulse 1 1 (pos 9000))) 30 ≡ record { zero_tick = 1; end_tick = 21; confirmed = None } ∷ []
unfolding chain_from candidate_at end_of is_end is_time_zero is_triggered first_tick swing largest_change greatest delta_v
bump = refl

no_event : events (only_along (pulse 1 1 (pos 9000))) 30 ≡ []
unfolding chain_from candidate_at end_of is_end is_time_zero is_triggered first_tick swing largest_change greatest delta_v
no_event = refl

-- half of the trigger threshold at tick 1 and again at tick 2: time zero is the first, the confirmation the second
abbrev halves : Signals
halves = only_along (pulse 1 2 (pos (divided_up TRIGGER 2)))

blow : events halves 25 ≡ record { zero_tick = 1; confirmed_tick = 2; end_tick = 22 } ∷ []
unfolding chain_from candidate_at end_of is_end is_time_zero is_triggered first_tick swing largest_change greatest delta_v
blow = refl

-- an event counts from its confirmation on
not_confirmed_yet : events halves 1 ≡ []
unfolding chain_from candidate_at end_of is_end is_time_zero is_triggered first_tick swing largest_change greatest delta_v
not_confirmed_yet = refl

-- as many ticks of 0.4 km/h as meet the trigger threshold, exactly
abbrev met : ℕ
met = divided_up TRIGGER 4000

-- a crash of 0.4 km/h a tick: 8,000 at tick 2 isn't over, the trigger is met by its last tick, the last 20 ticks hold 8,000 at tick 118
crash : events (only_along (pulse 1 100 (negsuc 3999))) met ≡ record { zero_tick = 3; confirmed_tick = met; end_tick = 118 } ∷ []
unfolding chain_from candidate_at end_of is_end is_time_zero is_triggered first_tick swing largest_change greatest delta_v
crash = refl

-- a turned impulse: the trigger threshold backwards from tick 11 on, while all ticks sum to 30,000 less
turned_impulse : events (only_along (both (pulse 1 10 (pos 3000)) (pulse 11 (10 + met) (negsuc 3999)))) (10 + met) ≡ record { zero_tick = 3; confirmed_tick = 10 + met; end_tick = 28 + met } ∷ []
unfolding chain_from candidate_at end_of is_end is_time_zero is_triggered first_tick swing largest_change greatest delta_v
turned_impulse = refl

-- a trigger that reaches back past a dropped candidate: 50,000 up to it and 5,000 a tick after it make the threshold up within 150 ticks
abbrev made_up : ℕ
made_up = 70 + divided_up (TRIGGER - 50000) 5000

reaches_back : chain (only_along (both (pulse 1 10 (pos 5000)) (pulse 71 80 (pos 5000)))) made_up ≡ record { zero_tick = 2; end_tick = 29; confirmed = None } ∷ record { zero_tick = 72; end_tick = 99; confirmed = Some made_up } ∷ []
unfolding chain_from candidate_at end_of is_end is_time_zero is_triggered first_tick swing largest_change greatest delta_v
reaches_back = refl

-- past an event it doesn't: the threshold at tick 1 is an event, and one step less past its close gives a second candidate, which is dropped
starts_anew : chain (only_along (both (pulse 1 1 (pos TRIGGER)) (pulse 52 52 (pos (TRIGGER - 1))))) 60 ≡ record { zero_tick = 1; end_tick = 21; confirmed = Some 1 } ∷ record { zero_tick = 52; end_tick = 72; confirmed = None } ∷ []
unfolding chain_from candidate_at end_of is_end is_time_zero is_triggered first_tick swing largest_change greatest delta_v
starts_anew = refl

-- a deployment alone is an event with its time zero and confirmation at the firing
deployment : events (only_fired (firing 2 1)) 30 ≡ record { zero_tick = 2; confirmed_tick = 2; end_tick = 22 } ∷ []
unfolding chain_from candidate_at end_of is_end is_time_zero is_triggered first_tick swing largest_change greatest delta_v
deployment = refl

-- two restraints, at tick 2 and at the tick b
abbrev twice : ℕ → Signals
twice b = only_fired (λ t. firing 2 1 t + firing b 2 t)

-- a firing at the close, 52, belongs to the event
at_the_close : events (twice 52) 60 ≡ record { zero_tick = 2; confirmed_tick = 2; end_tick = 22 } ∷ []
unfolding chain_from candidate_at end_of is_end is_time_zero is_triggered first_tick swing largest_change greatest delta_v
at_the_close = refl

-- one past the close is the next event
past_the_close : events (twice 53) 60 ≡ record { zero_tick = 2; confirmed_tick = 2; end_tick = 22 } ∷ record { zero_tick = 53; confirmed_tick = 53; end_tick = 73 } ∷ []
unfolding chain_from candidate_at end_of is_end is_time_zero is_triggered first_tick swing largest_change greatest delta_v
past_the_close = refl

-- a firing at the end of a candidate confirms it, one past its end is a candidate of its own
abbrev bump_and_firing : ℕ → Signals
bump_and_firing b = record { along = pulse 1 1 (pos 9000); across = nothing; fired = firing b 1 }

at_the_end : chain (bump_and_firing 21) 30 ≡ record { zero_tick = 1; end_tick = 21; confirmed = Some 21 } ∷ []
unfolding chain_from candidate_at end_of is_end is_time_zero is_triggered first_tick swing largest_change greatest delta_v
at_the_end = refl

past_the_end : chain (bump_and_firing 22) 30 ≡ record { zero_tick = 1; end_tick = 21; confirmed = None } ∷ record { zero_tick = 22; end_tick = 42; confirmed = Some 22 } ∷ []
unfolding chain_from candidate_at end_of is_end is_time_zero is_triggered first_tick swing largest_change greatest delta_v
past_the_end = refl
