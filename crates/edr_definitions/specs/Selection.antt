-- Which events the recorder selects from the signals of a cycle.
use Rattle.std.specs.Prelude.{ℕ, zero, suc, ◌+◌, ◌-◌, max, Bool, not, ◌&&◌, ◌||◌, nat_eq, nat_lt, nat_le, if◌then◌else◌, Option, Some, None, unwrap_or, List, [], ◌∷◌, filter_map}
use Rattle.std.specs.Option.{option_map_or}
use Rattle.edr_record.specs.declared.TheConstants.{EARLIEST_END, RESET}
use Rattle.edr_record.specs.Bounds.{window_from_end}
use Rattle.edr_definitions.specs.declared.limits.TheConstants.{ACROSS_TICKS, ALONG_TICKS, QUIET_TICKS, TRIGGER_TICKS}
use Rattle.edr_definitions.specs.Ticks.{first_tick}
use Rattle.edr_definitions.specs.Signals.{Signals}
use Rattle.edr_definitions.specs.Windows.{delta_v, swing, is_over, meets_trigger, is_quiet}

-- where the search stands: a time zero comes after the tick `after`, and the trigger's changes don't begin before the tick `since`
pub record Bounds : Type 0 where
  pub after : ℕ
  pub since : ℕ

-- ---- the tests at a tick

-- a restraint fires at t, or a change within 150 ms on either axis meets the trigger threshold (563.5, event)
unfoldable pub is_triggered : Signals → ℕ → ℕ → Bool
is_triggered m since t =
    not (nat_eq (m.fired t) 0) || meets_trigger (swing m.along TRIGGER_TICKS since t) || meets_trigger (swing m.across TRIGGER_TICKS since t)

-- past the bound, a change of over 0.8 km/h along within 20 ms or across within 5 ms, or the trigger (563.5, time zero)
unfoldable pub is_time_zero : Signals → Bounds → ℕ → Bool
is_time_zero m from t =
    nat_lt from.after t && (is_over (swing m.along ALONG_TICKS from.after t) || is_over (swing m.across ACROSS_TICKS from.after t) || is_triggered m from.since t)

-- the reset 500 ms after time zero, or, at least 20 ms after it, quiet changes of the last 20 ms (563.5, end of event time)
unfoldable pub is_end : Signals → ℕ → ℕ → Bool
is_end m z t =
    nat_eq t (z + RESET) || (nat_le (z + EARLIEST_END) t && is_quiet (delta_v m.along (t - QUIET_TICKS) t) (delta_v m.across (t - QUIET_TICKS) t))

-- ---- end and close

-- the end of the time zero z: the first such tick from z on
unfoldable pub end_of : Signals → ℕ → ℕ
end_of m z = unwrap_or (first_tick (is_end m z) z (z + RESET + 1)) (z + RESET)

-- how far past time zero extremes are looked for (563.7 Table I, maximum delta-V)
abbrev pub window_of : ℕ → ℕ → ℕ
window_of z e = window_from_end (e - z)

-- the close of an event: its end, or the end of that window if that is later
abbrev pub close_of : ℕ → ℕ → ℕ
close_of z e = max e (z + window_of z e)

-- ---- candidates

-- a candidate for an event: its time zero, its end, and the tick of its confirmation if there is one
pub record Candidate : Type 0 where
  pub zero_tick : ℕ
  pub end_tick : ℕ
  pub confirmed : Option ℕ

-- the candidate of a time zero: confirmed by the first trigger up to its end
unfoldable pub candidate_at : Signals → ℕ → ℕ → Candidate
candidate_at m since z = record {
  zero_tick = z;
  end_tick = end_of m z;
  confirmed = first_tick (is_triggered m since) z (end_of m z + 1);
}

-- where the search goes on: past the close of a confirmed candidate; past the end of a dropped one, with the trigger's bound as it was
abbrev pub bounds_after : Bounds → Candidate → Bounds
bounds_after from c =
    let close = close_of c.zero_tick c.end_tick in
    option_map_or (λ _. record { after = close; since = close }) c.confirmed (record { after = c.end_tick; since = from.since })

-- the candidates from there on with a time zero up to `upto`, n of them at most
unfoldable pub chain_from : Signals → ℕ → ℕ → Bounds → List Candidate
chain_from m upto zero from = []
chain_from m upto (suc n) from = elim (first_tick (is_time_zero m from) (from.after + 1) (upto + 1)) [
  | None ↦ []
  | Some z ↦ let c = candidate_at m from.since z in c ∷ chain_from m upto n (bounds_after from c)
]

-- the search begins with the cycle
abbrev pub at_start : Bounds
at_start = record { after = 0; since = 0 }

-- all candidates with a time zero up to `upto`: each is past the one before it, so there are at most `upto`
abbrev pub chain : Signals → ℕ → List Candidate
chain m upto = chain_from m upto upto at_start

-- ---- events

-- an event: a candidate that is confirmed (563.5, event)
pub record Event : Type 0 where
  pub zero_tick : ℕ
  pub confirmed_tick : ℕ
  pub end_tick : ℕ

-- the event that a candidate is, if it is confirmed by the tick `upto`
abbrev pub event_of : ℕ → Candidate → Option Event
event_of upto c =
    option_map_or (λ t. if nat_le t upto then Some (record { zero_tick = c.zero_tick; confirmed_tick = t; end_tick = c.end_tick }) else None) c.confirmed None

-- the events that are confirmed by the tick `upto`, in order
abbrev pub events : Signals → ℕ → List Event
events m upto = filter_map (event_of upto) (chain m upto)
