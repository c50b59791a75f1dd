-- What stands at a tick.
use Rattle.std.specs.Prelude.{◌≡◌, ℕ, Bool, false, ◌&&◌, nat_eq, Option, Some, None, is_some, is_none, List}
use Rattle.std.specs.List.{list_any}
use Rattle.std.specs.Option.{option_or}
use Rattle.edr_definitions.specs.Signals.{Signals}
use Rattle.edr_definitions.specs.Selection.{Candidate, close_of, chain, is_end, is_time_zero, is_triggered}
use Rattle.edr_definitions.specs.Search.{Phase, Search, Searching, Open, tick_if}
use Rattle.edr_definitions.specs.Commands.{is_locking, lock_of}

-- whether a tick is a time zero, a confirmation, an event's first locking firing, an end, the end of a dropped candidate, the close of an event
pub record Change : Type 0 where
  pub zero : Bool
  pub confirmed : Bool
  pub locked : Bool
  pub ended : Bool
  pub dropped : Bool
  pub closed : Bool

-- ---- by the candidates

-- there is a tick, and it is t
abbrev pub is_at : Option ℕ → ℕ → Bool
is_at None t = false
is_at (Some u) t = nat_eq u t

-- t is the candidate's time zero
abbrev pub begins_at : ℕ → Candidate → Bool
begins_at t c = nat_eq c.zero_tick t

-- t is its confirmation
abbrev pub is_confirmed_at : ℕ → Candidate → Bool
is_confirmed_at t c = is_at c.confirmed t

-- it becomes an event, and t is the first tick from its time zero to its close at which a locking restraint fires
abbrev pub is_locked_at : Signals → ℕ → Candidate → Bool
is_locked_at m t c = is_some c.confirmed && is_at (lock_of m c.zero_tick c.end_tick) t

-- t is its end
abbrev pub ends_at : ℕ → Candidate → Bool
ends_at t c = nat_eq c.end_tick t

-- t is its end, and it is not confirmed
abbrev pub drops_at : ℕ → Candidate → Bool
drops_at t c = is_none c.confirmed && nat_eq c.end_tick t

-- it is confirmed, and t is its close
abbrev pub closes_at : ℕ → Candidate → Bool
closes_at t c = is_some c.confirmed && nat_eq (close_of c.zero_tick c.end_tick) t

-- what is at the tick t of some candidate of the list
abbrev pub change_of_list : Signals → ℕ → List Candidate → Change
change_of_list m t cs = record {
  zero = list_any (begins_at t) cs;
  confirmed = list_any (is_confirmed_at t) cs;
  locked = list_any (is_locked_at m t) cs;
  ended = list_any (ends_at t) cs;
  dropped = list_any (drops_at t) cs;
  closed = list_any (closes_at t) cs;
}

-- what stands at the tick t
abbrev pub tick_change : Signals → ℕ → Change
tick_change m t = change_of_list m t (chain m t)

-- ---- by the tests

-- the change at the tick t by the answers of the four tests, from the phase before it
abbrev pub stepped_change : ℕ → Bool → Bool → Bool → Bool → Phase → Change
stepped_change t begins trigger locks ends Searching = record { zero = begins; confirmed = begins && trigger; locked = begins && locks; ended = false; dropped = false; closed = false }
stepped_change t begins trigger locks ends (Open z c l None) =
    let now = option_or c (tick_if trigger t) in
    record { zero = false; confirmed = is_none c && trigger; locked = is_none l && locks; ended = ends; dropped = is_none now && ends; closed = is_some now && (ends && nat_eq (close_of z t) t) }
stepped_change t begins trigger locks ends (Open z c l (Some e)) = record { zero = false; confirmed = false; locked = is_none l && locks; ended = false; dropped = false; closed = nat_eq (close_of z e) t }

-- the answer of the test for the end at the tick t, where a candidate is open that has none
abbrev pub TellsEnd : Signals → ℕ → Search → Bool → Type 0
TellsEnd m t s ends = (z : ℕ) (c l : Option ℕ) → s.phase ≡ Open z c l None → ends ≡ is_end m z t

-- the change at the tick t by the tests there, from the search before it
abbrev pub tested_change : Signals → ℕ → Search → Bool → Change
tested_change m t s ends =
    stepped_change t (is_time_zero m s.bounds t) (is_triggered m s.bounds.since t) (is_locking m t) ends s.phase
