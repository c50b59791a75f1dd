-- The search one tick at a time, and what it says of the chain up to there.
use Rattle.std.specs.Prelude.{◌≡◌, ℕ, ◌+◌, ◌<◌, ◌≤◌, Bool, nat_eq, if◌then◌else◌, Option, Some, None, IsSome, List, [], ◌∷◌}
use Rattle.std.specs.Option.{option_or}
use Rattle.edr_definitions.specs.Ticks.{first_tick, IsFirst, HoldsNowhere}
use Rattle.edr_definitions.specs.Signals.{Signals}
use Rattle.edr_definitions.specs.Selection.{Bounds, is_triggered, is_time_zero, is_end, close_of, Candidate, candidate_at, bounds_after, at_start}
use Rattle.edr_definitions.specs.Facts.{CandidatesLead}
use Rattle.edr_definitions.specs.Commands.{is_locking}

-- ---- where the search stands

-- no candidate is open, or one with this time zero, and its confirmation, first locking firing and end as far as they have come
pub data Phase : Type 0 where
  Searching : Phase
  Open : (zero_tick : ℕ) → (confirmed locked ended : Option ℕ) → Phase

-- where the search stands at a tick
pub record Search : Type 0 where
  pub bounds : Bounds
  pub phase : Phase

-- ---- the next tick

-- this tick, if the test holds
abbrev pub tick_if : Bool → ℕ → Option ℕ
tick_if b t = if b then Some t else None

-- the search past the tick t with an open candidate that ends at e
abbrev pub past_end : ℕ → Bounds → ℕ → Option ℕ → Option ℕ → ℕ → Search
past_end t b z None l e = record { bounds = record { after = e; since = b.since }; phase = Searching }
past_end t b z (Some c) l e =
    if nat_eq t (close_of z e) then record { bounds = record { after = t; since = t }; phase = Searching }
    else record { bounds = b; phase = Open z (Some c) l (Some e) }

-- an open candidate that has not ended, at the tick t: it may end there
abbrev pub next_open : ℕ → Bounds → ℕ → Option ℕ → Option ℕ → Bool → Search
next_open t b z c l ends = if ends then past_end t b z c l t else record { bounds = b; phase = Open z c l None }

-- the search past the tick t, by its phase before it
abbrev pub next_from : Signals → ℕ → Bounds → Phase → Search
next_from m t b Searching =
    if is_time_zero m b t then record { bounds = b; phase = Open t (tick_if (is_triggered m b.since t) t) (tick_if (is_locking m t) t) None }
    else record { bounds = b; phase = Searching }
next_from m t b (Open z c l None) =
    next_open t b z (option_or c (tick_if (is_triggered m b.since t) t)) (option_or l (tick_if (is_locking m t) t)) (is_end m z t)
next_from m t b (Open z c l (Some e)) = past_end t b z c (option_or l (tick_if (is_locking m t) t)) e

-- the search past the tick t, from where it stood before it
abbrev pub next_search : Signals → ℕ → Search → Search
next_search m t s = next_from m t s.bounds s.phase

-- ---- what it says of the chain

-- where each candidate of the list leaves the search, it is at most t
abbrev pub AllClosed : ℕ → Bounds → List Candidate → Type 0
AllClosed t from [] = Unit {0}
AllClosed t from (c ∷ cs) = ((bounds_after from c).after ≤ t) × AllClosed t (bounds_after from c) cs

-- what the phase says at the tick t
abbrev pub PhaseIs : Signals → ℕ → Bounds → Phase → Type 0
PhaseIs m t b Searching = HoldsNowhere (is_time_zero m b) 0 (t + 1)
PhaseIs m t b (Open z c l None) =
    IsFirst (is_time_zero m b) 0 z × (z ≤ t) × HoldsNowhere (is_end m z) z (t + 1) × (c ≡ first_tick (is_triggered m b.since) z (t + 1)) × (l ≡ first_tick (is_locking m) z (t + 1))
PhaseIs m t b (Open z c l (Some e)) =
    IsFirst (is_time_zero m b) 0 z × IsFirst (is_end m z) z e × (e ≤ t) × (c ≡ first_tick (is_triggered m b.since) z (e + 1)) × IsSome c × (t < close_of z e) × (l ≡ first_tick (is_locking m) z (t + 1))

-- the search stands for the signals up to the tick t
pub record StandsFor (m : Signals) (t : ℕ) (s : Search) : Type 0 where
  pub closed : List Candidate
  pub leads : CandidatesLead m at_start closed s.bounds
  pub all_closed : AllClosed t at_start closed
  pub past : s.bounds.after ≤ t
  pub phase_is : PhaseIs m t s.bounds s.phase

-- the open candidate, whole
abbrev pub open_candidates : Signals → Bounds → Phase → List Candidate
open_candidates m b Searching = []
open_candidates m b (Open z c l None) = candidate_at m b.since z ∷ []
open_candidates m b (Open z c l (Some e)) = record { zero_tick = z; end_tick = e; confirmed = c } ∷ []
