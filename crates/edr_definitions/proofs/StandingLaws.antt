-- What a search that stands for signals says of their chain.
use Rattle.std.proofs.Common.{arith, refl, ◌≡◌, ℕ, ◌<◌, ◌≤◌, inl, inr, Some, None, Option, IsSome, List, [], ◌∷◌, ◌++◌}
use Rattle.std.proofs.lemmas.Bool.{cases_lt}
use Rattle.edr_definitions.specs.Signals.{Signals}
use Rattle.edr_definitions.specs.Selection.{Bounds, is_end, end_of, close_of, Candidate, candidate_at, bounds_after, chain, at_start}
use Rattle.edr_definitions.specs.Facts.{CandidatesLead, IsCandidate, IsChain}
use Rattle.edr_definitions.specs.Search.{Phase, Searching, Open, Search, AllClosed, PhaseIs, StandsFor, open_candidates}
use Rattle.edr_definitions.proofs.TickLaws.{not_both}
use Rattle.edr_definitions.proofs.SelectionLaws.{end_of-is_first, candidate_at-is}
use Rattle.edr_definitions.proofs.ChainLaws.{IsChain-is, IsChain-append, AllBegin, none, one}
use Rattle.edr_definitions.proofs.EventLaws.{after_end}
use Rattle.edr_definitions.proofs.SearchLaws.{complete, nothing_yet}

pub all_begin : (t : ℕ) (m : Signals) (from b : Bounds) (cs : List Candidate) → CandidatesLead m from cs b → AllClosed t from cs → AllBegin t cs
all_begin t m from b [] h closed = none
all_begin t m from b (c ∷ cs) h closed =
    let ended = after_end from c in let order = h.0.end_is.from in
    one (omega (arith, ended, order, closed.0)) (all_begin t m (bounds_after from c) b cs h.1 closed.1)

pub past_close : (b : Bounds) (t z e : ℕ) (c : Option ℕ) → IsSome c → t < close_of z e → t ≤ (bounds_after b (record { zero_tick = z; end_tick = e; confirmed = c })).after
past_close b t z e None some later = cc
past_close b t z e (Some x) some later = omega arith

open_is_chain : (m : Signals) (t : ℕ) (b : Bounds) (ph : Phase) → PhaseIs m t b ph → IsChain m t b (open_candidates m b ph)
open_is_chain m t b Searching h = h
open_is_chain m t b (Open z c l None) h =
    let cand = candidate_at m b.since z in
    let is : IsCandidate m b cand = candidate_at-is m b z h.0 in
    let first = end_of-is_first m z in
    let ended = after_end b cand in
    let begun : cand.zero_tick ≤ t = unfold candidate_at in h.1 in
    let end_known : cand.end_tick ≡ end_of m z = unfold candidate_at in refl in
    let open_yet : t < end_of m z = elim (cases_lt t (end_of m z)) [
      | inl later ↦ later
      | inr over ↦ let f = h.2.none (end_of m z) first.from (omega arith) in let g = first.holds in absurd (not_both (is_end m z (end_of m z)) f g)
    ] in
    (is, begun, nothing_yet m t (bounds_after b cand) (omega (arith, ended, end_known, open_yet)))
open_is_chain m t b (Open z c l (Some e)) h =
    let cand : Candidate = record { zero_tick = z; end_tick = e; confirmed = c } in
    (complete m b z e c h.0 h.1 h.3, omega (arith, h.1.from, h.2), nothing_yet m t (bounds_after b cand) (past_close b t z e c h.4 h.5))

-- the chain is what is closed, and the open candidate
pub StandsFor-chain : (m : Signals) (t : ℕ) (s : Search) (h : StandsFor m t s) → h.closed ++ open_candidates m s.bounds s.phase ≡ chain m t
StandsFor-chain m t s h =
    IsChain-is m t (h.closed ++ open_candidates m s.bounds s.phase)
    (IsChain-append m t at_start s.bounds h.closed (open_candidates m s.bounds s.phase) h.leads (all_begin t m at_start s.bounds h.closed h.leads h.all_closed) (open_is_chain m t s.bounds s.phase h.phase_is))
