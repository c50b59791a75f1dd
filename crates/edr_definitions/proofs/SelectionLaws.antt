-- Laws of the selection.
use Rattle.std.proofs.Common.{arith, refl, ◌≡◌, ℕ, zero, suc, ◌+◌, ◌<◌, ◌≤◌, Bool, ◌⊎◌, inl, inr, true, false, Some, None, Option, MatchOption, [], ◌∷◌, unwrap_or}
use Rattle.std.proofs.lemmas.Bool.{cases_lt}
use Rattle.edr_record.specs.declared.TheConstants.{RESET}
use Rattle.edr_definitions.specs.Ticks.{first_tick, IsFirst, HoldsNowhere}
use Rattle.edr_definitions.specs.Signals.{Signals}
use Rattle.edr_definitions.specs.Selection.{Bounds, is_triggered, is_time_zero, is_end, end_of, Candidate, candidate_at, bounds_after, chain_from, chain, at_start}
use Rattle.edr_definitions.specs.Facts.{IsCandidate, IsChain}
use Rattle.edr_definitions.proofs.TickLaws.{not_both, first_tick-some, first_tick-none, IsFirst-unique}

-- no tick up to the bound is a time zero
pub is_time_zero-early : (m : Signals) (from : Bounds) (t : ℕ) → t ≤ from.after → is_time_zero m from t ≡ false
unfolding is_time_zero
is_time_zero-early m from t h = grind arith

-- the reset is an end
pub is_end-reset : (m : Signals) (z : ℕ) → is_end m z (z + RESET) ≡ true
unfolding is_end
is_end-reset m z = grind arith

-- no tick before the 20th after time zero is an end
pub is_end-early : (m : Signals) (z t : ℕ) → t < z + 20 → is_end m z t ≡ false
unfolding is_end
is_end-early m z t h = grind arith

none_before_zero : (m : Signals) (from : Bounds) (z : ℕ) → IsFirst (is_time_zero m from) (from.after + 1) z → (u : ℕ) → u < z → (from.after < u) ⊎ (u ≤ from.after) → is_time_zero m from u ≡ false
none_before_zero m from z first u hi (inl past) = first.none_before u (omega arith) hi
none_before_zero m from z first u hi (inr early) = is_time_zero-early m from u early

-- the least tick past the bound that is a time zero is the least of all
zero_from_start : (m : Signals) (from : Bounds) (z : ℕ) → IsFirst (is_time_zero m from) (from.after + 1) z → IsFirst (is_time_zero m from) 0 z
zero_from_start m from z first = record {
  from = omega arith;
  holds = first.holds;
  none_before = λ u lo hi. none_before_zero m from z first u hi (cases_lt from.after u);
}

nowhere_from_start : (m : Signals) (from : Bounds) (b : ℕ) → HoldsNowhere (is_time_zero m from) (from.after + 1) b → HoldsNowhere (is_time_zero m from) 0 b
nowhere_from_start m from b nowhere = record {
  none = λ u lo hi. nowhere_step u hi (cases_lt from.after u);
} where
  nowhere_step : (u : ℕ) → u < b → (from.after < u) ⊎ (u ≤ from.after) → is_time_zero m from u ≡ false
  nowhere_step u hi (inl past) = nowhere.none u (omega arith) hi
  nowhere_step u hi (inr early) = is_time_zero-early m from u early

end_of_step : (m : Signals) (z : ℕ) (r : Option ℕ) → first_tick (is_end m z) z (z + RESET + 1) ≡ r → IsFirst (is_end m z) z (unwrap_or r (z + RESET))
end_of_step m z None e =
    let f : is_end m z (z + RESET) ≡ false = (first_tick-none (is_end m z) z (z + RESET + 1) e).none (z + RESET) (omega arith) (omega arith) in
    let g = is_end-reset m z in absurd (not_both (is_end m z (z + RESET)) f g)
end_of_step m z (Some t) e = (first_tick-some (is_end m z) z (z + RESET + 1) t e).0

-- there is an end, and it is the least tick that is one
pub end_of-is_first : (m : Signals) (z : ℕ) → IsFirst (is_end m z) z (end_of m z)
unfolding end_of
end_of-is_first m z = end_of_step m z (first_tick (is_end m z) z (z + RESET + 1)) refl

-- what is found up to a tick, as a fact
pub first_tick-match : (p : ℕ → Bool) (z e : ℕ) (r : Option ℕ) → first_tick p z (e + 1) ≡ r → MatchOption r (HoldsNowhere p z (e + 1)) (λ t. IsFirst p z t × (t ≤ e))
first_tick-match p z e None h = first_tick-none p z (e + 1) h
first_tick-match p z e (Some t) h = let f = first_tick-some p z (e + 1) t h in (f.0, omega (arith, f.1))

-- a candidate of the least time zero is the one that the search finds
pub candidate_at-is : (m : Signals) (from : Bounds) (z : ℕ) → IsFirst (is_time_zero m from) 0 z → IsCandidate m from (candidate_at m from.since z)
unfolding candidate_at
candidate_at-is m from z first = record {
  zero_is = first;
  end_is = end_of-is_first m z;
  confirmed_is = first_tick-match (is_triggered m from.since) z (end_of m z) (first_tick (is_triggered m from.since) z (end_of m z + 1)) refl;
}

-- ---- the chain
-- the search goes on past the candidate
bounds_after_step : (from : Bounds) (z e : ℕ) (r : Option ℕ) → z ≤ e → z ≤ (bounds_after from (record { zero_tick = z; end_tick = e; confirmed = r })).after
bounds_after_step from z e None h = h
bounds_after_step from z e (Some t) h = omega arith

pub bounds_after-later : (from : Bounds) (c : Candidate) → c.zero_tick ≤ c.end_tick → c.zero_tick ≤ (bounds_after from c).after
bounds_after-later from c h = bounds_after_step from c.zero_tick c.end_tick c.confirmed h

chain_step : (m : Signals) (upto n : ℕ) (from : Bounds) → upto ≤ suc n + from.after → ((next : Bounds) → upto ≤ n + next.after → IsChain m upto next (chain_from m upto n next)) → (r : Option ℕ) → first_tick (is_time_zero m from) (from.after + 1) (upto + 1) ≡ r → IsChain m upto from (elim r [
  | None ↦ []
  | Some z ↦ let c = candidate_at m from.since z in c ∷ chain_from m upto n (bounds_after from c)
])
unfolding candidate_at
chain_step m upto n from enough later None e = nowhere_from_start m from (upto + 1) (first_tick-none (is_time_zero m from) (from.after + 1) (upto + 1) e)
chain_step m upto n from enough later (Some z) e =
    let found = first_tick-some (is_time_zero m from) (from.after + 1) (upto + 1) z e in
    let c = candidate_at m from.since z in
    let past : z ≤ (bounds_after from c).after = bounds_after-later from c (end_of-is_first m z).from in
    (candidate_at-is m from z (zero_from_start m from z found.0), omega (arith, found.1), later (bounds_after from c) (omega (arith, found.0.from, past)))

-- the chain is the chain: with fuel for each tick that is left
pub chain_from-is_chain : (m : Signals) (upto n : ℕ) (from : Bounds) → upto ≤ n + from.after → IsChain m upto from (chain_from m upto n from)
unfolding chain_from
chain_from-is_chain m upto zero from enough = record { none = λ u lo hi. is_time_zero-early m from u (omega arith) }
chain_from-is_chain m upto (suc n) from enough =
    chain_step m upto n from enough (chain_from-is_chain m upto n) (first_tick (is_time_zero m from) (from.after + 1) (upto + 1)) refl

pub chain-is_chain : (m : Signals) (upto : ℕ) → IsChain m upto at_start (chain m upto)
chain-is_chain m upto = chain_from-is_chain m upto upto at_start (omega arith)

-- the least tick that is an end is the end
pub end_of-is : (m : Signals) (z t : ℕ) → IsFirst (is_end m z) z t → t ≡ end_of m z
end_of-is m z t first = IsFirst-unique (is_end m z) z t (end_of m z) first (end_of-is_first m z)
