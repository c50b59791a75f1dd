-- What stands at a tick of the chain up to there is what stands at it of the whole chain.
use Rattle.std.proofs.Common.{arith, refl, ap, sym, subst, ◌≡◌, ◌∙◌, ℕ, ◌+◌, ◌<◌, ◌≤◌, inl, inr, Bool, false, ◌||◌, nat_eq, Some, None, Option, List, [], ◌∷◌}
use Rattle.std.specs.Prelude.{is_some, is_none}
use Rattle.std.specs.List.{list_any}
use Rattle.std.proofs.lemmas.Bool.{cases_lt}
use Rattle.edr_definitions.specs.Ticks.{first_tick}
use Rattle.edr_definitions.specs.Signals.{Signals}
use Rattle.edr_definitions.specs.Selection.{Bounds, is_time_zero, Candidate, bounds_after, close_of, chain, at_start}
use Rattle.edr_definitions.specs.Commands.{is_locking}
use Rattle.edr_definitions.specs.Facts.{IsCandidate, IsChain}
use Rattle.edr_definitions.specs.Change.{is_at, begins_at, is_confirmed_at, is_locked_at, ends_at, drops_at, closes_at, change_of_list, tick_change}
use Rattle.edr_definitions.proofs.TickLaws.{HoldsNowhere-no_first, first_tick-some}
use Rattle.edr_definitions.proofs.SelectionLaws.{chain-is_chain}
use Rattle.edr_definitions.proofs.ChainLaws.{IsCandidate-unique}
use Rattle.edr_definitions.proofs.EventLaws.{zero-past, after_end, confirmed_first}
use Rattle.edr_definitions.proofs.TickChangeLaws.{change_is, and_false}

-- ---- a candidate that begins past the tick t has nothing at t
later : (u t : ℕ) → t < u → nat_eq u t ≡ false
later u t h = grind arith

is_at-later : (r : Option ℕ) (t : ℕ) → ((u : ℕ) → r ≡ Some u → t < u) → is_at r t ≡ false
is_at-later None t past = refl
is_at-later (Some u) t past = later u t (past u refl)

module _ (m : Signals) (t : ℕ) (from : Bounds) (c : Candidate) (is : IsCandidate m from c) (late : t < c.zero_tick) where
  late_zero : begins_at t c ≡ false
  late_zero = later c.zero_tick t late

  late_confirmed : is_confirmed_at t c ≡ false
  late_confirmed = is_at-later c.confirmed t (λ u e.
      let found = confirmed_first m from.since c.zero_tick c.end_tick u c.confirmed is.confirmed_is e in
      let order = found.0.from in omega arith)

  late_locked : is_locked_at m t c ≡ false
  late_locked = and_false (is_some c.confirmed) (is_at (first_tick (is_locking m) c.zero_tick (close_of c.zero_tick c.end_tick + 1)) t)
      (is_at-later (first_tick (is_locking m) c.zero_tick (close_of c.zero_tick c.end_tick + 1)) t (λ u e.
      let found = first_tick-some (is_locking m) c.zero_tick (close_of c.zero_tick c.end_tick + 1) u e in
      let order = found.0.from in omega arith))

  late_end : nat_eq c.end_tick t ≡ false
  late_end = let order = is.end_is.from in later c.end_tick t (omega arith)

  late_drop : drops_at t c ≡ false
  late_drop = and_false (is_none c.confirmed) (nat_eq c.end_tick t) late_end

  late_close : closes_at t c ≡ false
  late_close = let order = is.end_is.from in and_false (is_some c.confirmed) (nat_eq (close_of c.zero_tick c.end_tick) t) (later (close_of c.zero_tick c.end_tick) t (omega arith))

-- ---- a test that no later candidate passes
module _ (m : Signals) (t w : ℕ) (within : t ≤ w) (p : Candidate → Bool) (never : (from : Bounds) (c : Candidate) → IsCandidate m from c → t < c.zero_tick → p c ≡ false) where
  all_later : (from : Bounds) (cs : List Candidate) → IsChain m w from cs → t ≤ from.after → list_any p cs ≡ false
  all_later from [] h past = refl
  all_later from (c ∷ cs) h past =
      let begun = zero-past m from c h.0 in
      let order = h.0.end_is.from in
      let ended = after_end from c in
      let here : p c ≡ false = never from c h.0 (omega (arith, begun)) in
      rw here (all_later (bounds_after from c) cs h.2 (omega (arith, begun, order, ended)))

  any_same : (from : Bounds) (cs ds : List Candidate) → IsChain m w from cs → IsChain m t from ds → list_any p ds ≡ list_any p cs
  any_same from [] [] h k = refl
  any_same from [] (d ∷ ds) h k = let near = k.1 in absurd (HoldsNowhere-no_first (is_time_zero m from) 0 (w + 1) d.zero_tick h k.0.zero_is (omega arith))
  any_same from (c ∷ cs) [] h k =
      let order = h.0.end_is.from in
      let ended = after_end from c in
      elim (cases_lt t c.zero_tick) [
        | inl late ↦ let here : p c ≡ false = never from c h.0 late in sym (rw here (all_later (bounds_after from c) cs h.2 (omega (arith, order, ended))))
        | inr near ↦ absurd (HoldsNowhere-no_first (is_time_zero m from) 0 (t + 1) c.zero_tick k h.0.zero_is (omega arith))
      ]
  any_same from (c ∷ cs) (d ∷ ds) h k =
      let one : d ≡ c = IsCandidate-unique m from d c k.0 h.0 in
      let rest = any_same (bounds_after from c) cs ds h.2 (subst (λ (x : Candidate). IsChain m t (bounds_after from x) ds) one k.2) in
      ap (λ (x : Candidate). p x || list_any p ds) one ∙ ap (λ (v : Bool). p c || v) rest

module _ (m : Signals) (t w : ℕ) (within : t ≤ w) where
  same : (p : Candidate → Bool) → ((from : Bounds) (c : Candidate) → IsCandidate m from c → t < c.zero_tick → p c ≡ false) → list_any p (chain m t) ≡ list_any p (chain m w)
  same p never = any_same m t w within p never at_start (chain m w) (chain m t) (chain-is_chain m w) (chain-is_chain m t)

  -- what stands at t of the chain up to t
  pub tick_change-whole : tick_change m t ≡ change_of_list m t (chain m w)
  tick_change-whole =
      let cs = chain m t in
      let ds = chain m w in
      change_is (list_any (begins_at t) cs) (list_any (is_confirmed_at t) cs) (list_any (is_locked_at m t) cs) (list_any (ends_at t) cs) (list_any (drops_at t) cs) (list_any (closes_at t) cs)
      (list_any (begins_at t) ds) (list_any (is_confirmed_at t) ds) (list_any (is_locked_at m t) ds) (list_any (ends_at t) ds) (list_any (drops_at t) ds) (list_any (closes_at t) ds)
      (same (begins_at t) (late_zero m t)) (same (is_confirmed_at t) (late_confirmed m t)) (same (is_locked_at m t) (late_locked m t)) (same (ends_at t) (late_end m t)) (same (drops_at t) (late_drop m t)) (same (closes_at t) (late_close m t))
