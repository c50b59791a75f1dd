-- Items given later do not change the commands up to a tick.
use Rattle.std.proofs.Common.{arith, refl, ap, sym, subst, ◌≡◌, ℕ, ◌+◌, ◌<◌, ◌≤◌, ◌⊎◌, inl, inr, true, false, Some, None, Option, MatchOption, List, [], ◌∷◌}
use Rattle.std.proofs.lemmas.Bool.{cases_lt}
use Rattle.edr_definitions.specs.Ticks.{IsFirst, HoldsNowhere}
use Rattle.edr_definitions.specs.Signals.{Signals}
use Rattle.edr_definitions.specs.Selection.{Bounds, is_triggered, is_time_zero, Candidate, bounds_after, chain, at_start}
use Rattle.edr_definitions.specs.Facts.{IsCandidate, IsChain, AgreeUpTo}
use Rattle.edr_definitions.proofs.TickLaws.{IsFirst-unique}
use Rattle.edr_definitions.proofs.SelectionLaws.{chain-is_chain}
use Rattle.edr_definitions.proofs.ChainLaws.{IsCandidate-unique}
use Rattle.edr_definitions.proofs.AgreeLaws.{AgreeUpTo-before, AgreeUpTo-sym, is_time_zero-agree, is_triggered-agree, IsFirst-agree, IsCandidate-agree}
use Rattle.edr_definitions.proofs.EventLaws.{zero-past, end-after_zero, after_end, confirmed_first}

-- ---- two chains of signals that agree up to t
-- two candidates of one time zero that both end past t, confirmed at the same tick up to t or not by then
pub record BothOpen (t : ℕ) (c d : Candidate) : Type 0 where
  pub same_zero : c.zero_tick ≡ d.zero_tick
  pub begun : c.zero_tick ≤ t
  pub first_open : t < c.end_tick
  pub second_open : t < d.end_tick
  pub same_confirmed : (u : ℕ) → u ≤ t → (c.confirmed ≡ Some u → d.confirmed ≡ Some u) × (d.confirmed ≡ Some u → c.confirmed ≡ Some u)

-- the same candidates as far as they have ended by t, and perhaps one that is open
pub data SameUpTo : ℕ → List Candidate → List Candidate → Type 0 where
  none : {t : ℕ} → SameUpTo t [] []
  ended : {t : ℕ} {c : Candidate} {cs ds : List Candidate} → c.end_tick ≤ t → c.zero_tick + 20 ≤ c.end_tick → SameUpTo t cs ds → SameUpTo t (c ∷ cs) (c ∷ ds)
  both_open : {t : ℕ} {c d : Candidate} → BothOpen t c d → SameUpTo t (c ∷ []) (d ∷ [])

same_zero_is : (m n : Signals) (t : ℕ) (from : Bounds) (c d : Candidate) → AgreeUpTo t m n → IsCandidate m from c → IsCandidate n from d → c.zero_tick ≤ t → c.zero_tick ≡ d.zero_tick
same_zero_is m n t from c d same is_c is_d begun =
    IsFirst-unique (is_time_zero n from) 0 c.zero_tick d.zero_tick
    (IsFirst-agree (is_time_zero m from) (is_time_zero n from) 0 c.zero_tick (λ u lo hi. is_time_zero-agree m n from u (AgreeUpTo-before t u m n (omega arith) same)) is_c.zero_is)
    is_d.zero_is

first_found : (n : Signals) (since z e u : ℕ) (r : Option ℕ) → u ≤ e → IsFirst (is_triggered n since) z u → MatchOption r (HoldsNowhere (is_triggered n since) z (e + 1)) (λ x. IsFirst (is_triggered n since) z x × (x ≤ e)) → r ≡ Some u
first_found n since z e u None near first nowhere =
    let f : is_triggered n since u ≡ false = nowhere.none u first.from (omega arith) in
    let g : is_triggered n since u ≡ true = first.holds in cc
first_found n since z e u (Some x) near first found = ap Some (IsFirst-unique (is_triggered n since) z x u found.0 first)

-- a confirmation by t that one has, the other has
confirmed_there : (m n : Signals) (t : ℕ) (from : Bounds) (c d : Candidate) → AgreeUpTo t m n → IsCandidate m from c → IsCandidate n from d → c.zero_tick ≡ d.zero_tick → t < d.end_tick → (u : ℕ) → u ≤ t → c.confirmed ≡ Some u → d.confirmed ≡ Some u
confirmed_there m n t from c d same is_c is_d e later u near is =
    let first : IsFirst (is_triggered m from.since) c.zero_tick u = (confirmed_first m from.since c.zero_tick c.end_tick u c.confirmed is_c.confirmed_is is).0 in
    let there : IsFirst (is_triggered n from.since) c.zero_tick u = IsFirst-agree (is_triggered m from.since) (is_triggered n from.since) c.zero_tick u (λ v lo hi. is_triggered-agree m n from.since v (AgreeUpTo-before t v m n (omega arith) same)) first in
    first_found n from.since d.zero_tick d.end_tick u d.confirmed (omega arith) (subst (λ z. IsFirst (is_triggered n from.since) z u) e there) is_d.confirmed_is

-- past an open candidate the chain ends
chain_stops : (m : Signals) (t : ℕ) (from : Bounds) (cs : List Candidate) → t ≤ from.after → IsChain m t from cs → cs ≡ []
chain_stops m t from [] past h = refl
chain_stops m t from (c ∷ cs) past h = let p = zero-past m from c h.0 in let q : c.zero_tick ≤ t = h.1 in absurd (omega arith)

-- one candidate of each chain, and the chains after them
same_step : (m n : Signals) (t : ℕ) (from : Bounds) (c d : Candidate) (cs ds : List Candidate) → AgreeUpTo t m n → IsChain m t from (c ∷ cs) → IsChain n t from (d ∷ ds) → (IsChain m t (bounds_after from c) cs → IsChain n t (bounds_after from c) ds → SameUpTo t cs ds) → (t < c.end_tick) ⊎ (c.end_tick ≤ t) → (t < d.end_tick) ⊎ (d.end_tick ≤ t) → SameUpTo t (c ∷ cs) (d ∷ ds)
same_step m n t from c d cs ds same p q rest (inr over) _ =
    let is : IsCandidate n from c = IsCandidate-agree m n from c (AgreeUpTo-before t c.end_tick m n over same) p.0 in
    let one : c ≡ d = IsCandidate-unique n from c d is q.0 in
    let tail : IsChain n t (bounds_after from c) ds = subst (λ (x : Candidate). IsChain n t (bounds_after from x) ds) (sym one) q.2 in
    subst (λ (x : Candidate). SameUpTo t (c ∷ cs) (x ∷ ds)) one (ended over (end-after_zero m from c p.0) (rest p.2 tail))
same_step m n t from c d cs ds same p q rest (inl later) (inr over) =
    let is : IsCandidate m from d = IsCandidate-agree n m from d (AgreeUpTo-before t d.end_tick n m over (AgreeUpTo-sym t m n same)) q.0 in
    let one : c ≡ d = IsCandidate-unique m from c d p.0 is in
    let e : c.end_tick ≡ d.end_tick = ap (λ (x : Candidate). x.end_tick) one in absurd (omega arith)
same_step m n t from c d cs ds same p q rest (inl later) (inl later') =
    let e : c.zero_tick ≡ d.zero_tick = same_zero_is m n t from c d same p.0 q.0 p.1 in
    let no_more : cs ≡ [] = chain_stops m t (bounds_after from c) cs (let h = after_end from c in omega arith) p.2 in
    let no_more' : ds ≡ [] = chain_stops n t (bounds_after from d) ds (let h = after_end from d in omega arith) q.2 in
    let r : SameUpTo t (c ∷ []) (d ∷ []) = both_open (record {
      same_zero = e;
      begun = p.1;
      first_open = later;
      second_open = later';
      same_confirmed = λ u near. (confirmed_there m n t from c d same p.0 q.0 e later' u near, confirmed_there n m t from d c (AgreeUpTo-sym t m n same) q.0 p.0 (sym e) later u near);
    }) in
    subst (λ xs. SameUpTo t (c ∷ xs) (d ∷ ds)) (sym no_more) (subst (λ ys. SameUpTo t (c ∷ []) (d ∷ ys)) (sym no_more') r)

-- no candidate of one chain, and one of the other
one_sided : (m n : Signals) (t : ℕ) (from : Bounds) (c : Candidate) → AgreeUpTo t m n → HoldsNowhere (is_time_zero m from) 0 (t + 1) → IsCandidate n from c → c.zero_tick ≤ t → ⊥
one_sided m n t from c same nowhere is near =
    let f : is_time_zero m from c.zero_tick ≡ false = nowhere.none c.zero_tick (omega arith) (omega arith) in
    let g : is_time_zero n from c.zero_tick ≡ true = is.zero_is.holds in
    let e = is_time_zero-agree m n from c.zero_tick (AgreeUpTo-before t c.zero_tick m n near same) in cc

pub chains-same : (m n : Signals) (t : ℕ) (from : Bounds) (cs ds : List Candidate) → AgreeUpTo t m n → IsChain m t from cs → IsChain n t from ds → SameUpTo t cs ds
chains-same m n t from [] [] same p q = none
chains-same m n t from [] (d ∷ ds) same p q = absurd (one_sided m n t from d same p q.0 q.1)
chains-same m n t from (c ∷ cs) [] same p q = absurd (one_sided n m t from c (AgreeUpTo-sym t m n same) q p.0 p.1)
chains-same m n t from (c ∷ cs) (d ∷ ds) same p q =
    same_step m n t from c d cs ds same p q (chains-same m n t (bounds_after from c) cs ds same) (cases_lt t c.end_tick) (cases_lt t d.end_tick)

-- the chains up to t of signals that agree up to t
pub chain-same : (m n : Signals) (t : ℕ) → AgreeUpTo t m n → SameUpTo t (chain m t) (chain n t)
chain-same m n t same = chains-same m n t at_start (chain m t) (chain n t) same (chain-is_chain m t) (chain-is_chain n t)
