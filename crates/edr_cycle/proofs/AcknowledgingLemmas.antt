-- What a stop leaves of acknowledged commands, and of the one after them.
use Rattle.std.proofs.Common.{◌≡◌, refl, ap, sym, subst, ◌∙◌, arith, ℕ, suc, ◌+◌, ◌-◌, ◌<◌, ◌≤◌, ◌⊎◌, inl, inr, Bool, true, false, cond, nat_le, nat_lt, List, [], ◌∷◌, ◌++◌, length, map, take}
use Rattle.std.specs.Prelude.{Contains, flat_map}
use Rattle.std.proofs.lemmas.List.{length-take-le}
use Rattle.std.proofs.lemmas.List.Sums.{sum_by-cons}
use Rattle.std.proofs.lemmas.Option.{slice_get_within}
use Rattle.edr_items.specs.SensorLists.{SensorLists}
use Rattle.edr_image.specs.Banks.{Store}
use Rattle.edr_image.specs.Calls.{IsStop, count_acknowledged, all_calls, calls_of, gate_call_of, stops}
use Rattle.edr_image.specs.Steps.{BankStep}
use Rattle.edr_image.proofs.StopLaws.{acknowledged-falls, contains_cases, contains_map, contains_none, stop-within, stops-has}
use Rattle.edr_run.specs.Cycle.{acks_before, acks_in, replies_in, steps_in}
use Rattle.edr_cycle.specs.Ends.{FirstSteps, steps_before}
use Rattle.edr_cycle.proofs.EndingLemmas.{at_is, length-acks_in, split_at}

-- some first steps of the middle one of three lists, after the first
abbrev Middle : List BankStep → List BankStep → List BankStep → Type 0
Middle a b done = (q : ℕ) × (q ≤ length b) × (done ≡ a ++ take q b)

-- a stop in the first step, or a later one
by_step : (s : BankStep) (steps done : List BankStep) (k : ℕ) (before first : Bool) → nat_lt k (gate_call_of s) ≡ before → nat_le k (calls_of s) ≡ first
    → Contains (cond first (cond before ([] ∷ []) ([] ∷ (s ∷ []) ∷ [])) (map (λ d. s ∷ d) (stops (k - calls_of s) steps))) done
    → ((k ≤ calls_of s) × ((done ≡ []) ⊎ (done ≡ s ∷ []))) ⊎ ((calls_of s < k) × (d : List BankStep) × Contains (stops (k - calls_of s) steps) d × (done ≡ s ∷ d))
by_step s steps done k true true g h c = elim (contains_cases [] [] done c) [ inl e ↦ inl (grind (arith, h), inl (sym e)) | inr none ↦ contains_none done _ none ]
by_step s steps done k false true g h c = elim (contains_cases [] ((s ∷ []) ∷ []) done c) [
  | inl e ↦ inl (grind (arith, h), inl (sym e))
  | inr later ↦ elim (contains_cases (s ∷ []) [] done later) [ inl e ↦ inl (grind (arith, h), inr (sym e)) | inr none ↦ contains_none done _ none ]
]
by_step s steps done k before false g h c = let found = contains_map (λ d. s ∷ d) (stops (k - calls_of s) steps) done c in inr (grind (arith, h), found.0, found.1, sym found.2)

first_or_later : (s : BankStep) (steps done : List BankStep) (k : ℕ) → Contains (stops k (s ∷ steps)) done
    → ((k ≤ calls_of s) × ((done ≡ []) ⊎ (done ≡ s ∷ []))) ⊎ ((calls_of s < k) × (d : List BankStep) × Contains (stops (k - calls_of s) steps) d × (done ≡ s ∷ d))
unfolding stops
first_or_later s steps done k c = by_step s steps done k (nat_lt k (gate_call_of s)) (nat_le k (calls_of s)) refl refl c

in_middle : (a b c done : List BankStep) (k : ℕ) → Contains (stops k (a ++ (b ++ c))) done → all_calls a < k → k ≤ all_calls a + all_calls b → Middle a b done
in_middle [] [] c done k h past within = absurd (omega arith)
in_middle [] (s ∷ b) c done k h past within =
    elim (first_or_later s (b ++ c) done k h) [
      | inl first ↦ elim first.1 [ inl none ↦ (0, omega arith, none) | inr one ↦ (1, omega arith, one) ]
      | inr later ↦
          let cons = sum_by-cons calls_of s b in
          let after = later.0 in
          let rest = in_middle [] b c later.1 (k - calls_of s) later.2 (omega (arith, after)) (omega (arith, within, cons, after)) in
          let q = rest.1 in (suc rest.0, omega (arith, q), later.3 ∙ ap (λ d. s ∷ d) rest.2)
    ]
in_middle (s ∷ a) b c done k h past within =
    let cons = sum_by-cons calls_of s a in
    elim (first_or_later s (a ++ (b ++ c)) done k h) [
      | inl first ↦ let low = first.0 in absurd (omega (arith, low, past, cons))
      | inr later ↦
          let after = later.0 in
          let rest = in_middle a b c later.1 (k - calls_of s) later.2 (omega (arith, past, cons, after)) (omega (arith, within, cons, after)) in
          (rest.0, rest.1, later.3 ∙ ap (λ d. s ∷ d) rest.2)
    ]

pub stop-acknowledged : (f : SensorLists) (n : ℕ) (v : Store) (k : ℕ) (done : List BankStep) → IsStop (steps_in f n v) k done → FirstSteps (replies_in f n v) (length (acks_before f n v k)) done
unfolding steps_in acks_before
stop-acknowledged f n v k done stop =
    let rs = replies_in f n v in
    let bounds = stop-within (flat_map (λ r. r.steps) rs) done k stop in
    let falls = acknowledged-falls rs k bounds.0 bounds.1 in
    let j = count_acknowledged k rs in
    let split = split_at rs j falls.reply falls.at in
    let middle = in_middle (steps_before rs j) falls.reply.steps split.0 done k (subst (λ steps. Contains (stops k steps) done) split.1 (stops-has (flat_map (λ r. r.steps) rs) k done stop)) falls.past falls.within in
    let long : length (take j (acks_in f n v)) ≡ j = let w = slice_get_within rs j falls.reply falls.at in let l = length-acks_in f n v in length-take-le j (acks_in f n v) (omega (arith, w, l)) in
    let own = at_is rs j falls.reply falls.at in
    subst (λ (i : ℕ). FirstSteps rs i done) (sym long) (record { q = middle.0; within = rw own middle.1; steps = middle.2 ∙ ap (λ steps. steps_before rs j ++ take middle.0 steps) (sym own) })
