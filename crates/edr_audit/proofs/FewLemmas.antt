-- How many members Outcomes has.
use Rattle.std.proofs.Common.{subst, ◌≡◌, refl, sym, arith, ℕ, zero, suc, ◌+◌, ◌-◌, ◌*◌, ◌≤◌, Bool, true, false, cond, ◌||◌, nat_eq, nat_le, nat_lt, List, [], ◌∷◌, ◌++◌, length, length-append, map}
use Rattle.std.specs.Prelude.{flat_map, fold}
use Rattle.std.proofs.lemmas.Bool.Decides.{nat_tests}
use Rattle.std.proofs.lemmas.List.{length-map}
use Rattle.edr_image.specs.Banks.{Store}
use Rattle.edr_image.specs.Calls.{all_calls, calls_of, done_of_step, gate_call_of, stops}
use Rattle.edr_image.specs.Steps.{BankStep}
use Rattle.edr_items.specs.SensorLists.{SensorLists}
use Rattle.edr_spell.specs.declared.CycleInput.{CycleInput}
use Rattle.edr_run.specs.Cycle.{End, Outcome, cut_end, ends, last_count, one_more, outcomes, run_ends, start_end, start_ends, steps_in, whole_end}
use Rattle.edr_audit.specs.Verdicts.{may_fork, stops_in}

-- ---- the ends of one cycle

done_few : (k : ℕ) (s : BankStep) → length (done_of_step k s) ≤ 2
done_few k s = by_test (nat_lt k (gate_call_of s)) where
  by_test : (b : Bool) → length (cond b ([] ∷ []) ([] ∷ (s ∷ []) ∷ [])) ≤ 2
  by_test true = omega arith
  by_test false = omega arith

stops_few : (k : ℕ) (steps : List BankStep) → length (stops k steps) ≤ 2
unfolding stops
stops_few k [] = omega arith
stops_few k (s ∷ steps) = by_test (nat_le k (calls_of s)) (stops_few (k - calls_of s) steps) where
  by_test : (b : Bool) → length (stops (k - calls_of s) steps) ≤ 2 → length (cond b (done_of_step k s) (map (λ done. s ∷ done) (stops (k - calls_of s) steps))) ≤ 2
  by_test true later = done_few k s
  by_test false later = let same = length-map (stops (k - calls_of s) steps) (λ done. s ∷ done) in omega (arith, later, same)

-- how many ends it may have
abbrev most_ends : CycleInput → ℕ
most_ends c = cond (may_fork c) 2 1

run_few : (f : SensorLists) (k : ℕ) (v : Store) (n : ℕ) → length (run_ends f k v n) ≤ cond (nat_lt 0 k) 2 1
unfolding run_ends
run_few f k v n = by_test (nat_eq k 0) (nat_lt 0 k) refl refl where
  cuts : length (map (cut_end f v n k) (stops k (steps_in f n v))) ≤ 2
  cuts = let same = length-map (stops k (steps_in f n v)) (cut_end f v n k) in let few = stops_few k (steps_in f n v) in omega (arith, few, same)

  within : (past low : Bool) → (past ≡ false → low ≡ true) → length (cond past (whole_end f v n ∷ []) (map (cut_end f v n k) (stops k (steps_in f n v)))) ≤ cond low 2 1
  within true true h = omega arith
  within true false h = omega arith
  within false true h = cuts
  within false false h = let never = h refl in absurd cc

  by_test : (none low : Bool) → nat_eq k 0 ≡ none → nat_lt 0 k ≡ low → length (cond (none || nat_lt (all_calls (steps_in f n v)) k) (whole_end f v n ∷ []) (map (cut_end f v n k) (stops k (steps_in f n v)))) ≤ cond low 2 1
  by_test true low e g = within true low (λ h. absurd cc)
  by_test false true e g = within (nat_lt (all_calls (steps_in f n v)) k) true (λ h. refl)
  by_test false false e g = absurd (grind (arith, nat_tests, e, g))

start_few : (j : ℕ) (v : Store) (n : ℕ) → length (start_ends j v n) ≤ cond (nat_le 5 j) 2 1
start_few j v n = by_test (nat_le j 4) (nat_le j 6) (nat_le 5 j) refl refl refl where
  by_test : (low mid high : Bool) → nat_le j 4 ≡ low → nat_le j 6 ≡ mid → nat_le 5 j ≡ high
      → length (cond low (start_end j v n ∷ []) (cond mid (start_end j v n ∷ start_end j v (n + 1) ∷ []) [])) ≤ cond high 2 1
  by_test true mid true d e f = omega arith
  by_test true mid false d e f = omega arith
  by_test false true true d e f = omega arith
  by_test false true false d e f = absurd (grind (arith, nat_tests, d, f))
  by_test false false true d e f = omega arith
  by_test false false false d e f = omega arith

at_least : (n : ℕ) (a b : Bool) → n ≤ cond a 2 1 → n ≤ cond (a || b) 2 1
at_least n true b h = h
at_least n false true h = omega (arith, h)
at_least n false false h = h

at_least_too : (n : ℕ) (a b : Bool) → n ≤ cond b 2 1 → n ≤ cond (a || b) 2 1
at_least_too n true true h = h
at_least_too n true false h = omega (arith, h)
at_least_too n false b h = h

ends_few : (c : CycleInput) (v : Store) (n : ℕ) → length (ends c v n) ≤ most_ends c
unfolding ends
ends_few c v n = by_test (nat_eq c.start_stop 0) where
  by_test : (b : Bool) → length (cond b (run_ends c.feeds c.stop v (n + 1)) (start_ends c.start_stop v n)) ≤ most_ends c
  by_test true = at_least_too _ (nat_le 5 c.start_stop) (nat_lt 0 c.stop) (run_few c.feeds c.stop v (n + 1))
  by_test false = at_least _ (nat_le 5 c.start_stop) (nat_lt 0 c.stop) (start_few c.start_stop v n)

-- ---- of all cycles

more_few : (c : CycleInput) (o : Outcome) → length (one_more c o) ≤ most_ends c
more_few c o = by_test (nat_lt o.count last_count) where
  f : End → Outcome
  f e = record { reports = o.reports ++ e.report ∷ []; store = e.store; count = e.count }

  by_test : (b : Bool) → length (cond b (map f (ends c o.store o.count)) []) ≤ most_ends c
  by_test true = let same = length-map (ends c o.store o.count) f in let few = ends_few c o.store o.count in omega (arith, few, same)
  by_test false = omega arith

one_each : {A B : Type 0} (f : A → List B) (xs : List A) → ((x : A) → length (f x) ≤ 1) → length (flat_map f xs) ≤ length xs
one_each f [] few = omega arith
one_each f (x ∷ xs) few = let first = few x in let later = one_each f xs few in let both = length-append (f x) (flat_map f xs) in omega (arith, first, later, both)

two_each : {A B : Type 0} (f : A → List B) (xs : List A) → ((x : A) → length (f x) ≤ 2) → length (flat_map f xs) ≤ 2 * length xs
two_each f [] few = omega arith
two_each f (x ∷ xs) few = let first = few x in let later = two_each f xs few in let both = length-append (f x) (flat_map f xs) in omega (arith, first, later, both)

-- twice the number for each of m cycles
abbrev doubled : ℕ → ℕ → ℕ
doubled zero n = n
doubled (suc m) n = doubled m (2 * n)

doubled_more : (m a b : ℕ) → a ≤ b → doubled m a ≤ doubled m b
doubled_more zero a b le = le
doubled_more (suc m) a b le = doubled_more m (2 * a) (2 * b) (omega (arith, le))

-- those of one more cycle
count_from : (k : ℕ) (cs : List CycleInput) → fold (λ a x. a + cond (may_fork x) 1 0) k cs ≡ k + stops_in cs
count_from k [] = omega arith
count_from k (c ∷ cs) =
    let here = count_from (k + cond (may_fork c) 1 0) cs in
    let there = count_from (0 + cond (may_fork c) 1 0) cs in
    omega (arith, here, there)

stops_more : (c : CycleInput) (cs : List CycleInput) → stops_in (c ∷ cs) ≡ cond (may_fork c) (suc (stops_in cs)) (stops_in cs)
stops_more c cs = by_test (may_fork c) (count_from (0 + cond (may_fork c) 1 0) cs) where
  by_test : (b : Bool) → fold (λ a x. a + cond (may_fork x) 1 0) (0 + cond b 1 0) cs ≡ 0 + cond b 1 0 + stops_in cs → fold (λ a x. a + cond (may_fork x) 1 0) (0 + cond b 1 0) cs ≡ cond b (suc (stops_in cs)) (stops_in cs)
  by_test true e = omega (arith, e)
  by_test false e = omega (arith, e)

cycles_few : (cs : List CycleInput) (os : List Outcome) → length (fold (λ os c. flat_map (one_more c) os) os cs) ≤ doubled (stops_in cs) (length os)
cycles_few [] os = omega arith
cycles_few (c ∷ cs) os =
    subst (λ (m : ℕ). length (fold (λ os c. flat_map (one_more c) os) (flat_map (one_more c) os) cs) ≤ doubled m (length os)) (sym (stops_more c cs)) (by_test (may_fork c) (more_few c) (cycles_few cs (flat_map (one_more c) os)))
  where
    next : List Outcome
    next = flat_map (one_more c) os

    transitive : (a b d : ℕ) → a ≤ b → b ≤ d → a ≤ d
    transitive a b d x y = omega (arith, x, y)

    by_test : (b : Bool) → ((o : Outcome) → length (one_more c o) ≤ cond b 2 1) → length (fold (λ os c. flat_map (one_more c) os) next cs) ≤ doubled (stops_in cs) (length next)
        → length (fold (λ os c. flat_map (one_more c) os) next cs) ≤ doubled (cond b (suc (stops_in cs)) (stops_in cs)) (length os)
    by_test true few later = transitive _ _ _ later (doubled_more (stops_in cs) (length next) (2 * length os) (two_each (one_more c) os few))
    by_test false few later = transitive _ _ _ later (doubled_more (stops_in cs) (length next) (length os) (one_each (one_more c) os few))

doubled_up_to : (m k : ℕ) → m ≤ k → doubled m 1 ≤ doubled k 1
doubled_up_to m k le = up (k - m) m k (omega (arith, le)) where
  step : (m n : ℕ) → doubled m n ≤ doubled (suc m) n
  step m n = doubled_more m n (2 * n) (omega arith)

  up : (d m k : ℕ) → d + m ≡ k → doubled m 1 ≤ doubled k 1
  up zero m k e = let same : m ≡ k = omega (arith, e) in rw same (omega arith)
  up (suc d) m k e = let first = step m 1 in let later = up d (suc m) k (omega (arith, e)) in omega (arith, first, later)

-- at most 256, where few may fork
pub members-few : (cs : List CycleInput) (v : Store) (n : ℕ) → stops_in cs ≤ 8 → length (outcomes cs v n) ≤ 256
members-few cs v n few =
    let one : Outcome = record { reports = []; store = v; count = n } in
    let all = cycles_few cs (one ∷ []) in
    let most : doubled (stops_in cs) 1 ≤ doubled 8 1 = doubled_up_to (stops_in cs) 8 few in
    omega (arith, all, most)
