-- Laws of cycles and runs: what is listed is what may be.
use Rattle.std.proofs.Common.{◌≡◌, refl, ap, sym, subst, ◌∙◌, arith, ℕ, ◌+◌, ◌<◌, ◌≤◌, ◌⊎◌, inl, inr, Bool, true, false, cond, ◌||◌, nat_eq, nat_lt, nat_le, List, [], ◌∷◌, ◌++◌, map, append_assoc}
use Rattle.std.proofs.lemmas.List.{append-nil}
use Rattle.std.specs.Prelude.{Contains, flat_map, fold}
use Rattle.edr_image.specs.Banks.{Store}
use Rattle.edr_image.specs.Steps.{BankStep}
use Rattle.edr_image.specs.Calls.{all_calls, stops, IsStop}
use Rattle.edr_image.proofs.StopLaws.{contains_here, contains_later, contains_none, contains_map, contains_mapped, contains_cases, contains_append, contains_left, contains_right, stops-is, stops-has, stop-within}
use Rattle.edr_spell.specs.declared.CycleInput.{CycleInput}
use Rattle.edr_image.specs.Reports.{Report}
use Rattle.edr_run.specs.Cycle.{End, IsCycle, start_stopped, start_counted, whole, cut, start_end, whole_end, cut_end, start_ends, run_ends, ends, steps_in, Outcome, IsRun, one_more, outcomes, last_count}

-- ---- one cycle

-- the only member of a list
only : {X : Type 0} (x y : X) → Contains (x ∷ []) y → y ≡ x
only x y h = elim (contains_cases x [] y h) [ inl e ↦ sym e | inr none ↦ contains_none y _ none ]

start_by_tests : (c : CycleInput) (v : Store) (n : ℕ) (e : End) → 1 ≤ c.start_stop → (low high : Bool) → nat_le c.start_stop 4 ≡ low → nat_le c.start_stop 6 ≡ high → Contains (cond low (start_end c.start_stop v n ∷ []) (cond high (start_end c.start_stop v n ∷ start_end c.start_stop v (n + 1) ∷ []) [])) e → IsCycle c v n e
start_by_tests c v n e some true high l h g = start_stopped some (grind (arith, l)) (only (start_end c.start_stop v n) e g)
start_by_tests c v n e some false true l h g = elim (contains_cases (start_end c.start_stop v n) (start_end c.start_stop v (n + 1) ∷ []) e g) [
  | inl same ↦ start_stopped some (grind (arith, h)) (sym same)
  | inr later ↦ start_counted (grind (arith, l)) (grind (arith, h)) (only (start_end c.start_stop v (n + 1)) e later)
]
start_by_tests c v n e some false false l h g = contains_none e _ g

run_by_test : (c : CycleInput) (v : Store) (n : ℕ) (e : End) → c.start_stop ≡ 0 → (none past : Bool) → nat_eq c.stop 0 ≡ none → nat_lt (all_calls (steps_in c.feeds (n + 1) v)) c.stop ≡ past → Contains (cond (none || past) (whole_end c.feeds v (n + 1) ∷ []) (map (cut_end c.feeds v (n + 1) c.stop) (stops c.stop (steps_in c.feeds (n + 1) v)))) e → IsCycle c v n e
run_by_test c v n e run true past z p h = whole run (inl (grind (arith, z))) (only (whole_end c.feeds v (n + 1)) e h)
run_by_test c v n e run false true z p h = whole run (inr (grind (arith, p))) (only (whole_end c.feeds v (n + 1)) e h)
run_by_test c v n e run false false z p h =
    let found = contains_map (cut_end c.feeds v (n + 1) c.stop) (stops c.stop (steps_in c.feeds (n + 1) v)) e h in
    cut found.0 run (stops-is (steps_in c.feeds (n + 1) v) c.stop found.0 (grind (arith, z)) found.1) (sym found.2)

-- each listed end is one to which the cycle may come
pub ends-is : (c : CycleInput) (v : Store) (n : ℕ) (e : End) → Contains (ends c v n) e → IsCycle c v n e
unfolding ends run_ends
ends-is c v n e h = by_test (nat_eq c.start_stop 0) refl h where
  by_test : (run : Bool) → nat_eq c.start_stop 0 ≡ run → Contains (cond run (run_ends c.feeds c.stop v (n + 1)) (start_ends c.start_stop v n)) e → IsCycle c v n e
  by_test true zero_start h = run_by_test c v n e (grind (arith, zero_start)) (nat_eq c.stop 0) (nat_lt (all_calls (steps_in c.feeds (n + 1) v)) c.stop) refl refl h
  by_test false some h = start_by_tests c v n e (grind (arith, some)) (nat_le c.start_stop 4) (nat_le c.start_stop 6) refl refl h

stopped_has : (c : CycleInput) (v : Store) (n : ℕ) (low high : Bool) → nat_le c.start_stop 4 ≡ low → nat_le c.start_stop 6 ≡ high → c.start_stop ≤ 6 → Contains (cond low (start_end c.start_stop v n ∷ []) (cond high (start_end c.start_stop v n ∷ start_end c.start_stop v (n + 1) ∷ []) [])) (start_end c.start_stop v n)
stopped_has c v n true high l h up = contains_here (start_end c.start_stop v n) []
stopped_has c v n false true l h up = contains_here (start_end c.start_stop v n) (start_end c.start_stop v (n + 1) ∷ [])
stopped_has c v n false false l h up = absurd (grind (arith, h, up))

counted_has : (c : CycleInput) (v : Store) (n : ℕ) (low high : Bool) → nat_le c.start_stop 4 ≡ low → nat_le c.start_stop 6 ≡ high → 5 ≤ c.start_stop → c.start_stop ≤ 6 → Contains (cond low (start_end c.start_stop v n ∷ []) (cond high (start_end c.start_stop v n ∷ start_end c.start_stop v (n + 1) ∷ []) [])) (start_end c.start_stop v (n + 1))
counted_has c v n true high l h from up = absurd (grind (arith, l, from))
counted_has c v n false true l h from up = contains_later (start_end c.start_stop v n) (start_end c.start_stop v (n + 1) ∷ []) (start_end c.start_stop v (n + 1)) (contains_here (start_end c.start_stop v (n + 1)) [])
counted_has c v n false false l h from up = absurd (grind (arith, h, up))

start_has : (c : CycleInput) (v : Store) (n : ℕ) (e : End) → 1 ≤ c.start_stop → (run : Bool) → nat_eq c.start_stop 0 ≡ run → Contains (start_ends c.start_stop v n) e → Contains (cond run (run_ends c.feeds c.stop v (n + 1)) (start_ends c.start_stop v n)) e
start_has c v n e some true zero_start h = absurd (grind (arith, some, zero_start))
start_has c v n e some false later h = h

run_has : (c : CycleInput) (v : Store) (n : ℕ) (e : End) → c.start_stop ≡ 0 → (run : Bool) → nat_eq c.start_stop 0 ≡ run → Contains (run_ends c.feeds c.stop v (n + 1)) e → Contains (cond run (run_ends c.feeds c.stop v (n + 1)) (start_ends c.start_stop v n)) e
run_has c v n e zero_start true t h = h
run_has c v n e zero_start false t h = absurd (grind (arith, zero_start, t))

whole_has : (c : CycleInput) (v : Store) (n : ℕ) (none past : Bool) → nat_eq c.stop 0 ≡ none → nat_lt (all_calls (steps_in c.feeds (n + 1) v)) c.stop ≡ past → (c.stop ≡ 0) ⊎ (all_calls (steps_in c.feeds (n + 1) v) < c.stop) → Contains (cond (none || past) (whole_end c.feeds v (n + 1) ∷ []) (map (cut_end c.feeds v (n + 1) c.stop) (stops c.stop (steps_in c.feeds (n + 1) v)))) (whole_end c.feeds v (n + 1))
whole_has c v n true past z p h = contains_here (whole_end c.feeds v (n + 1)) []
whole_has c v n false true z p h = contains_here (whole_end c.feeds v (n + 1)) []
whole_has c v n false false z p (inl h) = absurd (grind (arith, z, h))
whole_has c v n false false z p (inr h) = absurd (grind (arith, p, h))

cut_has : (c : CycleInput) (v : Store) (n : ℕ) (done : List BankStep) (none past : Bool) → nat_eq c.stop 0 ≡ none → nat_lt (all_calls (steps_in c.feeds (n + 1) v)) c.stop ≡ past → IsStop (steps_in c.feeds (n + 1) v) c.stop done → Contains (cond (none || past) (whole_end c.feeds v (n + 1) ∷ []) (map (cut_end c.feeds v (n + 1) c.stop) (stops c.stop (steps_in c.feeds (n + 1) v)))) (cut_end c.feeds v (n + 1) c.stop done)
cut_has c v n done true past z p stop = absurd (let within = stop-within (steps_in c.feeds (n + 1) v) done c.stop stop in let low = within.0 in grind (arith, z, low))
cut_has c v n done false true z p stop = absurd (let within = stop-within (steps_in c.feeds (n + 1) v) done c.stop stop in let high = within.1 in grind (arith, p, high))
cut_has c v n done false false z p stop = contains_mapped (cut_end c.feeds v (n + 1) c.stop) (stops c.stop (steps_in c.feeds (n + 1) v)) done (stops-has (steps_in c.feeds (n + 1) v) c.stop done stop)

-- each end to which the cycle may come is listed
pub ends-has : (c : CycleInput) (v : Store) (n : ℕ) (e : End) → IsCycle c v n e → Contains (ends c v n) e
unfolding ends run_ends
ends-has c v n e (start_stopped some up same) =
    start_has c v n e some (nat_eq c.start_stop 0) refl (subst (λ x. Contains (start_ends c.start_stop v n) x) (sym same) (stopped_has c v n (nat_le c.start_stop 4) (nat_le c.start_stop 6) refl refl up))
ends-has c v n e (start_counted from up same) =
    start_has c v n e (omega (arith, from)) (nat_eq c.start_stop 0) refl (subst (λ x. Contains (start_ends c.start_stop v n) x) (sym same) (counted_has c v n (nat_le c.start_stop 4) (nat_le c.start_stop 6) refl refl from up))
ends-has c v n e (whole zero_start reached same) =
    run_has c v n e zero_start (nat_eq c.start_stop 0) refl (subst (λ x. Contains (run_ends c.feeds c.stop v (n + 1)) x) (sym same) (whole_has c v n (nat_eq c.stop 0) (nat_lt (all_calls (steps_in c.feeds (n + 1) v)) c.stop) refl refl reached))
ends-has c v n e (cut done zero_start stop same) =
    run_has c v n e zero_start (nat_eq c.start_stop 0) refl (subst (λ x. Contains (run_ends c.feeds c.stop v (n + 1)) x) (sym same) (cut_has c v n done (nat_eq c.stop 0) (nat_lt (all_calls (steps_in c.feeds (n + 1) v)) c.stop) refl refl stop))

-- ---- runs

contains_flat_map : {X Y : Type 0} (f : X → List Y) (xs : List X) (y : Y) → Contains (flat_map f xs) y → (x : X) × Contains xs x × Contains (f x) y
contains_flat_map f [] y h = contains_none y _ h
contains_flat_map f (x ∷ xs) y h = elim (contains_append (f x) (flat_map f xs) y h) [
  | inl first ↦ (x, contains_here x xs, first)
  | inr later ↦ let found = contains_flat_map f xs y later in (found.0, contains_later x xs found.0 found.1, found.2)
]

contains_flat_mapped : {X Y : Type 0} (f : X → List Y) (xs : List X) (x : X) (y : Y) → Contains xs x → Contains (f x) y → Contains (flat_map f xs) y
contains_flat_mapped f [] x y h g = contains_none x _ h
contains_flat_mapped f (z ∷ xs) x y h g = elim (contains_cases z xs x h) [
  | inl e ↦ contains_left (f z) (flat_map f xs) y (subst (λ w. Contains (f w) y) (sym e) g)
  | inr later ↦ contains_right (f z) (flat_map f xs) y (contains_flat_mapped f xs x y later g)
]

-- an outcome and one more end
abbrev extended : Outcome → End → Outcome
extended o e = record { reports = o.reports ++ e.report ∷ []; store = e.store; count = e.count }

-- the outcome comes from another one by a run over these cycles
abbrev ComesFrom : List CycleInput → Outcome → Outcome → Type 0
ComesFrom cs from o = (rest : List Report) × IsRun cs from.store from.count (record o { reports = rest }) × (o.reports ≡ from.reports ++ rest)

one_by_test : (c : CycleInput) (from o : Outcome) → (b : Bool) → nat_lt from.count last_count ≡ b → Contains (cond b (map (extended from) (ends c from.store from.count)) []) o → (from.count < last_count) × (e : End) × Contains (ends c from.store from.count) e × (extended from e ≡ o)
one_by_test c from o true below h = let found = contains_map (extended from) (ends c from.store from.count) o h in (grind (arith, below), found.0, found.1, found.2)
one_by_test c from o false full h = contains_none o _ h

one_has : (c : CycleInput) (from : Outcome) (e : End) → from.count < last_count → (b : Bool) → nat_lt from.count last_count ≡ b → Contains (ends c from.store from.count) e → Contains (cond b (map (extended from) (ends c from.store from.count)) []) (extended from e)
one_has c from e below true t h = contains_mapped (extended from) (ends c from.store from.count) e h
one_has c from e below false t h = absurd (grind (arith, below, t))

-- a run that goes on after one cycle
run_more : (c : CycleInput) (cs : List CycleInput) (from o : Outcome) (e : End) → from.count < last_count → IsCycle c from.store from.count e → ComesFrom cs (extended from e) o → ComesFrom (c ∷ cs) from o
run_more c cs from o e below cycle later =
    (e.report ∷ later.0, (below, e, cycle, later.0, later.1, refl), later.2 ∙ append_assoc from.reports (e.report ∷ []) later.0)

no_more_from : (from o : Outcome) → from ≡ o → ComesFrom [] from o
no_more_from from o e = ([], parts, ap (λ (x : Outcome). x.reports) (sym e) ∙ sym (append-nil from.reports)) where
  parts : record o { reports = [] } ≡ record { reports = []; store = from.store; count = from.count }
  parts = ap (λ (x : Outcome). record x { reports = [] }) (sym e)

-- each listed outcome comes from a listed beginning
outcomes_from : (cs : List CycleInput) (os : List Outcome) (o : Outcome) → Contains (fold (λ os c. flat_map (one_more c) os) os cs) o → (from : Outcome) × Contains os from × ComesFrom cs from o
outcomes_from [] os o h = (o, h, no_more_from o o refl)
outcomes_from (c ∷ cs) os o h =
    let later = outcomes_from cs (flat_map (one_more c) os) o h in
    let place = contains_flat_map (one_more c) os later.0 later.1 in
    let one = one_by_test c place.0 later.0 (nat_lt place.0.count last_count) refl place.2 in
    let goes : ComesFrom cs (extended place.0 one.1) o = subst (λ (x : Outcome). ComesFrom cs x o) (sym one.3) later.2 in
    (place.0, place.1, run_more c cs place.0 o one.1 one.0 (ends-is c place.0.store place.0.count one.1 one.2) goes)

outcome_is : (x y : Outcome) → x.reports ≡ y.reports → x.store ≡ y.store → x.count ≡ y.count → x ≡ y
outcome_is x y a b c =
    let e : ◌≡◌ {A = Outcome} (record { reports = x.reports; store = x.store; count = x.count }) (record { reports = y.reports; store = y.store; count = y.count }) = cc in e

ended : (from o : Outcome) → ComesFrom [] from o → from ≡ o
ended from o comes =
    let none : comes.0 ≡ [] = ap (λ (x : Outcome). x.reports) comes.1 in
    let store : o.store ≡ from.store = ap (λ (x : Outcome). x.store) comes.1 in
    let count : o.count ≡ from.count = ap (λ (x : Outcome). x.count) comes.1 in
    let reports : o.reports ≡ from.reports = comes.2 ∙ ap (λ rs. from.reports ++ rs) none ∙ append-nil from.reports in
    outcome_is from o (sym reports) (sym store) (sym count)

-- each outcome that comes from a listed beginning is listed
outcomes_have : (cs : List CycleInput) (os : List Outcome) (from o : Outcome) → Contains os from → ComesFrom cs from o → Contains (fold (λ os c. flat_map (one_more c) os) os cs) o
outcomes_have [] os from o h comes = subst (λ x. Contains os x) (ended from o comes) h
outcomes_have (c ∷ cs) os from o h comes =
    let run = comes.1 in
    let e = run.1 in
    let mid = extended from e in
    let listed : Contains (one_more c from) mid = one_has c from e run.0 (nat_lt from.count last_count) refl (ends-has c from.store from.count e run.2) in
    let reports : o.reports ≡ mid.reports ++ run.3 = comes.2 ∙ ap (λ rs. from.reports ++ rs) run.5 ∙ sym (append_assoc from.reports (e.report ∷ []) run.3) in
    outcomes_have cs (flat_map (one_more c) os) mid o (contains_flat_mapped (one_more c) os from mid h listed) (run.3, run.4, reports)

-- the listed outcomes are those to which a run may come
pub outcomes-is : (cs : List CycleInput) (v : Store) (n : ℕ) (o : Outcome) → Contains (outcomes cs v n) o → IsRun cs v n o
outcomes-is cs v n o h =
    let start : Outcome = record { reports = []; store = v; count = n } in
    let found = outcomes_from cs (start ∷ []) o h in
    let same : found.0 ≡ start = only start found.0 found.1 in
    let comes : ComesFrom cs start o = subst (λ (x : Outcome). ComesFrom cs x o) same found.2 in
    subst (λ rs. IsRun cs v n (record o { reports = rs })) (sym comes.2) comes.1

pub outcomes-has : (cs : List CycleInput) (v : Store) (n : ℕ) (o : Outcome) → IsRun cs v n o → Contains (outcomes cs v n) o
outcomes-has cs v n o run =
    let start : Outcome = record { reports = []; store = v; count = n } in
    outcomes_have cs (start ∷ []) start o (contains_here start []) (o.reports, run, refl)
