-- A run that goes on by one cycle more.
use Rattle.std.proofs.Common.{◌≡◌, refl, subst, ap, ℕ, ◌<◌, List, [], ◌∷◌, ◌++◌}
use Rattle.edr_image.specs.Banks.{Store}
use Rattle.edr_image.specs.Reports.{Report}
use Rattle.edr_spell.specs.declared.CycleInput.{CycleInput}
use Rattle.edr_run.specs.Cycle.{End, IsCycle, Outcome, IsRun, last_count}

-- an outcome and the end of one more cycle
abbrev pub extended : Outcome → End → Outcome
extended o e = record { reports = o.reports ++ e.report ∷ []; store = e.store; count = e.count }

-- one more cycle after a run
pub run_more : (cs : List CycleInput) (c : CycleInput) (v : Store) (n : ℕ) (o : Outcome) (e : End) → IsRun cs v n o → o.count < last_count → IsCycle c o.store o.count e → IsRun (cs ++ c ∷ []) v n (extended o e)
run_more [] c v n o e run below cycle =
    let count : o.count ≡ n = ap (λ (x : Outcome). x.count) run in
    let store : o.store ≡ v = ap (λ (x : Outcome). x.store) run in
    let reports : o.reports ≡ [] = ap (λ (x : Outcome). x.reports) run in
    (subst (λ (k : ℕ). k < last_count) count below, e, subst (λ (w : Store). IsCycle c w n e) store (subst (λ (k : ℕ). IsCycle c o.store k e) count cycle), [], refl, ap (λ (rs : List Report). rs ++ e.report ∷ []) reports)
run_more (d ∷ cs) c v n o e run below cycle =
    let later = run_more cs c run.1.store run.1.count (record o { reports = run.3 }) e run.4 below cycle in
    (run.0, run.1, run.2, run.3 ++ e.report ∷ [], later, ap (λ (rs : List Report). rs ++ e.report ∷ []) run.5)
