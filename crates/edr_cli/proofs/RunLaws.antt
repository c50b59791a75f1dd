-- Laws of a run that the clauses of a call rest on.
use Rattle.std.proofs.Common.{◌≡◌, ◌∙◌, sym, subst, ap, arith, ℕ, ◌+◌, ◌≤◌, List, [], ◌∷◌, length, Option, Some, None, IfSome, All, slice_index_or, add-one}
use Rattle.edr_image.specs.Banks.{Store}
use Rattle.edr_spell.specs.declared.CycleInput.{CycleInput}
use Rattle.edr_spell.proofs.LawLemmas.{spell-one}
use Rattle.edr_run.specs.Cycle.{End, IsCycle, start_stopped, start_counted, whole, cut, whole_end, Outcome, IsRun}
use Rattle.edr_run.proofs.LoggedLaws.{run-locks, run-done_later}
use Rattle.edr_run.proofs.OrderLaws.{run-kept, run-locked}
use Rattle.edr_run.proofs.OwnLaws.{run-own}
use Rattle.edr_words.specs.declared.Form.{Form}
use Rattle.edr_gates.specs.Found.{Holds, Says}
use Rattle.edr_cli.specs.Outside.{Input, Memory}
use Rattle.edr_cli.specs.Reports.{report_in}
use Rattle.edr_cli.specs.Runs.{TheRun, IsPowered, IsTraceOf, RunIs}

-- the run with all that holds of it
pub the_run : (form : Form) (bytes image : List ℕ) (new : Memory) (text : List ℕ) (cs : List CycleInput) (v : Store) (n : ℕ) (o : Outcome)
    → IsTraceOf cs bytes → Says image v n → IsRun cs v n o → Holds new.content new.settled o.store o.count → text ≡ report_in form o.reports o.store o.count
    → TheRun form bytes image new text
the_run form bytes image new text cs v n o spelled says run held output = record {
  cycles = cs;
  store = v;
  count = n;
  outcome = o;
  spelled = spelled;
  says = says;
  run = run;
  held = held;
  output = output;
  own_window = λ kept. (run-kept cs v n o kept run, λ i e there. run-own cs v n i o e kept run there);
  leaves_locked = λ i e there locked. run-locked cs v n i o e run there locked;
  keeps_locked = λ k j m a. run-locks cs v n k a.number j m a.cycle a.stop a.log a.ack o run a.ran a.told a.stands a.is_lock a.is_locked;
  keeps_done = λ k j l m a done stands is_done later none. run-done_later cs v n k a.number j l m a.cycle a.stop a.log a.ack done o run a.ran a.told a.stands a.is_lock a.is_locked stands is_done later none;
}

-- a cycle adds at most one to the count
cycle_count : (c : CycleInput) (v : Store) (n : ℕ) (e : End) → IsCycle c v n e → e.count ≤ n + 1
cycle_count c v n e (start_stopped some up is) = let same = ap (λ (x : End). x.count) is in omega (arith, same)
cycle_count c v n e (start_counted some up is) = let same = ap (λ (x : End). x.count) is in omega (arith, same)
cycle_count c v n e (whole run stop is) = let same = ap (λ (x : End). x.count) is in omega (arith, same)
cycle_count c v n e (cut done run stop is) = let same = ap (λ (x : End). x.count) is in omega (arith, same)

-- so a run adds at most as many as it has cycles
pub run_count : (cs : List CycleInput) (v : Store) (n : ℕ) (o : Outcome) → IsRun cs v n o → o.count ≤ n + length cs
run_count [] v n o run = let same : o.count ≡ n = ap (λ (x : Outcome). x.count) run in omega (arith, same)
run_count (c ∷ cs) v n o run =
    let one = cycle_count c v n run.1 run.2 in
    let rest = run_count cs run.1.store run.1.count (record o { reports = run.3 }) run.4 in
    omega (arith, one, rest)

-- a cycle without a planned stop has one end
powered_end : (c : CycleInput) (v : Store) (n : ℕ) (e : End) → IsPowered c → IsCycle c v n e → e ≡ whole_end c.feeds v (n + 1)
powered_end c v n e powered (start_stopped some up is) = absurd (omega (arith, some, powered.0))
powered_end c v n e powered (start_counted some up is) = absurd (omega (arith, some, powered.0))
powered_end c v n e powered (whole run stop is) = is
powered_end c v n e powered (cut done run stop is) = absurd (let before = stop.falls.before in let from = stop.falls.from in omega (arith, before, from, powered.1))

outcome_is : (a b : Outcome) → a.store ≡ b.store → a.count ≡ b.count → a.reports ≡ b.reports → a ≡ b
outcome_is a b store count reports =
    let whole : ◌≡◌ {A = Outcome} (record { reports = a.reports; store = a.store; count = a.count }) (record { reports = b.reports; store = b.store; count = b.count }) = cc in
    whole

-- and so a run without one has one outcome
pub powered_run : (cs : List CycleInput) (v : Store) (n : ℕ) (a b : Outcome) → All IsPowered cs → IsRun cs v n a → IsRun cs v n b → a ≡ b
powered_run [] v n a b powered run_a run_b = run_a ∙ sym run_b
powered_run (c ∷ cs) v n a b powered run_a run_b =
    let first : IsPowered c = powered 0 c (omega arith) in
    let rest : All IsPowered cs = λ i d below. subst (λ (k : ℕ). IsPowered (slice_index_or (c ∷ cs) k d)) (add-one i) (powered (i + 1) d (omega (arith, below))) in
    let end_a = powered_end c v n run_a.1 first run_a.2 in
    let end_b = powered_end c v n run_b.1 first run_b.2 in
    let e : End = whole_end c.feeds v (n + 1) in
    let later_a : IsRun cs e.store e.count (record a { reports = run_a.3 }) = subst (λ (x : End). IsRun cs x.store x.count (record a { reports = run_a.3 })) end_a run_a.4 in
    let later_b : IsRun cs e.store e.count (record b { reports = run_b.3 }) = subst (λ (x : End). IsRun cs x.store x.count (record b { reports = run_b.3 })) end_b run_b.4 in
    let same = powered_run cs e.store e.count (record a { reports = run_a.3 }) (record b { reports = run_b.3 }) rest later_a later_b in
    outcome_is a b (ap (λ (x : Outcome). x.store) same) (ap (λ (x : Outcome). x.count) same)
    (run_a.5 ∙ ap (λ (x : End). x.report ∷ run_a.3) end_a ∙ ap (λ (x : Outcome). e.report ∷ x.reports) same ∙ sym (run_b.5 ∙ ap (λ (x : End). x.report ∷ run_b.3) end_b))

-- traces that spell the same cycles have the same reports
pub same_reports : (form : Form) (cs : List CycleInput) (i j : Input) (old new : Memory) (a b text : List ℕ) → IsTraceOf cs a → IsTraceOf cs b → i.left ≡ Some a → j.left ≡ Some b → RunIs form i old new text → RunIs form j old new text
same_reports form cs i j old new a b text spelled_a spelled_b left_a left_b run =
    subst (λ (left : Option (List ℕ)). IfSome left (λ bytes. IfSome old.content (λ image. TheRun form bytes image new text))) (sym left_b)
    (go old.content (subst (λ (left : Option (List ℕ)). IfSome left (λ bytes. IfSome old.content (λ image. TheRun form bytes image new text))) left_a run))
  where
    go : (content : Option (List ℕ)) → IfSome content (λ image. TheRun form a image new text) → IfSome content (λ image. TheRun form b image new text)
    go None run = tt
    go (Some image) r =
        let same : r.cycles ≡ cs = spell-one a r.cycles cs r.spelled.1 spelled_a.1 in
        the_run form b image new text r.cycles r.store r.count r.outcome (subst (λ (xs : List CycleInput). IsTraceOf xs b) (sym same) spelled_b) r.says r.run r.held r.output
