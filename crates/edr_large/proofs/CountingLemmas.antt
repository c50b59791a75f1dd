-- The loop over the cycles of a number.
use Rattle.std.proofs.Common.{arith, ◌≡◌, ◌∙◌, ap, refl, sym, subst, ℕ, suc, ◌+◌, ◌-◌, ◌*◌, ◌≤◌, ◌<◌, Some, List, [], ◌∷◌, ◌++◌, map, length, length-append, append_assoc}
use Rattle.std.proofs.lemmas.List.{append-nil, map-append}
use Rattle.std.proofs.lemmas.List.Concat.{flat_map-append}
use Rattle.edr_items.specs.SensorLists.{AreFeeds, IsLevel}
use Rattle.edr_image.specs.declared.Ack.{Ack}
use Rattle.edr_image.specs.declared.Found.{Found}
use Rattle.edr_image.specs.Banks.{Store, retrieved_banks}
use Rattle.edr_image.specs.Image.{view_of}
use Rattle.edr_image.specs.Reports.{Report}
use Rattle.edr_spell.specs.declared.CycleInput.{CycleInput}
use Rattle.edr_run.specs.Cycle.{IsCycle, IsRun, Outcome}
use Rattle.edr_replay.proofs.RunLemmas.{extended, run_more}
use Rattle.edr_gen.specs.declared.plan.TheConstants.{TICKS}
use Rattle.edr_gen.specs.Draws.{Planned, impulse_count, impulses_from, plan_from, state_past}
use Rattle.edr_gen.specs.Traces.{cycle_of, generated_cycles, generated_rows, rows_of, samples_of}
use Rattle.edr_gen.proofs.FedLemmas.{AllFed, all-fed-after, all-fed-feeds, all-fed-level, all-fed-none}
use Rattle.edr_gen.proofs.RangeLemmas.{impulses-range}
use Rattle.edr_gen.proofs.SpelledLemmas.{generated-many, generated-spelled}
use Rattle.edr_large.specs.Large.{HasCounted, HasRunInMemory, HasRunOn, IsCounted, acks_in, all_acks, new_store, unstopped_cycle}
use Rattle.edr_large.specs.declared.counts.Counts.{Counts}
use Rattle.edr_large.specs.Counts.{counts_of}
use Rattle.edr_large.specs.Rows.{items_in, most_items}
use Rattle.edr_image.specs.declared.places.TheConstants.{LARGEST_IMAGE}
use Rattle.edr_large.proofs.RowLemmas.{items_few, rows_many}

-- k cycles ran, and the next one is made from this state
pub record Counted (number cycles k state rows : ℕ) (acks : List Ack) (image : List ℕ) : Type 0 where
  pub size : length image ≡ LARGEST_IMAGE
  pub few : rows ≤ (most_items + 2) * k
  pub passed : List CycleInput
  pub cycles_are : passed ++ generated_cycles state (cycles - k) ≡ generated_cycles number cycles
  pub rows_are : rows + length (generated_rows state (cycles - k)) ≡ length (generated_rows number cycles)
  pub ran : HasRunInMemory passed acks image

-- at first none
pub counted_none : (number cycles : ℕ) (acks : List Ack) (image : List ℕ) → length image ≡ LARGEST_IMAGE → acks ≡ [] → view_of image ≡ Some (record { store = new_store; count = 0 }) → Counted number cycles 0 number 0 acks image
counted_none number cycles acks image size none says = let all : cycles - 0 ≡ cycles = omega arith in record {
  size = size;
  few = omega arith;
  passed = [];
  cycles_are = ap (generated_cycles number) all;
  rows_are = let same = ap (λ (m : ℕ). length (generated_rows number m)) all in omega (arith, same);
  ran = record { outcome = record { reports = []; store = new_store; count = 0 }; run = refl; acks_are = none; says = says };
}

-- the sensors may give what is planned
plan_fed : (x : ℕ) → AllFed TICKS (samples_of (plan_from x))
unfolding plan_from
plan_fed x = all-fed-after (impulses_from x (impulse_count x)) TICKS 0 [] (impulses-range x (impulse_count x)) (omega arith) all-fed-none

pub plan_feeds : (c : CycleInput) (x : ℕ) → c ≡ cycle_of (plan_from x) → AreFeeds c.feeds
plan_feeds c x is = subst (λ (d : CycleInput). AreFeeds d.feeds) (sym is) (all-fed-feeds TICKS (samples_of (plan_from x)) (plan_fed x))

-- and they are level
pub plan_level : (c : CycleInput) (x : ℕ) → c ≡ cycle_of (plan_from x) → IsLevel c.feeds
plan_level c x is = subst (λ (d : CycleInput). IsLevel d.feeds) (sym is) (all-fed-level TICKS (samples_of (plan_from x)) (plan_fed x))

-- and has few items
pub plan_few : (c : CycleInput) (x : ℕ) → c ≡ cycle_of (plan_from x) → items_in c.feeds ≤ most_items
plan_few c x is = subst (λ (d : CycleInput). items_in d.feeds ≤ most_items) (sym is) (items_few (plan_from x))

next_cycles : (x m : ℕ) → generated_cycles x (suc m) ≡ cycle_of (plan_from x) ∷ generated_cycles (state_past x) m
unfolding generated_cycles
next_cycles x m = refl

next_rows : (x m : ℕ) → generated_rows x (suc m) ≡ rows_of (plan_from x) ++ generated_rows (state_past x) m
unfolding generated_rows
next_rows x m = refl

-- the acknowledgements of one more report
acks_more : (reports : List Report) (r : Report) → all_acks (reports ++ r ∷ []) ≡ all_acks reports ++ acks_in r
acks_more reports r = flat_map-append acks_in reports (r ∷ []) ∙ ap (λ (xs : List Ack). all_acks reports ++ xs) (append-nil (acks_in r))

-- one more cycle after those that ran
ran_more : (cs : List CycleInput) (c : CycleInput) (acks acks' : List Ack) (image image' : List ℕ) → c.start_stop ≡ 0 → (h : HasRunInMemory cs acks image) → HasRunOn c.feeds h.outcome.store h.outcome.count acks acks' image'
    → HasRunInMemory (cs ++ c ∷ []) acks' image'
ran_more cs c acks acks' image image' begins h more = record {
  outcome = extended h.outcome more.end;
  run = subst (λ (ds : List CycleInput). IsRun ds new_store 0 (extended h.outcome more.end)) (sym (map-append unstopped_cycle cs (c ∷ [])))
      (run_more (map unstopped_cycle cs) (unstopped_cycle c) new_store 0 h.outcome more.end h.run more.below (subst (λ (j : ℕ). IsCycle (record { start_stop = j; feeds = c.feeds; stop = 0 }) h.outcome.store h.outcome.count more.end) (sym begins) more.cycle));
  acks_are = more.acks_are ∙ ap (λ (xs : List Ack). xs ++ acks_in more.end.report) h.acks_are ∙ sym (acks_more h.outcome.reports more.end.report);
  says = more.says;
}

-- one more
pub counted_more : (number cycles k state state' rows rows' : ℕ) (acks acks' : List Ack) (image image' : List ℕ) (c : CycleInput) → k < cycles
    → (h : Counted number cycles k state rows acks image) → c ≡ cycle_of (plan_from state) → state' ≡ state_past state → rows' ≡ rows + (items_in c.feeds + 2) → length image' ≡ length image
    → HasRunOn c.feeds h.ran.outcome.store h.ran.outcome.count acks acks' image' → Counted number cycles (k + 1) state' rows' acks' image'
counted_more number cycles k state state' rows rows' acks acks' image image' c below h is past more size on =
    let m : ℕ = cycles - (k + 1) in
    let left : cycles - k ≡ suc m = omega (arith, below) in
    let p : Planned = plan_from state in
    let d : CycleInput = cycle_of p in
    let cycles_next : generated_cycles state (cycles - k) ≡ d ∷ generated_cycles state' m = ap (generated_cycles state) left ∙ next_cycles state m ∙ ap (λ (x : ℕ). d ∷ generated_cycles x m) (sym past) in
    let rows_next : generated_rows state (cycles - k) ≡ rows_of p ++ generated_rows state' m = ap (generated_rows state) left ∙ next_rows state m ∙ ap (λ (x : ℕ). rows_of p ++ generated_rows x m) (sym past) in
    let many = rows_many p in
    let split = ap (λ xs. length xs) rows_next ∙ length-append (rows_of p) (generated_rows state' m) in
    let items : items_in c.feeds ≡ items_in d.feeds = ap (λ (x : CycleInput). items_in x.feeds) is in
    let few = h.few in
    let most = items_few p in
    let are = h.rows_are in
    record {
      size = size ∙ h.size;
      few = omega (arith, few, more, items, most);
      passed = h.passed ++ d ∷ [];
      cycles_are = append_assoc h.passed (d ∷ []) (generated_cycles state' m) ∙ ap (λ (xs : List CycleInput). h.passed ++ xs) (sym cycles_next) ∙ h.cycles_are;
      rows_are = omega (arith, more, items, many, split, are);
      ran = ran_more h.passed d acks acks' image image' refl h.ran (subst (λ (x : CycleInput). HasRunOn x.feeds h.ran.outcome.store h.ran.outcome.count acks acks' image') is on);
    }

no_cycles : (x : ℕ) → generated_cycles x 0 ≡ []
unfolding generated_cycles
no_cycles x = refl

no_rows : (x : ℕ) → generated_rows x 0 ≡ []
unfolding generated_rows
no_rows x = refl

-- all
pub counted_all : (number cycles k state rows : ℕ) (acks : List Ack) (image : List ℕ) → cycles ≤ k → Counted number cycles k state rows acks image → HasCounted number cycles rows acks image
counted_all number cycles k state rows acks image end h =
    let none : cycles - k ≡ 0 = omega (arith, end) in
    let cycles_none = ap (generated_cycles state) none ∙ no_cycles state in
    let rows_none = ap (λ xs. length xs) (ap (generated_rows state) none ∙ no_rows state) in
    let are = h.rows_are in
    let same : h.passed ≡ generated_cycles number cycles = sym (append-nil h.passed) ∙ ap (λ (xs : List CycleInput). h.passed ++ xs) (sym cycles_none) ∙ h.cycles_are in
    (omega (arith, rows_none, are), subst (λ (cs : List CycleInput). HasRunInMemory cs acks image) same h.ran)

-- and the counts of them
pub counted_is : (number cycles rows : ℕ) (acks : List Ack) (image : List ℕ) (found : List Found) (counts : Counts) → HasCounted number cycles rows acks image
    → ((v : Store) (n : ℕ) → view_of image ≡ Some (record { store = v; count = n }) → found ≡ retrieved_banks v.banks) → counts ≡ counts_of cycles rows acks found → IsCounted number cycles counts
counted_is number cycles rows acks image found counts h retrieves are =
    let o : Outcome = h.1.outcome in
    let many : ℕ = length (generated_cycles number cycles) in
    let lines : ℕ = length (generated_rows number cycles) in
    record {
      spelled = generated_cycles number cycles;
      outcome = o;
      spells = generated-spelled number cycles;
      run = h.1.run;
      counts_are = are ∙ ap (λ (k : ℕ). counts_of k rows acks found) (sym (generated-many number cycles)) ∙ ap (λ (k : ℕ). counts_of many k acks found) h.0
          ∙ ap (λ (xs : List Ack). counts_of many lines xs found) h.1.acks_are ∙ ap (λ (xs : List Found). counts_of many lines (all_acks o.reports) xs) (retrieves o.store o.count h.1.says);
    }
