-- What is kept of the members of Outcomes goes on as they do.
use Rattle.std.proofs.Common.{◌≡◌, refl, sym, ap, ◌∙◌, arith, ℕ, ◌+◌, Bool, true, false, cond, ◌||◌, nat_eq, nat_lt, Option, Some, None, List, [], ◌∷◌, map}
use Rattle.std.specs.Prelude.{fold}
use Rattle.edr_items.specs.SensorLists.{SensorLists}
use Rattle.edr_definitions.specs.Commands.{Issue}
use Rattle.edr_image.specs.declared.BankView.{BankView}
use Rattle.edr_image.specs.declared.Ack.{Ack}
use Rattle.edr_image.specs.declared.Header.{Header}
use Rattle.edr_image.specs.Reports.{Ran}
use Rattle.edr_image.specs.Steps.{banks_after}
use Rattle.edr_image.specs.Calls.{all_calls, stops}
use Rattle.edr_run.specs.Cycle.{acks_before, acks_in, cut_end, issues_in, run_ends, steps_in, whole_end}
use Rattle.edr_report.specs.Lines.{text_of}
use Rattle.edr_report.specs.Report.{cycle_lines}
use Rattle.edr_audit.specs.declared.compared.Compared.{Compared}
use Rattle.edr_audit.specs.Compared.{compare}
use Rattle.edr_audit.specs.Branches.{WalkerState, BranchState, branch_after, branch_with, compare_line, ends_of_walk, head_line, numbered, store_in, walked, walker_next, walker_of, walker_past, walker_through}
use Rattle.edr_audit.proofs.WalkLemmas.{map_map}
use Rattle.edr_audit.proofs.NumberLemmas.{issues_in-numbered}
use Rattle.edr_audit.proofs.CommandLemmas.{Stops, acks-told, lines-told, on, past-far, past-none, past-stop, past_all, tells}

-- ---- one cycle whose commands run

-- each walker puts its own number into what it takes
number_goes_on : (report : List ℕ) (h : Header) (place : ℕ) (is : List Issue) (w : WalkerState) → fold (walker_next report h place) w is ≡ fold (walker_past report h place) w (map (numbered w.number) is)
number_goes_on report h place [] w = refl
number_goes_on report h place (i ∷ is) w = number_goes_on report h place is (walker_next report h place w i)

pub through-is : (report : List ℕ) (h : Header) (place : ℕ) (f : SensorLists) (w : WalkerState) → walker_through report h place f w ≡ past_all report h place w (issues_in f w.number)
through-is report h place f w = number_goes_on report h place (issues_in f 1) w ∙ ap (past_all report h place w) (issues_in-numbered f w.number 1)

-- the text of a cycle that ran
ran_text : (report : List ℕ) (place n : ℕ) (stop : Option ℕ) (acks : List Ack) (c : Compared)
    → fold (tells report place) (compare_line report c (head_line place n stop)) acks ≡ compare report c (text_of (cycle_lines place (Ran n stop acks)))
ran_text report place n stop acks c =
    sym (lines-told report c (cycle_lines place (Ran n stop acks)) ∙ acks-told report place (compare_line report c (head_line place n stop)) acks)

branch_is : (n : ℕ) (b : List BankView) (s t : Compared) → s ≡ t → (let x : BranchState = record { banks = b; count = n; text = s } in x) ≡ record { banks = b; count = n; text = t }
branch_is n b s t e = ap (λ (x : Compared). branch_with n x b) e

stopped_ends : (report : List ℕ) (place k : ℕ) (f : SensorLists) (h : Header) (b : BranchState) (w : WalkerState)
    → Stops w (b.count + 1) (map (λ done. fold banks_after b.banks done) (stops k (steps_in f (b.count + 1) (store_in h b)))) (fold (tells report place) (compare_line report b.text (head_line place (b.count + 1) (Some k))) (acks_before f (b.count + 1) (store_in h b) k))
    → walked w ≡ map (branch_after report place b) (map (cut_end f (store_in h b) (b.count + 1) k) (stops k (steps_in f (b.count + 1) (store_in h b))))
stopped_ends report place k f h b w stop =
    let n = b.count + 1 in
    let v = store_in h b in
    let ds = stops k (steps_in f n v) in
    let text = fold (tells report place) (compare_line report b.text (head_line place n (Some k))) (acks_before f n v k) in
    let whole : text ≡ compare report b.text (text_of (cycle_lines place (Ran n (Some k) (acks_before f n v k)))) = ran_text report place n (Some k) (acks_before f n v k) b.text in
    ap (ends_of_walk w) stop.some
    ∙ ap (λ (xs : List (List BankView)). map (branch_with w.number w.cut) xs) (sym stop.some ∙ stop.ends_are)
    ∙ ap (λ (m : ℕ). map (branch_with m w.cut) (map (λ done. fold banks_after b.banks done) ds)) stop.number
    ∙ ap (λ (t : Compared). map (branch_with n t) (map (λ done. fold banks_after b.banks done) ds)) (stop.text ∙ whole)
    ∙ map_map (branch_with n (compare report b.text (text_of (cycle_lines place (Ran n (Some k) (acks_before f n v k)))))) (λ done. fold banks_after b.banks done) ds
    ∙ sym (map_map (branch_after report place b) (cut_end f v n k) ds)

pub run-branches : (report : List ℕ) (h : Header) (place k : ℕ) (f : SensorLists) (b : BranchState)
    → walked (walker_through report h place f (walker_of report place k b)) ≡ map (branch_after report place b) (run_ends f k (store_in h b) (b.count + 1))
unfolding run_ends steps_in acks_in acks_before
run-branches report h place k f b = through (nat_eq k 0) refl where
  through : (none : Bool) → nat_eq k 0 ≡ none
      → walked (walker_through report h place f (record { number = b.count + 1; walk = record { banks = b.banks; held = None; left = cond none None (Some k); ends = [] }; off = compare_line report b.text (head_line place (b.count + 1) None); cut = compare_line report b.text (head_line place (b.count + 1) (Some k)) }))
      ≡ map (branch_after report place b) (cond (none || nat_lt (all_calls (steps_in f (b.count + 1) (store_in h b))) k) (whole_end f (store_in h b) (b.count + 1) ∷ []) (map (cut_end f (store_in h b) (b.count + 1) k) (stops k (steps_in f (b.count + 1) (store_in h b)))))
  through true none =
      let n = b.count + 1 in
      let w = on n b.banks None None (compare_line report b.text (head_line place n None)) (compare_line report b.text (head_line place n (Some k))) in
      ap walked (through-is report h place f w ∙ past-none report h place n (issues_in f n) b.banks None (compare_line report b.text (head_line place n None)) (compare_line report b.text (head_line place n (Some k))))
      ∙ ap (λ (t : Compared). branch_with n t (fold banks_after b.banks (steps_in f n (store_in h b))) ∷ []) (ran_text report place n None (acks_in f n (store_in h b)) b.text)
  through false some = by_calls (nat_lt (all_calls (steps_in f (b.count + 1) (store_in h b))) k) refl where
    by_calls : (past : Bool) → nat_lt (all_calls (steps_in f (b.count + 1) (store_in h b))) k ≡ past
        → walked (walker_through report h place f (on (b.count + 1) b.banks None (Some k) (compare_line report b.text (head_line place (b.count + 1) None)) (compare_line report b.text (head_line place (b.count + 1) (Some k)))))
        ≡ map (branch_after report place b) (cond past (whole_end f (store_in h b) (b.count + 1) ∷ []) (map (cut_end f (store_in h b) (b.count + 1) k) (stops k (steps_in f (b.count + 1) (store_in h b)))))
    by_calls true past =
        let n = b.count + 1 in
        let off = compare_line report b.text (head_line place n None) in
        let cut = compare_line report b.text (head_line place n (Some k)) in
        ap walked (through-is report h place f (on n b.banks None (Some k) off cut) ∙ past-far report h place n (issues_in f n) b.banks None k off cut (grind (arith, past)))
        ∙ ap (λ (t : Compared). branch_with n t (fold banks_after b.banks (steps_in f n (store_in h b))) ∷ []) (ran_text report place n None (acks_in f n (store_in h b)) b.text)
    by_calls false within =
        let n = b.count + 1 in
        let off = compare_line report b.text (head_line place n None) in
        let cut = compare_line report b.text (head_line place n (Some k)) in
        let w = past_all report h place (on n b.banks None (Some k) off cut) (issues_in f n) in
        ap walked (through-is report h place f (on n b.banks None (Some k) off cut))
        ∙ stopped_ends report place k f h b w (past-stop report h place n (issues_in f n) b.banks None k off cut (grind (arith, some)) (grind (arith, within)))
