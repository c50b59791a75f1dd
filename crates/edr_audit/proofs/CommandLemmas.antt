-- A walker past the issues of a cycle is where the definition of a cycle's ends says.
use Rattle.std.proofs.Common.{◌≡◌, refl, sym, ap, subst, ◌∙◌, arith, ℕ, suc, ◌+◌, ◌-◌, ◌<◌, ◌≤◌, Bool, true, false, cond, nat_le, Option, Some, None, List, [], ◌∷◌, ◌++◌, map, take}
use Rattle.std.specs.Prelude.{fold, flat_map, zip}
use Rattle.std.proofs.lemmas.List.Sums.{fold-append, sum_by-append}
use Rattle.edr_definitions.specs.Commands.{Issue}
use Rattle.edr_image.specs.declared.Ack.{Ack}
use Rattle.edr_image.specs.declared.BankView.{BankView}
use Rattle.edr_image.specs.declared.Header.{Header}
use Rattle.edr_image.specs.Steps.{BankStep, Reply, State, banks_after, held_after, replies, reply_to, state_after}
use Rattle.edr_image.specs.Calls.{calls_of, all_calls, stops, count_acknowledged}
use Rattle.edr_run.specs.Cycle.{ack_of}
use Rattle.edr_report.specs.Lines.{Line, text_of, text_line}
use Rattle.edr_report.specs.Report.{ack_line}
use Rattle.edr_audit.specs.declared.compared.Compared.{Compared}
use Rattle.edr_audit.specs.Compared.{compare}
use Rattle.edr_audit.specs.Walk.{WalkState, state_in, walk_steps}
use Rattle.edr_audit.specs.Branches.{WalkerState, compare_line, walker_past, walker_with, line_after}
use Rattle.edr_audit.proofs.CompareLemmas.{compare_append}
use Rattle.edr_audit.proofs.WalkLemmas.{going, halted, HaltsWith, map_map, map_same, steps-halted, steps-none, steps-past, steps-within, stops-after, stops-front}

-- ---- the text of acknowledgements

abbrev pub tells : List ℕ → ℕ → Compared → Ack → Compared
tells report place c a = compare_line report c (ack_line place a)

pub lines-told : (report : List ℕ) (c : Compared) (ls : List Line) → compare report c (text_of ls) ≡ fold (compare_line report) c ls
lines-told report c [] = refl
lines-told report c (l ∷ ls) = compare_append report c (text_line l) (text_of ls) ∙ lines-told report (compare_line report c l) ls

pub acks-told : (report : List ℕ) (place : ℕ) (c : Compared) (acks : List Ack) → fold (compare_line report) c (map (ack_line place) acks) ≡ fold (tells report place) c acks
acks-told report place c [] = refl
acks-told report place c (a ∷ acks) = acks-told report place (tells report place c a) acks

-- ---- what issues come to from a state

abbrev pub replies_to : State → List Issue → List Reply
replies_to s is = replies s (map (λ i. i.command) is)

abbrev pub steps_to : State → List Issue → List BankStep
steps_to s is = flat_map (λ r. r.steps) (replies_to s is)

abbrev pub acks_to : State → List Issue → List Ack
acks_to s is = map (λ p. ack_of p.0 p.1) (zip is (replies_to s is))

-- the state of these banks
abbrev pub state : Header → List BankView → Option ℕ → State
state hd b h = record { store = record { header = hd; banks = b }; held = h }

-- a walker that goes on
abbrev pub on : ℕ → List BankView → Option ℕ → Option ℕ → Compared → Compared → WalkerState
on n b h left off cut = record { number = n; walk = going b h left; off = off; cut = cut }

abbrev pub past_all : List ℕ → Header → ℕ → WalkerState → List Issue → WalkerState
past_all report hd place w is = fold (walker_past report hd place) w is

-- ---- no stop

pub past-none : (report : List ℕ) (hd : Header) (place n : ℕ) (is : List Issue) (b : List BankView) (h : Option ℕ) (off cut : Compared)
    → past_all report hd place (on n b h None off cut) is
    ≡ on n (fold banks_after b (steps_to (state hd b h) is)) (fold held_after h (steps_to (state hd b h) is)) None (fold (tells report place) off (acks_to (state hd b h) is)) (fold (tells report place) cut (acks_to (state hd b h) is))
past-none report hd place n [] b h off cut = refl
past-none report hd place n (i ∷ is) b h off cut =
    let s = state hd b h in
    let r = reply_to s i.command in
    let a = ack_of i r in
    let b1 = fold banks_after b r.steps in
    let h1 = fold held_after h r.steps in
    let rest = steps_to (state hd b1 h1) is in
    let acks = acks_to (state hd b1 h1) is in
    let first : walker_past report hd place (on n b h None off cut) i ≡ on n b1 h1 None (tells report place off a) (tells report place cut a) =
    ap (walker_with report (ack_line place a) (on n b h None off cut)) (steps-none r.steps b h) in
    ap (λ w. past_all report hd place w is) first
    ∙ past-none report hd place n is b1 h1 (tells report place off a) (tells report place cut a)
    ∙ ap (λ x. on n x (fold held_after h1 rest) None (fold (tells report place) off (a ∷ acks)) (fold (tells report place) cut (a ∷ acks))) (sym (fold-append banks_after b r.steps rest))
    ∙ ap (λ x. on n (fold banks_after b (r.steps ++ rest)) x None (fold (tells report place) off (a ∷ acks)) (fold (tells report place) cut (a ∷ acks))) (sym (fold-append held_after h r.steps rest))

-- ---- a stop past all calls

pub past-far : (report : List ℕ) (hd : Header) (place n : ℕ) (is : List Issue) (b : List BankView) (h : Option ℕ) (k : ℕ) (off cut : Compared) → all_calls (steps_to (state hd b h) is) < k
    → past_all report hd place (on n b h (Some k) off cut) is
    ≡ on n (fold banks_after b (steps_to (state hd b h) is)) (fold held_after h (steps_to (state hd b h) is)) (Some (k - all_calls (steps_to (state hd b h) is))) (fold (tells report place) off (acks_to (state hd b h) is)) (fold (tells report place) cut (acks_to (state hd b h) is))
past-far report hd place n [] b h k off cut past = let same : k ≡ k - 0 = omega arith in ap (λ j. on n b h (Some j) off cut) same
past-far report hd place n (i ∷ is) b h k off cut past =
    let s = state hd b h in
    let r = reply_to s i.command in
    let a = ack_of i r in
    let b1 = fold banks_after b r.steps in
    let h1 = fold held_after h r.steps in
    let rest = steps_to (state hd b1 h1) is in
    let acks = acks_to (state hd b1 h1) is in
    let whole : all_calls (r.steps ++ rest) ≡ all_calls r.steps + all_calls rest = sum_by-append calls_of r.steps rest in
    let k1 = k - all_calls r.steps in
    let first : walker_past report hd place (on n b h (Some k) off cut) i ≡ on n b1 h1 (Some k1) (tells report place off a) (tells report place cut a) =
    ap (walker_with report (ack_line place a) (on n b h (Some k) off cut)) (steps-past r.steps b h k (omega (arith, past, whole))) in
    let left : k1 - all_calls rest ≡ k - all_calls (r.steps ++ rest) = omega (arith, whole) in
    ap (λ w. past_all report hd place w is) first
    ∙ past-far report hd place n is b1 h1 k1 (tells report place off a) (tells report place cut a) (omega (arith, past, whole))
    ∙ ap (λ x. on n x (fold held_after h1 rest) (Some (k1 - all_calls rest)) (fold (tells report place) off (a ∷ acks)) (fold (tells report place) cut (a ∷ acks))) (sym (fold-append banks_after b r.steps rest))
    ∙ ap (λ x. on n (fold banks_after b (r.steps ++ rest)) x (Some (k1 - all_calls rest)) (fold (tells report place) off (a ∷ acks)) (fold (tells report place) cut (a ∷ acks))) (sym (fold-append held_after h r.steps rest))
    ∙ ap (λ x. on n (fold banks_after b (r.steps ++ rest)) (fold held_after h (r.steps ++ rest)) (Some x) (fold (tells report place) off (a ∷ acks)) (fold (tells report place) cut (a ∷ acks))) left

-- ---- a stop in a call

-- past a stop nothing changes
stays : (report : List ℕ) (hd : Header) (place n : ℕ) (is : List Issue) (b : List BankView) (h l : Option ℕ) (e : List BankView) (es : List (List BankView)) (off cut : Compared)
    → past_all report hd place (record { number = n; walk = halted b h l e es; off = off; cut = cut }) is ≡ record { number = n; walk = halted b h l e es; off = off; cut = cut }
stays report hd place n [] b h l e es off cut = refl
stays report hd place n (i ∷ is) b h l e es off cut =
    let w : WalkerState = record { number = n; walk = halted b h l e es; off = off; cut = cut } in
    let first : walker_past report hd place w i ≡ w = ap (walker_with report (line_after hd place w.walk i) w) (steps-halted (reply_to (state_in hd w.walk) i.command).steps b h l e es) in
    ap (λ x. past_all report hd place x is) first ∙ stays report hd place n is b h l e es off cut

-- the ends, and the text of the commands before the stop
pub record Stops (w : WalkerState) (n : ℕ) (ends : List (List BankView)) (cut : Compared) : Type 0 where
  pub number : w.number ≡ n
  pub first : List BankView
  pub more : List (List BankView)
  pub some : w.walk.ends ≡ first ∷ more
  pub ends_are : w.walk.ends ≡ ends
  pub text : w.cut ≡ cut

stays_over : (report : List ℕ) (hd : Header) (place n : ℕ) (is : List Issue) (w : WalkState) (ends : List (List BankView)) (l : Line) (off cut : Compared) → HaltsWith w ends
    → Stops (past_all report hd place (walker_with report l (record { number = n; walk = w; off = off; cut = cut }) w) is) n ends cut
stays_over report hd place n is w ends l off cut halts =
    let e = halts.0 in
    let es = halts.1 in
    let b = w.banks in
    let is_halted : w ≡ halted w.banks w.held w.left e es = ap (λ (x : List (List BankView)). record w { ends = x }) halts.2 in
    let now : WalkerState = record { number = n; walk = halted w.banks w.held w.left e es; off = off; cut = cut } in
    let same : past_all report hd place (walker_with report l (record { number = n; walk = w; off = off; cut = cut }) w) is ≡ now =
    ap (λ (x : WalkState). past_all report hd place (walker_with report l (record { number = n; walk = x; off = off; cut = cut }) x) is) is_halted ∙ stays report hd place n is w.banks w.held w.left e es off cut in
    let stops_now : Stops now n ends cut = record { number = refl; first = e; more = es; some = refl; ends_are = sym halts.2 ∙ halts.3; text = refl } in
    subst (λ (x : WalkerState). Stops x n ends cut) (sym same) stops_now

pub past-stop : (report : List ℕ) (hd : Header) (place n : ℕ) (is : List Issue) (b : List BankView) (h : Option ℕ) (k : ℕ) (off cut : Compared) → 1 ≤ k → k ≤ all_calls (steps_to (state hd b h) is)
    → Stops (past_all report hd place (on n b h (Some k) off cut) is) n (map (λ done. fold banks_after b done) (stops k (steps_to (state hd b h) is)))
    (fold (tells report place) cut (take (count_acknowledged k (replies_to (state hd b h) is)) (acks_to (state hd b h) is)))
unfolding count_acknowledged
past-stop report hd place n [] b h k off cut low high = absurd (omega (arith, low, high))
past-stop report hd place n (i ∷ is) b h k off cut low high = by_test (nat_le k (all_calls (reply_to (state hd b h) i.command).steps)) refl (past-stop report hd place n is) where
  by_test : (t : Bool) → nat_le k (all_calls (reply_to (state hd b h) i.command).steps) ≡ t
      → ((b : List BankView) (h : Option ℕ) (k : ℕ) (off cut : Compared) → 1 ≤ k → k ≤ all_calls (steps_to (state hd b h) is)
      → Stops (past_all report hd place (on n b h (Some k) off cut) is) n (map (λ done. fold banks_after b done) (stops k (steps_to (state hd b h) is)))
      (fold (tells report place) cut (take (count_acknowledged k (replies_to (state hd b h) is)) (acks_to (state hd b h) is))))
      → Stops (past_all report hd place (walker_past report hd place (on n b h (Some k) off cut) i) is) n (map (λ done. fold banks_after b done) (stops k (steps_to (state hd b h) (i ∷ is))))
      (fold (tells report place) cut (take (cond t 0 (suc (count_acknowledged (k - all_calls (reply_to (state hd b h) i.command).steps) (replies_to (state_after (state hd b h) (reply_to (state hd b h) i.command).steps) is)))) (acks_to (state hd b h) (i ∷ is))))
  by_test true here later =
      let r = reply_to (state hd b h) i.command in
      let rest = steps_to (state_after (state hd b h) r.steps) is in
      let within : k ≤ all_calls r.steps = grind (arith, here) in
      let halts = steps-within r.steps b h k low within in
      let over = stays_over report hd place n is (walk_steps (going b h (Some k)) r.steps) (map (λ done. fold banks_after b done) (stops k r.steps)) (ack_line place (ack_of i r)) off cut halts in
      subst (λ ds. Stops (past_all report hd place (walker_past report hd place (on n b h (Some k) off cut) i) is) n (map (λ done. fold banks_after b done) ds) cut) (sym (stops-front r.steps rest k low within)) over
  by_test false past later =
      let r = reply_to (state hd b h) i.command in
      let a = ack_of i r in
      let b1 = fold banks_after b r.steps in
      let h1 = fold held_after h r.steps in
      let rest = steps_to (state hd b1 h1) is in
      let after : all_calls r.steps < k = grind (arith, past) in
      let whole : all_calls (r.steps ++ rest) ≡ all_calls r.steps + all_calls rest = sum_by-append calls_of r.steps rest in
      let k1 = k - all_calls r.steps in
      let text = fold (tells report place) (tells report place cut a) (take (count_acknowledged k1 (replies_to (state hd b1 h1) is)) (acks_to (state hd b1 h1) is)) in
      let first : walker_past report hd place (on n b h (Some k) off cut) i ≡ on n b1 h1 (Some k1) (tells report place off a) (tells report place cut a) =
      ap (walker_with report (ack_line place a) (on n b h (Some k) off cut)) (steps-past r.steps b h k after) in
      let more = later b1 h1 k1 (tells report place off a) (tells report place cut a) (omega (arith, after)) (omega (arith, high, whole, after)) in
      let ends_same : map (λ done. fold banks_after b1 done) (stops k1 rest) ≡ map (λ done. fold banks_after b done) (stops k (r.steps ++ rest)) =
      map_same (λ done. fold banks_after b1 done) (λ done. fold banks_after b (r.steps ++ done)) (stops k1 rest) (λ done. sym (fold-append banks_after b r.steps done))
      ∙ sym (map_map (λ done. fold banks_after b done) (λ d. r.steps ++ d) (stops k1 rest))
      ∙ ap (λ ds. map (λ done. fold banks_after b done) ds) (sym (stops-after r.steps rest k after)) in
      subst (λ ds. Stops (past_all report hd place (walker_past report hd place (on n b h (Some k) off cut) i) is) n ds text) ends_same
      (subst (λ (w : WalkerState). Stops (past_all report hd place w is) n (map (λ done. fold banks_after b1 done) (stops k1 rest)) text) (sym first) more)
