-- Steps that are taken one after the other up to a stop leave what the definition of a stop says.
use Rattle.std.proofs.Common.{◌≡◌, refl, sym, ap, ◌∙◌, arith, ℕ, ◌+◌, ◌-◌, ◌<◌, ◌≤◌, Bool, true, false, cond, nat_lt, nat_le, Option, Some, None, List, [], ◌∷◌, ◌++◌, map}
use Rattle.std.specs.Prelude.{fold}
use Rattle.std.proofs.lemmas.List.Sums.{sum_by-cons}
use Rattle.std.proofs.lemmas.Bool.Decides.{nat_tests}
use Rattle.edr_image.specs.declared.BankView.{BankView}
use Rattle.edr_image.specs.Steps.{BankStep, banks_after, held_after}
use Rattle.edr_image.specs.Calls.{calls_of, gate_call_of, all_calls, done_of_step, stops}
use Rattle.edr_audit.specs.Walk.{WalkState, past_step, step_within, walk_step, walk_steps}

-- ---- lists

pub map_map : {A B C : Type 0} (f : B → C) (g : A → B) (xs : List A) → map f (map g xs) ≡ map (λ x. f (g x)) xs
map_map f g [] = refl
map_map f g (x ∷ xs) = ap (λ ys. f (g x) ∷ ys) (map_map f g xs)

pub map_same : {A B : Type 0} (f g : A → B) (xs : List A) → ((x : A) → f x ≡ g x) → map f xs ≡ map g xs
map_same f g [] e = refl
map_same {A = A} {B = B} f g (x ∷ xs) e = ap (λ (y : B). y ∷ map f xs) (e x) ∙ ap (λ ys. g x ∷ ys) (map_same f g xs e)

-- ---- where it goes on, and where it is over

abbrev pub going : List BankView → Option ℕ → Option ℕ → WalkState
going banks held left = record { banks = banks; held = held; left = left; ends = [] }

abbrev pub halted : List BankView → Option ℕ → Option ℕ → List BankView → List (List BankView) → WalkState
halted banks held left e es = record { banks = banks; held = held; left = left; ends = e ∷ es }

pub steps-halted : (steps : List BankStep) (b : List BankView) (h l : Option ℕ) (e : List BankView) (es : List (List BankView)) → walk_steps (halted b h l e es) steps ≡ halted b h l e es
unfolding walk_step
steps-halted [] b h l e es = refl
steps-halted (s ∷ steps) b h l e es = steps-halted steps b h l e es

pub steps-none : (steps : List BankStep) (b : List BankView) (h : Option ℕ) → walk_steps (going b h None) steps ≡ going (fold banks_after b steps) (fold held_after h steps) None
unfolding walk_step
steps-none [] b h = refl
steps-none (s ∷ steps) b h = steps-none steps (banks_after b s) (held_after h s)

le_false : (k n : ℕ) → n < k → nat_le k n ≡ false
le_false k n h = grind (arith, nat_tests)

le_true : (k n : ℕ) → k ≤ n → nat_le k n ≡ true
le_true k n h = grind (arith, nat_tests)

pub steps-past : (steps : List BankStep) (b : List BankView) (h : Option ℕ) (k : ℕ) → all_calls steps < k → walk_steps (going b h (Some k)) steps ≡ going (fold banks_after b steps) (fold held_after h steps) (Some (k - all_calls steps))
unfolding walk_step
steps-past [] b h k past = let same : k ≡ k - 0 = omega arith in ap (λ j. going b h (Some j)) same
steps-past (s ∷ steps) b h k past =
    let cons : all_calls (s ∷ steps) ≡ calls_of s + all_calls steps = sum_by-cons calls_of s steps in
    let first : nat_le k (calls_of s) ≡ false = le_false k (calls_of s) (omega (arith, past, cons)) in
    let step : step_within (going b h (Some k)) s (Some k) ≡ going (banks_after b s) (held_after h s) (Some (k - calls_of s)) =
    ap (λ t. cond t (record (going b h (Some k)) { ends = map (λ done. fold banks_after b done) (done_of_step k s) }) (going (banks_after b s) (held_after h s) (Some (k - calls_of s)))) first in
    let later = steps-past steps (banks_after b s) (held_after h s) (k - calls_of s) (omega (arith, past, cons)) in
    let left : k - calls_of s - all_calls steps ≡ k - all_calls (s ∷ steps) = omega (arith, cons) in
    ap (λ w. walk_steps w steps) step ∙ later ∙ ap (λ j. going (fold banks_after (banks_after b s) steps) (fold held_after (held_after h s) steps) (Some j)) left

-- it is over with these ends
abbrev pub HaltsWith : WalkState → List (List BankView) → Type 0
HaltsWith w ends = (e : List BankView) × (es : List (List BankView)) × (w.ends ≡ e ∷ es) × (w.ends ≡ ends)

halts_here : (s : BankStep) (steps : List BankStep) (b : List BankView) (h : Option ℕ) (k : ℕ) → (late : Bool) → nat_lt k (gate_call_of s) ≡ late
    → HaltsWith (walk_steps (record (going b h (Some k)) { ends = map (λ done. fold banks_after b done) (cond late ([] ∷ []) ([] ∷ (s ∷ []) ∷ [])) }) steps) (map (λ done. fold banks_after b done) (cond late ([] ∷ []) ([] ∷ (s ∷ []) ∷ [])))
halts_here s steps b h k true late = let stays = ap (λ (w : WalkState). w.ends) (steps-halted steps b h (Some k) b []) in (b, [], stays, stays)
halts_here s steps b h k false late = let stays = ap (λ (w : WalkState). w.ends) (steps-halted steps b h (Some k) b (banks_after b s ∷ [])) in (b, banks_after b s ∷ [], stays, stays)

pub steps-within : (steps : List BankStep) (b : List BankView) (h : Option ℕ) (k : ℕ) → 1 ≤ k → k ≤ all_calls steps → HaltsWith (walk_steps (going b h (Some k)) steps) (map (λ done. fold banks_after b done) (stops k steps))
unfolding walk_step stops
steps-within [] b h k low high = absurd (omega (arith, low, high))
steps-within (s ∷ steps) b h k low high = by_test (nat_le k (calls_of s)) refl (steps-within steps (banks_after b s) (held_after h s) (k - calls_of s)) where
  by_test : (t : Bool) → nat_le k (calls_of s) ≡ t
      → (1 ≤ k - calls_of s → k - calls_of s ≤ all_calls steps → HaltsWith (walk_steps (going (banks_after b s) (held_after h s) (Some (k - calls_of s))) steps) (map (λ done. fold banks_after (banks_after b s) done) (stops (k - calls_of s) steps)))
      → HaltsWith (walk_steps (cond t (record (going b h (Some k)) { ends = map (λ done. fold banks_after b done) (done_of_step k s) }) (past_step (going b h (Some k)) s (Some (k - calls_of s)))) steps) (map (λ done. fold banks_after b done) (cond t (done_of_step k s) (map (λ d. s ∷ d) (stops (k - calls_of s) steps))))
  by_test true here more = halts_here s steps b h k (nat_lt k (gate_call_of s)) refl
  by_test false past more =
      let cons : all_calls (s ∷ steps) ≡ calls_of s + all_calls steps = sum_by-cons calls_of s steps in
      let after : calls_of s < k = grind (arith, past) in
      let later = more (omega (arith, after)) (omega (arith, high, cons)) in
      (later.0, later.1, later.2, later.3 ∙ sym (map_map (λ done. fold banks_after b done) (λ d. s ∷ d) (stops (k - calls_of s) steps)))

-- ---- stops of steps that follow others

pub stops-after : (steps more : List BankStep) (k : ℕ) → all_calls steps < k → stops k (steps ++ more) ≡ map (λ d. steps ++ d) (stops (k - all_calls steps) more)
unfolding stops
stops-after [] more k past = let same : k ≡ k - 0 = omega arith in ap (λ j. stops j more) same ∙ sym (map_id (stops (k - 0) more)) where
  map_id : (xs : List (List BankStep)) → map (λ d. d) xs ≡ xs
  map_id [] = refl
  map_id (x ∷ xs) = ap (λ ys. x ∷ ys) (map_id xs)
stops-after (s ∷ steps) more k past =
    let cons : all_calls (s ∷ steps) ≡ calls_of s + all_calls steps = sum_by-cons calls_of s steps in
    let first : nat_le k (calls_of s) ≡ false = le_false k (calls_of s) (omega (arith, past, cons)) in
    let later = stops-after steps more (k - calls_of s) (omega (arith, past, cons)) in
    let left : k - calls_of s - all_calls steps ≡ k - all_calls (s ∷ steps) = omega (arith, cons) in
    ap (λ t. cond t (done_of_step k s) (map (λ d. s ∷ d) (stops (k - calls_of s) (steps ++ more)))) first
    ∙ ap (λ ds. map (λ d. s ∷ d) ds) later
    ∙ map_map (λ d. s ∷ d) (λ d. steps ++ d) (stops (k - calls_of s - all_calls steps) more)
    ∙ ap (λ j. map (λ d. s ∷ (steps ++ d)) (stops j more)) left

pub stops-front : (steps more : List BankStep) (k : ℕ) → 1 ≤ k → k ≤ all_calls steps → stops k (steps ++ more) ≡ stops k steps
unfolding stops
stops-front [] more k low high = absurd (omega (arith, low, high))
stops-front (s ∷ steps) more k low high = by_test (nat_le k (calls_of s)) refl (stops-front steps more (k - calls_of s)) where
  by_test : (t : Bool) → nat_le k (calls_of s) ≡ t → (1 ≤ k - calls_of s → k - calls_of s ≤ all_calls steps → stops (k - calls_of s) (steps ++ more) ≡ stops (k - calls_of s) steps) → cond t (done_of_step k s) (map (λ d. s ∷ d) (stops (k - calls_of s) (steps ++ more))) ≡ cond t (done_of_step k s) (map (λ d. s ∷ d) (stops (k - calls_of s) steps))
  by_test true here later = refl
  by_test false past later =
      let cons : all_calls (s ∷ steps) ≡ calls_of s + all_calls steps = sum_by-cons calls_of s steps in
      let after : calls_of s < k = grind (arith, past) in
      ap (λ ds. map (λ d. s ∷ d) ds) (later (omega (arith, after)) (omega (arith, high, cons)))
