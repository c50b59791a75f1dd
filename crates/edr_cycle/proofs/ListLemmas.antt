-- Commands, replies, steps, acknowledgements and stops of one list after another.
use Rattle.std.proofs.Common.{◌≡◌, ◌≤◌, ◌+◌, ◌∙◌, ℕ, List, [], ◌∷◌, ◌++◌, length, map, take, refl, sym, ap, subst, inl, inr, arith, append-nil}
use Rattle.std.specs.Prelude.{flat_map, zip}
use Rattle.std.proofs.lemmas.List.{length-map, map-append, take-append-le}
use Rattle.std.proofs.lemmas.List.Sums.{sum_by-append}
use Rattle.std.proofs.lemmas.Grind.{flat_map-append}
use Rattle.std.proofs.Math.Seq.{take-append-add, take-length}
use Rattle.edr_record.specs.declared.Command.{Command}
use Rattle.edr_definitions.specs.Commands.{Issue}
use Rattle.edr_image.specs.Calls.{IsStop, all_calls, calls_of, gate_call_of}
use Rattle.edr_image.specs.Steps.{BankStep, Erase, Fill, Lock, Done, State, Reply, replies, reply_to, state_after}
use Rattle.edr_run.specs.Cycle.{ack_of}
use Rattle.edr_run.proofs.ReplyLemmas.{replies-append, stop_first, stop_later}
use Rattle.edr_cycle.specs.Commits.{IsLeftBy, acks_from, first_steps, replies_from, steps_from}

-- ---- lists

zip-append : {X Y : Type 0} (xs xs' : List X) (ys ys' : List Y) → length xs ≡ length ys → zip (xs ++ xs') (ys ++ ys') ≡ zip xs ys ++ zip xs' ys'
zip-append [] xs' [] ys' e = refl
zip-append (x ∷ xs) xs' (y ∷ ys) ys' e = ap (λ zs. (x, y) ∷ zs) (zip-append xs xs' ys ys' (omega arith))
zip-append [] xs' (y ∷ ys) ys' e = absurd (omega arith)
zip-append (x ∷ xs) xs' [] ys' e = absurd (omega arith)

length-zip-same : {X Y : Type 0} (xs : List X) (ys : List Y) → length xs ≡ length ys → length (zip xs ys) ≡ length xs
length-zip-same [] ys e = refl
length-zip-same (x ∷ xs) (y ∷ ys) e = let rest = length-zip-same xs ys (omega arith) in omega arith
length-zip-same (x ∷ xs) [] e = absurd (omega arith)

-- ---- replies

length-replies : (s : State) (cs : List Command) → length (replies s cs) ≡ length cs
length-replies s [] = refl
length-replies s (c ∷ cs) = let rest = length-replies (state_after s (reply_to s c).steps) cs in omega arith

pub length-replies_from : (s : State) (xs : List Issue) → length (replies_from s xs) ≡ length xs
length-replies_from s xs = length-replies s (map (λ i. i.command) xs) ∙ length-map xs (λ (i : Issue). i.command)

module _ (s : State) (xs ys : List Issue) where
  abbrev then : State
  then = state_after s (steps_from s xs)

  pub replies_from-append : replies_from s (xs ++ ys) ≡ replies_from s xs ++ replies_from then ys
  replies_from-append = rw (map-append (λ (i : Issue). i.command) xs ys) (replies-append s (map (λ i. i.command) xs) (map (λ i. i.command) ys))

  pub steps_from-append : steps_from s (xs ++ ys) ≡ steps_from s xs ++ steps_from then ys
  steps_from-append = ap (flat_map (λ r. r.steps)) replies_from-append ∙ flat_map-append (λ (r : Reply). r.steps) (replies_from s xs) (replies_from then ys)

  pub acks_from-append : acks_from s (xs ++ ys) ≡ acks_from s xs ++ acks_from then ys
  acks_from-append =
      ap (λ rs. map (λ p. ack_of p.0 p.1) (zip (xs ++ ys) rs)) replies_from-append
      ∙ ap (map (λ p. ack_of p.0 p.1)) (zip-append xs ys (replies_from s xs) (replies_from then ys) (sym (length-replies_from s xs)))
      ∙ map-append (λ (p : Issue × Reply). ack_of p.0 p.1) (zip xs (replies_from s xs)) (zip ys (replies_from then ys))

  pub calls-append : all_calls (steps_from s (xs ++ ys)) ≡ all_calls (steps_from s xs) + all_calls (steps_from then ys)
  calls-append = ap all_calls steps_from-append ∙ sum_by-append calls_of (steps_from s xs) (steps_from then ys)

  -- the first ones of the first list
  pub first_steps-first : (j : ℕ) → j ≤ length xs → first_steps s (xs ++ ys) j ≡ first_steps s xs j
  first_steps-first j within =
      let long : j ≤ length (replies_from s xs) = let n = length-replies_from s xs in omega (arith, n, within) in
      ap (λ rs. flat_map (λ r. r.steps) (take j rs)) replies_from-append ∙ ap (flat_map (λ r. r.steps)) (take-append-le j (replies_from s xs) (replies_from then ys) long)

  -- all of it, and the first ones of the other
  pub first_steps-later : (j : ℕ) → first_steps s (xs ++ ys) (length xs + j) ≡ steps_from s xs ++ first_steps then ys j
  first_steps-later j =
      let place : length xs + j ≡ length (replies_from s xs) + j = let n = length-replies_from s xs in omega (arith, n) in
      ap (λ rs. flat_map (λ r. r.steps) (take (length xs + j) rs)) replies_from-append
      ∙ ap (λ i. flat_map (λ r. r.steps) (take i (replies_from s xs ++ replies_from then ys))) place
      ∙ ap (flat_map (λ r. r.steps)) (take-append-add (replies_from s xs) (replies_from then ys) j)
      ∙ flat_map-append (λ (r : Reply). r.steps) (replies_from s xs) (take j (replies_from then ys))

pub length-acks_from : (s : State) (xs : List Issue) → length (acks_from s xs) ≡ length xs
length-acks_from s xs = length-map (zip xs (replies_from s xs)) (λ (p : Issue × Reply). ack_of p.0 p.1) ∙ length-zip-same xs (replies_from s xs) (sym (length-replies_from s xs))

pub all_steps : (s : State) (xs : List Issue) → first_steps s xs (length xs) ≡ steps_from s xs
all_steps s xs = ap (flat_map (λ r. r.steps)) (ap (λ n. take n (replies_from s xs)) (sym (length-replies_from s xs)) ∙ take-length (replies_from s xs))

-- ---- stops

gate_within : (s : BankStep) → (gate_call_of s ≤ calls_of s) × (1 ≤ calls_of s)
gate_within (Erase m) = (omega arith, omega arith)
gate_within (Fill m pre) = (omega arith, omega arith)
gate_within (Lock m) = (omega arith, omega arith)
gate_within (Done m crash) = (omega arith, omega arith)

-- a stop in the last call may leave all steps done
stop_last : (s : BankStep) (steps : List BankStep) → IsStop (s ∷ steps) (all_calls (s ∷ steps)) (s ∷ steps)
stop_last s [] = record {
  p = 0;
  r = calls_of s;
  step = s;
  falls = record { step = refl; before = omega arith; from = (gate_within s).1; to = omega arith };
  left = inr ((gate_within s).0, refl);
}
stop_last s (t ∷ steps) = subst (λ k. IsStop (s ∷ t ∷ steps) k (s ∷ t ∷ steps)) (sym (sum_by-append calls_of (s ∷ []) (t ∷ steps))) (stop_later (s ∷ []) (t ∷ steps) (t ∷ steps) (all_calls (t ∷ steps)) (stop_last t steps))

pub left_all : (steps : List BankStep) → IsLeftBy (all_calls steps) steps steps
left_all [] = inl (refl, refl)
left_all (s ∷ steps) = inr (stop_last s steps)

pub left_first : (a b done : List BankStep) (k : ℕ) → IsLeftBy k a done → IsLeftBy k (a ++ b) done
left_first a b done k (inl none) = inl none
left_first a b done k (inr stop) = inr (stop_first a b done k stop)

pub left_later : (a b done : List BankStep) (k : ℕ) → IsLeftBy k b done → IsLeftBy (all_calls a + k) (a ++ b) (a ++ done)
left_later a b done k (inr stop) = inr (stop_later a b done k stop)
left_later a b done k (inl none) =
    let calls : all_calls a ≡ all_calls a + k = let z = none.0 in omega (arith, z) in
    let steps : a ≡ a ++ done = sym (ap (λ xs. a ++ xs) none.1 ∙ append-nil a) in
    subst (λ d. IsLeftBy (all_calls a + k) (a ++ b) d) steps (subst (λ n. IsLeftBy n (a ++ b) a) calls (left_first a b a (all_calls a) (left_all a)))
