-- Branches past one cycle, as they are made.
use Rattle.std.proofs.Common.{◌≡◌, refl, sym, ap, ◌∙◌, arith, ℕ, ◌+◌, Bool, true, false, cond, nat_eq, nat_lt, List, [], ◌∷◌, ◌++◌, map, ◌<◌, length, take, get_or}
use Rattle.std.specs.Prelude.{flat_map, fold}
use Rattle.std.specs.List.{enumerate_from}
use Rattle.std.proofs.lemmas.List.{append-nil, length-take-le, take_more}
use Rattle.std.proofs.lemmas.List.Sums.{fold-append}
use Rattle.edr_audit.proofs.OutcomeLemmas.{enumerated_more}
use Rattle.std.proofs.lemmas.Bool.Decides.{nat_tests}
use Rattle.edr_image.specs.declared.Header.{Header}
use Rattle.edr_spell.specs.declared.CycleInput.{CycleInput}
use Rattle.edr_run.specs.Cycle.{ends, last_count, run_ends, start_ends}
use Rattle.edr_audit.specs.Branches.{BranchState, all_branches, branch_after, branches_after, stopped_branches, store_in, walked, walker_of, walker_through, walkers_of}
use Rattle.edr_audit.proofs.BranchLemmas.{run-branches}

-- the ends of a cycle whose commands run, and of one whose start is stopped
ends_run : (c : CycleInput) (h : Header) (b : BranchState) → c.start_stop ≡ 0 → ends c (store_in h b) b.count ≡ run_ends c.feeds c.stop (store_in h b) (b.count + 1)
unfolding ends
ends_run c h b zero_start = let test : nat_eq c.start_stop 0 ≡ true = grind (arith, nat_tests, zero_start) in
    ap (λ t. cond t (run_ends c.feeds c.stop (store_in h b) (b.count + 1)) (start_ends c.start_stop (store_in h b) b.count)) test

ends_stopped : (c : CycleInput) (h : Header) (b : BranchState) → nat_eq c.start_stop 0 ≡ false → ends c (store_in h b) b.count ≡ start_ends c.start_stop (store_in h b) b.count
unfolding ends
ends_stopped c h b some = ap (λ t. cond t (run_ends c.feeds c.stop (store_in h b) (b.count + 1)) (start_ends c.start_stop (store_in h b) b.count)) some

one_run : (report : List ℕ) (h : Header) (place : ℕ) (c : CycleInput) (b : BranchState) → c.start_stop ≡ 0 → flat_map walked (map (walker_through report h place c.feeds) (walkers_of report place c.stop b)) ≡ branches_after report h place c b
one_run report h place c b zero_start = by_test (nat_lt b.count last_count) where
  by_test : (t : Bool) → flat_map walked (map (walker_through report h place c.feeds) (cond t (walker_of report place c.stop b ∷ []) [])) ≡ cond t (map (branch_after report place b) (ends c (store_in h b) b.count)) []
  by_test true =
      append-nil (walked (walker_through report h place c.feeds (walker_of report place c.stop b)))
      ∙ run-branches report h place c.stop c.feeds b
      ∙ ap (map (branch_after report place b)) (sym (ends_run c h b zero_start))
  by_test false = refl

walked_append : {A B : Type 0} (f : A → List B) (xs ys : List A) → flat_map f (xs ++ ys) ≡ flat_map f xs ++ flat_map f ys
walked_append f [] ys = refl
walked_append f (x ∷ xs) ys = ap (λ zs. f x ++ zs) (walked_append f xs ys) ∙ sym (assoc (f x) (flat_map f xs) (flat_map f ys)) where
  assoc : {B : Type 0} (a b c : List B) → (a ++ b) ++ c ≡ a ++ (b ++ c)
  assoc [] b c = refl
  assoc (x ∷ a) b c = ap (λ zs. x ∷ zs) (assoc a b c)

through_append : {A B : Type 0} (f : A → B) (xs ys : List A) → map f (xs ++ ys) ≡ map f xs ++ map f ys
through_append f [] ys = refl
through_append f (x ∷ xs) ys = ap (λ zs. f x ∷ zs) (through_append f xs ys)

pub run_is : (report : List ℕ) (h : Header) (place : ℕ) (c : CycleInput) (bs : List BranchState) → c.start_stop ≡ 0 → flat_map walked (map (walker_through report h place c.feeds) (flat_map (walkers_of report place c.stop) bs)) ≡ flat_map (branches_after report h place c) bs
run_is report h place c [] zero_start = refl
run_is report h place c (b ∷ bs) zero_start =
    ap (flat_map walked) (through_append (walker_through report h place c.feeds) (walkers_of report place c.stop b) (flat_map (walkers_of report place c.stop) bs))
    ∙ walked_append walked (map (walker_through report h place c.feeds) (walkers_of report place c.stop b)) (map (walker_through report h place c.feeds) (flat_map (walkers_of report place c.stop) bs))
    ∙ ap (λ xs. xs ++ flat_map walked (map (walker_through report h place c.feeds) (flat_map (walkers_of report place c.stop) bs))) (one_run report h place c b zero_start)
    ∙ ap (λ xs. branches_after report h place c b ++ xs) (run_is report h place c bs zero_start)

pub stopped_is : (report : List ℕ) (h : Header) (place : ℕ) (c : CycleInput) (bs : List BranchState) → nat_eq c.start_stop 0 ≡ false → flat_map (stopped_branches report h place c.start_stop) bs ≡ flat_map (branches_after report h place c) bs
stopped_is report h place c [] some = refl
stopped_is report h place c (b ∷ bs) some =
    ap (λ es. cond (nat_lt b.count last_count) (map (branch_after report place b) es) [] ++ flat_map (stopped_branches report h place c.start_stop) bs) (sym (ends_stopped c h b some))
    ∙ ap (λ xs. branches_after report h place c b ++ xs) (stopped_is report h place c bs some)

-- past one more cycle
pub cycle_more : (report : List ℕ) (h : Header) (cs : List CycleInput) (i : ℕ) (d : CycleInput) (first now new : List BranchState) → i < length cs → now ≡ all_branches report h 1 (take i cs) first → new ≡ flat_map (branches_after report h (i + 1) (get_or cs i d)) now
    → new ≡ all_branches report h 1 (take (i + 1) cs) first
cycle_more report h cs i d first now new below was put =
    let c = get_or cs i d in
    let front = take i cs in
    let long : length front ≡ i = length-take-le i cs (omega (arith, below)) in
    let place : 1 + length front ≡ i + 1 = omega (arith, long) in
    put
    ∙ ap (λ (bs : List BranchState). flat_map (branches_after report h (i + 1) c) bs) was
    ∙ ap (λ (p : ℕ). flat_map (branches_after report h p c) (all_branches report h 1 front first)) (sym place)
    ∙ sym (ap (λ (xs : List CycleInput). all_branches report h 1 xs first) (take_more cs i d below)
    ∙ ap (λ ps. fold (λ bs p. flat_map (branches_after report h p.0 p.1) bs) first ps) (enumerated_more 1 front c)
    ∙ fold-append (λ bs p. flat_map (branches_after report h p.0 p.1) bs) first (enumerate_from 1 front) ((1 + length front, c) ∷ []))
