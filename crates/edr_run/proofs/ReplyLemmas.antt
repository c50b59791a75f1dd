-- Replies, steps and stops of one list of commands after another.
use Rattle.std.proofs.Common.{◌≡◌, ◌≤◌, ◌+◌, ◌∙◌, ℕ, zero, suc, Some, List, [], ◌∷◌, ◌++◌, length, take, refl, sym, ap, inl, inr, arith, append-nil}
use Rattle.std.specs.Prelude.{flat_map, slice_get}
use Rattle.std.proofs.lemmas.Option.{slice_get_within}
use Rattle.std.proofs.Math.Seq.{take-append-add}
use Rattle.edr_image.specs.Calls.{IsStop, all_calls, calls_of}
use Rattle.std.proofs.lemmas.List.{take-append-le}
use Rattle.std.proofs.lemmas.List.Sums.{fold-append, sum_by-append}
use Rattle.std.proofs.lemmas.Grind.{flat_map-append}
use Rattle.edr_record.specs.declared.Command.{Command}
use Rattle.edr_image.specs.Banks.{Store}
use Rattle.edr_image.specs.Steps.{BankStep, State, Reply, after, at_rest, banks_after, held_after, replies, reply_to, state_after, steps_of}

pub get_first : {X : Type 0} (xs ys : List X) (j : ℕ) (x : X) → slice_get xs j ≡ Some x → slice_get (xs ++ ys) j ≡ Some x
get_first [] ys j x h = absurd cc
get_first (y ∷ xs) ys zero x h = h
get_first (y ∷ xs) ys (suc j) x h = get_first xs ys j x h

pub get_later : {X : Type 0} (xs ys : List X) (j : ℕ) (x : X) → slice_get ys j ≡ Some x → slice_get (xs ++ ys) (length xs + j) ≡ Some x
get_later [] ys j x h = rw (zero_first j) h
  where
    zero_first : (j : ℕ) → 0 + j ≡ j
    zero_first j = omega arith
get_later (y ∷ xs) ys j x h = rw (one_more (length xs) j) (get_later xs ys j x h)
  where
    one_more : (n j : ℕ) → suc n + j ≡ suc (n + j)
    one_more n j = omega arith

-- the first j, and one more
take_suc : {X : Type 0} (xs : List X) (j : ℕ) (x : X) → slice_get xs j ≡ Some x → take (suc j) xs ≡ take j xs ++ x ∷ []
take_suc [] j x h = absurd cc
take_suc (y ∷ xs) zero x h = cc h
take_suc (y ∷ xs) (suc j) x h = ap (λ zs. y ∷ zs) (take_suc xs j x h)

pub take_one_more : {X : Type 0} (xs : List X) (j : ℕ) (x : X) → slice_get xs j ≡ Some x → take (j + 1) xs ≡ take j xs ++ x ∷ []
take_one_more xs j x h = ap (λ n. take n xs) (one_more j) ∙ take_suc xs j x h
  where
    one_more : (j : ℕ) → j + 1 ≡ suc j
    one_more j = omega arith

pub after-append : (v : Store) (a b : List BankStep) → after (after v a) b ≡ after v (a ++ b)
after-append v a b = ap (λ banks. record v { banks = banks }) (sym (fold-append banks_after v.banks a b))

pub state_after-append : (s : State) (a b : List BankStep) → state_after (state_after s a) b ≡ state_after s (a ++ b)
state_after-append s a b = rw (after-append s.store a b, ← fold-append held_after s.held a b) refl

pub replies-append : (s : State) (cs ds : List Command) → replies s (cs ++ ds) ≡ replies s cs ++ replies (state_after s (flat_map (λ r. r.steps) (replies s cs))) ds
replies-append s [] ds = refl
replies-append s (c ∷ cs) ds =
    let r = reply_to s c in
    let rest = replies-append (state_after s r.steps) cs ds in
    ap (λ rs. r ∷ rs) (rest ∙ ap (λ t. replies (state_after s r.steps) cs ++ replies t ds) (state_after-append s r.steps (flat_map (λ r. r.steps) (replies (state_after s r.steps) cs))))

-- the first replies are those to the first commands
pub first_replies : (s : State) (cs : List Command) (p : ℕ) → take p (replies s cs) ≡ replies s (take p cs)
first_replies s cs zero = refl
first_replies s [] (suc p) = refl
first_replies s (c ∷ cs) (suc p) = let r = reply_to s c in ap (λ rs. r ∷ rs) (first_replies (state_after s r.steps) cs p)

-- the steps of commands, and of one more
pub steps_of-more : (v : Store) (cs ds : List Command) → steps_of v (cs ++ ds) ≡ steps_of v cs ++ flat_map (λ r. r.steps) (replies (state_after (at_rest v) (steps_of v cs)) ds)
steps_of-more v cs ds = ap (flat_map (λ r. r.steps)) (replies-append (at_rest v) cs ds) ∙ flat_map-append (λ (r : Reply). r.steps) (replies (at_rest v) cs) (replies (state_after (at_rest v) (steps_of v cs)) ds)

pub one_reply : (s : State) (c : Command) → flat_map (λ r. r.steps) (replies s (c ∷ [])) ≡ (reply_to s c).steps
one_reply s c = append-nil (reply_to s c).steps

-- ---- stops
take_more : {X : Type 0} (xs ys : List X) (p : ℕ) → p ≤ length xs → take p (xs ++ ys) ≡ take p xs
take_more xs ys p within = take-append-le p xs ys within

-- a stop in the first of two lists
pub stop_first : (a b done : List BankStep) (k : ℕ) → IsStop a k done → IsStop (a ++ b) k done
stop_first a b done k stop =
    let within = slice_get_within a stop.p stop.step stop.falls.step in
    let same = take_more a b stop.p (omega arith) in
    let more = take_more a b (stop.p + 1) (omega arith) in
    record {
      p = stop.p;
      r = stop.r;
      step = stop.step;
      falls = record {
        step = get_first a b stop.p stop.step stop.falls.step;
        before = stop.falls.before ∙ ap (λ steps. all_calls steps + stop.r) (sym same);
        from = stop.falls.from;
        to = stop.falls.to;
      };
      left = elim stop.left [ inl e ↦ inl (e ∙ sym same) | inr h ↦ inr (h.0, h.1 ∙ sym more) ];
    }

-- a stop in the second
pub stop_later : (a b done : List BankStep) (k : ℕ) → IsStop b k done → IsStop (a ++ b) (all_calls a + k) (a ++ done)
stop_later a b done k stop =
    let same = take-append-add a b stop.p in
    let more : take (length a + stop.p + 1) (a ++ b) ≡ a ++ take (stop.p + 1) b = ap (λ n. take n (a ++ b)) (place (length a) stop.p) ∙ take-append-add a b (stop.p + 1) in
    let calls : all_calls (take (length a + stop.p) (a ++ b)) ≡ all_calls a + all_calls (take stop.p b) = ap all_calls same ∙ sum_by-append calls_of a (take stop.p b) in
    record {
      p = length a + stop.p;
      r = stop.r;
      step = stop.step;
      falls = record {
        step = get_later a b stop.p stop.step stop.falls.step;
        before = let e = stop.falls.before in omega (arith, e, calls);
        from = stop.falls.from;
        to = stop.falls.to;
      };
      left = elim stop.left [ inl e ↦ inl (ap (λ xs. a ++ xs) e ∙ sym same) | inr h ↦ inr (h.0, ap (λ xs. a ++ xs) h.1 ∙ sym more) ];
    }
  where
    place : (n p : ℕ) → n + p + 1 ≡ n + (p + 1)
    place n p = omega arith
