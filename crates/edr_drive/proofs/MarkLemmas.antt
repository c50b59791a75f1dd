-- The mark of banks tells them, and a log with a mark is committed to as one without.
use Rattle.std.proofs.Common.{◌≡◌, ◌∙◌, ℕ, zero, suc, Bool, Option, Some, None, List, [], ◌∷◌, ◌++◌, ap, append_assoc, append-nil, arith, length, map, refl, sym, take, Result, Ok, Err}
use Rattle.std.proofs.lemmas.List.{length-map}
use Rattle.std.proofs.Math.Seq.{take-length}
use base.Stored.{Gv, gnil, gnum, gcons}
use Rattle.edr_record.specs.declared.Command.{Command}
use Rattle.edr_record.specs.declared.Command.TheVariants as command
use Rattle.edr_definitions.specs.Commands.{Issue}
use Rattle.edr_banks.specs.Opened.{OpenedBanks, state_of}
use Rattle.edr_banks.specs.contracts.Banks.{the_row}
use Rattle.edr_cycle.specs.Commits.{Commits, acks_from, commands_from}
use Rattle.edr_cycle.specs.CycleLogged.{CycleLogged}
use Rattle.edr_cycle.proofs.AnsweredLemmas.{map_err, map_ok}
use Rattle.edr_cycle.proofs.ListLemmas.{length-acks_from}
use Rattle.edr_drive.specs.Marks.{mark_of, marked, numbers_of}

-- ---- the mark

abbrev first_of : List ℕ → ℕ
first_of [] = 0
first_of (n ∷ ns) = n

abbrev rest_of : List ℕ → List ℕ
rest_of [] = []
rest_of (n ∷ ns) = ns

-- the numbers of a tree tell it, whatever follows them
numbers-tell : (a b : Gv) (xs ys : List ℕ) → numbers_of a ++ xs ≡ numbers_of b ++ ys → (a ≡ b) × (xs ≡ ys)
numbers-tell gnil gnil xs ys h = (refl, ap rest_of h)
numbers-tell gnil (gnum n) xs ys h = let e = ap first_of h in absurd (omega (arith, e))
numbers-tell gnil (gcons c d) xs ys h = let e = ap first_of h in absurd (omega (arith, e))
numbers-tell (gnum m) gnil xs ys h = let e = ap first_of h in absurd (omega (arith, e))
numbers-tell (gnum m) (gnum n) xs ys h = (ap (λ (ns : List ℕ). gnum (first_of (rest_of ns))) h, ap (λ (ns : List ℕ). rest_of (rest_of ns)) h)
numbers-tell (gnum m) (gcons c d) xs ys h = let e = ap first_of h in absurd (omega (arith, e))
numbers-tell (gcons a b) gnil xs ys h = let e = ap first_of h in absurd (omega (arith, e))
numbers-tell (gcons a b) (gnum n) xs ys h = let e = ap first_of h in absurd (omega (arith, e))
numbers-tell (gcons a b) (gcons c d) xs ys h =
    let e = sym (append_assoc (numbers_of a) (numbers_of b) xs) ∙ ap rest_of h ∙ append_assoc (numbers_of c) (numbers_of d) ys in
    let first = numbers-tell a c (numbers_of b ++ xs) (numbers_of d ++ ys) e in
    let second = numbers-tell b d xs ys first.1 in
    (ap (λ (t : Gv). gcons t b) first.0 ∙ ap (gcons c) second.0, second.1)

abbrev speed_in : Command → List (Option ℕ)
speed_in (command.Take pre) = pre.speed
speed_in (command.Lock pre) = pre.speed
speed_in (command.Done crash) = []

abbrev numbers_in : List (Option ℕ) → List ℕ
numbers_in [] = []
numbers_in (None ∷ os) = 0 ∷ numbers_in os
numbers_in (Some n ∷ os) = n ∷ numbers_in os

numbers-back : (ns : List ℕ) → numbers_in (map (λ (n : ℕ). Some n) ns) ≡ ns
numbers-back [] = refl
numbers-back (n ∷ ns) = ap (λ (t : List ℕ). n ∷ t) (numbers-back ns)

mark-tells : (a b : OpenedBanks) → mark_of a ≡ mark_of b → a ≡ b
unfolding mark_of
mark-tells a b h =
    let x = numbers_of (the_row.coded.code a) in
    let y = numbers_of (the_row.coded.code b) in
    let same : x ≡ y = sym (numbers-back x) ∙ ap (λ (c : Command). numbers_in (speed_in c)) h ∙ numbers-back y in
    the_row.coded.inj a b (numbers-tell (the_row.coded.code a) (the_row.coded.code b) [] [] (append-nil x ∙ same ∙ sym (append-nil y))).0

abbrev first_command : Command → List Command → Command
first_command c [] = c
first_command c (d ∷ ds) = d

abbrev later_commands : List Command → List Command
later_commands [] = []
later_commands (c ∷ cs) = cs

marks-tell : (a b : OpenedBanks) (xs ys : List Command) → mark_of a ∷ xs ≡ mark_of b ∷ ys → (a ≡ b) × (xs ≡ ys)
marks-tell a b xs ys h = (mark-tells a b (ap (first_command (mark_of a)) h), ap later_commands h)

-- ---- a log with a mark

-- as many of the one list as of the other
as_many : {X Y : Type 0} (j : ℕ) (xs : List X) (ys : List Y) → length xs ≡ length ys → length (take j xs) ≡ length (take j ys)
as_many zero xs ys h = refl
as_many (suc j) [] [] h = refl
as_many (suc j) [] (y ∷ ys) h = absurd (omega (arith, h))
as_many (suc j) (x ∷ xs) [] h = absurd (omega (arith, h))
as_many (suc j) (x ∷ xs) (y ∷ ys) h = ap suc (as_many j xs ys (omega (arith, h)))

-- the banks at the mark are the same, and the log has first ones of these commands, with their acknowledgements
pub record HasFirstOf (s s' : OpenedBanks) (xs : List Issue) (l : CycleLogged) : Type 0 where
  pub start : s' ≡ s
  pub m : ℕ
  pub commands : l.commands ≡ take m (commands_from xs)
  pub long : length l.acks ≡ length l.commands

module _ {D : Type 0} (content : D → Option (List ℕ)) (settled : D → ℕ → Bool) (since : D → ℕ → List ℕ → Type 0) (clock good : D → ℕ) where
  pub commits-marked : {T E : Type 0} (s : OpenedBanks) (xs : List Issue) (r : Result T E) (b b' : OpenedBanks) (l l' : CycleLogged) (d d' : D) → Commits content settled since clock good xs r b b' l l' d d'
      → Commits content settled since clock good xs r b b' (marked s l) (marked s l') d d'
  commits-marked s xs r b b' l l' d d' h = record {
    banks_are = h.banks_are;
    log_is = map_ok r h.log_is (λ e. ap (marked s) e);
    time = h.time;
    taken = h.taken;
    stopped = map_err r h.stopped (λ t. record {
      j = t.j;
      fails = t.fails;
      made = t.made;
      banks_are = t.banks_are;
      log_is = t.log_is;
      commands_are = ap (λ (ks : List Command). mark_of s ∷ ks) t.commands_are;
      cut = t.cut;
    });
    any_moment = h.any_moment;
    past = h.past;
  }

  module _ (s s' : OpenedBanks) (xs : List Issue) (b b' : OpenedBanks) (l l' : CycleLogged) (d d' : D) (none : l.acks ≡ []) (empty : l.commands ≡ []) where
    as_long : length (acks_from (state_of b) xs) ≡ length (commands_from xs)
    as_long = length-acks_from (state_of b) xs ∙ sym (length-map xs (λ (i : Issue). i.command))

    -- what is left of a log with a mark tells the banks at its mark
    pub marked-ends : {T E : Type 0} (r : Result T E) → Commits content settled since clock good xs r b b' (marked s l) (marked s' l') d d' → HasFirstOf s s' xs l'
    marked-ends (Ok x) h =
        let log = h.log_is in
        let told = marks-tell s' s l'.commands (l.commands ++ commands_from xs) (ap (λ (k : CycleLogged). k.commands) log) in
        let all = told.1 ∙ ap (λ (ks : List Command). ks ++ commands_from xs) empty in
        let acks = ap (λ (k : CycleLogged). length k.acks) log ∙ ap (λ ks. length (ks ++ acks_from (state_of b) xs)) none in
        record {
          start = told.0;
          m = length (commands_from xs);
          commands = all ∙ sym (take-length (commands_from xs));
          long = acks ∙ as_long ∙ sym (ap length all);
        }
    marked-ends (Err e) h =
        let t = h.stopped in
        let told = marks-tell s' s l'.commands (l.commands ++ take t.j (commands_from xs)) t.commands_are in
        let all = told.1 ∙ ap (λ (ks : List Command). ks ++ take t.j (commands_from xs)) empty in
        let acks = ap length t.log_is ∙ ap (λ ks. length (ks ++ take t.j (acks_from (state_of b) xs))) none in
        record {
          start = told.0;
          m = t.j;
          commands = all;
          long = acks ∙ as_many t.j (acks_from (state_of b) xs) (commands_from xs) as_long ∙ sym (ap length all);
        }
