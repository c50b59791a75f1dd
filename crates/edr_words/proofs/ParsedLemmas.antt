-- What the commands make of words without a hyphen in front.
use Rattle.std.proofs.Common.{◌≡◌, ◌&&◌, ℕ, Bool, true, false, List, [], ◌∷◌, Option, None, Some, refl, codes, arith, ap, ap₂, option_map, subst}
use Rattle.std.specs.Option.{option_zip, IfSome}
use Rattle.std.specs.Borrow.{Bor}
use Rattle.std.specs.Str.{bytes_eq}
use Rattle.std.specs.List.{list_all}
use Rattle.clap.specs.Lexer.{long_of, short_of, strip_byte}
use Rattle.clap.specs.Walk.{Held, Rule, Text, Walk, arg_by_index, first_of, idle, nothing_held, to_positional, value, walked, word_met}
use Rattle.clap.specs.Kinds.{IsAmong, Kinds}
use Rattle.clap.specs.Faults.{defaults_fault, fault_of, is_simple_and_free, step_fault, turn_fault, walk_fault}
use Rattle.clap.specs.Simple.{Shape, built, matches_of}
use Rattle.clap.specs.declared.error.kind.ErrorKind.{ErrorKind}
use Rattle.clap.specs.declared.error.kind.ErrorKind.TheVariants as kind
use Rattle.edr_words.specs.Arguments.{at_most_one, is_plain, may_have_one, may_have_two, needs_two, one_or_two, two, with_second}

-- ---- a word goes to the argument at hand

no_hyphen : (w : Text) → is_plain w ≡ true → strip_byte 45 w ≡ None
no_hyphen [] p = refl
no_hyphen (x ∷ xs) p = grind arith

no_dashes : (w : Text) → is_plain w ≡ true → bytes_eq w (45 ∷ 45 ∷ []) ≡ false
no_dashes [] p = refl
no_dashes (x ∷ xs) p = grind arith

no_long : (w : Text) → is_plain w ≡ true → long_of w ≡ None
no_long w p = rw (no_hyphen w p) refl

no_short : (w : Text) → is_plain w ≡ true → short_of w ≡ None
no_short w p = rw (no_hyphen w p) refl

met_plain : (c : List Rule) (at : ℕ) (w : Text) (h : Held) → is_plain w ≡ true → word_met c [] false idle at w h ≡ (h, value)
met_plain c at w h p = rw (no_dashes w p, no_long w p, no_short w p) refl

-- a walk between two words, of which none waits for a value
abbrev standing : Held → ℕ → Walk
standing h at = record { held = h; waiting = idle; position = at; is_trailing = false; stopped = None }

turn_plain : (s : Shape) (h : Held) (at : ℕ) (w : Text) → is_plain w ≡ true → turn_fault s [] (standing h at) w ≡ step_fault s at h value
turn_plain s h at w p = rw (met_plain s.rules at w h p, no_dashes w p, no_long w p, no_short w p) refl

walked_plain : (c : List Rule) (h : Held) (at : ℕ) (w : Text) → is_plain w ≡ true
    → walked c [] (standing h at) w ≡ to_positional c (arg_by_index c at) w (standing h at) h
unfolding walked
walked_plain c h at w p = rw (met_plain c at w h p) refl

pub left : (x y : Bool) → (x && y) ≡ true → x ≡ true
left true y e = refl
left false y e = e

right : (x y : Bool) → (x && y) ≡ true → y ≡ true
right true y e = e
right false y e = absurd (cc e)

plain-1 : (a : Text) (rest : List Text) → list_all is_plain (a ∷ rest) ≡ true → is_plain a ≡ true
plain-1 a rest p = left _ _ p

plain-2 : (a b : Text) (rest : List Text) → list_all is_plain (a ∷ b ∷ rest) ≡ true → is_plain b ≡ true
plain-2 a b rest p = left _ _ (right (is_plain a) _ p)

plain-3 : (a b c : Text) (rest : List Text) → list_all is_plain (a ∷ b ∷ c ∷ rest) ≡ true → is_plain c ≡ true
plain-3 a b c rest p = left _ _ (right (is_plain b) _ (right (is_plain a) _ p))

-- a kind is among those that may come, so there is one
pub among_some : (k : ErrorKind) (kinds : Kinds) → IsAmong k kinds → kinds ≡ [] → ⊥
among_some k [] among none = among
among_some k (x ∷ xs) among none = absurd cc

-- ---- where the walk stands after the first word, and after the second

abbrev shape_of_two : Text → Shape
shape_of_two name = (built (needs_two name)).top

abbrev shape_of_one : Text → Shape
shape_of_one name = (built (may_have_one name)).top

abbrev shape_of_one_or_two : Text → Shape
shape_of_one_or_two name = (built (may_have_two name)).top

abbrev after_one : Shape → Text → Held
after_one s a = (to_positional s.rules (arg_by_index s.rules 1) a (standing nothing_held 1) nothing_held).held

abbrev after_two : Shape → Text → Text → Held
after_two s a b = (to_positional s.rules (arg_by_index s.rules 2) b (standing (after_one s a) 2) (after_one s a)).held

-- ---- a command that needs two

pub needs_two-simple : (name : Text) → is_simple_and_free (needs_two name) ≡ true
needs_two-simple name = refl

needs_two-turn-1 : (name a : Text) → is_plain a ≡ true → turn_fault (shape_of_two name) [] (standing nothing_held 1) a ≡ []
needs_two-turn-1 name a p = turn_plain (shape_of_two name) nothing_held 1 a p

needs_two-walk-1 : (name a : Text) → is_plain a ≡ true → walked (shape_of_two name).rules [] (standing nothing_held 1) a ≡ standing (after_one (shape_of_two name) a) 2
needs_two-walk-1 name a p = walked_plain (shape_of_two name).rules nothing_held 1 a p

needs_two-turn-2 : (name a b : Text) → is_plain b ≡ true → turn_fault (shape_of_two name) [] (standing (after_one (shape_of_two name) a) 2) b ≡ []
needs_two-turn-2 name a b p = turn_plain (shape_of_two name) (after_one (shape_of_two name) a) 2 b p

needs_two-walk-2 : (name a b : Text) → is_plain b ≡ true → walked (shape_of_two name).rules [] (standing (after_one (shape_of_two name) a) 2) b ≡ standing (after_two (shape_of_two name) a b) 3
needs_two-walk-2 name a b p = walked_plain (shape_of_two name).rules (after_one (shape_of_two name) a) 2 b p

needs_two-turn-3 : (name a b c : Text) → is_plain c ≡ true → turn_fault (shape_of_two name) [] (standing (after_two (shape_of_two name) a b) 3) c ≡ kind.UnknownArgument ∷ []
needs_two-turn-3 name a b c p = turn_plain (shape_of_two name) (after_two (shape_of_two name) a b) 3 c p

needs_two-none : (name : Text) → fault_of (needs_two name) [] ≡ kind.MissingRequiredArgument ∷ []
unfolding walk_fault defaults_fault
needs_two-none name = refl

needs_two-one : (name a : Text) → is_plain a ≡ true → fault_of (needs_two name) (a ∷ []) ≡ kind.MissingRequiredArgument ∷ []
unfolding walk_fault defaults_fault
needs_two-one name a p = rw (needs_two-turn-1 name a p, needs_two-walk-1 name a p) refl

needs_two-two : (name a b : Text) → is_plain a ≡ true → is_plain b ≡ true → fault_of (needs_two name) (a ∷ b ∷ []) ≡ []
unfolding walk_fault defaults_fault
needs_two-two name a b p q = rw (needs_two-turn-1 name a p, needs_two-walk-1 name a p, needs_two-turn-2 name a b q, needs_two-walk-2 name a b q) refl

needs_two-more : (name a b c : Text) (rest : List Text) → is_plain a ≡ true → is_plain b ≡ true → is_plain c ≡ true
    → fault_of (needs_two name) (a ∷ b ∷ c ∷ rest) ≡ kind.UnknownArgument ∷ []
unfolding walk_fault
needs_two-more name a b c rest p q r = rw (needs_two-turn-1 name a p, needs_two-walk-1 name a p, needs_two-turn-2 name a b q, needs_two-walk-2 name a b q, needs_two-turn-3 name a b c r) refl

needs_two-first : (name a b : Text) → is_plain a ≡ true → is_plain b ≡ true → first_of (codes "first") (matches_of (needs_two name) (a ∷ b ∷ [])) ≡ Some a
needs_two-first name a b p q = rw (needs_two-walk-1 name a p, needs_two-walk-2 name a b q) refl

needs_two-second : (name a b : Text) → is_plain a ≡ true → is_plain b ≡ true → first_of (codes "second") (matches_of (needs_two name) (a ∷ b ∷ [])) ≡ Some b
needs_two-second name a b p q = rw (needs_two-walk-1 name a p, needs_two-walk-2 name a b q) refl

-- where the command takes the words, they are two, and these
pub needs_two-taken : (name : Text) (words : List Text) → list_all is_plain words ≡ true → fault_of (needs_two name) words ≡ []
    → option_zip (first_of (codes "first") (matches_of (needs_two name) words)) (first_of (codes "second") (matches_of (needs_two name) words)) ≡ two words
needs_two-taken name [] p fine = absurd (let f = needs_two-none name in cc (f, fine))
needs_two-taken name (a ∷ []) p fine = absurd (let f = needs_two-one name a (plain-1 a [] p) in cc (f, fine))
needs_two-taken name (a ∷ b ∷ []) p fine =
    let pa = plain-1 a (b ∷ []) p in
    let pb = plain-2 a b [] p in
    ap₂ (λ (x y : Option Text). option_zip x y) (needs_two-first name a b pa pb) (needs_two-second name a b pa pb)
needs_two-taken name (a ∷ b ∷ c ∷ rest) p fine =
    absurd (let f = needs_two-more name a b c rest (plain-1 a (b ∷ c ∷ rest) p) (plain-2 a b (c ∷ rest) p) (plain-3 a b c rest p) in cc (f, fine))

-- where it doesn't, they aren't two
pub needs_two-refused : (name : Text) (words : List Text) → list_all is_plain words ≡ true → (fault_of (needs_two name) words ≡ [] → ⊥) → two words ≡ None
needs_two-refused name [] p bad = refl
needs_two-refused name (a ∷ []) p bad = refl
needs_two-refused name (a ∷ b ∷ []) p bad = absurd (bad (needs_two-two name a b (plain-1 a (b ∷ []) p) (plain-2 a b [] p)))
needs_two-refused name (a ∷ b ∷ c ∷ rest) p bad = refl

-- ---- a command that may have one

pub may_have_one-simple : (name : Text) → is_simple_and_free (may_have_one name) ≡ true
may_have_one-simple name = refl

may_have_one-turn-1 : (name a : Text) → is_plain a ≡ true → turn_fault (shape_of_one name) [] (standing nothing_held 1) a ≡ []
may_have_one-turn-1 name a p = turn_plain (shape_of_one name) nothing_held 1 a p

may_have_one-walk-1 : (name a : Text) → is_plain a ≡ true → walked (shape_of_one name).rules [] (standing nothing_held 1) a ≡ standing (after_one (shape_of_one name) a) 2
may_have_one-walk-1 name a p = walked_plain (shape_of_one name).rules nothing_held 1 a p

may_have_one-turn-2 : (name a b : Text) → is_plain b ≡ true → turn_fault (shape_of_one name) [] (standing (after_one (shape_of_one name) a) 2) b ≡ kind.UnknownArgument ∷ []
may_have_one-turn-2 name a b p = turn_plain (shape_of_one name) (after_one (shape_of_one name) a) 2 b p

may_have_one-none : (name : Text) → fault_of (may_have_one name) [] ≡ []
unfolding walk_fault defaults_fault
may_have_one-none name = refl

may_have_one-one : (name a : Text) → is_plain a ≡ true → fault_of (may_have_one name) (a ∷ []) ≡ []
unfolding walk_fault defaults_fault
may_have_one-one name a p = rw (may_have_one-turn-1 name a p, may_have_one-walk-1 name a p) refl

may_have_one-more : (name a b : Text) (rest : List Text) → is_plain a ≡ true → is_plain b ≡ true
    → fault_of (may_have_one name) (a ∷ b ∷ rest) ≡ kind.UnknownArgument ∷ []
unfolding walk_fault
may_have_one-more name a b rest p q = rw (may_have_one-turn-1 name a p, may_have_one-walk-1 name a p, may_have_one-turn-2 name a b q) refl

may_have_one-no_first : (name : Text) → first_of (codes "first") (matches_of (may_have_one name) []) ≡ None
may_have_one-no_first name = refl

may_have_one-first : (name a : Text) → is_plain a ≡ true → first_of (codes "first") (matches_of (may_have_one name) (a ∷ [])) ≡ Some a
may_have_one-first name a p = rw (may_have_one-walk-1 name a p) refl

-- where the command takes the words, there is none or this one
pub may_have_one-taken : (name : Text) (words : List Text) → list_all is_plain words ≡ true → fault_of (may_have_one name) words ≡ []
    → Some (first_of (codes "first") (matches_of (may_have_one name) words)) ≡ at_most_one words
may_have_one-taken name [] p fine = ap (λ (x : Option Text). Some x) (may_have_one-no_first name)
may_have_one-taken name (a ∷ []) p fine = ap (λ (x : Option Text). Some x) (may_have_one-first name a (plain-1 a [] p))
may_have_one-taken name (a ∷ b ∷ rest) p fine =
    absurd (let f = may_have_one-more name a b rest (plain-1 a (b ∷ rest) p) (plain-2 a b rest p) in cc (f, fine))

-- where it doesn't, there are more
pub may_have_one-refused : (name : Text) (words : List Text) → list_all is_plain words ≡ true → (fault_of (may_have_one name) words ≡ [] → ⊥) → at_most_one words ≡ None
may_have_one-refused name [] p bad = absurd (bad (may_have_one-none name))
may_have_one-refused name (a ∷ []) p bad = absurd (bad (may_have_one-one name a (plain-1 a [] p)))
may_have_one-refused name (a ∷ b ∷ rest) p bad = refl

-- ---- a command that needs one and may have a second

pub may_have_two-simple : (name : Text) → is_simple_and_free (may_have_two name) ≡ true
may_have_two-simple name = refl

may_have_two-turn-1 : (name a : Text) → is_plain a ≡ true → turn_fault (shape_of_one_or_two name) [] (standing nothing_held 1) a ≡ []
may_have_two-turn-1 name a p = turn_plain (shape_of_one_or_two name) nothing_held 1 a p

may_have_two-walk-1 : (name a : Text) → is_plain a ≡ true → walked (shape_of_one_or_two name).rules [] (standing nothing_held 1) a ≡ standing (after_one (shape_of_one_or_two name) a) 2
may_have_two-walk-1 name a p = walked_plain (shape_of_one_or_two name).rules nothing_held 1 a p

may_have_two-turn-2 : (name a b : Text) → is_plain b ≡ true → turn_fault (shape_of_one_or_two name) [] (standing (after_one (shape_of_one_or_two name) a) 2) b ≡ []
may_have_two-turn-2 name a b p = turn_plain (shape_of_one_or_two name) (after_one (shape_of_one_or_two name) a) 2 b p

may_have_two-walk-2 : (name a b : Text) → is_plain b ≡ true → walked (shape_of_one_or_two name).rules [] (standing (after_one (shape_of_one_or_two name) a) 2) b ≡ standing (after_two (shape_of_one_or_two name) a b) 3
may_have_two-walk-2 name a b p = walked_plain (shape_of_one_or_two name).rules (after_one (shape_of_one_or_two name) a) 2 b p

may_have_two-turn-3 : (name a b c : Text) → is_plain c ≡ true → turn_fault (shape_of_one_or_two name) [] (standing (after_two (shape_of_one_or_two name) a b) 3) c ≡ kind.UnknownArgument ∷ []
may_have_two-turn-3 name a b c p = turn_plain (shape_of_one_or_two name) (after_two (shape_of_one_or_two name) a b) 3 c p

may_have_two-none : (name : Text) → fault_of (may_have_two name) [] ≡ kind.MissingRequiredArgument ∷ []
unfolding walk_fault defaults_fault
may_have_two-none name = refl

may_have_two-one : (name a : Text) → is_plain a ≡ true → fault_of (may_have_two name) (a ∷ []) ≡ []
unfolding walk_fault defaults_fault
may_have_two-one name a p = rw (may_have_two-turn-1 name a p, may_have_two-walk-1 name a p) refl

may_have_two-two : (name a b : Text) → is_plain a ≡ true → is_plain b ≡ true → fault_of (may_have_two name) (a ∷ b ∷ []) ≡ []
unfolding walk_fault defaults_fault
may_have_two-two name a b p q = rw (may_have_two-turn-1 name a p, may_have_two-walk-1 name a p, may_have_two-turn-2 name a b q, may_have_two-walk-2 name a b q) refl

may_have_two-more : (name a b c : Text) (rest : List Text) → is_plain a ≡ true → is_plain b ≡ true → is_plain c ≡ true
    → fault_of (may_have_two name) (a ∷ b ∷ c ∷ rest) ≡ kind.UnknownArgument ∷ []
unfolding walk_fault
may_have_two-more name a b c rest p q r = rw (may_have_two-turn-1 name a p, may_have_two-walk-1 name a p, may_have_two-turn-2 name a b q, may_have_two-walk-2 name a b q, may_have_two-turn-3 name a b c r) refl

may_have_two-only : (name a : Text) → is_plain a ≡ true → first_of (codes "first") (matches_of (may_have_two name) (a ∷ [])) ≡ Some a
may_have_two-only name a p = rw (may_have_two-walk-1 name a p) refl

may_have_two-no_second : (name a : Text) → is_plain a ≡ true → first_of (codes "second") (matches_of (may_have_two name) (a ∷ [])) ≡ None
may_have_two-no_second name a p = rw (may_have_two-walk-1 name a p) refl

may_have_two-first : (name a b : Text) → is_plain a ≡ true → is_plain b ≡ true → first_of (codes "first") (matches_of (may_have_two name) (a ∷ b ∷ [])) ≡ Some a
may_have_two-first name a b p q = rw (may_have_two-walk-1 name a p, may_have_two-walk-2 name a b q) refl

may_have_two-second : (name a b : Text) → is_plain a ≡ true → is_plain b ≡ true → first_of (codes "second") (matches_of (may_have_two name) (a ∷ b ∷ [])) ≡ Some b
may_have_two-second name a b p q = rw (may_have_two-walk-1 name a p, may_have_two-walk-2 name a b q) refl

-- where the command takes the words, there are one or two, and these
pub may_have_two-taken : (name : Text) (words : List Text) → list_all is_plain words ≡ true → fault_of (may_have_two name) words ≡ []
    → with_second (first_of (codes "first") (matches_of (may_have_two name) words)) (first_of (codes "second") (matches_of (may_have_two name) words)) ≡ one_or_two words
may_have_two-taken name [] p fine = absurd (let f = may_have_two-none name in cc (f, fine))
may_have_two-taken name (a ∷ []) p fine =
    let pa = plain-1 a [] p in
    ap₂ (λ (x y : Option Text). with_second x y) (may_have_two-only name a pa) (may_have_two-no_second name a pa)
may_have_two-taken name (a ∷ b ∷ []) p fine =
    let pa = plain-1 a (b ∷ []) p in
    let pb = plain-2 a b [] p in
    ap₂ (λ (x y : Option Text). with_second x y) (may_have_two-first name a b pa pb) (may_have_two-second name a b pa pb)
may_have_two-taken name (a ∷ b ∷ c ∷ rest) p fine =
    absurd (let f = may_have_two-more name a b c rest (plain-1 a (b ∷ c ∷ rest) p) (plain-2 a b (c ∷ rest) p) (plain-3 a b c rest p) in cc (f, fine))

-- where it doesn't, there are other than that
pub may_have_two-refused : (name : Text) (words : List Text) → list_all is_plain words ≡ true → (fault_of (may_have_two name) words ≡ [] → ⊥) → one_or_two words ≡ None
may_have_two-refused name [] p bad = refl
may_have_two-refused name (a ∷ []) p bad = absurd (bad (may_have_two-one name a (plain-1 a [] p)))
may_have_two-refused name (a ∷ b ∷ []) p bad = absurd (bad (may_have_two-two name a b (plain-1 a (b ∷ []) p) (plain-2 a b [] p)))
may_have_two-refused name (a ∷ b ∷ c ∷ rest) p bad = refl

-- what is there
pub some_is : {X : Type 0} (P : X → Type 0) (o : Option X) (x : X) → o ≡ Some x → IfSome o P → P x
some_is P None x same p = absurd cc
some_is P (Some y) x same p = subst P (cc same) p

-- the texts of what is lent
pub zip_now : (x y : Option (Bor Text)) → option_map (λ p. (p.0.now, p.1.now)) (option_zip x y) ≡ option_zip (option_map (λ s. s.now) x) (option_map (λ s. s.now) y)
zip_now None y = refl
zip_now (Some x) None = refl
zip_now (Some x) (Some y) = refl
