-- The arguments after a word of a command line, and the commands that take them.
use Rattle.std.specs.Prelude.{◌≡◌, ℕ, Bool, true, not, ◌==◌, Option, Some, None, option_map, List, [], ◌∷◌, map, codes, string_bytes, String}
use Rattle.std.specs.Borrow.{Bor}
use Rattle.std.specs.declared.alloc.Global.{Global}
use Rattle.clap.specs.Faults.{fault_of}
use Rattle.clap.specs.Matches.{first_value, found_of}
use Rattle.clap.specs.Simple.{App, matches_of, new_app, new_rule, on_top, with_rule}
use Rattle.clap.specs.Walk.{Rule, rows_of}
use Rattle.clap.specs.declared.parser.matches.ArgMatches.{ArgMatches}
use Rattle.clap.specs.declared.parser.matches.Found.{Found}

abbrev pub PlainText : Type 0
PlainText = List ℕ

abbrev pub words_of : List (String Global) → List PlainText
words_of arguments = map string_bytes arguments

-- a word, and a second if there is one, behind references
abbrev pub words_in : Bor PlainText × Option (Bor PlainText) → PlainText × Option PlainText
words_in p = (p.0.now, option_map (λ s. s.now) p.1)

-- the word doesn't begin with `-`
abbrev pub is_plain : PlainText → Bool
is_plain [] = true
is_plain (x ∷ xs) = not (x == 45)

-- ---- how many arguments there are

-- two
abbrev pub two : List PlainText → Option (PlainText × PlainText)
two [] = None
two (a ∷ []) = None
two (a ∷ b ∷ []) = Some (a, b)
two (a ∷ b ∷ c ∷ more) = None

-- none or one
abbrev pub at_most_one : List PlainText → Option (Option PlainText)
at_most_one [] = Some None
at_most_one (a ∷ []) = Some (Some a)
at_most_one (a ∷ b ∷ more) = None

-- one or two
abbrev pub one_or_two : List PlainText → Option (PlainText × Option PlainText)
one_or_two [] = None
one_or_two (a ∷ []) = Some (a, None)
one_or_two (a ∷ b ∷ []) = Some (a, Some b)
one_or_two (a ∷ b ∷ c ∷ more) = None

-- the first, with the second if there is one
abbrev pub with_second : Option PlainText → Option PlainText → Option (PlainText × Option PlainText)
with_second None second = None
with_second (Some first) second = Some (first, second)

-- what was matched as `first`, with `second` if there is one
abbrev pub first_and_second : Found → Option (PlainText × Option PlainText)
first_and_second found = with_second (first_value found (codes "first")) (first_value found (codes "second"))

-- ---- the commands

-- a command takes the words without a fault, and these are its matches
abbrev pub TakesWords : App → List PlainText → ArgMatches → Type 0
TakesWords app words matches = (fault_of app words ≡ []) × (rows_of (found_of matches) ≡ matches_of app words)

abbrev pub first : Rule
first = new_rule (codes "first")

abbrev pub second : Rule
second = new_rule (codes "second")

-- an argument of that name, which must be given or may be
abbrev pub argument_rule : PlainText → Bool → Rule
argument_rule name is_required = record (new_rule name) { required = is_required }

-- it must be given
abbrev pub required_rule : Rule → Rule
required_rule r = record r { required = true }

-- a command without `--help`, all of whose words are arguments
abbrev pub bare : PlainText → App
bare name = on_top (λ s. record s { no_binary_name = true; disable_help_flag = true }) (new_app name)

abbrev pub needs_two : PlainText → App
needs_two name = with_rule (with_rule (bare name) (required_rule first)) (required_rule second)

abbrev pub may_have_one : PlainText → App
may_have_one name = with_rule (bare name) first

abbrev pub may_have_two : PlainText → App
may_have_two name = with_rule (with_rule (bare name) (required_rule first)) second
