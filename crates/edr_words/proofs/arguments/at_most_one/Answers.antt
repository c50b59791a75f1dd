use Rattle.std.proofs.Common.{◌≡◌, ◌∙◌, ap, sym, codes, map, string_bytes, List, [], Option, Some, option_map}
use Rattle.clap.specs.Faults.{fault_of}
use Rattle.clap.specs.Matches.{found_of}
use Rattle.clap.specs.Simple.{App, app_of, matches_of}
use Rattle.clap.specs.Walk.{Row, Text, first_of, rows_of}
use Rattle.clap.specs.declared.parser.matches.ArgMatches.{ArgMatches}
use Rattle.clap.proofs.WalkLemmas.{first_value-rows}
use Rattle.edr_words.specs.Arguments.{may_have_one}
use Rattle.edr_words.proofs.ParsedLemmas.{may_have_one-taken, may_have_one-refused, some_is}
use Rattle.edr_words.proofs.arguments.at_most_one.Goals as goal

pub returns-in-None : goal.returns-in-None
returns-in-None c =
    let name = c.args.name.now in
    let words : List Text = map string_bytes c.args.arguments.now in
    let app_is : app_of c.in_ok-may_have_one.field-0 ≡ may_have_one name = c.in_ok-may_have_one.ensures in
    sym (may_have_one-refused name words c.requires (λ fine. c.in_ok-matches.ensures.refused c.in-None.is (ap (λ (a : App). fault_of a words) app_is ∙ fine)))

pub returns-in-Some : goal.returns-in-Some
returns-in-Some c =
    let name = c.args.name.now in
    let words : List Text = map string_bytes c.args.arguments.now in
    let app_is : app_of c.in_ok-may_have_one.field-0 ≡ may_have_one name = c.in_ok-may_have_one.ensures in
    let taken = some_is (λ (m : ArgMatches). (fault_of (app_of c.in_ok-may_have_one.field-0) words ≡ []) × (rows_of (found_of m) ≡ matches_of (app_of c.in_ok-may_have_one.field-0) words)) _ _ c.in-Some.is c.in_ok-matches.ensures.taken in
    let fine : fault_of (may_have_one name) words ≡ [] = ap (λ (a : App). fault_of a words) (sym app_is) ∙ taken.0 in
    let rows_are : rows_of (found_of c.in-Some.matches) ≡ matches_of (may_have_one name) words = taken.1 ∙ ap (λ (a : App). matches_of a words) app_is in
    let first_is : option_map (λ s. s.now) c.get_str.result ≡ first_of (codes "first") (matches_of (may_have_one name) words) =
    c.get_str.ensures ∙ first_value-rows (found_of c.in-Some.matches) (codes "first") ∙ ap (λ (r : List Row). first_of (codes "first") r) rows_are in
    ap (λ (x : Option Text). Some x) first_is ∙ may_have_one-taken name words c.requires fine
