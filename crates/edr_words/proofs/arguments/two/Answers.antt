use Rattle.std.proofs.Common.{◌≡◌, ◌∙◌, ap, ap₂, sym, codes, map, string_bytes, List, [], Option, option_map}
use Rattle.std.specs.Option.{option_zip}
use Rattle.clap.specs.Faults.{fault_of}
use Rattle.clap.specs.Matches.{found_of}
use Rattle.clap.specs.Simple.{App, app_of, matches_of}
use Rattle.clap.specs.Walk.{Row, Text, first_of, rows_of}
use Rattle.clap.specs.declared.parser.matches.ArgMatches.{ArgMatches}
use Rattle.clap.proofs.WalkLemmas.{first_value-rows}
use Rattle.edr_words.specs.Arguments.{needs_two}
use Rattle.edr_words.proofs.ParsedLemmas.{needs_two-taken, needs_two-refused, some_is, zip_now}
use Rattle.edr_words.proofs.arguments.two.Goals as goal

pub returns-in-None : goal.returns-in-None
returns-in-None c =
    let name = c.args.name.now in
    let words : List Text = map string_bytes c.args.arguments.now in
    let app_is : app_of c.in_ok-needs_two.field-0 ≡ needs_two name = c.in_ok-needs_two.ensures in
    sym (needs_two-refused name words c.requires (λ fine. c.in_ok-matches.ensures.refused c.in-None.is (ap (λ (a : App). fault_of a words) app_is ∙ fine)))

pub returns-in-Some : goal.returns-in-Some
returns-in-Some c =
    let name = c.args.name.now in
    let words : List Text = map string_bytes c.args.arguments.now in
    let app_is : app_of c.in_ok-needs_two.field-0 ≡ needs_two name = c.in_ok-needs_two.ensures in
    let taken = some_is (λ (m : ArgMatches). (fault_of (app_of c.in_ok-needs_two.field-0) words ≡ []) × (rows_of (found_of m) ≡ matches_of (app_of c.in_ok-needs_two.field-0) words)) _ _ c.in-Some.is c.in_ok-matches.ensures.taken in
    let fine : fault_of (needs_two name) words ≡ [] = ap (λ (a : App). fault_of a words) (sym app_is) ∙ taken.0 in
    let rows_are : rows_of (found_of c.in-Some.matches) ≡ matches_of (needs_two name) words = taken.1 ∙ ap (λ (a : App). matches_of a words) app_is in
    let first_is : option_map (λ s. s.now) c.get_str.result ≡ first_of (codes "first") (matches_of (needs_two name) words) =
    c.get_str.ensures ∙ first_value-rows (found_of c.in-Some.matches) (codes "first") ∙ ap (λ (r : List Row). first_of (codes "first") r) rows_are in
    let second_is : option_map (λ s. s.now) c.get_str-in-Some.result ≡ first_of (codes "second") (matches_of (needs_two name) words) =
    c.get_str-in-Some.ensures ∙ first_value-rows (found_of c.in-Some.matches) (codes "second") ∙ ap (λ (r : List Row). first_of (codes "second") r) rows_are in
    ap (option_map (λ p. (p.0.now, p.1.now))) c.zip.ensures ∙ zip_now c.get_str.result c.get_str-in-Some.result
    ∙ ap₂ (λ (x y : Option Text). option_zip x y) first_is second_is ∙ needs_two-taken name words c.requires fine
