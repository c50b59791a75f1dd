use Rattle.std.proofs.Common.{◌≡◌, ◌∙◌, ap, refl, w32}
use Rattle.std.specs.Fmt.{signed_decimal}
use Rattle.std.proofs.lemmas.Int.{to_z-of_z}
use Rattle.edr_text.specs.Numbers.{signed_numeral}
use Rattle.edr_gen.proofs.TextLemmas.{crash-bytes, signed-text}
use Rattle.edr_gen.proofs.pages.push_crash.Goals as goal

pub returns-clause-bytes : goal.returns-clause-bytes
returns-clause-bytes c =
    let along : c.format.result.now ≡ signed_numeral c.args.along = c.format.ensures.text ∙ ap signed_decimal (to_z-of_z w32 c.args.along c.ranges.along) ∙ signed-text c.args.along c.ranges.along in
    let across : c.format-2.result.now ≡ signed_numeral c.args.across = c.format-2.ensures.text ∙ ap signed_decimal (to_z-of_z w32 c.args.across c.ranges.across) ∙ signed-text c.args.across c.ranges.across in
    crash-bytes c.args.page.now.bytes c.push_row-2.new.page.bytes c.push_str.new.self.bytes c.push_row-3.new.page.bytes c.push_str-2.new.self.bytes c.push_str-3.new.self.bytes
    c.args.moment.now c.format.result.now c.format-2.result.now
    c.push_row-2.ensures.bytes c.push_str.ensures.bytes c.push_row-3.ensures.bytes c.push_str-2.ensures.bytes c.push_str-3.ensures.bytes
    ∙ rw (c.requires.moment, along, across) refl
