use Rattle.std.proofs.Common.{arith, ◌≡◌, ◌∙◌, refl}
use Rattle.edr_text.specs.Numbers.{numeral}
use Rattle.edr_text.proofs.SpellingLemmas.{decimal-numeral}
use Rattle.edr_gen.proofs.TextLemmas.{cut-bytes}
use Rattle.edr_gen.proofs.traces.push_cut.Goals as goal

pub returns : goal.returns
returns c =
    let stop : c.format.result.now ≡ numeral c.args.stop = c.format.ensures.text ∙ decimal-numeral c.args.stop (omega (arith, c.ranges.stop.fits)) in
    cut-bytes c.args.page.now.bytes c.push_str.new.self.bytes c.push_str-2.new.self.bytes c.push_str-3.new.self.bytes c.format.result.now
    c.push_str.ensures.bytes c.push_str-2.ensures.bytes c.push_str-3.ensures.bytes
    ∙ rw stop refl
