use Rattle.std.proofs.Common.{arith, ◌∙◌}
use Rattle.edr_text.proofs.SpellingLemmas.{decimal-numeral}
use Rattle.edr_gen.proofs.pages.push_tick.Goals as goal

pub push_crash-requires-clause-moment : goal.push_crash-requires-clause-moment
push_crash-requires-clause-moment c = c.format-moment.ensures.text ∙ decimal-numeral c.args.tick (omega (arith, c.ranges.tick.fits))

pub push_slow-requires-clause-moment : goal.push_slow-requires-clause-moment
push_slow-requires-clause-moment c = c.format-moment.ensures.text ∙ decimal-numeral c.args.tick (omega (arith, c.ranges.tick.fits))

pub push_restraint-requires-clause-moment : goal.push_restraint-requires-clause-moment
push_restraint-requires-clause-moment c = c.format-moment.ensures.text ∙ decimal-numeral c.args.tick (omega (arith, c.ranges.tick.fits))
