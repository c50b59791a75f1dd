use Rattle.std.proofs.Common.{◌∙◌, sym}
use Rattle.edr_cli.proofs.PieceLemmas.{first_place, no_place, sliced_there}
use Rattle.edr_cli.proofs.pieces.parted_by.Goals as goal

pub returns-in_err-place-clause-none : goal.returns-in_err-place-clause-none
returns-in_err-place-clause-none c = λ none. no_place c.args.byte c.args.bytes.now (sym c.place_of.ensures.place ∙ c.in_err-place.was)

pub returns-clause-parts : goal.returns-clause-parts
returns-clause-parts c = sliced_there c.args.byte c.args.bytes.now c.in_ok-place.place (sym c.place_of.ensures.place ∙ c.in_ok-place.was)

pub returns-clause-first : goal.returns-clause-first
returns-clause-first c = (first_place c.args.byte c.args.bytes.now c.in_ok-place.place (sym c.place_of.ensures.place ∙ c.in_ok-place.was)).2
