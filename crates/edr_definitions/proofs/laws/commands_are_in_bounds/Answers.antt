use Rattle.edr_definitions.proofs.BoundLaws.{commands-in_bounds}
use Rattle.edr_definitions.proofs.laws.commands_are_in_bounds.Goals as goal

pub returns : goal.returns
returns c = λ f n t h. commands-in_bounds f n t h.feeds h.from h.to
