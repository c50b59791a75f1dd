use Rattle.std.proofs.Common.{refl}
use Rattle.edr_drawing.specs.After.{curve, maximum}
use Rattle.edr_drawing.proofs.laws.no_sample.Goals as goal

pub returns : goal.returns
unfolding curve maximum
returns c = λ s p a silent. rw silent (refl, refl, refl)
