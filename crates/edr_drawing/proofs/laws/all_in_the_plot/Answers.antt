use Rattle.std.proofs.Common.{arith}
use Rattle.edr_drawing.proofs.PlotLemmas.{axis_stands, stands_in}
use Rattle.edr_drawing.proofs.laws.all_in_the_plot.Goals as goal

pub returns : goal.returns
returns c = record {
  along = λ p. axis_stands p p.along (λ way. omega arith);
  across = λ p. axis_stands p p.across (λ way. omega arith);
  max_along = λ p. stands_in p p.max_along.kmh (omega arith) (omega arith);
  max_across = λ p. stands_in p p.max_across.kmh (omega arith) (omega arith);
  times = λ p t early. grind (arith, early);
}
