use Rattle.edr_drawing.proofs.{FirstLemmas.are_firsts, PartLemmas.places_on_page}
use Rattle.edr_drawing.proofs.laws.each_first.Goals as goal

pub returns : goal.returns
returns c = record { page = places_on_page; firsts = are_firsts }
