use Rattle.edr_drawing.proofs.PlainPageLemmas.{plain_page}
use Rattle.edr_drawing.proofs.laws.plain.Goals as goal

pub returns : goal.returns
returns c = λ reports found origin small. (plain_page reports found origin).bytes
