use Rattle.edr_spell.proofs.WrittenLemmas.{written-spelled}
use Rattle.edr_spell.proofs.laws.written_rows_are_read.Goals as goal

pub returns : goal.returns
returns c = written-spelled
