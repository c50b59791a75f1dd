use Rattle.edr_spell.proofs.WrittenLemmas.{row-read}
use Rattle.edr_spell.proofs.CycleLemmas.{row_of-bounds}
use Rattle.edr_spell.proofs.laws.rows_are_read.Goals as goal

pub returns : goal.returns
returns c = record { written = row-read; bounds = row_of-bounds }
