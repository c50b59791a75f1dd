use Rattle.edr_spell.proofs.LineLemmas.{lines-records}
use Rattle.edr_spell.proofs.laws.lines_are_records.Goals as goal

pub returns : goal.returns
returns c = lines-records
