-- The number of banks was looked at.
use Rattle.edr_image.specs.declared.forms.TheConstants.{VERSION_2}
use Rattle.edr_banks.proofs.HeaderByteLemmas.{header_within}
use Rattle.edr_banks.proofs.image_reader.header_by.Goals as goal

pub returns-clause-within : goal.returns-clause-within
returns-clause-within c = header_within VERSION_2 c.args.first.now c.in-Ok.header c.in-Ok.ensures.accepted c.in-Ok.ensures.read
