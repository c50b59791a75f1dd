use Rattle.edr_audit.proofs.FirstBytesLemmas.{first-bytes}
use Rattle.edr_audit.proofs.laws.an_image_is_in_its_first_bytes.Goals as goal

pub returns : goal.returns
returns c = first-bytes
