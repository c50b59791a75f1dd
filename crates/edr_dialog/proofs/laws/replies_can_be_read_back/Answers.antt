use Rattle.edr_codec.proofs.PieceLemmas.{small-bytes}
use Rattle.edr_image.specs.declared.places.TheConstants.{BANKS}
use Rattle.edr_dialog.proofs.ReadingLemmas.{one_way}
use Rattle.edr_dialog.proofs.ShortLemmas.{replies_framed}
use Rattle.edr_dialog.proofs.laws.replies_can_be_read_back.Goals as goal

pub returns-clause-frames : goal.returns-clause-frames
returns-clause-frames c = λ image stream v bytes is. replies_framed image stream v (small-bytes image bytes BANKS) is

pub returns-clause-one_way : goal.returns-clause-one_way
returns-clause-one_way c = one_way
