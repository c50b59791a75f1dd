use Rattle.edr_image.specs.PartBytes.{profile_byte, slots_of}
use Rattle.edr_codec.proofs.PreLemmas.{profile-by}
use Rattle.edr_codec.proofs.PreLaws.{pre-read_back}
use Rattle.edr_codec.proofs.laws.pre_is_read_back.Goals as goal

pub returns : goal.returns
returns c = λ form is p by. pre-read_back form (slots_of form (profile_byte form p.profile)) p by.bounds (profile-by form p is by)
