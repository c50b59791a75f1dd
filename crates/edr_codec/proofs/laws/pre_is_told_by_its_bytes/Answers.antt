use Rattle.std.proofs.Common.{◌+◌, slice_range}
use Rattle.edr_image.specs.PartBytes.{pre_size}
use Rattle.edr_codec.proofs.GrammarLaws.{pre_damage-within}
use Rattle.edr_codec.proofs.MovedLaws.{range-stands, pre_at-moved, pre_damage-moved}
use Rattle.edr_codec.proofs.laws.pre_is_told_by_its_bytes.Goals as goal

pub returns-clause-value : goal.returns-clause-value
returns-clause-value c = λ form is bytes at. pre_at-moved form is at bytes (slice_range bytes at (at + pre_size form)) (range-stands bytes at (pre_size form))

pub returns-clause-damage : goal.returns-clause-damage
returns-clause-damage c = λ form is bytes at. pre_damage-moved form is at bytes (slice_range bytes at (at + pre_size form)) (range-stands bytes at (pre_size form))

pub returns-clause-within : goal.returns-clause-within
returns-clause-within c = pre_damage-within

pub returns-clause-found : goal.returns-clause-found
returns-clause-found c = λ form bytes at k below. range-stands bytes at (pre_size form) k below
