use Rattle.std.proofs.Common.{◌+◌, slice_range}
use Rattle.edr_image.specs.PartBytes.{crash_size}
use Rattle.edr_codec.proofs.GrammarLaws.{crash_damage-within}
use Rattle.edr_codec.proofs.MovedLaws.{range-stands, crash_at-moved, crash_damage-moved}
use Rattle.edr_codec.proofs.laws.crash_is_told_by_its_bytes.Goals as goal

pub returns-clause-value : goal.returns-clause-value
returns-clause-value c = λ form bytes at. crash_at-moved form at bytes (slice_range bytes at (at + crash_size form)) (range-stands bytes at (crash_size form))

pub returns-clause-damage : goal.returns-clause-damage
returns-clause-damage c = λ form bytes at. crash_damage-moved form at bytes (slice_range bytes at (at + crash_size form)) (range-stands bytes at (crash_size form))

pub returns-clause-within : goal.returns-clause-within
returns-clause-within c = crash_damage-within

pub returns-clause-found : goal.returns-clause-found
returns-clause-found c = λ form bytes at k below. range-stands bytes at (crash_size form) k below
