use Rattle.edr_codec.proofs.VersionLemmas.{version_2-form, version_2-has, version_2-slots}
use Rattle.edr_codec.proofs.laws.version_2_has_a_form.Goals as goal

pub returns-clause-form : goal.returns-clause-form
returns-clause-form c = version_2-form

pub returns-clause-slots : goal.returns-clause-slots
returns-clause-slots c = version_2-slots

pub returns-clause-profiles : goal.returns-clause-profiles
returns-clause-profiles c = version_2-has
