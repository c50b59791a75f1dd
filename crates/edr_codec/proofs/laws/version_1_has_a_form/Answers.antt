use Rattle.edr_codec.proofs.VersionLemmas.{version_1-form, version_1-profiles, version_1-slots}
use Rattle.edr_codec.proofs.laws.version_1_has_a_form.Goals as goal

pub returns-clause-form : goal.returns-clause-form
returns-clause-form c = version_1-form

pub returns-clause-slots : goal.returns-clause-slots
returns-clause-slots c = version_1-slots

pub returns-clause-profile : goal.returns-clause-profile
returns-clause-profile c = version_1-profiles
