use Rattle.edr_codec.proofs.PreLemmas.{by-record, record-by}
use Rattle.edr_codec.proofs.VersionLemmas.{version_1-parts, version_2-parts}
use Rattle.edr_codec.proofs.laws.parts_are_of_records.Goals as goal

pub returns-clause-any : goal.returns-clause-any
returns-clause-any c = λ form is slots p. ((λ by. (by-record form p is slots by, by.profile)), (λ both. record-by form p is slots both.0 both.1))

pub returns-clause-version_1 : goal.returns-clause-version_1
returns-clause-version_1 c = version_1-parts

pub returns-clause-version_2 : goal.returns-clause-version_2
returns-clause-version_2 c = version_2-parts
