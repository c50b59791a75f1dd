-- Both versions have readable layouts.
use Rattle.std.proofs.Common.{arith}
use Rattle.edr_image.specs.declared.forms.TheConstants.{VERSION_1, VERSION_2}
use Rattle.edr_codec.proofs.VersionLemmas.{version_1-form, version_1-slots, version_2-form, version_2-slots}
use Rattle.edr_layout.specs.Readable.{IsReadable}

pub version_1_is_readable : IsReadable VERSION_1
version_1_is_readable = record { form = version_1-form; slots = version_1-slots; fits = omega arith; few = omega arith }

pub version_2_is_readable : IsReadable VERSION_2
version_2_is_readable = record { form = version_2-form; slots = version_2-slots; fits = omega arith; few = omega arith }
