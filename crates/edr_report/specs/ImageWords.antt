-- Why an image is refused, in words.
use Rattle.std.specs.Prelude.{ℕ, List, ◌++◌, codes, decimal}
use Rattle.edr_image.specs.declared.HeaderRefused.{HeaderRefused}
use Rattle.edr_image.specs.declared.HeaderRefused.TheVariants as header

-- it has fewer bytes than it needs
abbrev pub short_words : ℕ → ℕ → List ℕ
short_words size needed = codes "short " ++ decimal size ++ codes " of " ++ decimal needed

-- what is wrong with its first bytes
abbrev pub header_words : HeaderRefused → List ℕ
header_words (header.NotFormatted offset found) = codes "not formatted at " ++ decimal offset ++ codes " found " ++ decimal found
header_words (header.Version found) = codes "version " ++ decimal found
header_words (header.Banks found) = codes "banks " ++ decimal found
header_words (header.Choice found) = codes "choice " ++ decimal found
