-- The bytes of the rows of samples.
use Rattle.std.specs.Prelude.{ℕ, List, map}
use Rattle.edr_spell.specs.Samples.{Sample, row_for}
use Rattle.edr_spell.specs.Lines.{text_of}

abbrev pub samples_text : List Sample → List ℕ
samples_text xs = text_of (map row_for xs)
