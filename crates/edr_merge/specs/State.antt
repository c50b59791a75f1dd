-- What contracts see of a `Merge`.
use Rattle.std.specs.Prelude.{ℕ}
use Rattle.edr_merge.specs.Marks.{Marks}
use Rattle.edr_merge.specs.declared.rings.Rings.{Rings}

-- the closed tick, the marks, and the samples past the closed tick
pub record MergeState : Type 0 where
  pub closed : ℕ
  pub marks : Marks
  pub rings : Rings
