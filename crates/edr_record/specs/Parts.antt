-- The two parts of a record as contracts see them: plain values, with no bound.
use Rattle.std.specs.Prelude.{ℕ, ℤ, Bool, Option, List}
use Rattle.edr_record.specs.declared.Key.{Key}
use Rattle.edr_record.specs.declared.Place.{Place}
use Rattle.edr_record.specs.declared.Extreme.{Extreme}
use Rattle.edr_record.specs.declared.Profile.{Profile}

-- what stood before time zero: the slots of its profile of speed, throttle and brake, one of belt and lamp (563.7 Table I)
pub record PrePart : Type 0 where
  pub key : Key
  pub place : Place
  pub profile : Profile
  pub speed : List (Option ℕ)
  pub throttle : List (Option ℕ)
  pub brake : List (Option Bool)
  pub belt : Option Bool
  pub lamp : Option Bool

-- what came after time zero; times are counted from there (563.7 Tables I and II)
pub record CrashPart : Type 0 where
  pub end : ℕ
  pub along : List ℤ
  pub across : List ℤ
  pub max_along : Extreme
  pub max_across : Extreme
  pub result_at : ℕ
  pub missing_along : ℕ
  pub missing_across : ℕ
  pub fired : List (Option ℕ)
