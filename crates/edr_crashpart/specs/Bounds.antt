-- How large the numbers of an open crash part may be.
use Rattle.std.specs.Prelude.{◌≡◌, ℕ, ◌*◌, ◌≤◌, min, ℤ, unsigned_abs, Option, length, All}
use Rattle.std.specs.Option.{ForSome}
use Rattle.edr_items.specs.declared.TheConstants.{GREATEST_ACCELERATION}
use Rattle.edr_record.specs.declared.TheConstants.{LONGEST_WINDOW, RESET}
use Rattle.edr_record.specs.Bounds.{ArePoints, IsUpTo}
use Rattle.edr_definitions.specs.OpenCrash.{OpenAxis, OpenCrash, points_by}

-- a sample of an axis, if there is one, lies in the range of the acceleration sensors
abbrev pub IsInRange : Option ℤ → Type 0
IsInRange sample = ForSome sample (λ v. unsigned_abs v ≤ GREATEST_ACCELERATION)

-- an axis so many ticks after time zero
pub record IsOpenAxis (elapsed : ℕ) (a : OpenAxis) : Type 0 where
  pub sum : unsigned_abs a.sum ≤ GREATEST_ACCELERATION * elapsed
  pub points : ArePoints (points_by elapsed) a.points
  pub peak : unsigned_abs a.peak.value ≤ GREATEST_ACCELERATION * a.peak.at
  pub peak_at : a.peak.at ≤ min LONGEST_WINDOW elapsed
  pub missing : a.missing ≤ min LONGEST_WINDOW elapsed

-- a crash part that is open up to the reset at most
pub record IsOpen (p : OpenCrash) : Type 0 where
  pub elapsed : p.elapsed ≤ RESET
  pub along : IsOpenAxis p.elapsed p.along
  pub across : IsOpenAxis p.elapsed p.across
  pub result_at : p.result.at ≤ min LONGEST_WINDOW p.elapsed
  pub restraints : length p.fired ≡ 8
  pub fired : All (IsUpTo p.elapsed) p.fired
