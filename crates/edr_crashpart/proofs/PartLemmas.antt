-- An open crash part from its fields.
use Rattle.std.proofs.Common.{refl, ◌≡◌, ℕ, ◌+◌, ◌-◌, ℤ, cond, nat_le, None, Option, List}
use Rattle.std.specs.Prelude.{replicate}
use Rattle.edr_record.specs.declared.Extreme.{Extreme}
use Rattle.edr_record.specs.Parts.{CrashPart}
use Rattle.edr_definitions.specs.Parts.{kmh_of}
use Rattle.edr_definitions.specs.Windows.{squares}
use Rattle.edr_definitions.specs.OpenCrash.{ResultPeak, OpenAxis, OpenCrash, begin_axis, begin_crash, higher_result, next_firings, next_axis, next_crash, finish_crash}

-- at time zero
pub begin_crash-is : (z fired : ℕ) (x y : OpenAxis) (fs : List (Option ℕ)) → x ≡ begin_axis → y ≡ begin_axis → fs ≡ next_firings (replicate 8 None) fired 0 → ◌≡◌ {A = OpenCrash} (record { zero = z; elapsed = 0; along = x; across = y; result = record { size = 0; at = 0 }; fired = fs }) (begin_crash z fired)
begin_crash-is z fired x y fs e1 e2 e3 = rw (e1, e2, e3) refl

-- and with one tick more
pub next_crash-is : (p : OpenCrash) (along across : Option ℤ) (fired : ℕ) (x y : OpenAxis) (r : ResultPeak) (fs : List (Option ℕ)) → x ≡ next_axis p.along along (p.elapsed + 1) → y ≡ next_axis p.across across (p.elapsed + 1) → r ≡ cond (nat_le (p.elapsed + 1) 300) (higher_result p.result (squares x.sum y.sum) (p.elapsed + 1)) p.result → fs ≡ next_firings p.fired fired (p.elapsed + 1) → ◌≡◌ {A = OpenCrash} (record { zero = p.zero; elapsed = p.elapsed + 1; along = x; across = y; result = r; fired = fs }) (next_crash p along across fired)
next_crash-is p along across fired x y r fs e1 e2 e3 e4 = rw (e3, e4, e1, e2) refl

-- a crash part from an open one
pub finish_crash-is : (p : OpenCrash) (e : ℕ) (x y : Extreme) → x ≡ record { kmh = kmh_of p.along.peak.value; at = p.along.peak.at } → y ≡ record { kmh = kmh_of p.across.peak.value; at = p.across.peak.at } → ◌≡◌ {A = CrashPart} (record { end = e - p.zero; along = p.along.points; across = p.across.points; max_along = x; max_across = y; result_at = p.result.at; missing_along = p.along.missing; missing_across = p.across.missing; fired = p.fired }) (finish_crash p e)
finish_crash-is p e x y e1 e2 = rw (e1, e2) refl
