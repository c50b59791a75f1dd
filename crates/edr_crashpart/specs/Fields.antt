-- What the fields of an open crash part mean in the definitions.
use Rattle.std.specs.Prelude.{ℕ, ℤ, nat_le, if◌then◌else◌}
use Rattle.edr_record.specs.declared.TheConstants.{LONGEST_WINDOW}
use Rattle.edr_definitions.specs.Windows.{squares}
use Rattle.edr_definitions.specs.OpenCrash as meant
use Rattle.edr_crashpart.specs.declared.axis.Axis.{Axis}
use Rattle.edr_crashpart.specs.declared.axis.Peak.{Peak}
use Rattle.edr_crashpart.specs.declared.ResultPeak.{ResultPeak}
use Rattle.edr_crashpart.specs.declared.OpenCrash.TheInside.{Inside}

abbrev pub peak_of : Peak → meant.Peak
peak_of p = record { value = p.value; at = p.at }

abbrev pub axis_of : Axis → meant.OpenAxis
axis_of a = record { sum = a.sum; points = a.points; peak = peak_of a.peak; missing = a.missing }

abbrev pub result_of : ResultPeak → meant.ResultPeak
result_of r = record { size = r.size; at = r.at }

-- the greatest sum of squares with one tick more, d ticks past time zero, at which these are the changes
abbrev pub next_result : meant.ResultPeak → ℤ → ℤ → ℕ → meant.ResultPeak
next_result p x y d = if nat_le d LONGEST_WINDOW then meant.higher_result p (squares x y) d else p

abbrev pub part_of : Inside → meant.OpenCrash
part_of p = record {
  zero = p.zero;
  elapsed = p.elapsed;
  along = axis_of p.along;
  across = axis_of p.across;
  result = result_of p.result;
  fired = p.fired;
}
