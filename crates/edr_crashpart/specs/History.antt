-- What an open crash part stands for: its time zero and the ticks after it.
use Rattle.std.specs.Prelude.{◌≡◌, ℕ, ◌+◌, ◌-◌, nat_eq, nat_lt, if◌then◌else◌, ℤ, Option, None, option_and_then, List, [], ◌∷◌, ◌++◌, length, slice_get}
use Rattle.std.specs.Option.{option_map_or}
use Rattle.edr_record.specs.Parts.{CrashPart}
use Rattle.edr_definitions.specs.Signals.{Signals}
use Rattle.edr_definitions.specs.Parts.{crash_part}
use Rattle.edr_definitions.specs.OpenCrash.{OpenCrash, crash_at}

-- a tick: the sample of each axis, if there is one, and the sum of the bits of the restraints that fire
pub record CrashRow : Type 0 where
  pub along : Option ℤ
  pub across : Option ℤ
  pub fired : ℕ

-- the row of the tick t, if there is one: the first is that of the tick after z
abbrev pub row_at : ℕ → List CrashRow → ℕ → Option CrashRow
row_at z rows t = if nat_lt z t then slice_get rows (t - z - 1) else None

-- the signals of which the restraints that fire at z and the ticks after it are these, and of which nothing else is known
abbrev pub signals_from : ℕ → ℕ → List CrashRow → Signals
signals_from z fired rows = record {
  along = λ t. option_and_then (λ r. r.along) (row_at z rows t);
  across = λ t. option_and_then (λ r. r.across) (row_at z rows t);
  fired = λ t. if nat_eq t z then fired else option_map_or (λ r. r.fired) (row_at z rows t) 0;
}

-- the open crash part is that of this time zero, with these restraints firing at it, after these ticks
abbrev pub OpenCrashStandsFor : OpenCrash → ℕ → ℕ → List CrashRow → Type 0
OpenCrashStandsFor part z fired rows = part ≡ crash_at (signals_from z fired rows) z (z + length rows)

-- the row of a tick, of its samples and the restraints that fire
abbrev pub row_of : Option ℤ → Option ℤ → ℕ → CrashRow
row_of along across fired = record { along = along; across = across; fired = fired }

-- whatever ticks the part stands for, the next one stands for this row after them
abbrev pub StandsWith : CrashRow → OpenCrash → OpenCrash → Type 0
StandsWith row part next =
    (z fired : ℕ) (rows : List CrashRow) → OpenCrashStandsFor part z fired rows → OpenCrashStandsFor next z fired (rows ++ row ∷ [])

-- whatever ticks the part stands for, this is the crash part of the definition of them and the end e
abbrev pub IsPartWithEnd : OpenCrash → ℕ → CrashPart → Type 0
IsPartWithEnd part e crash =
    (z fired : ℕ) (rows : List CrashRow) → OpenCrashStandsFor part z fired rows → crash ≡ crash_part (signals_from z fired rows) z e
