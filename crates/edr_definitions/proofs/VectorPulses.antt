-- Signals and lists for vectors.
use Rattle.std.specs.Prelude.{ℕ, ℤ, ◌+◌, ◌-◌, ◌*◌, ◌/◌, ◌&&◌, nat_le, if◌then◌else◌, Option, Some, None, List, map}
use Rattle.std.specs.Option.{option_or}
use Rattle.std.specs.List.{range_with_len}
use Rattle.edr_items.specs.declared.Item.{Item}
use Rattle.edr_definitions.specs.Signals.{Signals}

-- a sample of v at each tick from a to b
abbrev pub pulse : ℕ → ℕ → ℤ → ℕ → Option ℤ
pulse a b v t = if nat_le a t && nat_le t b then Some v else None

-- the samples of two pulses
abbrev pub both : (ℕ → Option ℤ) → (ℕ → Option ℤ) → ℕ → Option ℤ
both f g t = option_or (f t) (g t)

-- a size by a number of ticks or samples, rounded up
abbrev pub divided_up : ℕ → ℕ → ℕ
divided_up size n = (size + n - 1) / n

-- no sample
abbrev pub nothing : ℕ → Option ℤ
nothing t = None

-- no restraint fires
abbrev pub no_firing : ℕ → ℕ
no_firing t = 0

-- these bits fire at the tick a
abbrev pub firing : ℕ → ℕ → ℕ → ℕ
firing a bits t = if nat_le a t && nat_le t a then bits else 0

-- samples of one axis, and no firing
abbrev pub only_along : (ℕ → Option ℤ) → Signals
only_along f = record { along = f; across = nothing; fired = no_firing }

abbrev pub only_across : (ℕ → Option ℤ) → Signals
only_across f = record { along = nothing; across = f; fired = no_firing }

-- firings alone
abbrev pub only_fired : (ℕ → ℕ) → Signals
only_fired f = record { along = nothing; across = nothing; fired = f }

-- one sample of a list
abbrev pub sample : ℕ → ℤ → Item
sample t v = record { moment = t; value = Some v }

-- the moment of a list at which the sensor was silent
abbrev pub silence : ℕ → Item
silence t = record { moment = t; value = None }

-- a list with a sample at each of the first n multiples of 100, by its number
abbrev pub each_100 : (ℕ → ℤ) → ℕ → List Item
each_100 value n = map (λ k. sample (100 * k) (value k)) (range_with_len 1 n)
