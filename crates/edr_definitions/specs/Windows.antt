-- Changes of speed over intervals of ticks, in steps of 0.0001 km/h.
use Rattle.std.specs.Prelude.{ℕ, ◌+◌, ◌-◌, ◌*◌, max, ℤ, pos, Bool, Option, Some, unwrap_or, unsigned_abs, nat_lt, nat_le, ◌&&◌, List, map, filter}
use Rattle.edr_items.specs.declared.Item.{Item}
use Rattle.edr_definitions.specs.declared.limits.TheConstants.{OVER, TRIGGER, QUIET_SQUARES}
use Rattle.edr_definitions.specs.Ticks.{ticks, greatest, int_sum}
use Rattle.edr_definitions.specs.Signals.{Signals}

-- the change of speed in the one tick t, and 0 without a sample
abbrev pub change_at : (ℕ → Option ℤ) → ℕ → ℤ
change_at axis t = unwrap_or (axis t) (pos 0)

-- delta-V: the change of speed after the tick s, up to the tick t (563.5, delta-V)
unfoldable pub delta_v : (ℕ → Option ℤ) → ℕ → ℕ → ℤ
delta_v axis s t = int_sum (map (change_at axis) (ticks (s + 1) (t + 1)))

-- the same of a sensor's list: the sum of its samples with a moment after s and at most t
unfoldable pub sum_between : List Item → ℕ → ℕ → ℤ
sum_between xs s t =
    int_sum (map (λ x. unwrap_or x.value (pos 0)) (filter (λ x. nat_lt s x.moment && nat_le x.moment t) xs))

-- how far delta-V is from 0, either way
abbrev pub size_of_change : (ℕ → Option ℤ) → ℕ → ℕ → ℕ
size_of_change axis s t = unsigned_abs (delta_v axis s t)

-- the greatest size of a change up to t that begins at one of the ticks `first..t`
unfoldable pub largest_change : (ℕ → Option ℤ) → ℕ → ℕ → ℕ
largest_change axis first t = greatest (λ s. size_of_change axis s t) first t

-- within k ms: the greatest size of a change over 1 to k ticks up to t that doesn't begin before the tick `from`
unfoldable pub swing : (ℕ → Option ℤ) → ℕ → ℕ → ℕ → ℕ
swing axis k from t = largest_change axis (max from (t - k)) t

-- a change of over 0.8 km/h (563.5, time zero)
abbrev pub is_over : ℕ → Bool
is_over size = nat_lt OVER size

-- a change that meets the trigger threshold (563.5)
abbrev pub meets_trigger : ℕ → Bool
meets_trigger size = nat_le TRIGGER size

-- the square of the resultant of two changes
abbrev pub squares : ℤ → ℤ → ℕ
squares x y = unsigned_abs x * unsigned_abs x + unsigned_abs y * unsigned_abs y

-- a resultant of at most 0.8 km/h (563.5, end of event time)
abbrev pub is_quiet : ℤ → ℤ → Bool
is_quiet x y = nat_le (squares x y) QUIET_SQUARES

-- the same signals, with a sample of 0 at each tick without one
abbrev pub filled_signals : Signals → Signals
filled_signals m = record { along = λ t. Some (change_at m.along t); across = λ t. Some (change_at m.across t); fired = m.fired }
