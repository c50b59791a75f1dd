-- Counts of faults. They never fall, and stand still at their last number.
use Rattle.std.specs.Prelude.{◌+◌, ◌-◌, ◌^◌, ◌≤◌, min, ℕ, Result, OnErr}

-- the greatest number of a count
abbrev pub last_number : ℕ
last_number = 2 ^ 64 - 1

-- the number after this one; the last number stands still
abbrev pub next_number : ℕ → ℕ
next_number n = min (n + 1) last_number

-- the count is greater now, or stands at its last number
abbrev pub Rose : ℕ → ℕ → Type 0
Rose before now = next_number before ≤ now

-- the count did not fall in a call, and rose if the call failed
pub record HasCause {T E : Type 0} (before now : ℕ) (result : Result T E) : Type 0 where
  pub later : before ≤ now
  pub failed : OnErr result (Rose before now)
