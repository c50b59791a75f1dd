-- Two parts of a list, by numbers.
use Rattle.std.specs.Prelude.{ℕ, ◌-◌, List, length, take, drop}

module _ {A : Type 0} where
  -- those from one number on, up to another
  abbrev pub between : ℕ → ℕ → List A → List A
  between next end xs = drop next (take end xs)

  -- all but the last ones
  abbrev pub but_last : ℕ → List A → List A
  but_last n xs = take (length xs - n) xs
