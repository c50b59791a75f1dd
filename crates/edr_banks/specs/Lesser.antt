-- Which of two events a new event takes the bank of.
use Rattle.std.specs.Prelude.{ℕ, Bool, true, not, ◌&&◌, if◌then◌else◌, Option, Some, None, option_map}
use denote.Ref.{Bor}
use Rattle.edr_record.specs.declared.Record.{Record}
use Rattle.edr_image.specs.Banks.{comes_before}

-- it isn't locked
abbrev pub is_free : ℕ × Record → Bool
is_free e = not e.1.locked

-- it comes before the other, if there is one
abbrev pub is_first : ℕ × Record → Option (ℕ × Record) → Bool
is_first x None = true
is_first x (Some y) = comes_before x y

-- the lesser of an event, unless it is locked, and another, if there is one
abbrev pub lesser : ℕ × Record → Option (ℕ × Record) → Option (ℕ × Record)
lesser x other = if is_free x && is_first x other then Some x else other

-- an event that is referred to, with its number
abbrev pub referred_event : Option (ℕ × Bor Record) → Option (ℕ × Record)
referred_event e = option_map (λ e. (e.0, e.1.now)) e
