-- What a row of a trace says, by its fields. The first three faults are of the row alone.
use Rattle.std.specs.Prelude.{◌≡◌, ◌≤◌, ℕ, ℤ, Bool, true, nat_le, if◌then◌else◌, Option, Some, None, Result, Ok, Err, List, [], ◌∷◌, length, map, find, bytes_eq, codes, pos, negsuc, int_le, ◌&&◌}
use Rattle.std.specs.Option.{option_map_or}
use Rattle.edr_items.specs.declared.Sensor.TheVariants as s
use Rattle.edr_text.specs.Numbers.{natural_in, integer_in}
use Rattle.edr_spell.specs.declared.Word.{Word}
use Rattle.edr_spell.specs.declared.Word.TheVariants as w
use Rattle.edr_spell.specs.declared.Row.{Row}
use Rattle.edr_spell.specs.declared.Row.TheVariants as row
use Rattle.edr_spell.specs.declared.TraceFault.{TraceFault}
use Rattle.edr_spell.specs.declared.TraceFault.TheVariants as f

-- ---- the word in the first field

-- how a word is spelled
abbrev pub spelling_of : Word → List ℕ
spelling_of w.On = codes "on"
spelling_of w.Cut = codes "cut"
spelling_of (w.Of s.Along) = codes "along"
spelling_of (w.Of s.Across) = codes "across"
spelling_of (w.Of s.Speed) = codes "speed"
spelling_of (w.Of s.Throttle) = codes "throttle"
spelling_of (w.Of s.Brake) = codes "brake"
spelling_of (w.Of s.Belt) = codes "belt"
spelling_of (w.Of s.Lamp) = codes "lamp"
spelling_of (w.Of s.Restraint) = codes "restraint"

-- the words that a row may begin with
abbrev pub words : List Word
words = w.On ∷ w.Cut ∷ w.Of s.Along ∷ w.Of s.Across ∷ w.Of s.Speed ∷ w.Of s.Throttle ∷ w.Of s.Brake ∷ w.Of s.Belt ∷ w.Of s.Lamp ∷ w.Of s.Restraint ∷ []

-- the word that the bytes spell, if they spell one
unfoldable pub word_of : List ℕ → Option Word
word_of bytes = find (λ w. bytes_eq bytes (spelling_of w)) words

-- ---- the numbers after it, and their faults

-- a step that may find a fault, and then the next
infixl 10 ◌>>=◌
abbrev pub ◌>>=◌ : {A B : Type 0} → Result A TraceFault → (A → Result B TraceFault) → Result B TraceFault
(Ok x) >>= next = next x
(Err e) >>= next = Err e

-- the number in the second field, which is to be at most `limit`
abbrev pub up_to : ℕ → Option ℕ → Result ℕ TraceFault
up_to limit None = Err (f.Number 2)
up_to limit (Some n) = if nat_le n limit then Ok n else Err (f.Number 2)

-- nothing is in the third field
abbrev pub nothing_in : List ℕ → Result (Option ℤ) TraceFault
nothing_in [] = Ok None
nothing_in (b ∷ bs) = Err (f.Number 3)

-- the number is an i32
abbrev pub is_i32 : ℤ → Bool
is_i32 z = int_le (negsuc 2147483647) z && int_le z (pos 2147483647)

-- the value in it, which is to be an i32
abbrev pub in_i32 : Option ℤ → Result (Option ℤ) TraceFault
in_i32 None = Err (f.Number 3)
in_i32 (Some z) = if is_i32 z then Ok (Some z) else Err (f.Number 3)

-- a value, or nothing, is in the third field
abbrev pub value_in : List ℕ → Result (Option ℤ) TraceFault
value_in [] = Ok None
value_in (b ∷ bs) = in_i32 (integer_in (b ∷ bs))

-- the greatest u32
abbrev pub highest_u32 : ℕ
highest_u32 = 4294967295

-- ---- the row

-- what a row says that has this word, and these bytes after it
unfoldable pub row_by : Option Word → List ℕ → List ℕ → Result Row TraceFault
row_by None second third = Err f.Word
row_by (Some w.On) second third = do
  stop ← up_to 6 (natural_in second)
  none ← nothing_in third
  Ok (row.On stop)
row_by (Some w.Cut) second third = do
  stop ← up_to highest_u32 (natural_in second)
  none ← nothing_in third
  Ok (row.Cut stop)
row_by (Some (w.Of sensor)) second third = do
  moment ← up_to highest_u32 (natural_in second)
  value ← value_in third
  Ok (row.Sample sensor (record { moment = moment; value = value }))

-- what a record says as a row, or its fault
unfoldable pub row_of : List (List ℕ) → Result Row TraceFault
row_of [] = Err (f.Fields 0)
row_of (first ∷ []) = Err (f.Fields 1)
row_of (first ∷ second ∷ []) = Err (f.Fields 2)
row_of (first ∷ second ∷ third ∷ []) = row_by (word_of first) second third
row_of (first ∷ second ∷ third ∷ fourth ∷ more) = Err (f.Fields (length (first ∷ second ∷ third ∷ fourth ∷ more)))

-- the numbers of the row are in their bounds
abbrev pub IsRow : Row → Type 0
IsRow (row.On k) = k ≤ 6
IsRow (row.Sample s x) = (x.moment ≤ highest_u32) × (option_map_or is_i32 x.value true ≡ true)
IsRow (row.Cut k) = k ≤ highest_u32

-- these records are these rows, none with a fault of its own
abbrev pub AreRows : List (List (List ℕ)) → List Row → Type 0
AreRows records rows = map row_of records ≡ map Ok rows
