-- Templates of a page, what goes into their holes, and the shapes of a chart, each from whole numbers alone.
use Rattle.std.specs.Prelude.{ℕ, ◌-◌, ◌/◌, ◌%◌, Bool, true, false, if◌then◌else◌, nat_eq, Option, Some, None, List, [], ◌∷◌, ◌++◌, flat_map, get_or, codes, decimal}
use Rattle.std.specs.Fmt.{signed_decimal}
use Rattle.edr_record.specs.{declared.Place.Place, declared.Place.TheVariants.{First, Second}}
use Rattle.edr_record.specs.{declared.Profile.Profile, declared.Profile.TheVariants.{Short, Long}}
use Rattle.edr_report.specs.Words.{extreme_words, milliseconds, tenths_of}
use Rattle.edr_drawing.specs.declared.template.Filling.{Filling}
use Rattle.edr_drawing.specs.declared.template.Filling.TheVariants as filling
use Rattle.edr_drawing.specs.declared.template.Shape.{Shape}
use Rattle.edr_drawing.specs.declared.template.Shape.TheVariants as shape
use Rattle.edr_drawing.specs.declared.template.TheConstants.{AFTER_FIRST, DOT, FIELD, FIELD_CLASSES, FIRST, JOINED_OR_FIRST, NUMBER, SECOND, SQUARE, SWITCH_WORDS, WORD, WORD_CLASSES}

-- ---- words

-- one of two
abbrev pub either : Bool → List ℕ → List ℕ → List ℕ
either is_so x y = if is_so then x else y

-- that of a profile
abbrev pub of_profile : {A : Type 0} → Profile → A × A → A
of_profile Short pair = pair.0
of_profile Long pair = pair.1

-- that of what a switch is
abbrev pub of_switch : {A : Type 0} → Option Bool → A × A × A → A
of_switch (Some true) three = three.0
of_switch (Some false) three = three.1
of_switch None three = three.2

-- tenths of a second, as seconds
abbrev pub seconds : ℕ → List ℕ
seconds tenths = decimal (tenths / 10) ++ codes "." ++ decimal (tenths % 10)

-- the place of an event in its crash, with the time from the first event, rounded half up
abbrev pub place_words : Place → List ℕ
place_words First = FIRST.now
place_words (Second after) = SECOND.now ++ seconds (tenths_of after) ++ AFTER_FIRST.now

-- what goes into a hole
abbrev pub filling_bytes : Filling → List ℕ
filling_bytes (filling.Text t) = t.now
filling_bytes (filling.Number n) = decimal n
filling_bytes (filling.Count n) = decimal n
filling_bytes (filling.Change z) = signed_decimal z
filling_bytes (filling.Seconds tenths) = seconds tenths
filling_bytes (filling.Place p) = place_words p
filling_bytes (filling.Milliseconds t) = milliseconds t
filling_bytes (filling.Extreme x) = extreme_words x

-- ---- templates

-- a byte of a template, which in a hole is the number of a value
abbrev pub byte_bytes : List (List ℕ) → Bool → ℕ → List ℕ
byte_bytes values false b = b ∷ []
byte_bytes values true b = get_or values (b - 48) []

-- what is left of a template, within a hole or not; a hole begins with {, which is 123, and ends with }, which is 125
abbrev pub filled_from : List (List ℕ) → Bool → List ℕ → List ℕ
filled_from values hole [] = []
filled_from values hole (b ∷ bs) =
    if nat_eq b 123 then filled_from values true bs
    else (if nat_eq b 125 then filled_from values false bs
    else byte_bytes values hole b ++ filled_from values hole bs)

-- a template with these values in its holes
unfoldable pub filled : List ℕ → List (List ℕ) → List ℕ
filled template values = filled_from values false template

-- the same, if this is so
abbrev pub filled_if : Bool → List ℕ → List (List ℕ) → List ℕ
filled_if is_so template values = if is_so then filled template values else []

-- a text with no holes
unfoldable pub fixed : List ℕ → List ℕ
fixed text = text

-- ---- shapes that stand where a value says

-- the bytes of a shape; a field and its word show what a switch is, or that there is nothing
abbrev pub shape_bytes : Shape → List ℕ
shape_bytes (shape.Joint joined x y) = filled (either joined JOINED_OR_FIRST.0.now JOINED_OR_FIRST.1.now) (decimal x ∷ decimal y ∷ [])
shape_bytes (shape.Dot x y radius) = filled DOT.now (decimal x ∷ decimal y ∷ decimal radius ∷ [])
shape_bytes (shape.Square x y) = filled SQUARE.now (decimal (x - 8) ∷ decimal (y - 8) ∷ [])
shape_bytes (shape.Value x y v) = filled NUMBER.now (decimal x ∷ decimal y ∷ decimal v ∷ [])
shape_bytes (shape.Field x y width height v) =
    filled FIELD.now (decimal x ∷ decimal y ∷ decimal width ∷ decimal height ∷ (of_switch v FIELD_CLASSES).now ∷ [])
shape_bytes (shape.Word x y v) =
    filled WORD.now (decimal x ∷ decimal y ∷ (of_switch v WORD_CLASSES).now ∷ (of_switch v SWITCH_WORDS).now ∷ [])

-- shapes one after the other
abbrev pub shapes_bytes : List Shape → List ℕ
shapes_bytes shapes = flat_map shape_bytes shapes
