-- What the laws of a page speak of.
use Rattle.std.specs.Prelude.{◌≡◌, ◌≤◌, ◌<◌, ◌↔◌, ℕ, ◌-◌, ◌+◌, ℤ, Bool, true, false, Option, Some, None, List, [], ◌∷◌, ◌++◌, Contains, filter, map, flat_map}
use Rattle.edr_record.specs.declared.{Key.Key, Profile.Profile, Record.Record, Place.TheVariants.First, TheConstants.LONGEST_PAIR}
use Rattle.edr_record.specs.{Bounds.slots_in, Parts.{CrashPart, PrePart}}
use Rattle.edr_report.specs.{Lines.Line, Report.found_records, Words.{number_shown, tenths_of}}
use Rattle.edr_image.specs.{declared.Found.Found, Reports.Report}
use Rattle.edr_drawing.specs.declared.template.Shape.{Shape}
use Rattle.edr_drawing.specs.declared.template.Shape.TheVariants as shape
use Rattle.edr_drawing.specs.declared.{Origin.Origin, before.ChartLane.ChartLane, scales.{CarAxis.CarAxis, Scale.Scale, TheConstants.NO_SAMPLE}}
use Rattle.edr_drawing.specs.{Template.shapes_bytes, Scales.{change_y, greatest_words, time_x}, Before.{cells, mark, point, points}}
use Rattle.edr_drawing.specs.{After.{curve, maximum, silent_curve}, Tables.{slot_row, row, shown_value}}
use Rattle.edr_drawing.specs.Page.{events_of, firsts, page_bytes, place_fact}

-- the bytes stand in the others, in one piece
abbrev pub IsInOnePiece : List ℕ → List ℕ → Type 0
IsInOnePiece part whole = (front : List ℕ) × (back : List ℕ) × (whole ≡ front ++ part ++ back)

-- each of the lines has its row there
abbrev pub HasRows : (Line → List ℕ) → List Line → List ℕ → Type 0
HasRows row_of lines page = (l : Line) → Contains lines l → IsInOnePiece (row_of l) page

-- the row of a line of an event: word for word, but for the lists, which stand in the table by time
abbrev pub shown_row : Line → List ℕ
shown_row l = row l.name (shown_value l)

-- each slot of a pre part has its row there, with its time and its values, or that they are absent
abbrev pub HasSlotRows : PrePart → List ℕ → Type 0
HasSlotRows p page = (k : ℕ) → k < slots_in p.profile → IsInOnePiece (slot_row p k) page

-- of the pre part of each event that was found, this is so
abbrev pub OfEvents : List Found → (PrePart → Type 0) → Type 0
OfEvents found says = (e : ℕ × Record) → Contains (found_records found) e → says e.1.pre

-- what its sheet says of an event's place stands there
abbrev pub HasPlaceFact : List Found → PrePart → List ℕ → Type 0
HasPlaceFact found p page = IsInOnePiece (place_fact (events_of found) p.key p.place) page

-- an event with this pre part may be the first one of the pair whose second has this key, and began so long after it: it was told
-- as first, of an ignition cycle that is shown as the same, and as many tenths of a second before it, at most 5 s
pub record MayBeFirst (key : Key) (after : ℕ) (p : PrePart) : Type 0 where
  pub place : p.place ≡ First
  pub cycle : number_shown p.key.cycle ≡ number_shown key.cycle
  pub before : p.key.zero < key.zero
  pub within : key.zero - p.key.zero ≤ LONGEST_PAIR
  pub time : tenths_of (key.zero - p.key.zero) ≡ tenths_of after

-- the numbers that stand on the sheet are those of these events
abbrev pub AreFirsts : List Found → Key → ℕ → Type 0
AreFirsts found key after =
    (n : ℕ) → Contains (firsts key after (events_of found)) n ↔ (e : ℕ × Record) × Contains (events_of found) (n, e) × MayBeFirst key after e.1.pre

-- of each page, with its reports, what it was found in and its digest, this is so
abbrev pub OfPages : (List Report → List Found → List ℕ → List ℕ → Type 0) → Type 0
OfPages says =
    (reports : List Report) (found : List Found) (origin : Origin)
    → says reports found origin.digest (page_bytes reports found origin)

-- the places and the values of the slots that are there, in order; the first slot has the number k
abbrev pub present : ℕ → List (Option ℕ) → List (ℕ × ℕ)
present k [] = []
present k (None ∷ vs) = present (k + 1) vs
present k (Some v ∷ vs) = (k, v) ∷ present (k + 1) vs

abbrev pub is_mark : Shape → Bool
is_mark (shape.Dot x y radius) = true
is_mark s = false

-- the shapes of the fields of slots, whose marks are those of the slots that are there, in order
abbrev pub HasMarks : Profile → ChartLane → List (Option ℕ) → Type 0
HasMarks f l vs = (es : List Shape) × (cells f l 0 0 vs ≡ shapes_bytes es) × (filter is_mark es ≡ map (λ e. mark f l e.0 e.1) (present 0 vs))

-- the points of a path, each joined to the one before or not, which are those of the slots that are there, in order
abbrev pub HasPoints : Profile → ChartLane → List (Option ℕ) → Type 0
HasPoints f l vs =
    (ps : List (Bool × (ℕ × ℕ))) × (map (λ p. p.1) ps ≡ present 0 vs) × (points f l 0 false vs ≡ flat_map (λ p. point f l p.1.0 p.0 p.1.1) ps)

-- words stand in the place of the curve of an axis and of its greatest change, which has no diamond
abbrev pub HasNoCurve : Scale → CrashPart → CarAxis → Type 0
HasNoCurve s c a = (curve s c a ≡ silent_curve s a) × (maximum s c a ≡ []) × (greatest_words c a ≡ NO_SAMPLE.now)

-- a change of speed stands between the top and the foot of the plot of a crash part, and a time between its ends
abbrev pub IsInPlot : Scale → ℤ → Type 0
IsInPlot s v = (80 ≤ change_y s v) × (change_y s v ≤ 450)

abbrev pub IsTimeInPlot : Scale → ℕ → Type 0
IsTimeInPlot s t = (330 ≤ time_x s t) × (time_x s t ≤ 1_830)
