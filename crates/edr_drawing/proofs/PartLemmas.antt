-- What stands on a page in one piece.
use Rattle.std.proofs.Common.{◌≡◌, ◌∙◌, sym, ap, subst, ℕ, zero, suc, ◌+◌, ◌*◌, ◌/◌, ◌%◌, ◌<◌, ◌⊎◌, inl, inr, arith, refl, List, [], ◌∷◌, ◌++◌, Contains, length, flat_map, append_assoc, append-nil}
use Rattle.std.specs.List.{enumerate_from}
use Rattle.std.proofs.{lemmas.Bool.cases_lt, lemmas.List.Elements.Contains-append_cases}
use Rattle.hex.specs.Hex.{encode_lower}
use Rattle.edr_record.specs.{declared.Profile.Profile, declared.Profile.TheVariants.{Short, Long}}
use Rattle.edr_record.specs.{declared.Record.Record, Bounds.slots_in, Parts.PrePart}
use Rattle.edr_image.specs.{declared.Found.Found, Reports.Report}
use Rattle.edr_report.specs.{Lines.Line, Report.{event_lines, events_lines, found_records, run_lines}}
use Rattle.edr_drawing.specs.{declared.Origin.Origin, Page.{NumberedRecord, events_of, page_bytes, place_fact, sheet}}
use Rattle.edr_drawing.specs.Scales.{flat_map_below}
use Rattle.edr_drawing.specs.Tables.{row, row_of, line_row, elements_table, run_table, block, blocks_of, by_time, slot_row}
use Rattle.edr_drawing.proofs.ListLemmas.{run_rows}
use Rattle.edr_drawing.specs.Laws.{HasPlaceFact, HasSlotRows, IsInOnePiece, OfEvents, shown_row}

-- the bytes stand in the others, in one piece
pub record Piece (part whole : List ℕ) : Type 0 where
  pub piece : IsInOnePiece part whole

piece_left : (part xs ys : List ℕ) → Piece part xs → Piece part (xs ++ ys)
piece_left part xs ys h =
    let (front, back, is) = h.piece in
    record { piece = (front, back ++ ys, ap (λ (bs : List ℕ). bs ++ ys) is ∙ append_assoc (front ++ part) back ys) }

piece_right : (part xs ys : List ℕ) → Piece part ys → Piece part (xs ++ ys)
piece_right part xs ys h =
    let (front, back, is) = h.piece in
    record { piece = (xs ++ front, back, ap (λ (bs : List ℕ). xs ++ bs) is ∙ sym (append_assoc xs (front ++ part) back) ∙ ap (λ (bs : List ℕ). bs ++ back) (sym (append_assoc xs front part))) }

piece_itself : (part : List ℕ) → Piece part part
piece_itself part = record { piece = ([], [], sym (append-nil part)) }

-- a part of a part
piece_within : (small part whole : List ℕ) → Piece small part → Piece part whole → Piece small whole
piece_within small part whole inner h =
    let (front, back, is) = h.piece in subst (Piece small) (sym is) (piece_left small (front ++ part) back (piece_right small front part inner))

ruleset pieces = (piece_itself, piece_left, piece_right)

pub contains_cases : {X : Type 0} (y : X) (ys : List X) (x : X) → Contains (y ∷ ys) x → (y ≡ x) ⊎ Contains ys x
contains_cases y ys x (zero, b, e) = inl e
contains_cases y ys x (suc k, b, e) = inr (k, omega (arith, b), e)

pub contains_later : {X : Type 0} (y : X) (ys : List X) (x : X) → Contains ys x → Contains (y ∷ ys) x
contains_later y ys x (k, b, e) = (suc k, omega (arith, b), e)

-- each element has a number
has_number : {X : Type 0} (n : ℕ) (xs : List X) (x : X) → Contains xs x → (m : ℕ) × Contains (enumerate_from n xs) (m, x)
has_number n [] x (k, b, e) = absurd (omega (arith, b))
has_number n (y ∷ ys) x among = elim (contains_cases y ys x among) [
  | inl is ↦ (n, (0, omega arith, ap (λ z. (n, z)) is))
  | inr later ↦ let there = has_number (n + 1) ys x later in (there.0, contains_later (n, y) (enumerate_from (n + 1) ys) (there.0, x) there.1)
]

-- what lists have together, one of them has
pub in_one : {X A : Type 0} (f : X → List A) (xs : List X) (a : A) → Contains (flat_map f xs) a → (x : X) × Contains xs x × Contains (f x) a
in_one f [] a (k, b, e) = absurd (omega (arith, b))
in_one f (x ∷ xs) a among = elim (Contains-append_cases (f x) (flat_map f xs) a among) [
  | inl here ↦ (x, (0, omega arith, refl), here)
  | inr later ↦ let of = in_one f xs a later in (of.0, contains_later x xs of.0 of.1, of.2)
]

-- what is made of an element stands in what is made of all
piece_of_all : {X : Type 0} (part form : X → List ℕ) → ((x : X) → Piece (part x) (form x)) → (xs : List X) (x : X) → Contains xs x → Piece (part x) (flat_map form xs)
piece_of_all part form each [] x (k, b, e) = absurd (omega (arith, b))
piece_of_all part form each (y ∷ ys) x among = elim (contains_cases y ys x among) [
  | inl is ↦ subst (λ z. Piece (part z) (flat_map form (y ∷ ys))) is (piece_left (part y) (form y) (flat_map form ys) (each y))
  | inr later ↦ piece_right (part x) (form y) (flat_map form ys) (piece_of_all part form each ys x later)
]

-- ---- the sheet of an event, among all sheets and on the page

sheet_on_page : (reports : List Report) (found : List Found) (origin : Origin) (e : NumberedRecord) →
    Contains (events_of found) e → Piece (sheet (events_of found) (encode_lower origin.digest) e) (page_bytes reports found origin)
unfolding page_bytes
sheet_on_page reports found origin e among =
    let one = sheet (events_of found) (encode_lower origin.digest) in
    let here = piece_of_all one one (λ x. piece_itself (one x)) (events_of found) e among in search pieces

-- ---- lines

line_of_sheet : (all : List NumberedRecord) (digest : List ℕ) (n bank : ℕ) (r : Record) (l : Line) → Contains (event_lines n bank r) l → Piece (shown_row l) (sheet all digest (n, (bank, r)))
unfolding sheet elements_table
line_of_sheet all digest n bank r l among =
    let here = piece_of_all shown_row line_row (λ x. piece_right (shown_row x) _ (shown_row x) (piece_itself (shown_row x))) (event_lines n bank r) l among in
    search pieces depth 20

pub event_on_page : (reports : List Report) (found : List Found) (origin : Origin) (l : Line) →
    Contains (events_lines 1 (found_records found)) l → IsInOnePiece (shown_row l) (page_bytes reports found origin)
event_on_page reports found origin l among =
    let of = in_one (λ (e : NumberedRecord). event_lines e.0 e.1.0 e.1.1) (events_of found) l among in
    (piece_within (shown_row l) _ _ (line_of_sheet (events_of found) (encode_lower origin.digest) of.0.0 of.0.1.0 of.0.1.1 l of.2) (sheet_on_page reports found origin of.0 of.1)).piece

line_of_run : (reports : List Report) (retrieved : ℕ) (l : Line) → Contains (run_lines 1 reports) l → Piece (row_of l) (run_table reports retrieved)
unfolding run_table
line_of_run [] retrieved l (k, b, e) = absurd (omega (arith, b))
line_of_run (r ∷ rs) retrieved l among =
    let here = piece_of_all row_of row_of (λ x. piece_itself (row_of x)) (run_lines 1 (r ∷ rs)) l among in
    rw (run_rows 1 (r ∷ rs)) (search pieces)

pub cycle_on_page : (reports : List Report) (found : List Found) (origin : Origin) (l : Line) →
    Contains (run_lines 1 reports) l → IsInOnePiece (row l.name l.value) (page_bytes reports found origin)
unfolding page_bytes
cycle_on_page reports found origin l among =
    let here = line_of_run reports (length (events_of found)) l among in
    let there : Piece (row_of l) (page_bytes reports found origin) = search pieces depth 20 in there.piece

-- ---- the slots of the table by time

counted_piece : (f : ℕ → List ℕ) (n k : ℕ) → k < n → Piece (f k) (flat_map_below f n)
counted_piece f zero k within = absurd (omega (arith, within))
counted_piece f (suc n) k within = elim (cases_lt k n) [
  | inl less ↦ piece_left (f k) (flat_map_below f n) (f n) (counted_piece f n k less)
  | inr most ↦ let same : k ≡ n = omega (arith, within, most) in piece_right (f k) (flat_map_below f n) (f n) (rw same (piece_itself (f n)))
]

slot_of_blocks : (p : PrePart) (b i : ℕ) → b < (blocks_of p.profile).0 → i < (blocks_of p.profile).1 → Piece (slot_row p ((blocks_of p.profile).1 * b + i)) (flat_map_below (block p) (blocks_of p.profile).0)
unfolding block
slot_of_blocks p b i few within =
    let here = counted_piece (λ j. slot_row p ((blocks_of p.profile).1 * b + j)) (blocks_of p.profile).1 i within in
    piece_within _ (block p b) _ (search pieces) (counted_piece (block p) (blocks_of p.profile).0 b few)

-- a slot's block, and its place in it
slot_place : (f : Profile) (k : ℕ) → k < slots_in f → (b : ℕ) × (i : ℕ) × (b < (blocks_of f).0) × (i < (blocks_of f).1) × ((blocks_of f).1 * b + i ≡ k)
slot_place Short k within = (0, k, omega arith, omega (arith, within), omega arith)
slot_place Long k within = (k / 67, k % 67, omega (arith, within), omega arith, omega arith)

slot_piece : (n : ℕ) (p : PrePart) (k : ℕ) → k < slots_in p.profile → Piece (slot_row p k) (by_time n p)
unfolding by_time
slot_piece n p k within =
    let place = slot_place p.profile k within in
    let here = subst (λ (j : ℕ). Piece (slot_row p j) (flat_map_below (block p) (blocks_of p.profile).0)) place.4 (slot_of_blocks p place.0 place.1 place.2 place.3) in
    search pieces

pub slot_of_table : (n : ℕ) (p : PrePart) → HasSlotRows p (by_time n p)
slot_of_table n p k within = (slot_piece n p k within).piece

pub slots_on_page : (reports : List Report) (found : List Found) (origin : Origin) → OfEvents found (λ p. HasSlotRows p (page_bytes reports found origin))
unfolding sheet
slots_on_page reports found origin e among k within =
    let there = has_number 1 (found_records found) e among in
    let here = slot_piece there.0 e.1.pre k within in
    (piece_within (slot_row e.1.pre k) _ _ (search pieces depth 20) (sheet_on_page reports found origin (there.0, e) there.1)).piece

-- ---- the place of an event in its crash

pub places_on_page : (reports : List Report) (found : List Found) (origin : Origin) → OfEvents found (λ p. HasPlaceFact found p (page_bytes reports found origin))
unfolding sheet
places_on_page reports found origin e among =
    let there = has_number 1 (found_records found) e among in
    (piece_within (place_fact (events_of found) e.1.pre.key e.1.pre.place) _ _ (search pieces depth 20) (sheet_on_page reports found origin (there.0, e) there.1)).piece
