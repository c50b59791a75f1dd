-- What a lane shows of the slots that are there.
use Rattle.std.proofs.Common.{arith, ◌≡◌, ◌∙◌, refl, sym, ap, subst, ℕ, ◌+◌, Bool, true, false, if◌then◌else◌, nat_lt, append-nil, append_assoc, Option, Some, None, List, [], ◌∷◌, ◌++◌, map, filter, flat_map}
use Rattle.std.proofs.lemmas.Grind.{flat_map-append}
use Rattle.edr_record.specs.{declared.Profile.Profile, declared.Profile.TheVariants.{Short, Long}}
use Rattle.edr_drawing.specs.{declared.before.ChartLane.ChartLane, declared.template.Shape.Shape}
use Rattle.edr_drawing.specs.declared.before.TheConstants.{LONGEST_RUNS}
use Rattle.edr_drawing.specs.Template.{of_profile, shape_bytes, shapes_bytes}
use Rattle.edr_drawing.specs.Before.{cells, mark, marked, point, points, run_bytes, run_shapes}
use Rattle.edr_drawing.specs.Laws.{present, is_mark, HasMarks}

-- more shapes
drawn_after : (front : List Shape) (rest : List ℕ) (es : List Shape) → rest ≡ shapes_bytes es → shapes_bytes front ++ rest ≡ shapes_bytes (front ++ es)
drawn_after front rest es is = ap (λ (bs : List ℕ). shapes_bytes front ++ bs) is ∙ sym (flat_map-append shape_bytes front es)

-- the field of a run has no mark, and what stands in the place of a slot has that of the slot
no_mark : (f : Profile) (l : ChartLane) (k n : ℕ) (es : List Shape) → filter is_mark (run_shapes f k n l.gap None ++ es) ≡ filter is_mark es
no_mark f l k n es = grind arith

one_mark : (f : Profile) (l : ChartLane) (k v : ℕ) (es : List Shape) → filter is_mark (marked f l k v ++ es) ≡ mark f l k v ∷ filter is_mark es
one_mark Short l k v es = refl
one_mark Long l k v es = refl

-- these shapes stand there, and their marks are those of the slots that are there
abbrev Marks : Profile → ChartLane → ℕ → List (Option ℕ) → List ℕ → Type 0
Marks f l k vs bytes = (es : List Shape) × (bytes ≡ shapes_bytes es) × (filter is_mark es ≡ map (λ e. mark f l e.0 e.1) (present k vs))

-- after the field of a run
after_run : (f : Profile) (l : ChartLane) (k n j : ℕ) (vs : List (Option ℕ)) (bytes : List ℕ) → Marks f l j vs bytes → Marks f l j vs (run_bytes f k n l.gap None ++ bytes)
after_run f l k n j vs bytes rest =
    let field = run_shapes f k n l.gap None in
    (field ++ rest.0, drawn_after field bytes rest.0 rest.1, no_mark f l k n rest.0 ∙ rest.2)

of_both : (b : Bool) (P : List ℕ → Type 0) {xs ys : List ℕ} → P xs → P ys → P (if b then xs else ys)
of_both true P x y = x
of_both false P x y = y

all_marks : (f : Profile) (l : ChartLane) (k n : ℕ) (vs : List (Option ℕ)) → Marks f l (k + n) vs (cells f l k n vs)
all_marks f l k n [] = let field = run_shapes f k n l.gap None in (field, refl, ap (filter is_mark) (sym (append-nil field)) ∙ no_mark f l k n [])
all_marks f l k n (None ∷ vs) =
    let next : k + (n + 1) ≡ k + n + 1 = omega arith in
    let longer = subst (λ (j : ℕ). Marks f l j vs (cells f l k (n + 1) vs)) next (all_marks f l k (n + 1) vs) in
    of_both (nat_lt n (of_profile f LONGEST_RUNS)) (Marks f l (k + n + 1) vs) longer (after_run f l k n (k + n + 1) vs (cells f l (k + n) 1 vs) (all_marks f l (k + n) 1 vs))
all_marks f l k n (Some v ∷ vs) =
    let next : k + n + 1 + 0 ≡ k + n + 1 = omega arith in
    let rest = subst (λ (j : ℕ). Marks f l j vs (cells f l (k + n + 1) 0 vs)) next (all_marks f l (k + n + 1) 0 vs) in
    let here = marked f l (k + n) v in
    let bytes = cells f l (k + n + 1) 0 vs in
    let with_mark : Marks f l (k + n) (Some v ∷ vs) (shapes_bytes here ++ bytes) =
    (here ++ rest.0, drawn_after here bytes rest.0 rest.1, one_mark f l (k + n) v rest.0 ∙ ap (λ (xs : List Shape). mark f l (k + n) v ∷ xs) rest.2) in
    subst (Marks f l (k + n) (Some v ∷ vs)) (sym (append_assoc (run_bytes f k n l.gap None) (shapes_bytes here) bytes)) (after_run f l k n (k + n) (Some v ∷ vs) (shapes_bytes here ++ bytes) with_mark)

pub marks_present : (f : Profile) (l : ChartLane) (vs : List (Option ℕ)) → HasMarks f l vs
marks_present f l vs = all_marks f l 0 0 vs

pub points_present : (f : Profile) (l : ChartLane) (k : ℕ) (before : Bool) (vs : List (Option ℕ)) →
    (ps : List (Bool × (ℕ × ℕ))) × (map (λ p. p.1) ps ≡ present k vs) × (points f l k before vs ≡ flat_map (λ p. point f l p.1.0 p.0 p.1.1) ps)
points_present f l k before [] = ([], refl, refl)
points_present f l k before (None ∷ vs) = points_present f l (k + 1) false vs
points_present f l k before (Some v ∷ vs) =
    let rest = points_present f l (k + 1) true vs in
    ((before, (k, v)) ∷ rest.0, ap (λ (es : List (ℕ × ℕ)). (k, v) ∷ es) rest.1, ap (λ (bs : List ℕ). point f l k before v ++ bs) rest.2)
