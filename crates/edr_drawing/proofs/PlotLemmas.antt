-- Where values stand: the greater no lower, and all in the plot.
use Rattle.std.proofs.Common.{arith, ◌≡◌, ℕ, ◌+◌, ◌*◌, ◌/◌, ◌≤◌, max, ℤ, true, ◌&&◌, nat_eq, List, [], ◌∷◌, All, int_le}
use Rattle.std.proofs.Math.Nat.{mul-le-mul_right, div-le_of_le-mul, div-mul-le_self}
use Rattle.std.proofs.lemmas.List.Elements.{All-nil, All-cons, All-head, All-tail, All-weaker}
use Rattle.edr_record.specs.Parts.{CrashPart}
use Rattle.edr_drawing.specs.{declared.scales.Scale.Scale, declared.scales.Direction.Direction}
use Rattle.edr_drawing.specs.declared.scales.Direction.TheVariants.{Up, Down}
use Rattle.edr_drawing.specs.Scales.{reach_of, below_top, furthest, least_step, reach, step_of, part_of, scale_of, change_y}
use Rattle.edr_drawing.specs.declared.scales.TheConstants.{CHANGE_LINES, CHANGE_STEPS}
use Rattle.edr_drawing.specs.Laws.{IsInPlot}
use Rattle.std.proofs.lemmas.Nat.{le-div}
use Rattle.std.specs.Int.{next_multiple_of}
use Rattle.edr_drawing.specs.{declared.before.ChartLane.ChartLane, Before.lane_y}

-- a quotient grows with its dividend
quotient_grows : (a b k : ℕ) → 1 ≤ k → a ≤ b → a / k ≤ b / k
quotient_grows a b k some grows = le-div (a / k) b k (omega arith) (omega (arith, div-mul-le_self a k, grows))

pub slot_lower : (l : ChartLane) (v w : ℕ) → 1 ≤ l.top → v ≤ w → lane_y l w ≤ lane_y l v
slot_lower l v w some grows =
    let products : v * l.rise ≤ w * l.rise = mul-le-mul_right l.rise grows in
    omega (arith, quotient_grows (v * l.rise) (w * l.rise) l.top some products)

-- a greater change is less far below the top
less_below : (top : ℕ) (v w : ℤ) → int_le v w ≡ true → below_top top w ≤ below_top top v
less_below top v w grows = grind (arith, grows)

pub change_lower : (s : Scale) (v w : ℤ) → 1 ≤ s.top + s.bottom → int_le v w ≡ true → change_y s w ≤ change_y s v
change_lower s v w some grows =
    let less = less_below s.top v w grows in
    omega (arith, quotient_grows (below_top s.top w * 370) (below_top s.top v * 370) (s.top + s.bottom) some (omega (arith, less)))

-- a change that the scale reaches
below_both : (top bottom : ℕ) (v : ℤ) → reach_of Up v ≤ top → reach_of Down v ≤ bottom → below_top top v ≤ top + bottom
below_both top bottom v rises falls = grind (arith, rises, falls)

stands : (s : Scale) (v : ℤ) → 1 ≤ s.top + s.bottom → reach_of Up v ≤ s.top → reach_of Down v ≤ s.bottom → IsInPlot s v
stands s v some rises falls =
    let most = mul-le-mul_right 370 (below_both s.top s.bottom v rises falls) in
    let quotient : below_top s.top v * 370 / (s.top + s.bottom) ≤ 370 = div-le_of_le-mul (s.top + s.bottom) most in
    (omega arith, omega (arith, quotient))

-- points reach no further than all of them
reaches_all : (way : Direction) (vs : List ℤ) → All (λ v. reach_of way v ≤ furthest way vs) vs
reaches_all way [] = All-nil (λ (v : ℤ). reach_of way v ≤ 0)
reaches_all way (v ∷ vs) =
    let most = max (reach_of way v) (furthest way vs) in
    All-cons (λ (x : ℤ). reach_of way x ≤ most) v vs (omega arith)
    (All-weaker (λ (x : ℤ). reach_of way x ≤ furthest way vs) (λ (x : ℤ). reach_of way x ≤ most) (λ x h. omega (arith, h)) vs (reaches_all way vs))

-- a scale reaches up to its value
scale_reaches : (step value : ℕ) → 1 ≤ step → value ≤ next_multiple_of value step
scale_reaches step value some = grind arith

-- both parts of a scale reach as far as the changes, and one of them is there
abbrev part : ℕ → ℕ → ℕ → ℕ → ℕ
part up down step value = part_of (nat_eq up 0 && nat_eq down 0) step value

part_reaches : (up down step value : ℕ) → 1 ≤ step → value ≤ up + down → value ≤ part up down step value
part_reaches up down step value some within = grind (arith, within, scale_reaches step value some)

some_part : (up down step : ℕ) → 1 ≤ step → 1 ≤ part up down step up + part up down step down
some_part up down step some = grind (arith, some, scale_reaches step up some, scale_reaches step down some)

-- the step between the lines is some
some_step : (last : ℕ) (steps : List ℕ) (most up down : ℕ) → 1 ≤ last → All (λ s. 1 ≤ s) steps → 1 ≤ least_step last steps most up down
some_step last [] most up down some all = some
some_step last (s ∷ steps) most up down some all =
    let first = All-head (λ (x : ℕ). 1 ≤ x) s steps all in
    grind (arith, first, some_step s steps most up down first (All-tail (λ (x : ℕ). 1 ≤ x) s steps all))

-- a change within the reach of a crash part stands in its plot
pub stands_in : (c : CrashPart) (v : ℤ) → reach_of Up v ≤ reach Up c → reach_of Down v ≤ reach Down c → IsInPlot (scale_of c) v
stands_in c v rises falls =
    let up = reach Up c in
    let down = reach Down c in
    let step = step_of up down in
    let some = some_step 1 CHANGE_STEPS CHANGE_LINES up down (omega arith) (grind arith) in
    stands (scale_of c) v (some_part up down step some)
    (omega (arith, rises, part_reaches up down step up some (omega arith)))
    (omega (arith, falls, part_reaches up down step down some (omega arith)))

-- the points of an axis, which reach no further than the crash part
pub axis_stands : (c : CrashPart) (vs : List ℤ) → ((way : Direction) → furthest way vs ≤ reach way c) → All (IsInPlot (scale_of c)) vs
axis_stands c vs within k d in_range =
    let rises = reaches_all Up vs k d in_range in
    let falls = reaches_all Down vs k d in_range in
    stands_in c _ (omega (arith, rises, within Up)) (omega (arith, falls, within Down))
