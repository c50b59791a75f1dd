-- A last sample that comes up to the tick gives the count, and one that doesn't is not counted.
use Rattle.std.proofs.Common.{refl, sym, subst, w64, ℕ, ◌-◌, ℤ}
use Rattle.std.proofs.lemmas.Int.{to_z-of_z}
use Rattle.edr_capture.specs.Kept.{IsCountBetween, IsCount}
use Rattle.edr_capture.proofs.SlotLemmas.{IsCount-last, IsCountBetween-fewer}
use Rattle.edr_capture.proofs.first_up_to.Goals as goal

pub returns-then-is_none_past-clause-count : goal.returns-then-is_none_past-clause-count
returns-then-is_none_past-clause-count c =
    let same = to_z-of_z w64 c.args.at c.ranges.at in
    IsCount-last c.args.ring.now.items c.args.at c.args.most.count c.args.most.last c.requires.rises c.requires.between c.requires.last
    (λ x e. (rw same at (c.if-is_none_past.ensures.some x e)).0 refl)

pub returns-then-is_none_past-2-clause-count : goal.returns-then-is_none_past-2-clause-count
returns-then-is_none_past-2-clause-count c =
    let xs = c.args.ring.now.items in
    let same = to_z-of_z w64 c.args.at c.ranges.at in
    let fewer = IsCountBetween-fewer xs c.args.at c.args.most.count c.args.most.last c.requires.rises c.requires.between c.requires.last
    (λ e. let r = c.if-is_none_past.ensures.none e in cc)
    (λ x e early. let r = (rw same at (c.if-is_none_past.ensures.some x e)).1 early in cc) in
    subst (λ (n : ℕ). IsCount xs c.args.at n) (sym c.first_of-fewer.ensures.count)
    (IsCount-last xs c.args.at (c.args.most.count - 1) c.first_of-fewer.result.last c.requires.rises fewer c.first_of-fewer.ensures.last
    (λ x e. (rw same at (c.if-is_none_past-2.ensures.some x e)).0 refl))

pub count_down_to-requires-clause-between : goal.count_down_to-requires-clause-between
count_down_to-requires-clause-between c =
    let xs = c.args.ring.now.items in
    let same = to_z-of_z w64 c.args.at c.ranges.at in
    let fewer = IsCountBetween-fewer xs c.args.at c.args.most.count c.args.most.last c.requires.rises c.requires.between c.requires.last
    (λ e. let r = c.if-is_none_past.ensures.none e in cc)
    (λ x e early. let r = (rw same at (c.if-is_none_past.ensures.some x e)).1 early in cc) in
    let less = IsCountBetween-fewer xs c.args.at (c.args.most.count - 1) c.first_of-fewer.result.last c.requires.rises fewer c.first_of-fewer.ensures.last
    (λ e. let r = c.if-is_none_past-2.ensures.none e in cc)
    (λ x e early. let r = (rw same at (c.if-is_none_past-2.ensures.some x e)).1 early in cc) in
    subst (λ (t : ℤ). IsCountBetween xs t 0 (c.first_of-fewer.result.count - 1)) (sym same)
    (subst (λ (n : ℕ). IsCountBetween xs c.args.at 0 (n - 1)) (sym c.first_of-fewer.ensures.count) less)
