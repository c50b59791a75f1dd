-- The sample that many steps back moves one of the two places.
use Rattle.std.proofs.Common.{arith, refl, ◌-◌, get_or, None}
use Rattle.std.proofs.lemmas.Option.{slice_get-get_or}
use Rattle.edr_items.specs.declared.Item.{Item}
use Rattle.edr_capture.proofs.SlotLemmas.{IsCountBetween-low, IsCountBetween-high}
use Rattle.edr_capture.proofs.count_down_to.Goals as goal

pub count_between-requires-then-is_up_to-clause-between : goal.count_between-requires-then-is_up_to-clause-between
count_between-requires-then-is_up_to-clause-between c =
    let xs = c.args.ring.now.items in
    let place = c.loop-high.high - c.max-step.result in
    let none : Item = record { moment = 0; value = None } in
    let here = slice_get-get_or xs place none (let h = c.loop-high.invariant.0.in_list in omega arith) in
    IsCountBetween-low xs _ 0 c.loop-high.high place (get_or xs place none) c.requires.rises c.loop-high.invariant.0 (omega arith) (omega arith) here ((c.if-is_up_to.ensures (get_or xs place none) here).0 refl)

pub loop-high-preserved : goal.loop-high-preserved
loop-high-preserved c =
    let xs = c.args.ring.now.items in
    let place = c.loop-high.high - c.max-step.result in
    let none : Item = record { moment = 0; value = None } in
    let here = slice_get-get_or xs place none (let h = c.loop-high.invariant.0.in_list in omega arith) in
    (IsCountBetween-high xs _ 0 c.loop-high.high place (get_or xs place none) c.requires.rises c.loop-high.invariant.0 (omega arith) (omega arith) here (λ early. let e = (c.if-is_up_to.ensures (get_or xs place none) here).1 early in cc), let h = c.loop-high.invariant.1 in omega arith)
