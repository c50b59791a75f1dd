use Rattle.std.proofs.Common.{refl, sym, w64}
use Rattle.std.proofs.lemmas.Int.{to_z-of_z}
use Rattle.edr_capture.proofs.SlotLemmas.{slot_at-no_last, slot_at-by_last, slot_at-by_old}
use Rattle.edr_capture.proofs.slot_by_last.Goals as goal

pub returns-in-None : goal.returns-in-None
returns-in-None c = λ xs rises samples is of. sym (slot_at-no_last xs c.args.at c.args.count c.args.last is of c.in-None.is)

pub returns-then-is_recent : goal.returns-then-is_recent
returns-then-is_recent c = λ xs rises samples is of.
    let same = to_z-of_z w64 c.args.at c.ranges.at in
    let near = rw same at (c.if-is_recent.ensures.0 refl) in
    sym (slot_at-by_last xs c.args.at c.args.count c.args.last c.in-Some.latest rises samples is of c.in-Some.is near)

pub returns-else-is_recent : goal.returns-else-is_recent
returns-else-is_recent c = λ xs rises samples is of.
    let same = to_z-of_z w64 c.args.at c.ranges.at in
    let old = rw same at c.if-is_recent.ensures.1 in
    sym (slot_at-by_old xs c.args.at c.args.count c.args.last c.in-Some.latest rises is of c.in-Some.is (λ near. let e = old near in cc))
