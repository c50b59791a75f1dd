use Rattle.std.proofs.Common.{arith, ap, subst, sym, ◌∙◌, ℕ, List}
use Rattle.std.specs.Prelude.{All}
use Rattle.edr_items.specs.declared.Item.{Item}
use Rattle.edr_record.specs.Bounds.{IsUpTo, IsPre}
use Rattle.edr_definitions.specs.Parts.{slot, slots_before, numbers, switch, switches}
use Rattle.edr_definitions.proofs.BoundLaws.{pre_part-is}
use Rattle.edr_selection.proofs.SlotLemmas.{pre-is, speeds-bounded, throttles-bounded}
use Rattle.edr_selection.proofs.pre_parts.pre_of.Goals as goal

pub speeds-requires-clause-bounded : goal.speeds-requires-clause-bounded
speeds-requires-clause-bounded c =
    let f = c.args.feeds.now in
    let n = c.args.cycle in
    let z = c.args.zero in
    let place = c.args.place in
    subst (λ (xs : List Item). All (IsUpTo 300) (numbers (slots_before xs z))) (sym c.of-speed_items.ensures.items)
    (speeds-bounded f n z place (pre_part-is f n z place c.requires.feeds c.requires.cycle (omega arith) c.requires.zero_from c.requires.zero_to c.requires.place))

pub per_cents-requires-clause-bounded : goal.per_cents-requires-clause-bounded
per_cents-requires-clause-bounded c =
    let f = c.args.feeds.now in
    let n = c.args.cycle in
    let z = c.args.zero in
    let place = c.args.place in
    subst (λ (xs : List Item). All (IsUpTo 100) (numbers (slots_before xs z))) (sym c.of-throttle_items.ensures.items)
    (throttles-bounded f n z place (pre_part-is f n z place c.requires.feeds c.requires.cycle (omega arith) c.requires.zero_from c.requires.zero_to c.requires.place))

pub invariant_of-result : goal.invariant_of-result
invariant_of-result c =
    let f = c.args.feeds.now in
    let n = c.args.cycle in
    let z = c.args.zero in
    let place = c.args.place in
    subst IsPre
    (sym (pre-is f n z place c.speeds.result c.per_cents.result c.switches_before.result c.switch_of.result c.switch_of-2.result
    (c.speeds.ensures ∙ ap (λ (xs : List Item). numbers (slots_before xs z)) c.of-speed_items.ensures.items)
    (c.per_cents.ensures ∙ ap (λ (xs : List Item). numbers (slots_before xs z)) c.of-throttle_items.ensures.items)
    (c.switches_before.ensures ∙ ap (λ (xs : List Item). switches (slots_before xs z)) c.of-brake_items.ensures.items)
    (c.switch_of.ensures ∙ ap switch (c.slot-belt.ensures ∙ ap (λ (xs : List Item). slot xs c.saturating_sub-single.result) c.of-belt_items.ensures.items ∙ ap (λ (t : ℕ). slot f.belt t) c.saturating_sub-single.ensures))
    (c.switch_of-2.ensures ∙ ap switch (c.slot-lamp.ensures ∙ ap (λ (xs : List Item). slot xs c.saturating_sub-single.result) c.of-lamp_items.ensures.items ∙ ap (λ (t : ℕ). slot f.lamp t) c.saturating_sub-single.ensures))))
    (pre_part-is f n z place c.requires.feeds c.requires.cycle (omega arith) c.requires.zero_from c.requires.zero_to c.requires.place)
