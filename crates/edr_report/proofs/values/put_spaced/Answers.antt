use Rattle.std.proofs.Common.{ap, string_bytes}
use Rattle.edr_report.proofs.SpacedLemmas.{spaced-first, spaced-next}
use Rattle.edr_report.proofs.values.put_spaced.Goals as goal
use Rattle.edr_report.proofs.values.put_spaced.Goals.{then-i-gt0+in_ok-push_str, else-i-gt0}

pub loop-i-preserved : goal.loop-i-preserved
loop-i-preserved g c =
    let at = c.loop-i in
    let words = g.S.Slot.words in
    elim c.if-i-gt0.branch [
      | then-i-gt0+in_ok-push_str w ↦ spaced-next words c.args.slots.now at.i c.index-slots-i.result _ _ _ _ _ c.loop-i-test.true w.if-i-gt0.true c.index-slots-i.is at.invariant w.in_ok-push_str.ensures.bytes (ap string_bytes w.out-is) c.in_ok-put.ensures
      | else-i-gt0 w ↦ spaced-first words c.args.slots.now at.i c.index-slots-i.result _ _ _ _ c.loop-i-test.true w.if-i-gt0.false c.index-slots-i.is at.invariant (ap string_bytes w.out-is) c.in_ok-put.ensures
    ]
