use Rattle.std.proofs.Common.{ap, map, sym, take, ◌∙◌}
use Rattle.edr_report.specs.Words.{spaced_words}
use Rattle.edr_audit.specs.Compared.{compare}
use Rattle.edr_audit.specs.Tail.{parted}
use Rattle.edr_audit.proofs.CompareLemmas.{compare_append}
use Rattle.edr_audit.proofs.TailLemmas.{slots_more}
use Rattle.edr_audit.proofs.compared.Compared.with_spaced.Goals as goal

pub loop-i-preserved : goal.loop-i-preserved
loop-i-preserved g c =
    let report = c.args.report.now in
    let words = g.S.SlotTold.words in
    let slots = c.args.slots.now in
    let i = c.loop-i.i in
    let x = c.index-slots-i.result in
    c.with_slot-text.ensures
    ∙ ap (λ t. compare report t (parted i (words x))) c.loop-i.invariant
    ∙ sym (compare_append report c.args.self (spaced_words (map words (take i slots))) (parted i (words x)))
    ∙ ap (compare report c.args.self) (sym (slots_more words slots i x c.loop-i-test.true c.index-slots-i.is))
