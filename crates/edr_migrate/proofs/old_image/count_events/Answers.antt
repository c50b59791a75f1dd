-- One bank more.
use Rattle.std.proofs.Common.{◌≡◌, ◌+◌, ◌∙◌, ap, sym, arith}
use Rattle.edr_image.specs.Image.{old_bank_refusal}
use Rattle.edr_migrate.proofs.OldBankLemmas.{counts_none, counts_one, refusal_more, refused_at}
use Rattle.edr_migrate.proofs.old_image.count_events.Goals as goal
use Rattle.edr_migrate.proofs.old_image.count_events.Goals.{in-Void, in-Event}

pub returns-in-Damaged-clause-refused : goal.returns-in-Damaged-clause-refused
returns-in-Damaged-clause-refused c =
    let m = c.loop-k.k + 1 in
    let number : c.get.result ≡ m = c.get.ensures.same ∙ c.from_index-bank.ensures in
    let seen = rw c.from_index-bank.ensures at c.view_at.ensures in
    rw number (refused_at c.loop-k.k c.args.banks c.args.old.now _ c.loop-k-test.true c.loop-k.invariant.passed
    (ap (old_bank_refusal m) (sym seen ∙ c.in-Damaged.is)))

pub loop-k-preserved : goal.loop-k-preserved
loop-k-preserved c =
    let k = c.loop-k.k in
    let old = c.args.old.now in
    let seen = rw c.from_index-bank.ensures at c.view_at.ensures in
    let refusal = refusal_more k old c.loop-k.invariant.passed in
    elim c.match-view_at.branch [
      | in-Void w ↦ (let is = sym seen ∙ w.in-Void.is in record {
        few = omega (arith, w.events-is, c.loop-k.invariant.few);
        counted = w.events-is ∙ c.loop-k.invariant.counted ∙ counts_none k old is;
        passed = refusal ∙ ap (old_bank_refusal (k + 1)) is;
      })
      | in-Event w ↦ (let is = sym seen ∙ w.in-Event.is in record {
        few = omega (arith, w.events-is, c.loop-k.invariant.few);
        counted = w.events-is ∙ counts_one k old c.loop-k.events _ is c.loop-k.invariant.counted;
        passed = refusal ∙ ap (old_bank_refusal (k + 1)) is;
      })
    ]
