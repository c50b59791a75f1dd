use Rattle.std.proofs.Common.{rules, refl, None}
use Rattle.edr_reading.proofs.ValueLemmas.{not-start, start-whole}
use Rattle.edr_reading.proofs.values.cycle_value.Goals as goal

pub returns-in-Some : goal.returns-in-Some
returns-in-Some c = record { read = search rules; whole = λ r h is. start-whole c.args.value.now c.in-Some.call r c.in-Some.ensures.whole c.in-Some.ensures.read.0 h is }

pub returns-in_err-number : goal.returns-in_err-number
returns-in_err-number c = rw c.from_residual.ensures (record {
  read = tt;
  whole = not-start c.args.value.now None (λ j k e. let z = c.in_default.ensures.whole j k e in cc) (λ n s a b e. absurd (c.in_err-number.ensures.whole n _ a refl e));
})
