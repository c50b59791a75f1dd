use Rattle.std.proofs.Common.{rules}
use Rattle.edr_reading.proofs.ValueLemmas.{minus-change}
use Rattle.edr_reading.proofs.values.change_in_front.Goals as goal

pub returns-in-Some : goal.returns-in-Some
returns-in-Some c = record {
  read = search rules;
  whole = λ z more h ends is.
      let m = minus-change c.args.bytes.now c.in-Some.digits.now more z h c.in-Some.ensures.read is in
      rw m.1 (c.negative_in_front.ensures.whole m.0 more m.3 ends m.2);
}
