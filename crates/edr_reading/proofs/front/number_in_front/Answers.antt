use Rattle.std.proofs.Common.{arith, ◌∙◌, sym}
use Rattle.edr_reading.proofs.ValueLemmas.{number-front, number-read}
use Rattle.edr_reading.proofs.front.number_in_front.Goals as goal

pub returns-in-Ok : goal.returns-in-Ok
returns-in-Ok c =
    let s = c.split_at.ensures in
    let o = rw s.front at c.in-Ok.ensures in
    let d = c.digits_in_front in
    record {
      read = (rw s.back (number-front c.args.bytes.now c.in-Ok.n d.result (omega arith) (sym o)), omega arith);
      whole = λ n more small ends is. let r = number-read c.args.bytes.now more n d.result small ends is d.ensures.within d.ensures.digits d.ensures.ends in (cc, s.back ∙ r.1);
    }

pub returns-in-Err : goal.returns-in-Err
returns-in-Err c =
    let o = rw c.split_at.ensures.front at c.in-Err.ensures in
    let d = c.digits_in_front in
    record { read = tt; whole = λ n more small ends is. let r = (number-read c.args.bytes.now more n d.result small ends is d.ensures.within d.ensures.digits d.ensures.ends).0 in cc }
