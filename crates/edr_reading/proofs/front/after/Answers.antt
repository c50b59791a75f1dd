use Rattle.edr_reading.proofs.ValueLemmas.{front-is, front-stands}
use Rattle.edr_reading.proofs.front.after.Goals as goal

pub returns-in-Some-clause-read : goal.returns-in-Some-clause-read
returns-in-Some-clause-read c = let s = c.in-Some.ensures.cases in rw s.1 (front-is c.args.bytes.now c.args.front.now s.0)

pub returns-in-None-clause-whole : goal.returns-in-None-clause-whole
returns-in-None-clause-whole c more is = let t = (front-stands c.args.bytes.now c.args.front.now more is).0 in let n = c.in-None.ensures.cases in cc
