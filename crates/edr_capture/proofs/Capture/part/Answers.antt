use Rattle.edr_capture.proofs.PartLemmas.{part-is, part-given}
use Rattle.edr_capture.proofs.Capture.part.Goals as goal

pub invariant_of-result : goal.invariant_of-result
invariant_of-result c = rw c.slots_of_part.ensures (part-is c.args.sensor c.args.self.now c.args.zero c.requires.slow c.requires.range)

pub returns-clause-definition : goal.returns-clause-definition
returns-clause-definition c given stands = rw c.slots_of_part.ensures (part-given c.args.sensor c.args.self.now given c.args.zero c.requires.near stands)
