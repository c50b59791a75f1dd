use Rattle.std.proofs.Common.{arith, length-take-le}
use Rattle.edr_cli.proofs.TakingLemmas.{moved_front}
use Rattle.edr_cli.proofs.traces.keep_left.Goals as goal

pub returns-clause-moved : goal.returns-clause-moved
returns-clause-moved c =
    let buffer = c.args.buffer.now in
    let long = length-take-le c.args.end buffer (omega arith) in
    moved_front buffer c.copy_within.new.self c.take_rows-taken.result c.args.end (omega (arith, long, c.take_rows-taken.ensures.within)) (omega arith) c.copy_within.ensures.after
