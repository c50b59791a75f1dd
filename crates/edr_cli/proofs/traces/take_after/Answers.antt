use Rattle.std.proofs.Common.{arith}
use Rattle.edr_cli.proofs.TakingLemmas.{carries_after}
use Rattle.edr_cli.proofs.traces.take_after.Goals as goal

pub returns-clause-carries : goal.returns-clause-carries
returns-clause-carries g c =
    let left = g.S.Source.left in
    carries_after c.args.kept c.in_ok-n.n c.args.buffer.now _ c.take.new.into _ (left c.args.source.now) (left c.take.new.self) (omega arith) c.in_ok-n.ensures.told
