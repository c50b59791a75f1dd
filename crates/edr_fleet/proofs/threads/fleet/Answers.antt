use Rattle.std.proofs.Common.{[]}
use Rattle.edr_fleet.proofs.threads.fleet.Goals as goal

pub returns : goal.returns
returns g c = c.finish.ensures c.args.bytes.now ((c.in_ok-take.ensures {u = tt}) [] c.new-reading.ensures)
