use Rattle.std.proofs.Common.{rules, ◌≡◌}
use Rattle.edr_large.specs.Counts.{counts_of}
use Rattle.edr_large.proofs.CountingLemmas.{counted_is}
use Rattle.edr_large.proofs.count.Goals as goal

pub returns : goal.returns
returns c =
    let run = c.in_ok-run.run' in
    let found = c.in_ok-found.found.items in
    let are : c.counts_of.result ≡ counts_of c.args.cycles run.rows run.acks.items found = search rules in
    counted_is c.args.number c.args.cycles run.rows run.acks.items run.image.items found c.counts_of.result c.in_ok-run.ensures.ran c.in_ok-found.ensures are
