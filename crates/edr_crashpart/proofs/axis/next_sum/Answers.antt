use Rattle.std.proofs.Common.{arith}
use Rattle.std.proofs.lemmas.Int.{ints}
use Rattle.edr_definitions.proofs.BoundLaws.{small_by}
use Rattle.edr_crashpart.proofs.axis.next_sum.Goals as goal

pub returns-clause-size : goal.returns-clause-size
returns-clause-size c =
    let one = small_by c.args.sample c.requires.sample in
    omega (arith, ints, c.unwrap_or.ensures, c.from.ensures, one)
