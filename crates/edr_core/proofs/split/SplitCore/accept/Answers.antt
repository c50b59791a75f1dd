use Rattle.std.proofs.Common.{arith}
use Rattle.edr_core.specs.SplitFields.{split_contents}
use Rattle.edr_core.proofs.GiveLemmas.{closed-early}
use Rattle.edr_core.proofs.split.SplitCore.accept.Goals as goal

pub overflow_add-self-inside : goal.overflow_add-self-inside
overflow_add-self-inside c = let i = c.self.invariant in let early = closed-early (split_contents c.self.inside) i.history i.stands in omega (arith, early)
