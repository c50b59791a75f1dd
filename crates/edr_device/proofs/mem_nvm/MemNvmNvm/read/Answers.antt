use Rattle.std.proofs.Common.{rules, arith}
use Rattle.edr_device.proofs.mem_nvm.MemNvmNvm.read.Goals as goal

pub invariant_of-self-clause-blameless : goal.invariant_of-self-clause-blameless
invariant_of-self-clause-blameless c =
    let numbered = rw c.deref.ensures.value at (c.is_numbered.ensures.0 (search rules)) in
    λ calls none le. absurd (none c.saturating_add-self.result (omega arith) (omega arith) numbered)

pub invariant_of-self-else-is_numbered-clause-blameless : goal.invariant_of-self-else-is_numbered-clause-blameless
invariant_of-self-else-is_numbered-clause-blameless c = λ calls none le. c.args.self.now.blameless calls (λ k one within. none k one (omega arith)) le
