use Rattle.std.proofs.Common.{◌≤◌, ◌+◌, ⊎_elim, inl, arith}
use Rattle.std.specs.List.{Contains}
use Rattle.edr_device.proofs.MomentLemmas.{covered_still}
use Rattle.edr_device.proofs.mem_nvm.MemNvm.refuse.Goals as goal

pub invariant_of-self-2-clause-covered : goal.invariant_of-self-2-clause-covered
invariant_of-self-2-clause-covered c =
    let m = c.args.self.now in
    covered_still m.past.items c.push_reserved.new.self.items m.state _ m.last_good c.push_reserved.ensures.items m.good_kept m.covered

pub invariant_of-self-2-clause-blameless : goal.invariant_of-self-2-clause-blameless
invariant_of-self-2-clause-blameless c = λ none reads le. absurd (⊎_elim
    (λ (over : c.args.self.now.calls ≤ c.args.self.now.clock). omega arith)
    (λ (numbered : Contains c.args.self.now.fails.items (c.args.self.now.clock + 1)). none (c.args.self.now.clock + 1) (omega arith) (omega arith) numbered)
    c.requires)

pub returns-clause-past : goal.returns-clause-past
returns-clause-past c = inl ((omega arith), _, c.of-before.ensures, c.of-after.ensures, c.push_reserved.ensures.items)
