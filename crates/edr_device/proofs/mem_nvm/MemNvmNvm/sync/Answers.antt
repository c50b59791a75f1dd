use Rattle.std.proofs.Common.{inl, rules, arith}
use Rattle.edr_device.specs.Past.{settled_at}
use Rattle.edr_device.proofs.MomentLemmas.{covered_last, kept_elapses, moment_settles, refused_elapses, settled_less}
use Rattle.edr_device.proofs.mem_nvm.MemNvmNvm.sync.Goals as goal

pub returns-then-not-takes_call-clause-crash : goal.returns-then-not-takes_call-clause-crash
returns-then-not-takes_call-clause-crash c = refused_elapses c.args.self.now c.refuse.new.self _ c.refuse.ensures.past c.refuse.ensures.state

pub invariant_of-self-2-clause-covered : goal.invariant_of-self-2-clause-covered
invariant_of-self-2-clause-covered c =
    let takes = c.takes_call.ensures.takes (search rules) in
    covered_last c.args.self.now.past.items c.push_reserved.new.self.items c.settle.new.self _ _ c.push_reserved.ensures.items (omega arith) c.of-after.ensures

pub returns-clause-told : goal.returns-clause-told
returns-clause-told c = moment_settles c.args.self.now.state c.settle.new.self _ c.settle.ensures.image c.settle.ensures.settled

pub returns-clause-crash : goal.returns-clause-crash
returns-clause-crash c =
    let m = c.args.self.now in
    let takes = c.takes_call.ensures.takes (search rules) in
    let settles = moment_settles m.state c.settle.new.self _ c.settle.ensures.image c.settle.ensures.settled in
    kept_elapses m.past.items c.push_reserved.new.self.items m.state c.settle.new.self _ m.clock _ (omega arith) c.of-before.ensures c.of-after.ensures c.push_reserved.ensures.items
    (λ image left. inl (settled_less (settled_at m.state) (settled_at c.settle.new.self) m.state.image.items c.settle.new.self.image.items image settles left))

pub invariant_of-self-2-clause-blameless : goal.invariant_of-self-2-clause-blameless
invariant_of-self-2-clause-blameless c = λ none reads le. c.args.self.now.blameless (λ k one within. none k one (omega arith)) reads (omega arith)
