use Rattle.std.proofs.Common.{inr, rules, arith}
use Rattle.edr_device.specs.Past.{settled_at}
use Rattle.edr_device.proofs.MomentLemmas.{covered_last, kept_elapses, moment_writes, refused_elapses, stored_after, written_during}
use Rattle.edr_device.proofs.mem_nvm.MemNvmNvm.write.Goals as goal

pub returns-then-not-takes_call-clause-crash : goal.returns-then-not-takes_call-clause-crash
returns-then-not-takes_call-clause-crash c = refused_elapses c.args.self.now c.refuse.new.self _ c.refuse.ensures.past c.refuse.ensures.state

pub invariant_of-self-clause-covered : goal.invariant_of-self-clause-covered
invariant_of-self-clause-covered c =
    let takes = c.takes_call.ensures.takes (search rules) in
    covered_last c.args.self.now.past.items c.push_reserved.new.self.items c.put.new.self _ _ c.push_reserved.ensures.items (omega arith) c.of-after.ensures

pub invariant_of-self-clause-stored_is : goal.invariant_of-self-clause-stored_is
invariant_of-self-clause-stored_is c =
    let m = c.args.self.now in
    let writes = moment_writes m.state c.put.new.self c.args.at c.args.bytes.now c.requires.range c.put.ensures.image c.put.ensures.settled in
    stored_after c.args.at c.args.bytes.now (settled_at m.state) (settled_at c.put.new.self) m.state.image.items c.put.new.self.image.items m.stored.items c.requires.range writes m.stored_is

pub returns-clause-told : goal.returns-clause-told
returns-clause-told c = moment_writes c.args.self.now.state c.put.new.self c.args.at c.args.bytes.now c.requires.range c.put.ensures.image c.put.ensures.settled

pub returns-clause-crash : goal.returns-clause-crash
returns-clause-crash c =
    let m = c.args.self.now in
    let takes = c.takes_call.ensures.takes (search rules) in
    let writes = moment_writes m.state c.put.new.self c.args.at c.args.bytes.now c.requires.range c.put.ensures.image c.put.ensures.settled in
    kept_elapses m.past.items c.push_reserved.new.self.items m.state c.put.new.self _ m.clock _ (omega arith) c.of-before.ensures c.of-after.ensures c.push_reserved.ensures.items
    (λ image left. inr (written_during c.args.at c.args.bytes.now (settled_at m.state) (settled_at c.put.new.self) m.state.image.items c.put.new.self.image.items image c.requires.range writes left))

pub invariant_of-self-clause-blameless : goal.invariant_of-self-clause-blameless
invariant_of-self-clause-blameless c = λ none reads le. c.args.self.now.blameless (λ k one within. none k one (omega arith)) reads (omega arith)
