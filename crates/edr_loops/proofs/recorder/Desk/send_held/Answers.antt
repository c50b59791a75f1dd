use Rattle.std.proofs.Common.{refl}
use Rattle.edr_loops.proofs.LaterLemmas.{going-on, same-sent}
use Rattle.edr_loops.proofs.CloseLemmas.{stands-sent}
use Rattle.edr_loops.proofs.recorder.Desk.send_held.Goals as goal

pub returns-clause-on : goal.returns-clause-on
returns-clause-on c = going-on 0 c.args.self.now _ c.requires (record {
  same = same-sent c.args.self.now c.send.new.outbox c.send.new.self c.send.ensures.ring;
  stands = λ n e low s. stands-sent n e c.args.self.now c.send.new.outbox c.send.new.self c.send.ensures.same s;
}) (refl, refl)
