use Rattle.std.proofs.Common.{arith, refl}
use Rattle.edr_loops.proofs.LaterLemmas.{holding-on, later-by}
use Rattle.edr_loops.proofs.RecorderLemmas.{grant-near, stands-grant}
use Rattle.edr_loops.proofs.recorder.Desk.grant.Goals as goal

pub grant-requires-clause-near : goal.grant-requires-clause-near
grant-requires-clause-near c opened =
    let s = c.requires.2 in
    let closed = c.closed.ensures s.history s.told.core_is in
    let near = grant-near _ _ c.args.self.now s opened in
    let upto = c.saturating_add.ensures in
    let least = c.min-upto.ensures in
    omega (arith, closed, near, upto, least)

pub returns-then-self-upto : goal.returns-then-self-upto
returns-then-self-upto c =
    holding-on 0 c.args.self.now _ c.requires
    (later-by 0 c.args.self.now _ refl refl refl c.grant.ensures.freeze refl refl
    (λ n e low s. stands-grant n e c.min-upto.result c.args.self.now c.grant.new.self
    (λ h is. let closed = c.closed.ensures h is in let upto = c.saturating_add.ensures in let least = c.min-upto.ensures in omega (arith, closed, upto, least))
    (let least = c.min-upto.ensures in omega (arith, least)) c.grant.ensures.granted c.grant.ensures.asked c.grant.ensures.marks s)) (refl, refl) refl
