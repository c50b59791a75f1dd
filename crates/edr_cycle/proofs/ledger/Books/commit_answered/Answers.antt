use Rattle.std.proofs.Common.{◌≡◌, ◌∷◌, ◌++◌, ◌-◌, [], ap}
use Rattle.edr_device.proofs.LendingLemmas.{makes_err, makes_ok}
use Rattle.edr_image.specs.Calls.{all_calls}
use Rattle.edr_image.specs.Steps.{reply_to}
use Rattle.edr_banks.specs.Opened.{OpenedBanks, state_of}
use Rattle.edr_definitions.specs.Commands.{issue_at}
use Rattle.edr_cycle.proofs.AppliedLemmas.{pass_keeps, pass_says, stopped_cuts, taken_says}
use Rattle.edr_cycle.proofs.CommittedLemmas.{one_applied, one_failed}
use Rattle.edr_cycle.proofs.ledger.Books.commit_answered.Goals as goal

pub returns-in-Ok-clause-commits : goal.returns-in-Ok-clause-commits
returns-in-Ok-clause-commits g c =
    let N = g.N.Nvm in
    let a = c.in-Ok.ensures in
    let b = c.args.self.now.banks in
    let l = c.args.self.now.log in
    let i = issue_at c.args.tick c.args.command.now in
    let r = reply_to (state_of b) c.args.command.now in
    let d = c.args.nvm.now in
    let d' = c.apply.new.nvm in
    let ack : c.push.new.self ≡ record { acks = l.acks ++ record { tick = i.tick; kind = c.kind_of.result; applied = c.in-Ok.applied } ∷ []; commands = l.commands ++ i.command ∷ []; spare = l.spare - 1 } = c.push.ensures in
    let e : c.kind_of.result ≡ _ = c.kind_of.ensures in
    let f : c.in-Ok.applied ≡ r.answer = a.answer.1 in
    one_applied N.content N.settled N.since N.clock N.last_good c.in-Ok.applied i b c.apply.new.self l c.push.new.self d d'
    (rw (e, f) at ack) (ap state_of a.next) (ap (λ (o : OpenedBanks). o.count) a.next) (ap (λ (o : OpenedBanks). o.ended) a.next)
    (makes_ok (all_calls r.steps) _ _ _ _ c.in-Ok.applied c.in-Ok.applied (a.time c.requires.live))
    (taken_says N.content N.settled N.since N.clock N.last_good r.steps b.store a.may d d' a.taken)
    (pass_says N.content N.settled N.since N.clock N.last_good r.steps b.store a.may d d' a.any_moment)
    (pass_keeps N.content N.settled N.since N.clock N.last_good r.steps b.store a.may d d' a.any_moment)

pub returns-in-Err-clause-commits : goal.returns-in-Err-clause-commits
returns-in-Err-clause-commits g c =
    let N = g.N.Nvm in
    let a = c.in-Err.ensures in
    let b = c.args.self.now.banks in
    let i = issue_at c.args.tick c.args.command.now in
    let r = reply_to (state_of b) c.args.command.now in
    let d = c.args.nvm.now in
    let d' = c.apply.new.nvm in
    one_failed N.content N.settled N.since N.clock N.last_good _ i b c.apply.new.self c.args.self.now.log d d'
    a.spoiled (makes_err (all_calls r.steps) _ _ _ _ c.in-Err.field-0 _ (a.time c.requires.live))
    (stopped_cuts N.content N.settled N.since N.clock N.last_good r.steps b.store a.may d d' (a.stopped c.requires.live))
    (pass_says N.content N.settled N.since N.clock N.last_good r.steps b.store a.may d d' a.any_moment)
    (pass_keeps N.content N.settled N.since N.clock N.last_good r.steps b.store a.may d d' a.any_moment)
