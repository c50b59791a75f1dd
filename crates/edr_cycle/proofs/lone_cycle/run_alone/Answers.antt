use Rattle.std.proofs.Common.{subst, sym, ℕ, List}
use Rattle.edr_image.specs.declared.Ack.{Ack}
use Rattle.edr_banks.specs.Opened.{OpenedBanks}
use Rattle.edr_run.specs.Cycle.{issues_in}
use Rattle.edr_cycle.specs.Commits.{Commits}
use Rattle.edr_cycle.specs.Ends.{MeetsCycle}
use Rattle.edr_cycle.proofs.EndingLemmas.{meets}
use Rattle.edr_cycle.proofs.lone_cycle.run_alone.Goals as goal

pub returns-clause-cycle : goal.returns-clause-cycle
returns-clause-cycle g c =
    let N = g.N.Nvm in
    let p = c.parts-banks.result in
    let n = c.args.started.number in
    let parts = c.parts-banks.ensures in
    let run = subst (λ (m : ℕ). Commits N.content N.settled N.since N.clock N.last_good (issues_in c.args.feeds.now m) c.run.result p.banks c.run.new.ledger.banks p.log c.run.new.ledger.log c.args.nvm.now c.run.new.nvm) parts.fresh.cycle_is c.run.ensures.commits in
    subst (λ (acks : List Ack). MeetsCycle N.content N.settled N.since N.clock N.last_good c.args.feeds.now n c.args.started.banks.store c.is_err-failed.result acks c.args.nvm.now c.run.new.nvm) (sym c.told.ensures)
    (subst (λ (o : OpenedBanks). MeetsCycle N.content N.settled N.since N.clock N.last_good c.args.feeds.now n o.store c.is_err-failed.result c.run.new.ledger.log.acks c.args.nvm.now c.run.new.nvm) parts.same.0
    (meets N.content N.settled N.since N.clock N.last_good g.met.N.Nvm.only_now c.args.feeds.now n parts.fresh.cycle_from p.banks c.run.new.ledger.banks parts.none_held.0 p.log c.run.new.ledger.log parts.empty c.args.nvm.now c.run.new.nvm
    c.run.result c.is_err-failed.result c.is_err-failed.ensures.value run))
