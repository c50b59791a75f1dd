use Rattle.std.proofs.Common.{[], ◌∷◌, append-nil, sym}
use Rattle.edr_definitions.specs.Commands.{issue_at}
use Rattle.edr_cycle.proofs.CommittedLemmas.{commits_failed, commits_same}
use Rattle.edr_cycle.proofs.ledger.BooksLedger.commit.Goals as goal

pub returns-in_err-commit_answered-clause-commits : goal.returns-in_err-commit_answered-clause-commits
returns-in_err-commit_answered-clause-commits g c =
    let N = g.N.Nvm in
    let a = c.args.self.now in
    let b = c.commit_answered.new.self in
    let xs = issue_at c.args.tick c.args.command.now ∷ [] in
    commits_failed N.content N.settled N.since N.clock N.last_good xs [] xs
    c.commit_answered.result c.from_residual.result _ a.banks b.banks a.log b.log c.args.nvm.now c.commit_answered.new.nvm
    (sym (append-nil xs)) c.in_err-commit_answered.was c.from_residual.ensures.0 c.commit_answered.ensures.commits

pub returns-clause-commits : goal.returns-clause-commits
returns-clause-commits g c =
    let N = g.N.Nvm in
    let a = c.args.self.now in
    let b = c.commit_answered.new.self in
    commits_same N.content N.settled N.since N.clock N.last_good (issue_at c.args.tick c.args.command.now ∷ [])
    c.commit_answered.result _ tt a.banks b.banks a.log b.log c.args.nvm.now c.commit_answered.new.nvm
    c.in_ok-commit_answered.was c.commit_answered.ensures.commits
