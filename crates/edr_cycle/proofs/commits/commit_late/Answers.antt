use Rattle.std.proofs.Common.{map}
use Rattle.std.proofs.lemmas.List.{map-append}
use Rattle.std.specs.Option.{option_to_list}
use Rattle.edr_definitions.specs.Commands.{issue_at}
use Rattle.edr_cycle.proofs.CommittedLemmas.{commits_failed, commits_then}
use Rattle.edr_cycle.proofs.commits.commit_late.Goals as goal

pub returns-in_err-commit_some-clause-commits : goal.returns-in_err-commit_some-clause-commits
returns-in_err-commit_some-clause-commits g c =
    let N = g.N.Nvm in
    let L = g.L.Ledger in
    commits_failed N.content N.settled N.since N.clock N.last_good (map (issue_at c.args.tick) (option_to_list c.args.lock)) (map (issue_at c.args.tick) (option_to_list c.args.done)) _
    c.commit_some.result c.from_residual.result _ (L.banks c.args.ledger.now) (L.banks c.commit_some.new.ledger) (L.log c.args.ledger.now) (L.log c.commit_some.new.ledger) c.args.nvm.now c.commit_some.new.nvm
    (map-append (issue_at c.args.tick) (option_to_list c.args.lock) (option_to_list c.args.done)) c.in_err-commit_some.was c.from_residual.ensures.0 c.commit_some.ensures.commits

pub returns-clause-commits : goal.returns-clause-commits
returns-clause-commits g c =
    let N = g.N.Nvm in
    let L = g.L.Ledger in
    commits_then N.content N.settled N.since N.clock N.last_good (map (issue_at c.args.tick) (option_to_list c.args.lock)) (map (issue_at c.args.tick) (option_to_list c.args.done)) _
    c.commit_some.result c.commit_some-2.result _ (L.banks c.args.ledger.now) (L.banks c.commit_some.new.ledger) (L.banks c.commit_some-2.new.ledger) (L.log c.args.ledger.now) (L.log c.commit_some.new.ledger) (L.log c.commit_some-2.new.ledger) c.args.nvm.now c.commit_some.new.nvm c.commit_some-2.new.nvm
    (map-append (issue_at c.args.tick) (option_to_list c.args.lock) (option_to_list c.args.done)) c.in_ok-commit_some.was c.commit_some.ensures.commits c.commit_some-2.ensures.commits
