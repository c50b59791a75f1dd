use Rattle.std.proofs.Common.{map, option_map, ◌++◌, ◌≡◌, rules, sym}
use Rattle.std.proofs.lemmas.List.{map-append}
use Rattle.std.specs.Option.{option_to_list}
use Rattle.edr_record.specs.declared.Command.TheVariants.{Take, Lock, Done}
use Rattle.edr_definitions.specs.Commands.{issue_at}
use Rattle.edr_cycle.proofs.CommittedLemmas.{commits_failed, commits_then}
use Rattle.edr_cycle.proofs.commits.commit_tick.Goals as goal

pub returns-in_err-commit_some-clause-commits : goal.returns-in_err-commit_some-clause-commits
returns-in_err-commit_some-clause-commits g c =
    let N = g.N.Nvm in
    let L = g.L.Ledger in
    let first = option_to_list (option_map Take c.args.issued.now.take) in
    let later = option_to_list (option_map Lock c.args.issued.now.lock) ++ option_to_list (option_map Done c.args.issued.now.done) in
    let e : c.map-take.result ≡ option_map Take c.args.issued.now.take = search rules in
    commits_failed N.content N.settled N.since N.clock N.last_good (map (issue_at c.args.tick) first) (map (issue_at c.args.tick) later) _
    c.commit_some.result c.from_residual.result _ (L.banks c.args.ledger.now) (L.banks c.commit_some.new.ledger) (L.log c.args.ledger.now) (L.log c.commit_some.new.ledger) c.args.nvm.now c.commit_some.new.nvm
    (map-append (issue_at c.args.tick) first later) c.in_err-commit_some.was c.from_residual.ensures.0 (rw (sym e) c.commit_some.ensures.commits)

pub returns-clause-commits : goal.returns-clause-commits
returns-clause-commits g c =
    let N = g.N.Nvm in
    let L = g.L.Ledger in
    let first = option_to_list (option_map Take c.args.issued.now.take) in
    let later = option_to_list (option_map Lock c.args.issued.now.lock) ++ option_to_list (option_map Done c.args.issued.now.done) in
    let take : c.map-take.result ≡ option_map Take c.args.issued.now.take = search rules in
    let lock : c.map-lock.result ≡ option_map Lock c.args.issued.now.lock = search rules in
    let done : c.map-done.result ≡ option_map Done c.args.issued.now.done = search rules in
    commits_then N.content N.settled N.since N.clock N.last_good (map (issue_at c.args.tick) first) (map (issue_at c.args.tick) later) _
    c.commit_some.result c.commit_late.result _ (L.banks c.args.ledger.now) (L.banks c.commit_some.new.ledger) (L.banks c.commit_late.new.ledger) (L.log c.args.ledger.now) (L.log c.commit_some.new.ledger) (L.log c.commit_late.new.ledger) c.args.nvm.now c.commit_some.new.nvm c.commit_late.new.nvm
    (map-append (issue_at c.args.tick) first later) c.in_ok-commit_some.was (rw (sym take) c.commit_some.ensures.commits) (rw (sym lock, sym done) c.commit_late.ensures.commits)
