use Rattle.std.proofs.Common.{arith, ap, subst, ◌∙◌, ℕ, List}
use Rattle.edr_definitions.specs.Commands.{Issue}
use Rattle.edr_cycle.specs.Commits.{Commits}
use Rattle.edr_cycle.specs.Rest.{issues_past}
use Rattle.edr_cycle.proofs.RunStepLemmas.{given-none, past-start}
use Rattle.edr_cycle.proofs.cycle_run.run.Goals as goal

pub give_on-requires-clause-given : goal.give_on-requires-clause-given
give_on-requires-clause-given g c = given-none c.args.feeds.now c.all_of-left.result c.args.core.cycle c.args.core c.requires.begun c.all_of-left.ensures.all

pub give_on-requires-clause-room : goal.give_on-requires-clause-room
give_on-requires-clause-room g c =
    let closed = c.requires.begun.closed_is in
    let room = c.requires.room in
    omega (arith, room)

pub returns-clause-commits : goal.returns-clause-commits
returns-clause-commits g c =
    let N = g.N.Nvm in
    let L = g.L.Ledger in
    subst (λ (xs : List Issue). Commits N.content N.settled N.since N.clock N.last_good xs c.give_on.result (L.banks c.args.ledger.now) (L.banks c.give_on.new.ledger) (L.log c.args.ledger.now) (L.log c.give_on.new.ledger) c.args.nvm.now c.give_on.new.nvm)
    (ap (λ (t : ℕ). issues_past c.args.feeds.now c.args.core.cycle t) c.requires.begun.closed_is ∙ past-start c.args.feeds.now c.args.core.cycle) c.give_on.ensures.commits
