-- The steps are those of the definition, which may be taken.
use Rattle.std.proofs.Common.{sym, subst}
use Rattle.edr_image.specs.Steps.{Reply}
use Rattle.edr_gates.specs.Taken.{MayTakeAll}
use Rattle.edr_banks.specs.Opened.{IsOpened, OpenedBanks}
use Rattle.edr_banks.specs.Tasks.{steps_of}
use Rattle.edr_banks.proofs.TaskLemmas.{reply_may, steps_within}
use Rattle.edr_banks.proofs.Banks.task.Goals as goal

pub returns-clause-may : goal.returns-clause-may
returns-clause-may c =
    let is = subst (λ (o : OpenedBanks). IsOpened o) c.self.view_is c.self.invariant in
    subst (λ (x : Reply). MayTakeAll c.args.self.now.store.banks x.steps) (sym c.task_of.ensures) (reply_may c.args.self.now c.args.command.now is)

pub returns-clause-within : goal.returns-clause-within
returns-clause-within c =
    let is = subst (λ (o : OpenedBanks). IsOpened o) c.self.view_is c.self.invariant in
    steps_within (steps_of c.task_of.result) c.args.self.now.store.banks c.args.self.now.store.header.banks is.all (returns-clause-may c)
