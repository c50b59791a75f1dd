use Rattle.edr_gates.proofs.TakenStepLemmas.{takes_none}
use Rattle.edr_banks.proofs.task_steps.take_on.Goals as goal

pub returns-in-Nothing-clause-steps : goal.returns-in-Nothing-clause-steps
returns-in-Nothing-clause-steps g c = rw c.in-Nothing.is (takes_none c.args.nvm.now tt (g.met.N.Nvm.only_now c.args.nvm.now) (g.met.N.Nvm.goes_on_self c.args.nvm.now))
