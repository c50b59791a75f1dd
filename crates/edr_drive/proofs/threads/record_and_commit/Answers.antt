use Rattle.std.proofs.Common.{arith, refl}
use Rattle.edr_device.proofs.LendingLemmas.{tells_self}
use Rattle.edr_drive.proofs.TakenLemmas.{none-taken}
use Rattle.edr_drive.proofs.threads.record_and_commit.Goals as goal

pub returns-in-Err-clause-commits : goal.returns-in-Err-clause-commits
returns-in-Err-clause-commits g c = none-taken c.requires.awaits.fresh

pub returns-in-Err-clause-lent : goal.returns-in-Err-clause-lent
returns-in-Err-clause-lent g c = record {
  size = refl;
  device = g.met.N.Nvm.goes_on_self c.args.nvm.now;
  tells = tells_self (g.N.Nvm.content c.args.nvm.now);
  cause = record { later = omega arith; failed = tt };
}
