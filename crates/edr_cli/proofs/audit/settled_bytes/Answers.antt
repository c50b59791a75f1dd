use Rattle.std.proofs.Common.{ap}
use Rattle.std.specs.Result.{is_err}
use Rattle.edr_device.proofs.SettlingLemmas.{quiet_leaves, stays_quiet}
use Rattle.edr_cli.proofs.BarrierLemmas.{sync_settles}
use Rattle.edr_cli.proofs.audit.settled_bytes.Goals as goal

pub returns-clause-stays : goal.returns-clause-stays
returns-clause-stays g c = λ bytes image quiet left.
    let D = g.N.Nvm in
    let there = sync_settles c.sync.result (D.content c.args.nvm.now) (D.content c.sync.new.self) (D.settled c.args.nvm.now) (D.settled c.sync.new.self) bytes c.sync.ensures.told (ap is_err c.in_ok-sync.was) quiet.0 in
    quiet_leaves bytes (D.content c.first_bytes.new.nvm) (D.settled c.first_bytes.new.nvm) image
    (stays_quiet bytes (D.content c.sync.new.self) (D.content c.first_bytes.new.nvm) (D.settled c.sync.new.self) (D.settled c.first_bytes.new.nvm) _ _ there c.first_bytes.ensures.read.stays) left
