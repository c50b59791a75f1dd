use Rattle.std.proofs.Common.{ap, List, ℕ}
use Rattle.std.specs.Result.{is_err}
use Rattle.edr_device.specs.Device.{IsQuiet}
use Rattle.edr_device.proofs.SettlingLemmas.{quiet_leaves, stays_quiet}
use Rattle.edr_banks.specs.Formatting.{IsNew, LacksMagic}
use Rattle.edr_cli.proofs.BarrierLemmas.{sync_settles, sync_leaves}
use Rattle.edr_cli.proofs.ImageLemmas.{if_each, still_there}
use Rattle.edr_cli.proofs.format.make_image.Goals as goal

-- ---- the barrier failed

pub returns-in_err-sync-clause-crash : goal.returns-in_err-sync-clause-crash
returns-in_err-sync-clause-crash g c = λ bytes image quiet left.
    let D = g.N.Nvm in
    still_there c.args.header bytes image (sync_leaves c.sync.result (D.content c.args.nvm.now) (D.content c.sync.new.self) (D.settled c.args.nvm.now) (D.settled c.sync.new.self) bytes image c.sync.ensures.told (ap is_err c.in_err-sync.was) quiet left)

pub returns-in_err-sync-clause-stays : goal.returns-in_err-sync-clause-stays
returns-in_err-sync-clause-stays g c = λ bytes image quiet has left.
    let D = g.N.Nvm in
    sync_leaves c.sync.result (D.content c.args.nvm.now) (D.content c.sync.new.self) (D.settled c.args.nvm.now) (D.settled c.sync.new.self) bytes image c.sync.ensures.told (ap is_err c.in_err-sync.was) quiet left

-- ---- the format failed

pub returns-in_err-format-clause-crash : goal.returns-in_err-format-clause-crash
returns-in_err-format-clause-crash g c = λ bytes image quiet left.
    let D = g.N.Nvm in
    let there = sync_settles c.sync.result (D.content c.args.nvm.now) (D.content c.sync.new.self) (D.settled c.args.nvm.now) (D.settled c.sync.new.self) bytes c.sync.ensures.told (ap is_err c.in_ok-sync.was) quiet.0 in
    c.format.ensures.laid.each bytes image there (g.met.N.Nvm.counts_now c.format.new.nvm (D.clock c.sync.new.self) image c.format.ensures.laid.later left)

pub returns-in_err-format-clause-stays : goal.returns-in_err-format-clause-stays
returns-in_err-format-clause-stays g c = λ bytes image quiet has left.
    let D = g.N.Nvm in
    let there = sync_settles c.sync.result (D.content c.args.nvm.now) (D.content c.sync.new.self) (D.settled c.args.nvm.now) (D.settled c.sync.new.self) bytes c.sync.ensures.told (ap is_err c.in_ok-sync.was) quiet.0 in
    let kept = (c.format.ensures.laid.magic_stays bytes there.0 has).stays in
    quiet_leaves bytes (D.content c.format.new.nvm) (D.settled c.format.new.nvm) image (stays_quiet bytes (D.content c.sync.new.self) (D.content c.format.new.nvm) (D.settled c.sync.new.self) (D.settled c.format.new.nvm) _ _ there kept) left

-- ---- the image was made

pub returns-clause-made : goal.returns-clause-made
returns-clause-made g c =
    let D = g.N.Nvm in
    if_each (λ (bytes : List ℕ). LacksMagic bytes × (image : List ℕ) × IsQuiet (D.content c.format.new.nvm) (D.settled c.format.new.nvm) image × IsNew c.args.header bytes image) (D.content c.args.nvm.now)
    (λ bytes told.
    let there = sync_settles c.sync.result (D.content c.args.nvm.now) (D.content c.sync.new.self) (D.settled c.args.nvm.now) (D.settled c.sync.new.self) bytes c.sync.ensures.told (ap is_err c.in_ok-sync.was) told in
    let new = c.in_ok-format.ensures.laid.done bytes there in
    (c.in_ok-format.ensures.laid.not_formatted bytes there.0, new.0, new.1, new.2))

pub returns-clause-crash : goal.returns-clause-crash
returns-clause-crash g c = λ bytes image quiet left.
    let D = g.N.Nvm in
    let there = sync_settles c.sync.result (D.content c.args.nvm.now) (D.content c.sync.new.self) (D.settled c.args.nvm.now) (D.settled c.sync.new.self) bytes c.sync.ensures.told (ap is_err c.in_ok-sync.was) quiet.0 in
    c.format.ensures.laid.each bytes image there (g.met.N.Nvm.counts_now c.format.new.nvm (D.clock c.sync.new.self) image c.format.ensures.laid.later left)
