use Rattle.std.proofs.Common.{◌∙◌, ap, inl, inr, List, ℕ}
use Rattle.std.proofs.lemmas.Result.{err_from_is_err_and}
use Rattle.std.specs.Result.{is_err}
use Rattle.edr_device.proofs.SettlingLemmas.{quiet_leaves, stays_quiet}
use Rattle.edr_migrate.specs.declared.Migrated.{Migrated}
use Rattle.edr_report.specs.Format.{migrate_line}
use Rattle.edr_cli.specs.Migrations.{TookOver}
use Rattle.edr_cli.specs.Outside.{memory}
use Rattle.edr_cli.proofs.BarrierLemmas.{sync_leaves, sync_settles, sync_stays}
use Rattle.edr_cli.proofs.ImageLemmas.{if_each}
use Rattle.edr_cli.proofs.MigrationLemmas.{taking_cause}
use Rattle.edr_cli.proofs.migrate.take_over.Goals as goal

-- ---- the old image is refused

pub returns-in_err-migrated-clause-crash : goal.returns-in_err-migrated-clause-crash
returns-in_err-migrated-clause-crash g c = λ bytes image quiet left. inl (quiet_leaves bytes _ _ image quiet left)

pub returns-in_err-migrated-clause-stays : goal.returns-in_err-migrated-clause-stays
returns-in_err-migrated-clause-stays g c = λ bytes image quiet has left. quiet_leaves bytes _ _ image quiet left

-- ---- the barrier failed

pub returns-in_err-sync-clause-crash : goal.returns-in_err-sync-clause-crash
returns-in_err-sync-clause-crash g c = λ bytes image quiet left.
    let D = g.N.Nvm in
    inl (sync_leaves c.sync.result (D.content c.args.nvm.now) (D.content c.sync.new.self) (D.settled c.args.nvm.now) (D.settled c.sync.new.self) bytes image c.sync.ensures.told (ap is_err c.in_err-sync.was) quiet left)

pub returns-in_err-sync-clause-stays : goal.returns-in_err-sync-clause-stays
returns-in_err-sync-clause-stays g c = λ bytes image quiet has left.
    let D = g.N.Nvm in
    sync_leaves c.sync.result (D.content c.args.nvm.now) (D.content c.sync.new.self) (D.settled c.args.nvm.now) (D.settled c.sync.new.self) bytes image c.sync.ensures.told (ap is_err c.in_err-sync.was) quiet left

-- ---- the migration failed

pub returns-in_err-migrate-clause-cause : goal.returns-in_err-migrate-clause-cause
returns-in_err-migrate-clause-cause g c =
    let D = g.N.Nvm in
    let old = memory D c.args.nvm.now in
    let mid = memory D c.sync.new.self in
    let new = memory D c.migrate.new.nvm in
    let whole = c.in_ok-migrated.ensures.passed in
    let stays = sync_stays c.sync.result old.content mid.content old.settled mid.settled c.sync.ensures.told (ap is_err c.in_ok-sync.was) in
    let p = err_from_is_err_and c.from_residual-in_err-migrate.result c.from_residual-in_err-migrate.ensures.1 in
    rw (p.1, p.2) (taking_cause c.args.old.now whole.0 old mid new c.in_err-migrate.field-0.0 c.requires whole.1 stays c.sync.ensures.size c.sync.ensures.cause.later
    (λ other. (c.in_err-migrate.ensures.refused other).stays.same_content) c.in_err-migrate.ensures.cause)

pub returns-in_err-migrate-clause-crash : goal.returns-in_err-migrate-clause-crash
returns-in_err-migrate-clause-crash g c = λ bytes image quiet left.
    let D = g.N.Nvm in
    let whole = c.in_ok-migrated.ensures.passed in
    let there = sync_settles c.sync.result (D.content c.args.nvm.now) (D.content c.sync.new.self) (D.settled c.args.nvm.now) (D.settled c.sync.new.self) bytes c.sync.ensures.told (ap is_err c.in_ok-sync.was) quiet.0 in
    inr (whole.0, (c.requires, whole.1), c.migrate.ensures.each whole.0 whole.1.view bytes image there (g.met.N.Nvm.counts_now c.migrate.new.nvm (D.clock c.sync.new.self) image c.migrate.ensures.later left))

pub returns-in_err-migrate-clause-stays : goal.returns-in_err-migrate-clause-stays
returns-in_err-migrate-clause-stays g c = λ bytes image quiet has left.
    let D = g.N.Nvm in
    let there = sync_settles c.sync.result (D.content c.args.nvm.now) (D.content c.sync.new.self) (D.settled c.args.nvm.now) (D.settled c.sync.new.self) bytes c.sync.ensures.told (ap is_err c.in_ok-sync.was) quiet.0 in
    let kept = (c.migrate.ensures.magic_stays bytes there.0 has).stays in
    quiet_leaves bytes (D.content c.migrate.new.nvm) (D.settled c.migrate.new.nvm) image (stays_quiet bytes (D.content c.sync.new.self) (D.content c.migrate.new.nvm) (D.settled c.sync.new.self) (D.settled c.migrate.new.nvm) _ _ there kept) left

-- ---- the records were taken over

pub returns-clause-taken : goal.returns-clause-taken
returns-clause-taken g c =
    let D = g.N.Nvm in
    let whole = c.in_ok-migrated.ensures.passed in
    let new = memory D c.migrate.new.nvm in
    if_each (λ (bytes : List ℕ). TookOver c.args.old.now bytes new c.migrate_line-line.result) (D.content c.args.nvm.now)
    (λ bytes told.
    let there = sync_settles c.sync.result (D.content c.args.nvm.now) (D.content c.sync.new.self) (D.settled c.args.nvm.now) (D.settled c.sync.new.self) bytes c.sync.ensures.told (ap is_err c.in_ok-sync.was) told in
    let made = c.in_ok-migrate.ensures.done whole.0 whole.1.view bytes there in
    record {
      view = whole.0;
      old_is = (c.requires, whole.1);
      lacks = c.in_ok-migrate.ensures.not_formatted bytes there.0;
      image = made.0;
      held = made.1;
      migrated = made.2;
      text_is = c.migrate_line-line.ensures ∙ ap (λ (m : Migrated). migrate_line m.events m.count) whole.2;
    })

pub returns-clause-crash : goal.returns-clause-crash
returns-clause-crash g c = λ bytes image quiet left.
    let D = g.N.Nvm in
    let whole = c.in_ok-migrated.ensures.passed in
    let there = sync_settles c.sync.result (D.content c.args.nvm.now) (D.content c.sync.new.self) (D.settled c.args.nvm.now) (D.settled c.sync.new.self) bytes c.sync.ensures.told (ap is_err c.in_ok-sync.was) quiet.0 in
    inr (whole.0, (c.requires, whole.1), c.migrate.ensures.each whole.0 whole.1.view bytes image there (g.met.N.Nvm.counts_now c.migrate.new.nvm (D.clock c.sync.new.self) image c.migrate.ensures.later left))

pub returns-clause-stays : goal.returns-clause-stays
returns-clause-stays g c = λ bytes image quiet has left.
    let D = g.N.Nvm in
    let there = sync_settles c.sync.result (D.content c.args.nvm.now) (D.content c.sync.new.self) (D.settled c.args.nvm.now) (D.settled c.sync.new.self) bytes c.sync.ensures.told (ap is_err c.in_ok-sync.was) quiet.0 in
    let kept = (c.migrate.ensures.magic_stays bytes there.0 has).stays in
    quiet_leaves bytes (D.content c.migrate.new.nvm) (D.settled c.migrate.new.nvm) image (stays_quiet bytes (D.content c.sync.new.self) (D.content c.migrate.new.nvm) (D.settled c.sync.new.self) (D.settled c.migrate.new.nvm) _ _ there kept) left
