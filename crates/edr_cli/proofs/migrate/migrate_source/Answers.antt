use Rattle.std.proofs.Common.{arith, subst, inl, ◌+◌, ◌≤◌, List, length, ℕ, IfSome}
use Rattle.edr_device.proofs.SettlingLemmas.{quiet_leaves}
use Rattle.edr_spell.specs.Spell.{largest_trace}
use Rattle.edr_cli.specs.Migrations.{IsMigrateCause, IsTakingCause, IsPartlyTaken, MigrateIs, TookOver}
use Rattle.edr_cli.specs.Outside.{input, memory}
use Rattle.edr_cli.specs.Steps.{IsTakenOver}
use Rattle.edr_cli.proofs.ImageLemmas.{err_map, if_each, ok_map}
use Rattle.edr_cli.proofs.MigrationLemmas.{gave_all, migrate_cause, of_given}
use Rattle.edr_cli.proofs.TakingLemmas.{all_most}
use Rattle.edr_cli.proofs.migrate.migrate_source.Goals as goal

pub returns-in_err-old-clause-crash : goal.returns-in_err-old-clause-crash
returns-in_err-old-clause-crash g c = λ bytes image quiet left.
    if_each (λ (old : List ℕ). IsPartlyTaken old bytes image) (g.S.Source.left c.args.source.now) (λ old told. inl (quiet_leaves bytes _ _ image quiet left))

pub returns-in_err-old-clause-stays : goal.returns-in_err-old-clause-stays
returns-in_err-old-clause-stays g c = λ bytes image quiet has left. quiet_leaves bytes _ _ image quiet left

pub returns-clause-text : goal.returns-clause-text
returns-clause-text g c =
    let D = g.N.Nvm in
    let left = g.S.Source.left in
    let old = memory D c.args.nvm.now in
    let new = memory D c.take_over.new.nvm in
    let taken = c.in_ok-old.old.items in
    let gave = gave_all taken (left c.args.source.now) (left c.take_all.new.source) c.in_ok-old.ensures.all in
    ok_map c.take_over.result (λ line. IsTakenOver c.deref.result.now old new line) (λ line. MigrateIs (input g.S.Source c.args.source.now) old new line)
    (λ line is. of_given (λ (image : List ℕ). IfSome old.content (λ bytes. TookOver image bytes new line)) (left c.args.source.now) taken gave.0
    (subst (λ (image : List ℕ). IsTakenOver image old new line) c.deref.ensures.value is)) c.take_over.ensures.taken

pub returns-clause-cause : goal.returns-clause-cause
returns-clause-cause g c =
    let S = g.S.Source in
    let D = g.N.Nvm in
    let i = input S c.args.source.now in
    let i' = input S c.take_all.new.source in
    let old = memory D c.args.nvm.now in
    let new = memory D c.take_over.new.nvm in
    let taken = c.in_ok-old.old.items in
    let gave = gave_all taken i.left i'.left c.in_ok-old.ensures.all in
    err_map c.take_over.result (λ f. IsTakingCause (λ P. P c.deref.result.now) old new f) (λ f. IsMigrateCause i i' old new f)
    (λ f cause. migrate_cause i i' taken old new f gave.0 gave.1
    (subst (λ (image : List ℕ). IsTakingCause (λ P. P image) old new f) c.deref.ensures.value cause)) c.take_over.ensures.cause

pub returns-clause-crash : goal.returns-clause-crash
returns-clause-crash g c = λ bytes image quiet left.
    let S = g.S.Source in
    let taken = c.in_ok-old.old.items in
    let gave = gave_all taken (S.left c.args.source.now) (S.left c.take_all.new.source) c.in_ok-old.ensures.all in
    of_given (λ (old : List ℕ). IsPartlyTaken old bytes image) (S.left c.args.source.now) taken gave.0
    (subst (λ (old : List ℕ). IsPartlyTaken old bytes image) c.deref.ensures.value (c.take_over.ensures.crash bytes image quiet left))

pub returns-clause-takes : goal.returns-clause-takes
returns-clause-takes g c =
    let S = g.S.Source in
    let few : length c.in_ok-old.old.items ≤ largest_trace + 1 = omega (arith, c.in_ok-old.ensures.within, c.in_ok-old.old.ok.0) in
    all_most (largest_trace + 1) c.in_ok-old.old.items (S.left c.args.source.now) (S.left c.take_all.new.source) few c.in_ok-old.ensures.all
