use Rattle.edr_cli.specs.Migrations.{IsMigrateCause, MigrateIs}
use Rattle.edr_cli.specs.Outside.{input, memory}
use Rattle.edr_cli.proofs.EndingLemmas.{ends_fault, ends_text, not_ok, served_fault, served_text}
use Rattle.edr_cli.proofs.MigrationLemmas.{migrate_only_memory}
use Rattle.edr_cli.proofs.migrate.serve_migrate.Goals as goal

pub returns-in-Ok-clause-migrates : goal.returns-in-Ok-clause-migrates
returns-in-Ok-clause-migrates g c =
    let S = g.S.Source in
    let K = g.K.Sink in
    let D = g.N.Nvm in
    let i = input S c.args.source.now in
    let i' = input S c.migrate_source.new.source in
    let old = memory D c.args.nvm.now in
    let new = memory D c.migrate_source.new.nvm in
    let s = c.write.result in
    let gains = rw c.as_bytes.ensures at c.write.ensures.gains in
    record {
      at_end = λ ok. c.in-Ok.ensures.end;
      ends = ends_text K (MigrateIs i old new) (IsMigrateCause i i' old new) c.in-Ok.line s c.args.sink.now c.write.new.sink c.in-Ok.ensures.text gains;
      crash = c.migrate_source.ensures.crash;
      stays = c.migrate_source.ensures.stays;
      complete = λ can calm quiet_device quiet. served_text K c.in-Ok.line s c.args.sink.now c.write.new.sink gains quiet;
    }

pub returns-in-Err-clause-migrates : goal.returns-in-Err-clause-migrates
returns-in-Err-clause-migrates g c =
    let S = g.S.Source in
    let K = g.K.Sink in
    let D = g.N.Nvm in
    let i = input S c.args.source.now in
    let i' = input S c.migrate_source.new.source in
    let old = memory D c.args.nvm.now in
    let new = memory D c.migrate_source.new.nvm in
    let f = c.in-Err.fault in
    let s = c.tell.result in
    let gains = c.tell.ensures.gains in
    record {
      at_end = λ ok. absurd (not_ok f s ok gains.answers);
      ends = ends_fault K (MigrateIs i old new) (IsMigrateCause i i' old new) f s c.args.sink.now c.tell.new.sink c.in-Err.ensures.cause gains;
      crash = c.migrate_source.ensures.crash;
      stays = c.migrate_source.ensures.stays;
      complete = λ can calm quiet_device quiet.
          served_fault K f s c.args.sink.now c.tell.new.sink (migrate_only_memory i i' old new f can calm quiet_device c.in-Err.ensures.cause) gains quiet;
    }
