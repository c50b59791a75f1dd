use Rattle.std.proofs.Common.{◌≡◌, Result, Ok, Err, IsOk}
use Rattle.edr_banks.specs.Formatting.{LacksMagic}
use Rattle.edr_cli.specs.Formats.{IsFormatCause, FormatIs}
use Rattle.edr_cli.specs.Endings.{IsServed}
use Rattle.edr_cli.specs.Outside.{memory}
use Rattle.edr_cli.proofs.EndingLemmas.{ends_fault, ends_text, served_text}
use Rattle.edr_cli.proofs.ImageLemmas.{if_each, told_is}
use Rattle.edr_cli.proofs.format.serve_format.Goals as goal

not_both : {T E : Type 0} (r : Result T E) (e : E) → r ≡ Err e → IsOk r → ⊥
not_both (Ok x) e is ok = absurd cc
not_both (Err y) e is ok = absurd cc

pub returns-in-Ok-clause-formats : goal.returns-in-Ok-clause-formats
returns-in-Ok-clause-formats g c =
    let K = g.K.Sink in
    let D = g.N.Nvm in
    let h = c.args.header in
    let old = memory D c.args.nvm.now in
    let new = memory D c.make_image.new.nvm in
    let s = c.write.result in
    let gains = rw c.as_bytes.ensures at c.write.ensures.gains in
    record {
      ends = ends_text K (FormatIs h old new) (IsFormatCause h old new) c.in-Ok.line s c.args.sink.now c.write.new.sink (c.in-Ok.ensures.made, c.in-Ok.ensures.line) gains;
      crash = c.make_image.ensures.crash;
      stays = c.make_image.ensures.stays;
      complete = λ quiet_device quiet room. if_each (λ bytes. LacksMagic bytes → IsServed s) (D.content c.args.nvm.now) (λ bytes told lacks. served_text K c.in-Ok.line s c.args.sink.now c.write.new.sink gains quiet);
    }

pub returns-in-Err-clause-formats : goal.returns-in-Err-clause-formats
returns-in-Err-clause-formats g c =
    let K = g.K.Sink in
    let D = g.N.Nvm in
    let h = c.args.header in
    let old = memory D c.args.nvm.now in
    let new = memory D c.make_image.new.nvm in
    let s = c.tell.result in
    record {
      ends = ends_fault K (FormatIs h old new) (IsFormatCause h old new) c.in-Err.fault s c.args.sink.now c.tell.new.sink c.in-Err.ensures.cause c.tell.ensures.gains;
      crash = c.make_image.ensures.crash;
      stays = c.make_image.ensures.stays;
      complete = λ quiet_device quiet room. if_each (λ bytes. LacksMagic bytes → IsServed s) (D.content c.args.nvm.now)
          (λ bytes told lacks. absurd (not_both c.make_image.result c.in-Err.fault c.in-Err.is (told_is (λ b. LacksMagic b → IsOk c.make_image.result) (D.content c.args.nvm.now) bytes told (c.make_image.ensures.complete quiet_device room) lacks)));
    }
