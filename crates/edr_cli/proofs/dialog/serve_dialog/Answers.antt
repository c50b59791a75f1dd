use Rattle.std.proofs.Common.{◌+◌, inl, inr, refl}
use Rattle.edr_banks.specs.Opening.{view_when_opened}
use Rattle.edr_spell.specs.Spell.{largest_trace}
use Rattle.edr_cli.specs.Faults.{fault_line}
use Rattle.edr_cli.specs.Outside.{input, memory}
use Rattle.edr_cli.proofs.CompletenessLemmas.{image_only_memory}
use Rattle.edr_cli.proofs.DialogLemmas.{talk_only_ok}
use Rattle.edr_cli.proofs.EndingLemmas.{served_fault}
use Rattle.edr_cli.proofs.TakingLemmas.{gives_most}
use Rattle.edr_cli.proofs.dialog.serve_dialog.Goals as goal

pub returns-in-Ok-clause-talks : goal.returns-in-Ok-clause-talks
returns-in-Ok-clause-talks g c =
    let S = g.S.Source in
    let t = c.talk.ensures.talked in
    record {
      text = t.text;
      text_is = inl (record {
        view = view_when_opened c.in-Ok.banks;
        view_is = λ image told. (c.in-Ok.ensures.found image told).view_is;
        bytes = t.bytes;
        taken = t.taken;
        said = t.said;
      });
      whole = t.whole;
      part = λ failed. (t.part failed).0;
      stays = c.open_settled.ensures.stays;
      keeps = c.open_settled.ensures.keeps;
      complete = λ image bytes told none left few well calm quiet_device quiet.
          inl (talk_only_ok (input S c.args.source.now) (input S c.talk.new.source) (view_when_opened c.in-Ok.banks) t.bytes bytes t.text c.talk.result left t.taken few well calm
          (λ failed. quiet (t.part failed).1) t.said);
    }

pub returns-in-Ok-clause-takes : goal.returns-in-Ok-clause-takes
returns-in-Ok-clause-takes g c =
    let left = g.S.Source.left in
    let t = c.talk.ensures.talked in
    gives_most (largest_trace + 1) t.bytes (left c.args.source.now) (left c.talk.new.source) t.few t.taken

pub returns-in-Err-clause-talks : goal.returns-in-Err-clause-talks
returns-in-Err-clause-talks g c =
    let K = g.K.Sink in
    let D = g.N.Nvm in
    let f = c.in-Err.fault in
    let s = c.tell.result in
    let gains = c.tell.ensures.gains in
    record {
      text = fault_line f;
      text_is = inr (record { fault = f; cause = c.in-Err.ensures.cause; end_is = gains.answers; text_is = refl; untaken = refl });
      whole = λ fine. (gains.whole fine).1;
      part = λ failed. (gains.part failed).0;
      stays = c.open_settled.ensures.stays;
      keeps = c.open_settled.ensures.keeps;
      complete = λ image bytes told none left few well calm quiet_device quiet.
          served_fault K f s c.args.sink.now c.tell.new.sink (image_only_memory (memory D c.args.nvm.now) (memory D c.open_settled.new.nvm) f image told none quiet_device c.in-Err.ensures.cause) gains quiet;
    }
