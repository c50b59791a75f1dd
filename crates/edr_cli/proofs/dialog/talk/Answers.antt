use Rattle.std.proofs.Common.{◌≡◌, ◌∙◌, ◌++◌, ◌∷◌, [], ◌+◌, ◌≤◌, ℕ, Bool, false, inl, List, Option, Ok, take, subst, sym, ap, arith, refl}
use Rattle.edr_device.specs.Stream.{Appends}
use Rattle.edr_device.specs.Told.{Told}
use Rattle.edr_banks.specs.Opening.{view_when_opened}
use Rattle.edr_dialog.specs.declared.dialog.Fed.{Fed}
use Rattle.edr_dialog.specs.Answers.{FedLeaves, StandsInside}
use Rattle.edr_dialog.specs.Replies.{DialogStand, SaidBye, HasRefused, replies, stand_of}
use Rattle.edr_dialog.specs.Stages.{HasHeard}
use Rattle.edr_cli.specs.declared.fault.Fault.TheVariants as fault
use Rattle.edr_cli.specs.declared.status.Status.TheVariants as status
use Rattle.edr_cli.specs.Dialogs.{StoodFirst, TakesByte}
use Rattle.edr_cli.proofs.DialogLemmas.{Replied, byte_more, none_more, none_put, none_taken, talked_broken, talked_part, talked_whole}
use Rattle.edr_cli.proofs.dialog.talk.Given.{Over}
use Rattle.edr_cli.proofs.dialog.talk.Goals as goal
use Rattle.edr_cli.proofs.dialog.talk.Goals.{After-put_all, in-More, in-Reply}

pub loop-taken-init : goal.loop-taken-init
unfolding stand_of
loop-taken-init g c =
    let S = g.S.Source in
    let K = g.K.Sink in (
      record {
        bytes = [];
        long = refl;
        heard = c.new-dialog.ensures;
        taken = none_taken (S.left c.args.source.now);
        told = none_put (view_when_opened c.args.banks.now) (K.content c.args.sink.now);
        source_later = omega arith;
        sink_later = omega arith;
      },
      subst (λ (x : DialogStand). StandsInside x false) (sym c.new-dialog.ensures.stand) refl,
    )

-- the source failed
pub returns-in-Err : goal.returns-in-Err
returns-in-Err g c =
    let S = g.S.Source in
    let K = g.K.Sink in
    let v = view_when_opened c.args.banks.now in
    let so = c.loop-taken.invariant.0 in
    let none = c.in-Err.ensures {u = tt} in
    let r = none_more S K v c.args.source.now c.loop-taken.source c.take_byte.new.source c.args.sink.now c.loop-taken.sink c.loop-taken.dialog c.loop-taken.taken so none.takes.0 none.later in
    record {
      talked = talked_broken S K v c.tell.result c.args.source.now c.take_byte.new.source c.args.sink.now c.loop-taken.sink c.tell.new.sink c.loop-taken.dialog c.loop-taken.taken fault.Read r
          (omega (arith, c.loop-taken-test.true)) (omega (arith, so.source_later, none.takes.1), refl) c.tell.ensures.gains;
    }

-- what was fed, in the bytes that were put
fed_in : (g : Over) (c : After-put_all g) (bytes : List ℕ) → HasHeard (view_when_opened c.args.banks.now) bytes c.loop-taken.dialog
    → (replies (view_when_opened c.args.banks.now) (bytes ++ c.in-Ok-Some.byte ∷ []) ≡ replies (view_when_opened c.args.banks.now) bytes ++ take c.reply_len.result c.feed-fed.new.out)
    × HasHeard (view_when_opened c.args.banks.now) (bytes ++ c.in-Ok-Some.byte ∷ []) c.feed-fed.new.self
fed_in g c bytes heard =
    let v = view_when_opened c.args.banks.now in
    let fed = c.feed-fed.ensures.replies v bytes heard in
    (fed.0 ∙ ap (λ (m : ℕ). replies v bytes ++ take m c.feed-fed.new.out) (sym c.reply_len.ensures), fed.1)

-- the byte that was taken
took : (g : Over) (c : After-put_all g) → Told (StoodFirst (c.in-Ok-Some.byte ∷ [])) (g.S.Source.left c.loop-taken.source) (g.S.Source.left c.take_byte.new.source)
took g c = subst (λ (b : Option ℕ). TakesByte g.S.Source (Ok b) c.loop-taken.source c.take_byte.new.source) c.in-Ok-Some.field-0-is (c.in-Ok-Some.ensures {u = tt}).takes

-- a write failed
pub returns-in-Err-put_all : goal.returns-in-Err-put_all
returns-in-Err-put_all g c =
    let S = g.S.Source in
    let K = g.K.Sink in
    let v = view_when_opened c.args.banks.now in
    let here = (goal.at.returns-in-Err-put_all g c).After-put_all in
    let put = c.in-Err-put_all.ensures {u = tt} in
    record {
      talked = talked_part S K v c.args.source.now c.loop-taken.source c.take_byte.new.source c.args.sink.now c.loop-taken.sink c.put_all.new.sink c.loop-taken.dialog c.feed-fed.new.self
          c.loop-taken.taken c.in-Ok-Some.byte c.reply_len.result c.feed-fed.new.out c.loop-taken.invariant.0 (omega (arith, c.loop-taken-test.true)) (took g here) c.take_byte.ensures.later
          (fed_in g here) put.err put.cause.failed put.cause.later;
    }

-- the reply was put
put : (g : Over) (c : After-put_all g) → Told (Appends (take c.reply_len.result c.feed-fed.new.out)) (g.K.Sink.content c.loop-taken.sink) (g.K.Sink.content c.put_all.new.sink)
    → g.K.Sink.faults c.loop-taken.sink ≤ g.K.Sink.faults c.put_all.new.sink
    → Replied g.S.Source g.K.Sink (view_when_opened c.args.banks.now) c.args.source.now c.take_byte.new.source c.args.sink.now c.put_all.new.sink c.feed-fed.new.self (c.loop-taken.taken + 1)
put g c wrote later =
    byte_more g.S.Source g.K.Sink (view_when_opened c.args.banks.now) c.args.source.now c.loop-taken.source c.take_byte.new.source c.args.sink.now c.loop-taken.sink c.put_all.new.sink
    c.loop-taken.dialog c.feed-fed.new.self c.loop-taken.taken c.in-Ok-Some.byte c.reply_len.result c.feed-fed.new.out c.loop-taken.invariant.0 (took g c) c.take_byte.ensures.later
    (fed_in g c) wrote later

-- the dialog ended by a Bye
pub returns-in-Bye : goal.returns-in-Bye
returns-in-Bye g c =
    let r = put g (goal.at.returns-in-Bye g c).After-put_all (c.in-Ok.ensures {u = tt}).ok (c.in-Ok.ensures {u = tt}).cause.later in
    let bye : stand_of r.bytes ≡ SaidBye = sym r.heard.stand ∙ subst (λ (f : Fed). FedLeaves f c.feed-fed.new.self.stand) c.in-Bye.is c.feed-fed.ensures.leaves in
    record {
      talked = talked_whole g.S.Source g.K.Sink (view_when_opened c.args.banks.now) status.Ok c.args.source.now c.take_byte.new.source c.args.sink.now c.put_all.new.sink
          c.feed-fed.new.self (c.loop-taken.taken + 1) r (omega (arith, c.loop-taken-test.true)) differ (inl bye, inl bye, refl);
    } where
      differ : status.Ok ≡ status.WriteFault → ⊥
      differ e = cc

-- or by a refusal
pub returns-in-Refused : goal.returns-in-Refused
returns-in-Refused g c =
    let r = put g (goal.at.returns-in-Refused g c).After-put_all (c.in-Ok.ensures {u = tt}).ok (c.in-Ok.ensures {u = tt}).cause.later in
    let refused : stand_of r.bytes ≡ HasRefused = sym r.heard.stand ∙ subst (λ (f : Fed). FedLeaves f c.feed-fed.new.self.stand) c.in-Refused.is c.feed-fed.ensures.leaves in
    record {
      talked = talked_whole g.S.Source g.K.Sink (view_when_opened c.args.banks.now) status.Dialog c.args.source.now c.take_byte.new.source c.args.sink.now c.put_all.new.sink
          c.feed-fed.new.self (c.loop-taken.taken + 1) r (omega (arith, c.loop-taken-test.true)) differ (inl refused, refl);
    } where
      differ : status.Dialog ≡ status.WriteFault → ⊥
      differ e = cc

-- it goes on
pub loop-taken-preserved : goal.loop-taken-preserved
loop-taken-preserved g c =
    let t = c.feed-fed.new.self in (
      put g (goal.at.loop-taken-preserved g c).After-put_all (c.in-Ok.ensures {u = tt}).ok (c.in-Ok.ensures {u = tt}).cause.later,
      elim c.match-fed.branch [
        | in-More w ↦ subst (λ (i : Bool). StandsInside t.stand i) (sym w.inside-is) (subst (λ (f : Fed). FedLeaves f t.stand) w.in-More.is c.feed-fed.ensures.leaves)
        | in-Reply w ↦ subst (λ (i : Bool). StandsInside t.stand i) (sym w.inside-is) (subst (λ (f : Fed). FedLeaves f t.stand) w.in-Reply.is c.feed-fed.ensures.leaves)
      ],
    )

-- one byte too many was fed
pub returns : goal.returns
returns g c =
    let so = c.loop-taken.invariant.0 in
    record {
      talked = talked_broken g.S.Source g.K.Sink (view_when_opened c.args.banks.now) c.tell-2.result c.args.source.now c.loop-taken.source c.args.sink.now c.loop-taken.sink c.tell-2.new.sink
          c.loop-taken.dialog c.loop-taken.taken fault.TooLong so (omega (arith, c.loop-taken.auto)) (omega (arith, so.long, c.loop-taken.auto, c.loop-taken-test.false), refl) c.tell-2.ensures.gains;
    }
