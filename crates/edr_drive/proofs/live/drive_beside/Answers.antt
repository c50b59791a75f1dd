use denote.Param.Send.{sendable}
use Rattle.std.proofs.Common.{subst, sym, ◌∙◌, List, ap}
use Rattle.edr_board.proofs.seats.Watch.TheSendSync as watch
use Rattle.edr_image.specs.declared.Ack.{Ack}
use Rattle.edr_cycle.specs.Ends.{MeetsCycle}
use Rattle.edr_live.specs.declared.ends.LiveReader.{LiveReader}
use Rattle.edr_live.specs.declared.shown.LiveView.{LiveView}
use Rattle.edr_live.specs.Ends.{opened_by, shown_by}
use Rattle.edr_live.proofs.SendLemmas.{reader_sends}
use Rattle.edr_live.specs.Shown.{shown_view}
use Rattle.edr_drive.specs.Crews.{crew_feeds}
use Rattle.edr_drive.specs.Following.{IsShownOf}
use Rattle.edr_drive.specs.Reading.{HasReadOn}
use Rattle.edr_drive.proofs.live.drive_beside.Goals as goal

pub returns-clause-cycle : goal.returns-clause-cycle
returns-clause-cycle g c =
    let N = g.N.Nvm in
    let b = c.args.beginning in
    subst (λ (acks : List Ack). MeetsCycle N.content N.settled N.since N.clock N.last_good (crew_feeds c.args.crew.now) b.recording.desk.core.cycle b.committer.ledger.banks.store c.drive_shown-failed.result.failed acks c.args.nvm.now c.drive_shown-failed.new.nvm)
    (sym c.told.ensures) c.drive_shown-failed.ensures.cycle

pub returns-clause-last : goal.returns-clause-last
returns-clause-last g c =
    let f = crew_feeds c.args.crew.now in
    let b = c.args.beginning in
    let n = b.recording.desk.core.cycle in
    let v = b.committer.ledger.banks.store in
    let shown = c.drive_shown-failed.result in
    let after = c.tell.new.self in
    let view = c.close-last.ensures ∙ ap (λ (u : LiveView). shown_view u (shown_by after)) c.tell.ensures.banks ∙ ap (shown_view (opened_by shown.writer)) c.tell.ensures.shown in
    let last = subst (λ (u : LiveView). IsShownOf v f n shown.log.acks u shown.cut) (sym view) c.drive_shown-failed.ensures.shown in
    let told = subst (λ (acks : List Ack). IsShownOf v f n acks c.close-last.result shown.cut) (sym c.told.ensures) last in
    record { within = told.within; count = told.count; views = told.views; all = told.all }

-- a reader may go to another thread
pub spawn_with-thread-requires-send-F : goal.spawn_with-thread-requires-send-F
spawn_with-thread-requires-send-F g c κs within = search (sendable, watch.the_field_send, reader_sends) depth 20

pub spawn_with-thread-requires-send-T : goal.spawn_with-thread-requires-send-T
spawn_with-thread-requires-send-T g c κs within = search (sendable, reader_sends) depth 20

pub spawn_with-thread-requires-clause-keeps : goal.spawn_with-thread-requires-clause-keeps
spawn_with-thread-requires-clause-keeps g c κs within = λ r kept. subst (λ (b : LiveReader). HasReadOn b r) (sym c.of.ensures) kept
