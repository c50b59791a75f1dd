use Rattle.std.proofs.Common.{◌∙◌, ap, subst}
use Rattle.edr_banks.specs.Opened.{OpenedBanks}
use Rattle.edr_run.specs.Cycle.{issues_in}
use Rattle.edr_cycle.specs.CycleLogged.{CycleLogged}
use Rattle.edr_cycle.specs.Ends.{MeetsCycle}
use Rattle.edr_cycle.proofs.EndingLemmas.{meets}
use Rattle.edr_live.specs.Ends.{opened_by, shown_by, view_shown}
use Rattle.edr_drive.specs.Crews.{crew_feeds}
use Rattle.edr_drive.specs.Following.{IsShownOf}
use Rattle.edr_drive.specs.Marks.{marked}
use Rattle.edr_drive.proofs.DrivenLemmas.{rose-if-failed}
use Rattle.edr_drive.proofs.FollowLemmas.{last-shown}
use Rattle.edr_drive.proofs.MarkLemmas.{marked-ends}
use Rattle.edr_drive.proofs.live_cycle.drive_shown.Goals as goal

pub returns-clause-cause : goal.returns-clause-cause
returns-clause-cause g c =
    rose-if-failed (g.N.Nvm.faults c.args.nvm.now) (g.N.Nvm.faults c.drive.new.nvm) c.drive.result c.is_err-failed.result c.is_err-failed.ensures.value c.drive.ensures.lent.cause

pub returns-clause-cycle : goal.returns-clause-cycle
returns-clause-cycle g c =
    let N = g.N.Nvm in
    let f = crew_feeds c.args.crew.now in
    let n = c.args.beginning.recording.desk.core.cycle in
    let before = c.new.result in
    let after = c.drive.new.committer.ledger in
    let same = c.new.ensures.books in
    subst (λ (o : OpenedBanks). MeetsCycle N.content N.settled N.since N.clock N.last_good f n o.store c.is_err-failed.result after.books.log.acks c.args.nvm.now c.drive.new.nvm) same.0
    (meets N.content N.settled N.since N.clock N.last_good g.met.N.Nvm.only_now f n c.requires.can.counted before.books.banks after.books.banks (ap (λ (o : OpenedBanks). o.held) same.0 ∙ c.requires.can.rests)
    (marked before.start.value before.books.log) (marked after.start.value after.books.log) (ap (λ (l : CycleLogged). l.acks) same.1 ∙ c.requires.can.empty) c.args.nvm.now c.drive.new.nvm
    c.drive.result c.is_err-failed.result c.is_err-failed.ensures.value c.drive.ensures.commits)

-- the mark of the log tells that what came back began with the same banks
pub returns-clause-shown : goal.returns-clause-shown
returns-clause-shown g c =
    let N = g.N.Nvm in
    let f = crew_feeds c.args.crew.now in
    let n = c.args.beginning.recording.desk.core.cycle in
    let before = c.new.result in
    let after = c.drive.new.committer.ledger in
    let same = c.new.ensures.books in
    let ends = marked-ends N.content N.settled N.since N.clock N.last_good before.start.value after.start.value (issues_in f n) before.books.banks after.books.banks before.books.log after.books.log c.args.nvm.now c.drive.new.nvm
    (ap (λ (l : CycleLogged). l.acks) same.1 ∙ c.requires.can.empty) (ap (λ (l : CycleLogged). l.commands) same.1 ∙ c.requires.can.no_command) c.drive.result c.drive.ensures.commits in
    subst (λ (o : OpenedBanks). IsShownOf o.store f n after.books.log.acks (view_shown after.showing.writer) after.showing.cut) (ends.start ∙ c.new.ensures.start)
    (last-shown after.start.value.store f n ends.m after.books.banks after.books.log.commands (opened_by after.showing.writer) (shown_by after.showing.writer) after.showing.cut after.books.log.acks ends.commands ends.long after.count
    (record { stands = after.stands; within = after.within; views = after.views; all = after.all }))
