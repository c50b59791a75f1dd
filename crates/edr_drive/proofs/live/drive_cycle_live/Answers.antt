use Rattle.std.proofs.Common.{arith, refl, subst, sym, ◌≡◌, ◌≤◌, ℕ}
use Rattle.std.specs.Arc.{arc_value}
use Rattle.edr_device.proofs.LendingLemmas.{tells_self}
use Rattle.edr_banks.specs.Opened.{OpenedBanks}
use Rattle.edr_image.specs.Image.{image_size}
use Rattle.edr_cycle.specs.Ends.{MeetsCycle}
use Rattle.edr_drive.specs.Beginnings.{IsBeginning}
use Rattle.edr_drive.specs.Live.{IsLastOf}
use Rattle.edr_drive.proofs.RemainLemmas.{desk-cycle}
use Rattle.edr_drive.proofs.live.drive_cycle_live.Goals as goal

-- no memory: nothing was done
pub returns-in_err-beginning-clause-lent : goal.returns-in_err-beginning-clause-lent
returns-in_err-beginning-clause-lent g c = record { size = refl; device = g.met.N.Nvm.goes_on_self c.args.nvm.now; tells = tells_self (g.N.Nvm.content c.args.nvm.now); later = omega arith }

pub returns-in_err-readership-clause-lent : goal.returns-in_err-readership-clause-lent
returns-in_err-readership-clause-lent g c = record { size = refl; device = g.met.N.Nvm.goes_on_self c.args.nvm.now; tells = tells_self (g.N.Nvm.content c.args.nvm.now); later = omega arith }

pub drive_beside-requires-clause-can : goal.drive_beside-requires-clause-can
drive_beside-requires-clause-can g c = λ κs h.
    let b = c.in_ok-beginning.beginning in
    let begins = c.in_ok-beginning.ensures.begins in
    let starts = c.in_ok-beginning.ensures.starts in
    let same = sym (desk-cycle c.args.started.number 0 b.recording.desk (begins.stands 0)) in
    let ticks = c.requires.ticks in
    let room = starts.room in
    record {
      beginning = subst (λ (m : ℕ). IsBeginning m b.recording b.committer.inbox) same begins;
      counted = subst (λ (m : ℕ). 1 ≤ m) same starts.counted;
      rests = starts.none_held;
      live = starts.live;
      empty = starts.empty;
      no_command = starts.no_command;
      room = omega (arith, ticks, room);
      size = subst (λ (o : OpenedBanks). image_size o.store.header.banks ≤ g.N.Nvm.extent c.args.nvm.now) (sym starts.banks_are) c.requires.size;
    }

pub returns-clause-cycle : goal.returns-clause-cycle
returns-clause-cycle g c =
    let N = g.N.Nvm in
    let n = c.args.started.number in
    let f = arc_value c.args.feeds.now in
    let b = c.in_ok-beginning.beginning in
    let cycle : b.recording.desk.core.cycle ≡ n = desk-cycle n 0 b.recording.desk (c.in_ok-beginning.ensures.begins.stands 0) in
    let e = c.drive_beside.result in
    subst (λ (o : OpenedBanks). MeetsCycle N.content N.settled N.since N.clock N.last_good f n o.store e.end.failed e.end.log.acks c.args.nvm.now c.drive_beside.new.nvm) c.in_ok-beginning.ensures.starts.banks_are
    (subst (λ (m : ℕ). MeetsCycle N.content N.settled N.since N.clock N.last_good f m b.committer.ledger.banks.store e.end.failed e.end.log.acks c.args.nvm.now c.drive_beside.new.nvm) cycle c.drive_beside.ensures.cycle)

pub returns-clause-last : goal.returns-clause-last
returns-clause-last g c =
    let n = c.args.started.number in
    let f = arc_value c.args.feeds.now in
    let b = c.in_ok-beginning.beginning in
    let cycle : b.recording.desk.core.cycle ≡ n = desk-cycle n 0 b.recording.desk (c.in_ok-beginning.ensures.begins.stands 0) in
    let e = c.drive_beside.result in
    subst (λ (o : OpenedBanks). IsLastOf o.store f n e) c.in_ok-beginning.ensures.starts.banks_are
    (subst (λ (m : ℕ). IsLastOf b.committer.ledger.banks.store f m e) cycle c.drive_beside.ensures.last)
