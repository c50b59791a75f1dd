use Rattle.edr_items.specs.SensorLists.{horizon_of}
use Rattle.edr_loops.proofs.LaneLemmas.{fast_lanes-later, part_lanes-later}
use Rattle.edr_drive.specs.Crews.{crew_feeds}
use Rattle.edr_seats.proofs.RingLemmas.{ring-later}
use Rattle.edr_drive.proofs.LentLemmas.{lent-back, lent-stands}
use Rattle.edr_loops.proofs.SenderLemmas.{all-begun}
use Rattle.edr_drive.proofs.driving.run_threads.Goals as goal

pub with_workers-back-requires-clause-begun : goal.with_workers-back-requires-clause-begun
with_workers-back-requires-clause-begun g c = λ κs h. (c.requires.beginning.tied (crew_feeds c.args.crew.now)).begun

pub with_workers-back-requires-clause-recording : goal.with_workers-back-requires-clause-recording
with_workers-back-requires-clause-recording g c = λ κs h. (c.args.recording.desk.core.cycle, 0, c.requires.beginning.stands 0)

pub returns-clause-ended : goal.returns-clause-ended
returns-clause-ended g c =
    let f = crew_feeds c.args.crew.now in
    let b = c.args.recording in
    let begins = c.requires.beginning in
    let tied = begins.tied f in
    let back = c.with_workers-back in
    let d = c.in-Some.desk in
    let same = (lent-back (horizon_of f) b.desk d back.new.desk c.in-Some.is back.ensures.later).same in
    record {
      stands = lent-stands b.desk.core.cycle (horizon_of f) b.desk d back.new.desk c.in-Some.is back.ensures.later (begins.stands (horizon_of f));
      tied = record {
        lanes = fast_lanes-later f b.senders.fast back.result.senders.fast b.desk.fast d.fast tied.lanes back.ensures.senders.fast same.fast;
        part_lanes = part_lanes-later f b.senders.slow back.result.senders.slow b.desk.parts d.parts tied.part_lanes back.ensures.senders.slow same.parts;
        begun = all-begun f b.senders back.result.senders back.ensures.senders;
        pair = ring-later b.desk.outbox d.outbox c.args.committer.now.inbox back.new.committer.inbox tied.pair same.outbox back.ensures.posts.ring;
        captures = tied.captures;
      };
    }
