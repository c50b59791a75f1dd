use Rattle.std.proofs.Common.{arith, ap, refl, ◌∙◌}
use Rattle.edr_items.specs.SensorLists.{items_of}
use Rattle.edr_core.specs.Answers.{commands_put}
use Rattle.edr_device.specs.Faults.{Rose}
use Rattle.edr_device.proofs.SettlingLemmas.{on_err, tells_again}
use Rattle.edr_cycle.proofs.AnsweredLemmas.{tells_self}
use Rattle.edr_cycle.proofs.RunStepLemmas.{closes-below, give-allowed, left_count, left_count-less, on_ok, room-left, closed-axes, run-axes, run-begins, run-closes, run-fails, run-gives, run-over}
use Rattle.edr_cycle.proofs.cycle_run.give_on.Goals as goal

-- at first nothing was given
pub loop-tick-init : goal.loop-tick-init
loop-tick-init g c =
    let N = g.N.Nvm in
    let L = g.L.Ledger in
    record {
      runs = run-begins N.content N.settled N.since N.clock N.last_good c.args.feeds.now c.args.core.now.cycle c.args.core.now.closed (L.banks c.args.ledger.now) (L.log c.args.ledger.now) c.args.nvm.now c.args.core.now c.args.left.now c.requires.given refl;
      size = refl;
      later = omega arith;
      device = g.met.N.Nvm.goes_on_self c.args.nvm.now;
      tells = tells_self (N.content c.args.nvm.now);
    }

-- a closed tick
pub commit_closed-requires-clause-room : goal.commit_closed-requires-clause-room
commit_closed-requires-clause-room g c =
    let N = g.N.Nvm in
    let L = g.L.Ledger in
    let n = c.args.core.now.cycle in
    let run = run-axes N.content N.settled N.since N.clock N.last_good c.args.feeds.now n c.args.core.now.closed (L.banks c.args.ledger.now) (L.log c.args.ledger.now) c.args.nvm.now c.loop-tick.core c.pass_on.new.core c.give_next.new.core c.give_next-in-loop-tick.new.core c.loop-tick.left c.pass_on.new.left c.give_next.new.left c.give_next-in-loop-tick.new.left (L.banks c.loop-tick.ledger) (L.log c.loop-tick.ledger) c.loop-tick.nvm c.loop-tick.invariant.runs (c.pass_on.ensures n c.loop-tick.invariant.runs.given.progress c.loop-tick.invariant.runs.given.core_is) c.give_next.ensures c.give_next-in-loop-tick.ensures in
    let p = run.given.progress in
    let step = c.in-Closed.ensures in
    room-left N.content N.settled N.since N.clock N.last_good c.args.feeds.now n c.args.core.now.closed (L.banks c.args.ledger.now) (L.log c.args.ledger.now) c.args.nvm.now c.requires.feeds c.requires.level
    c.give_next-in-loop-tick.new.core c.give_next-in-loop-tick.new.left (L.banks c.loop-tick.ledger) (L.log c.loop-tick.ledger) c.loop-tick.nvm c.in-Closed.tick (commands_put c.in-Closed.issues c.close.new.issued) run
    ((step.allowed n p run.given.core_is).0 tt) (step.commands n p run.given.core_is).0 (step.ticks n p run.given.core_is) c.requires.room

pub loop-tick-smaller-in-Continue-1 : goal.loop-tick-smaller-in-Continue-1
loop-tick-smaller-in-Continue-1 g c =
    let N = g.N.Nvm in
    let L = g.L.Ledger in
    let n = c.args.core.now.cycle in
    let run = run-axes N.content N.settled N.since N.clock N.last_good c.args.feeds.now n c.args.core.now.closed (L.banks c.args.ledger.now) (L.log c.args.ledger.now) c.args.nvm.now c.loop-tick.core c.pass_on.new.core c.give_next.new.core c.give_next-in-loop-tick.new.core c.loop-tick.left c.pass_on.new.left c.give_next.new.left c.give_next-in-loop-tick.new.left (L.banks c.loop-tick.ledger) (L.log c.loop-tick.ledger) c.loop-tick.nvm c.loop-tick.invariant.runs (c.pass_on.ensures n c.loop-tick.invariant.runs.given.progress c.loop-tick.invariant.runs.given.core_is) c.give_next.ensures c.give_next-in-loop-tick.ensures in
    let p = run.given.progress in
    let step = c.in-Closed.ensures in
    let may = (step.allowed n p run.given.core_is).0 tt in
    let below = closes-below N.content N.settled N.since N.clock N.last_good c.args.feeds.now n c.args.core.now.closed (L.banks c.args.ledger.now) (L.log c.args.ledger.now) c.args.nvm.now c.requires.feeds c.requires.level c.give_next-in-loop-tick.new.core c.give_next-in-loop-tick.new.left run.given may in
    let before = run.given.core_is.closed_is in
    let after = (step.stands n p run.given.core_is).closed_is in
    let axes = closed-axes N.content N.settled N.since N.clock N.last_good c.args.feeds.now n c.args.core.now.closed (L.banks c.args.ledger.now) (L.log c.args.ledger.now) c.args.nvm.now c.loop-tick.core c.pass_on.new.core c.give_next.new.core c.give_next-in-loop-tick.new.core c.loop-tick.left c.pass_on.new.left c.give_next.new.left c.give_next-in-loop-tick.new.left (L.banks c.loop-tick.ledger) (L.log c.loop-tick.ledger) c.loop-tick.nvm c.loop-tick.invariant.runs (c.pass_on.ensures n c.loop-tick.invariant.runs.given.progress c.loop-tick.invariant.runs.given.core_is) c.give_next.ensures c.give_next-in-loop-tick.ensures in
    let same = axes.0 in
    let fewer = axes.1 in
    omega (arith, below, before, after, same, fewer)

pub loop-tick-preserved-in-Continue-1 : goal.loop-tick-preserved-in-Continue-1
loop-tick-preserved-in-Continue-1 g c =
    let N = g.N.Nvm in
    let L = g.L.Ledger in
    let n = c.args.core.now.cycle in
    let kept = c.loop-tick.invariant in
    let run = run-axes N.content N.settled N.since N.clock N.last_good c.args.feeds.now n c.args.core.now.closed (L.banks c.args.ledger.now) (L.log c.args.ledger.now) c.args.nvm.now c.loop-tick.core c.pass_on.new.core c.give_next.new.core c.give_next-in-loop-tick.new.core c.loop-tick.left c.pass_on.new.left c.give_next.new.left c.give_next-in-loop-tick.new.left (L.banks c.loop-tick.ledger) (L.log c.loop-tick.ledger) c.loop-tick.nvm kept.runs (c.pass_on.ensures n kept.runs.given.progress kept.runs.given.core_is) c.give_next.ensures c.give_next-in-loop-tick.ensures in
    let p = run.given.progress in
    let step = c.in-Closed.ensures in
    let cause = c.commit_closed.ensures.lent.cause.later in
    let later = kept.later in
    record {
      runs = run-closes N.content N.settled N.since N.clock N.last_good c.args.feeds.now n c.args.core.now.closed (L.banks c.args.ledger.now) (L.log c.args.ledger.now) c.args.nvm.now
          c.give_next-in-loop-tick.new.core c.close.new.self c.give_next-in-loop-tick.new.left (L.banks c.loop-tick.ledger) (L.banks c.commit_closed.new.ledger) (L.log c.loop-tick.ledger) (L.log c.commit_closed.new.ledger) c.loop-tick.nvm c.commit_closed.new.nvm c.in-Closed.tick
          (commands_put c.in-Closed.issues c.close.new.issued) c.commit_closed.result _ run
          (step.stands n p run.given.core_is) ((step.allowed n p run.given.core_is).0 tt) (step.commands n p run.given.core_is).0 (step.ticks n p run.given.core_is) c.in_ok-commit_closed-in-Closed.was c.commit_closed.ensures.commits;
      size = c.commit_closed.ensures.lent.size ∙ kept.size;
      later = omega (arith, cause, later);
      device = g.met.N.Nvm.goes_on_again c.args.nvm.now c.loop-tick.nvm c.commit_closed.new.nvm kept.device c.commit_closed.ensures.lent.device;
      tells = tells_again _ _ _ kept.tells c.commit_closed.ensures.lent.tells;
    }

pub returns-in_err-commit_closed-in-Closed-clause-lent : goal.returns-in_err-commit_closed-in-Closed-clause-lent
returns-in_err-commit_closed-in-Closed-clause-lent g c =
    let kept = c.loop-tick.invariant in
    let end = c.commit_closed.ensures.lent in
    let N = g.N.Nvm in
    let L = g.L.Ledger in
    let rose : Rose (N.faults c.args.nvm.now) (N.faults c.commit_closed.new.nvm) = omega (arith, kept.later, c.in_err-commit_closed-in-Closed.ensures.lent.cause.failed) in
    record {
      size = end.size ∙ kept.size;
      device = g.met.N.Nvm.goes_on_again c.args.nvm.now c.loop-tick.nvm c.commit_closed.new.nvm kept.device end.device;
      tells = tells_again _ _ _ kept.tells end.tells;
      cause = record { later = omega (arith, kept.later, end.cause.later); failed = on_err _ rose };
    }

pub returns-in_err-commit_closed-in-Closed-clause-commits : goal.returns-in_err-commit_closed-in-Closed-clause-commits
returns-in_err-commit_closed-in-Closed-clause-commits g c =
    let N = g.N.Nvm in
    let L = g.L.Ledger in
    let n = c.args.core.now.cycle in
    let run = run-axes N.content N.settled N.since N.clock N.last_good c.args.feeds.now n c.args.core.now.closed (L.banks c.args.ledger.now) (L.log c.args.ledger.now) c.args.nvm.now c.loop-tick.core c.pass_on.new.core c.give_next.new.core c.give_next-in-loop-tick.new.core c.loop-tick.left c.pass_on.new.left c.give_next.new.left c.give_next-in-loop-tick.new.left (L.banks c.loop-tick.ledger) (L.log c.loop-tick.ledger) c.loop-tick.nvm c.loop-tick.invariant.runs (c.pass_on.ensures n c.loop-tick.invariant.runs.given.progress c.loop-tick.invariant.runs.given.core_is) c.give_next.ensures c.give_next-in-loop-tick.ensures in
    let p = run.given.progress in
    let step = c.in-Closed.ensures in
    run-fails N.content N.settled N.since N.clock N.last_good c.args.feeds.now n c.args.core.now.closed (L.banks c.args.ledger.now) (L.log c.args.ledger.now) c.args.nvm.now c.requires.feeds c.requires.level
    c.give_next-in-loop-tick.new.core c.give_next-in-loop-tick.new.left (L.banks c.loop-tick.ledger) (L.banks c.commit_closed.new.ledger) (L.log c.loop-tick.ledger) (L.log c.commit_closed.new.ledger) c.loop-tick.nvm c.commit_closed.new.nvm c.in-Closed.tick
    (commands_put c.in-Closed.issues c.close.new.issued) c.commit_closed.result c.from_residual.result _ run
    ((step.allowed n p run.given.core_is).0 tt) (step.commands n p run.given.core_is).0 (step.ticks n p run.given.core_is) c.in_err-commit_closed-in-Closed.was c.from_residual.ensures.0 c.commit_closed.ensures.commits

-- nothing is left of the sensor that is waited for
pub returns-in_default-clause-commits : goal.returns-in_default-clause-commits
returns-in_default-clause-commits g c =
    let N = g.N.Nvm in
    let L = g.L.Ledger in
    let n = c.args.core.now.cycle in
    let run = run-axes N.content N.settled N.since N.clock N.last_good c.args.feeds.now n c.args.core.now.closed (L.banks c.args.ledger.now) (L.log c.args.ledger.now) c.args.nvm.now c.loop-tick.core c.pass_on.new.core c.give_next.new.core c.give_next-in-loop-tick.new.core c.loop-tick.left c.pass_on.new.left c.give_next.new.left c.give_next-in-loop-tick.new.left (L.banks c.loop-tick.ledger) (L.log c.loop-tick.ledger) c.loop-tick.nvm c.loop-tick.invariant.runs (c.pass_on.ensures n c.loop-tick.invariant.runs.given.progress c.loop-tick.invariant.runs.given.core_is) c.give_next.ensures c.give_next-in-loop-tick.ensures in
    run-over N.content N.settled N.since N.clock N.last_good c.args.feeds.now n c.args.core.now.closed (L.banks c.args.ledger.now) (L.log c.args.ledger.now) c.args.nvm.now c.requires.feeds c.requires.level tt
    c.give_next-in-loop-tick.new.core c.give_next-in-loop-tick.new.left (L.banks c.loop-tick.ledger) (L.log c.loop-tick.ledger) c.loop-tick.nvm c.in-Waiting.sensor run (c.in-Waiting.ensures.waits n run.given.progress run.given.core_is) c.in_default.ensures.item

-- an item is given
pub unwrap-requires : goal.unwrap-requires
unwrap-requires g c =
    let N = g.N.Nvm in
    let L = g.L.Ledger in
    let n = c.args.core.now.cycle in
    let run = run-axes N.content N.settled N.since N.clock N.last_good c.args.feeds.now n c.args.core.now.closed (L.banks c.args.ledger.now) (L.log c.args.ledger.now) c.args.nvm.now c.loop-tick.core c.pass_on.new.core c.give_next.new.core c.give_next-in-loop-tick.new.core c.loop-tick.left c.pass_on.new.left c.give_next.new.left c.give_next-in-loop-tick.new.left (L.banks c.loop-tick.ledger) (L.log c.loop-tick.ledger) c.loop-tick.nvm c.loop-tick.invariant.runs (c.pass_on.ensures n c.loop-tick.invariant.runs.given.progress c.loop-tick.invariant.runs.given.core_is) c.give_next.ensures c.give_next-in-loop-tick.ensures in
    let may = give-allowed N.content N.settled N.since N.clock N.last_good c.args.feeds.now n c.args.core.now.closed (L.banks c.args.ledger.now) (L.log c.args.ledger.now) c.args.nvm.now c.requires.feeds c.requires.level
    c.give_next-in-loop-tick.new.core c.give_next-in-loop-tick.new.left run.given c.in-Waiting.sensor c.in-Some.item _ (c.in-Waiting.ensures.waits n run.given.progress run.given.core_is) c.in-Some.ensures.item in
    (c.accept.ensures.allowed n run.given.progress (c.in-Waiting.ensures.stands n run.given.progress run.given.core_is)).1 may

pub loop-tick-smaller : goal.loop-tick-smaller
loop-tick-smaller g c =
    let N = g.N.Nvm in
    let L = g.L.Ledger in
    let n = c.args.core.now.cycle in
    let run = run-axes N.content N.settled N.since N.clock N.last_good c.args.feeds.now n c.args.core.now.closed (L.banks c.args.ledger.now) (L.log c.args.ledger.now) c.args.nvm.now c.loop-tick.core c.pass_on.new.core c.give_next.new.core c.give_next-in-loop-tick.new.core c.loop-tick.left c.pass_on.new.left c.give_next.new.left c.give_next-in-loop-tick.new.left (L.banks c.loop-tick.ledger) (L.log c.loop-tick.ledger) c.loop-tick.nvm c.loop-tick.invariant.runs (c.pass_on.ensures n c.loop-tick.invariant.runs.given.progress c.loop-tick.invariant.runs.given.core_is) c.give_next.ensures c.give_next-in-loop-tick.ensures in
    let before = run.given.core_is.closed_is in
    let after = (on_ok c.accept.result c.unwrap.result c.unwrap.ensures c.accept.ensures.ok n run.given.progress (c.in-Waiting.ensures.stands n run.given.progress run.given.core_is)).closed_is in
    let others = ap left_count c.in-Some.ensures.others in
    let less = left_count-less c.in-Waiting.sensor c.in-Some.item (items_of c.in-Waiting.sensor c.next.new.self) c.give_next-in-loop-tick.new.left c.in-Some.ensures.item in
    let axes = closed-axes N.content N.settled N.since N.clock N.last_good c.args.feeds.now n c.args.core.now.closed (L.banks c.args.ledger.now) (L.log c.args.ledger.now) c.args.nvm.now c.loop-tick.core c.pass_on.new.core c.give_next.new.core c.give_next-in-loop-tick.new.core c.loop-tick.left c.pass_on.new.left c.give_next.new.left c.give_next-in-loop-tick.new.left (L.banks c.loop-tick.ledger) (L.log c.loop-tick.ledger) c.loop-tick.nvm c.loop-tick.invariant.runs (c.pass_on.ensures n c.loop-tick.invariant.runs.given.progress c.loop-tick.invariant.runs.given.core_is) c.give_next.ensures c.give_next-in-loop-tick.ensures in
    let same = axes.0 in
    let fewer = axes.1 in
    omega (arith, before, after, others, less, same, fewer)

pub loop-tick-preserved : goal.loop-tick-preserved
loop-tick-preserved g c =
    let N = g.N.Nvm in
    let L = g.L.Ledger in
    let n = c.args.core.now.cycle in
    let kept = c.loop-tick.invariant in
    let run = run-axes N.content N.settled N.since N.clock N.last_good c.args.feeds.now n c.args.core.now.closed (L.banks c.args.ledger.now) (L.log c.args.ledger.now) c.args.nvm.now c.loop-tick.core c.pass_on.new.core c.give_next.new.core c.give_next-in-loop-tick.new.core c.loop-tick.left c.pass_on.new.left c.give_next.new.left c.give_next-in-loop-tick.new.left (L.banks c.loop-tick.ledger) (L.log c.loop-tick.ledger) c.loop-tick.nvm kept.runs (c.pass_on.ensures n kept.runs.given.progress kept.runs.given.core_is) c.give_next.ensures c.give_next-in-loop-tick.ensures in
    let p = run.given.progress in
    let may = give-allowed N.content N.settled N.since N.clock N.last_good c.args.feeds.now n c.args.core.now.closed (L.banks c.args.ledger.now) (L.log c.args.ledger.now) c.args.nvm.now c.requires.feeds c.requires.level
    c.give_next-in-loop-tick.new.core c.give_next-in-loop-tick.new.left run.given c.in-Waiting.sensor c.in-Some.item _ (c.in-Waiting.ensures.waits n p run.given.core_is) c.in-Some.ensures.item in
    let stands = on_ok c.accept.result c.unwrap.result c.unwrap.ensures c.accept.ensures.ok n p (c.in-Waiting.ensures.stands n p run.given.core_is) in
    record {
      runs = run-gives N.content N.settled N.since N.clock N.last_good c.args.feeds.now n c.args.core.now.closed (L.banks c.args.ledger.now) (L.log c.args.ledger.now) c.args.nvm.now
          c.give_next-in-loop-tick.new.core c.accept.new.self c.give_next-in-loop-tick.new.left c.next.new.self (L.banks c.loop-tick.ledger) (L.log c.loop-tick.ledger) c.loop-tick.nvm c.in-Waiting.sensor c.in-Some.item run stands may c.in-Some.ensures.item c.in-Some.ensures.others;
      size = kept.size;
      later = kept.later;
      device = kept.device;
      tells = kept.tells;
    }
