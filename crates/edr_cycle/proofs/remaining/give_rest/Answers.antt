use Rattle.std.proofs.Common.{arith, refl, ◌∙◌, ◌<◌, ◌≡◌, ℕ}
use Rattle.edr_items.specs.SensorLists.{SensorLists, horizon_of}
use Rattle.edr_core.specs.Answers.{commands_put}
use Rattle.edr_core.specs.SplitHistory.{History}
use Rattle.edr_core.specs.SplitContents.{SplitContents}
use Rattle.edr_device.specs.Faults.{Rose}
use Rattle.edr_device.proofs.SettlingLemmas.{on_err, tells_again}
use Rattle.edr_cycle.specs.Remaining.{IsOpenAt, RemainsAt}
use Rattle.edr_cycle.specs.declared.remaining.Remaining.{Remaining}
use Rattle.edr_cycle.proofs.AnsweredLemmas.{tells_self}
use Rattle.edr_cycle.proofs.RestRunLemmas.{rest-begins, rest-closes, rest-fails, rest-goes, rest-over, rest-room}
use Rattle.edr_cycle.proofs.remaining.give_rest.Goals as goal

-- where the loop goes on, some tick is still to be closed
still-open : (f : SensorLists) (n : ℕ) (h : History) (core : SplitContents) (rest : Remaining) (closed horizon : ℕ) → RemainsAt f n h core rest → closed ≡ h.past.closed → horizon ≡ horizon_of f → closed < horizon → IsOpenAt f n h core rest
still-open f n h core rest closed horizon at is end below = record { remains = at; below = omega (arith, is, end, below) }

-- at first nothing was given
pub loop-issued-init : goal.loop-issued-init
loop-issued-init g c =
    let N = g.N.Nvm in
    let L = g.L.Ledger in
    record {
      runs = rest-begins N.content N.settled N.since N.clock N.last_good c.args.feeds.now c.args.core.now.cycle c.args.core.now.closed (L.banks c.args.ledger.now) (L.log c.args.ledger.now) c.args.nvm.now c.args.core.now c.args.rest.now c.requires.remains refl;
      size = refl;
      later = omega arith;
      device = g.met.N.Nvm.goes_on_self c.args.nvm.now;
      tells = tells_self (N.content c.args.nvm.now);
    }

pub close-requires : goal.close-requires
close-requires g c =
    let run = c.loop-issued.invariant.runs in
    let f = c.args.feeds.now in
    let n = c.args.core.now.cycle in
    let h = run.history in
    (f, n, h, still-open f n h c.loop-issued.core c.loop-issued.rest c.closed.result c.horizon-horizon.result run.remains (c.closed.ensures h run.remains.core_is) c.horizon-horizon.ensures c.loop-issued-test.true)

-- a closed tick
pub commit_closed-requires-clause-room : goal.commit_closed-requires-clause-room
commit_closed-requires-clause-room g c =
    let N = g.N.Nvm in
    let L = g.L.Ledger in
    let run = c.loop-issued.invariant.runs in
    let f = c.args.feeds.now in
    let n = c.args.core.now.cycle in
    let h = run.history in
    let at = still-open f n h c.loop-issued.core c.loop-issued.rest c.closed.result c.horizon-horizon.result run.remains (c.closed.ensures h run.remains.core_is) c.horizon-horizon.ensures c.loop-issued-test.true in
    let leads = c.in-Closed.ensures.leads f n h at in
    let below = at.below in
    let next = leads.3 in
    rest-room N.content N.settled N.since N.clock N.last_good f n c.args.core.now.closed (L.banks c.args.ledger.now) (L.log c.args.ledger.now) c.args.nvm.now
    c.loop-issued.core c.loop-issued.rest (L.banks c.loop-issued.ledger) (L.log c.loop-issued.ledger) c.loop-issued.nvm run c.in-Closed.tick (commands_put c.in-Closed.issues c.close.new.issued) next leads.4
    (omega (arith, below, next)) c.requires.room

pub loop-issued-smaller-in-Continue-1 : goal.loop-issued-smaller-in-Continue-1
loop-issued-smaller-in-Continue-1 g c =
    let run = c.loop-issued.invariant.runs in
    let f = c.args.feeds.now in
    let n = c.args.core.now.cycle in
    let h = run.history in
    let at = still-open f n h c.loop-issued.core c.loop-issued.rest c.closed.result c.horizon-horizon.result run.remains (c.closed.ensures h run.remains.core_is) c.horizon-horizon.ensures c.loop-issued-test.true in
    let leads = c.in-Closed.ensures.leads f n h at in
    let below = at.below in
    let end = c.horizon-horizon.ensures in
    let to = leads.1 in
    let next = leads.3 in
    let before = run.remains.core_is.closed_is in
    let after = leads.2.core_is.closed_is in
    let fewer = c.in-Closed.ensures.fewer in
    omega (arith, below, end, to, next, before, after, fewer)

pub loop-issued-preserved-in-Continue-1 : goal.loop-issued-preserved-in-Continue-1
loop-issued-preserved-in-Continue-1 g c =
    let N = g.N.Nvm in
    let L = g.L.Ledger in
    let kept = c.loop-issued.invariant in
    let run = kept.runs in
    let f = c.args.feeds.now in
    let n = c.args.core.now.cycle in
    let h = run.history in
    let at = still-open f n h c.loop-issued.core c.loop-issued.rest c.closed.result c.horizon-horizon.result run.remains (c.closed.ensures h run.remains.core_is) c.horizon-horizon.ensures c.loop-issued-test.true in
    let leads = c.in-Closed.ensures.leads f n h at in
    let cause = c.commit_closed.ensures.lent.cause.later in
    let later = kept.later in
    record {
      runs = rest-closes N.content N.settled N.since N.clock N.last_good f n c.args.core.now.closed (L.banks c.args.ledger.now) (L.log c.args.ledger.now) c.args.nvm.now
          c.loop-issued.core c.loop-issued.rest (L.banks c.loop-issued.ledger) (L.log c.loop-issued.ledger) c.loop-issued.nvm run c.in-Closed.tick (commands_put c.in-Closed.issues c.close.new.issued) leads.3 leads.4
          c.close.new.core c.close.new.rest (L.banks c.commit_closed.new.ledger) (L.log c.commit_closed.new.ledger) c.commit_closed.new.nvm c.commit_closed.result _ leads.0 leads.1 leads.2 c.in_ok-commit_closed-in-Closed.was c.commit_closed.ensures.commits;
      size = c.commit_closed.ensures.lent.size ∙ kept.size;
      later = omega (arith, cause, later);
      device = g.met.N.Nvm.goes_on_again c.args.nvm.now c.loop-issued.nvm c.commit_closed.new.nvm kept.device c.commit_closed.ensures.lent.device;
      tells = tells_again _ _ _ kept.tells c.commit_closed.ensures.lent.tells;
    }

pub returns-in_err-commit_closed-in-Closed-clause-lent : goal.returns-in_err-commit_closed-in-Closed-clause-lent
returns-in_err-commit_closed-in-Closed-clause-lent g c =
    let kept = c.loop-issued.invariant in
    let end = c.commit_closed.ensures.lent in
    let N = g.N.Nvm in
    let L = g.L.Ledger in
    let rose : Rose (N.faults c.args.nvm.now) (N.faults c.commit_closed.new.nvm) = omega (arith, kept.later, c.in_err-commit_closed-in-Closed.ensures.lent.cause.failed) in
    record {
      size = end.size ∙ kept.size;
      device = g.met.N.Nvm.goes_on_again c.args.nvm.now c.loop-issued.nvm c.commit_closed.new.nvm kept.device end.device;
      tells = tells_again _ _ _ kept.tells end.tells;
      cause = record { later = omega (arith, kept.later, end.cause.later); failed = on_err _ rose };
    }

pub returns-in_err-commit_closed-in-Closed-clause-commits : goal.returns-in_err-commit_closed-in-Closed-clause-commits
returns-in_err-commit_closed-in-Closed-clause-commits g c =
    let N = g.N.Nvm in
    let L = g.L.Ledger in
    let run = c.loop-issued.invariant.runs in
    let f = c.args.feeds.now in
    let n = c.args.core.now.cycle in
    let h = run.history in
    let at = still-open f n h c.loop-issued.core c.loop-issued.rest c.closed.result c.horizon-horizon.result run.remains (c.closed.ensures h run.remains.core_is) c.horizon-horizon.ensures c.loop-issued-test.true in
    let leads = c.in-Closed.ensures.leads f n h at in
    let below = at.below in
    let next = leads.3 in
    rest-fails N.content N.settled N.since N.clock N.last_good f n c.args.core.now.closed (L.banks c.args.ledger.now) (L.log c.args.ledger.now) c.args.nvm.now
    c.loop-issued.core c.loop-issued.rest (L.banks c.loop-issued.ledger) (L.log c.loop-issued.ledger) c.loop-issued.nvm run c.in-Closed.tick (commands_put c.in-Closed.issues c.close.new.issued) next leads.4
    (L.banks c.commit_closed.new.ledger) (L.log c.commit_closed.new.ledger) c.commit_closed.new.nvm c.commit_closed.result c.from_residual.result _ (omega (arith, below, next)) c.in_err-commit_closed-in-Closed.was c.from_residual.ensures.0 c.commit_closed.ensures.commits

-- an item is given
pub give-requires : goal.give-requires
give-requires g c =
    let run = c.loop-issued.invariant.runs in
    let f = c.args.feeds.now in
    let n = c.args.core.now.cycle in
    let h = run.history in
    let at = still-open f n h c.loop-issued.core c.loop-issued.rest c.closed.result c.horizon-horizon.result run.remains (c.closed.ensures h run.remains.core_is) c.horizon-horizon.ensures c.loop-issued-test.true in
    let leads = c.in-Waiting.ensures.leads f n h at in
    (f, n, leads.0, leads.2)

pub loop-issued-smaller : goal.loop-issued-smaller
loop-issued-smaller g c =
    let run = c.loop-issued.invariant.runs in
    let f = c.args.feeds.now in
    let n = c.args.core.now.cycle in
    let h = run.history in
    let at = still-open f n h c.loop-issued.core c.loop-issued.rest c.closed.result c.horizon-horizon.result run.remains (c.closed.ensures h run.remains.core_is) c.horizon-horizon.ensures c.loop-issued-test.true in
    let leads = c.in-Waiting.ensures.leads f n h at in
    let went = c.give.ensures.goes f n leads.0 leads.2 in
    let first = leads.1 in
    let same = went.2.closed in
    let before = run.remains.core_is.closed_is in
    let after = went.1.core_is.closed_is in
    let fewer = c.in-Waiting.ensures.fewer in
    let less = c.give.ensures.fewer in
    omega (arith, first, same, before, after, fewer, less)

pub loop-issued-preserved : goal.loop-issued-preserved
loop-issued-preserved g c =
    let N = g.N.Nvm in
    let L = g.L.Ledger in
    let kept = c.loop-issued.invariant in
    let run = kept.runs in
    let f = c.args.feeds.now in
    let n = c.args.core.now.cycle in
    let h = run.history in
    let at = still-open f n h c.loop-issued.core c.loop-issued.rest c.closed.result c.horizon-horizon.result run.remains (c.closed.ensures h run.remains.core_is) c.horizon-horizon.ensures c.loop-issued-test.true in
    let leads = c.in-Waiting.ensures.leads f n h at in
    let went = c.give.ensures.goes f n leads.0 leads.2 in
    record {
      runs = rest-goes N.content N.settled N.since N.clock N.last_good f n c.args.core.now.closed (L.banks c.args.ledger.now) (L.log c.args.ledger.now) c.args.nvm.now
          c.loop-issued.core c.give.new.core c.loop-issued.rest c.give.new.rest (L.banks c.loop-issued.ledger) (L.log c.loop-issued.ledger) c.loop-issued.nvm run went.0 (went.2.closed ∙ leads.1) went.1;
      size = kept.size;
      later = kept.later;
      device = kept.device;
      tells = kept.tells;
    }

-- at the horizon
pub returns-clause-commits : goal.returns-clause-commits
returns-clause-commits g c =
    let N = g.N.Nvm in
    let L = g.L.Ledger in
    let run = c.loop-issued.invariant.runs in
    let is = c.closed.ensures run.history run.remains.core_is in
    let end = c.horizon-horizon.ensures in
    let past = c.loop-issued-test.false in
    rest-over N.content N.settled N.since N.clock N.last_good c.args.feeds.now c.args.core.now.cycle c.args.core.now.closed (L.banks c.args.ledger.now) (L.log c.args.ledger.now) c.args.nvm.now tt
    c.loop-issued.core c.loop-issued.rest (L.banks c.loop-issued.ledger) (L.log c.loop-issued.ledger) c.loop-issued.nvm run (omega (arith, is, end, past))
