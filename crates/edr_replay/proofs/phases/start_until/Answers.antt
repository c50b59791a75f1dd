use Rattle.std.proofs.Common.{rules, arith, ◌≡◌, ◌⊎◌, ◌+◌, ℕ, Err, subst}
use Rattle.edr_cycle.specs.declared.started.StartFault.TheVariants as fault
use Rattle.edr_replay.specs.declared.phases.StartedCycle.TheVariants.{Started, Stopped}
use Rattle.edr_device.specs.FuseLaws.{fuse_counts_now}
use Rattle.edr_replay.specs.Past.{LeavesPast}
use Rattle.edr_replay.specs.Phases.{BeginsAs, LeavesOfStart}
use Rattle.edr_replay.specs.Replayed.{IsTrulyRefused, IsTrulyShort, IsTrulySpent, LeftAlone, WantLeaves}
use Rattle.edr_replay.proofs.LeavingLemmas.{leaves_start, left_alone}
use Rattle.edr_replay.proofs.PastLemmas.{start_past}
use Rattle.edr_replay.proofs.StartPhaseLemmas.{at_err, begins_started, begins_stopped, none_planned, on_err_at, truly_refused, truly_short, truly_spent}
use Rattle.edr_replay.proofs.StopLemmas.{fuse_begins, fuse_planned, lent, not_reached, some_call, stop_is}
use Rattle.edr_replay.proofs.phases.start_until.Goals as goal

pub returns-in-Ok : goal.returns-in-Ok
returns-in-Ok g c =
    let D = g.N.Nvm in
    let armed = c.fused-fuse.result in
    let fuse = c.start-begun.new.nvm in
    let s = c.in-Ok.started in
    let start = c.in-Ok.ensures in
    let planned = fuse_planned c.args.stop armed fuse c.fused-fuse.ensures.state start.lent.device in
    let begins = fuse_begins c.args.stop armed c.fused-fuse.ensures.state in
    let none = none_planned c.args.stop armed.ticks fuse.ticks fuse.last_good c.requires begins (not_reached c.args.stop _ _ _ planned (λ some. start.cycle.time.ok.1)) start.cycle.time.ok in record {
      lent = search rules;
      ran = lent (λ a b. BeginsAs (Started s) c.args.stop c.args.ticks (D.extent a) (D.content a) (D.settled a) (D.content b) (D.settled b)) c.args.nvm.now armed.nvm.now fuse.nvm.now _ (search rules) (search rules)
          (none, start.finds.ticks, start.finds.fits, begins_started s.banks.store s.number (D.content armed.nvm.now) (D.settled armed.nvm.now) (D.content fuse.nvm.now) (D.settled fuse.nvm.now) start.finds.number.0 start.finds.number.1 start.finds.found start.made);
      refused = tt;
      short = tt;
      fault = tt;
      spent = tt;
      memory = tt;
      left = tt;
      past = lent (λ a b. LeavesPast (D.content a) (D.settled a) (D.content b) (D.settled b)) c.args.nvm.now armed.nvm.now fuse.nvm.now _ (search rules) (search rules)
          (start_past (D.content armed.nvm.now) (D.settled armed.nvm.now) (D.content fuse.nvm.now) (D.settled fuse.nvm.now)
          (λ bytes image v found may. c.start-begun.ensures.cycle.each bytes image v found (fuse_counts_now fuse armed.ticks image (λ u within left. g.met.N.Nvm.counts_now fuse.nvm.now u image within left) may)));
    }

pub returns-in-Err-StoreFault : goal.returns-in-Err-StoreFault
returns-in-Err-StoreFault g c =
    let D = g.N.Nvm in
    let armed = c.fused-fuse.result in
    let fuse = c.start-begun.new.nvm in
    let start = c.start-begun.ensures in
    let r = c.start-begun.result in
    let told = c.in-Err-StoreFault.is in
    let which = c.in-Err-StoreFault.field-0-is in
    let is : r ≡ Err fault.StoreFault = search rules in
    let cut = c.was_cut-cut.ensures.planned c.if-cut.true in
    let planned = fuse_planned c.args.stop armed fuse c.fused-fuse.ensures.state start.lent.device in
    let begins = fuse_begins c.args.stop armed c.fused-fuse.ensures.state in
    let some = some_call c.args.stop _ _ _ planned cut.0 in
    let few = on_err_at r _ is start.cycle.time.few in
    let last = on_err_at r _ is start.cycle.time.last (omega (arith, begins, some)) (omega (arith, begins, few)) in
    let at = stop_is c.args.stop _ _ _ planned cut.0 (subst (λ (k : ℕ). (fuse.ticks ≡ k + 1) ⊎ (fuse.ticks ≡ fuse.last_good + 1)) begins last) in record {
      lent = search rules;
      ran = lent (λ a b. BeginsAs Stopped c.args.stop c.args.ticks (D.extent a) (D.content a) (D.settled a) (D.content b) (D.settled b)) c.args.nvm.now armed.nvm.now fuse.nvm.now _ (search rules) (search rules) (
        omega (arith, at, some),
        begins_stopped c.args.stop armed.ticks fuse.ticks (D.content armed.nvm.now) (D.settled armed.nvm.now) (D.content fuse.nvm.now) (D.settled fuse.nvm.now) begins at start.lent.tells
            (fuse.quiet cut.0 cut.1) (at_err r fault.StoreFault _ is start.finds.spent tt) (on_err_at r _ is start.cycle.stopped),
      );
      refused = tt;
      short = tt;
      fault = tt;
      spent = tt;
      memory = tt;
      left = tt;
      past = lent (λ a b. LeavesPast (D.content a) (D.settled a) (D.content b) (D.settled b)) c.args.nvm.now armed.nvm.now fuse.nvm.now _ (search rules) (search rules)
          (start_past (D.content armed.nvm.now) (D.settled armed.nvm.now) (D.content fuse.nvm.now) (D.settled fuse.nvm.now)
          (λ bytes image v found may. c.start-begun.ensures.cycle.each bytes image v found (fuse_counts_now fuse armed.ticks image (λ u within left. g.met.N.Nvm.counts_now fuse.nvm.now u image within left) may)));
    }

pub returns-in-Err : goal.returns-in-Err
returns-in-Err g c =
    let D = g.N.Nvm in
    let armed = c.fused-fuse.result in
    let fuse = c.start-begun.new.nvm in
    let e = c.in-Err.fault in
    let start = c.in-Err.ensures in record {
      lent = search rules;
      ran = tt;
      refused = subst (λ d. IsTrulyRefused (D.content d) (D.settled d) e) c.fused-fuse.ensures.now
          (truly_refused e (D.content armed.nvm.now) (D.settled armed.nvm.now) start.finds.refused);
      short = subst (λ d. IsTrulyShort (D.extent d) e) c.fused-fuse.ensures.now
          (truly_short c.start-begun.result e (D.extent armed.nvm.now) c.in-Err.is start.finds.sizes c.start-begun.ensures.finds.short);
      fault = search rules;
      spent = lent (λ a b. IsTrulySpent (D.content a) (D.settled a) (D.content b) (D.settled b) e) c.args.nvm.now armed.nvm.now fuse.nvm.now _ (search rules) (search rules)
          (truly_spent e (D.content armed.nvm.now) (D.settled armed.nvm.now) (D.content fuse.nvm.now) (D.settled fuse.nvm.now) _ _ start.finds.spent (λ early. (start.early early).2));
      memory = lent (λ a b. WantLeaves LeftAlone (D.content a) (D.settled a) (D.content b) (D.settled b) e) c.args.nvm.now armed.nvm.now fuse.nvm.now _ (search rules) (search rules)
          (left_alone e (D.content armed.nvm.now) (D.settled armed.nvm.now) (D.content fuse.nvm.now) (D.settled fuse.nvm.now) _ _ (λ early. (start.early early).2));
      left = lent (λ a b. LeavesOfStart (D.content a) (D.settled a) (D.content b) (D.settled b)) c.args.nvm.now armed.nvm.now fuse.nvm.now _ (search rules) (search rules)
          (leaves_start e armed.ticks fuse.ticks (D.content armed.nvm.now) (D.settled armed.nvm.now) (D.content fuse.nvm.now) (D.settled fuse.nvm.now) start.finds.spent (λ early. (start.early early).0)
          start.cycle.time.few start.cycle.stopped);
      past = lent (λ a b. LeavesPast (D.content a) (D.settled a) (D.content b) (D.settled b)) c.args.nvm.now armed.nvm.now fuse.nvm.now _ (search rules) (search rules)
          (start_past (D.content armed.nvm.now) (D.settled armed.nvm.now) (D.content fuse.nvm.now) (D.settled fuse.nvm.now)
          (λ bytes image v found may. c.start-begun.ensures.cycle.each bytes image v found (fuse_counts_now fuse armed.ticks image (λ u within left. g.met.N.Nvm.counts_now fuse.nvm.now u image within left) may)));
    }
