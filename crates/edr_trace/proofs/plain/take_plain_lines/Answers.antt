use Rattle.std.proofs.Common.{arith, refl, sym, subst, ◌+◌, true}
use Rattle.edr_trace.specs.SoFar.{LeadsTo, LeavesLess}
use Rattle.edr_trace.specs.declared.steps.Trace.{Trace}
use Rattle.edr_trace.proofs.ReadLemmas.{leads-none, leads-on, row-leads, row-counted}
use Rattle.edr_trace.proofs.plain.take_plain_lines.Goals as goal
use Rattle.edr_trace.proofs.plain.take_plain_lines.Goals.{In-Some}

-- the row leaves less
less : (c : In-Some) → LeavesLess c.loop-after.rest.now c.in-Some.after.now c.loop-after.progress (record { rows = c.loop-after.progress.rows + 1; begun = true })
less c = row-counted c.loop-after.rest.now c.in-Some.after.now c.loop-after.trace c.take_axis.new.trace c.loop-after.progress c.in-Some.ensures.taken

pub loop-after-init : goal.loop-after-init
loop-after-init c = record { count = omega arith; leads = leads-none c.args.bytes.now c.args.trace.now c.args.progress.now }

pub overflow_add-progress : goal.overflow_add-progress
overflow_add-progress c =
    let shorter = less c in
    omega (arith, shorter.0, c.loop-after.invariant.count, c.requires)

pub loop-after-smaller : goal.loop-after-smaller
loop-after-smaller c = (less (goal.at.loop-after-smaller c).In-Some).1

pub loop-after-preserved : goal.loop-after-preserved
loop-after-preserved c =
    let l = c.loop-after in
    let inv = l.invariant in
    let after = c.in-Some.after.now in
    let new = c.take_axis.new.trace in
    let shorter = less (goal.at.loop-after-preserved c).In-Some in
    record {
      count = omega (arith, shorter.0, inv.count);
      leads = leads-on c.args.bytes.now l.rest.now after c.args.trace.now l.trace new c.args.progress.now l.progress (record { rows = l.progress.rows + 1; begun = true })
          inv.leads (row-leads l.rest.now after l.trace new l.progress c.in-Some.ensures.taken);
    }

pub returns-in-None-clause-taken : goal.returns-in-None-clause-taken
returns-in-None-clause-taken c =
    let l = c.loop-after in
    subst (λ (t : Trace). LeadsTo c.args.bytes.now l.rest.now c.args.trace.now t c.args.progress.now l.progress) (sym (c.in-None.ensures.none refl)) l.invariant.leads
