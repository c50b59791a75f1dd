use Rattle.std.proofs.Common.{arith, sym, subst}
use Rattle.edr_trace.specs.SoFar.{LeadsTo, LeavesLess}
use Rattle.edr_trace.specs.declared.steps.HowFar.{HowFar}
use Rattle.edr_trace.specs.declared.steps.Trace.{Trace}
use Rattle.edr_trace.proofs.ReadLemmas.{leads-none, leads-on, told-on}
use Rattle.edr_trace.proofs.take_lines.Goals as goal
use Rattle.edr_trace.proofs.take_lines.Goals.{After-take_plain_lines-rest}

-- the plain rows lead on
plain-leads : (c : After-take_plain_lines-rest) → LeadsTo c.args.bytes.now c.take_plain_lines-rest.result.now c.args.trace.now c.take_plain_lines-rest.new.trace c.args.progress.now c.take_plain_lines-rest.new.progress
plain-leads c =
    let l = c.loop-after in
    let p = c.take_plain_lines-rest in
    leads-on c.args.bytes.now l.rest.now p.result.now c.args.trace.now l.trace p.new.trace c.args.progress.now l.progress p.new.progress l.invariant.leads p.ensures.taken

pub loop-after-init : goal.loop-after-init
loop-after-init c = record { count = omega arith; leads = leads-none c.args.bytes.now c.args.trace.now c.args.progress.now }

pub take_plain_lines-rest-requires : goal.take_plain_lines-rest-requires
take_plain_lines-rest-requires c = omega (arith, c.loop-after.invariant.count, c.requires)

pub take_one-requires : goal.take_one-requires
take_one-requires c = omega (arith, c.take_plain_lines-rest.ensures.count, c.loop-after.invariant.count, c.requires)

pub returns-in-Ok-None-clause-taken : goal.returns-in-Ok-None-clause-taken
returns-in-Ok-None-clause-taken c =
    let p = c.take_plain_lines-rest in
    let same = c.in-Ok-None.ensures.none c.in-Ok-None.field-0-is in
    subst (λ (t : Trace). LeadsTo c.args.bytes.now p.result.now c.args.trace.now t c.args.progress.now c.take_one.new.progress) (sym same.0)
    (subst (λ (h : HowFar). LeadsTo c.args.bytes.now p.result.now c.args.trace.now p.new.trace c.args.progress.now h) (sym same.1)
    (plain-leads (goal.at.returns-in-Ok-None-clause-taken c).After-take_plain_lines-rest))

pub returns-in-Err-clause-refused : goal.returns-in-Err-clause-refused
returns-in-Err-clause-refused c =
    let p = c.take_plain_lines-rest in
    told-on c.args.bytes.now p.result.now c.args.trace.now p.new.trace c.args.progress.now p.new.progress c.in-Err.refused
    (plain-leads (goal.at.returns-in-Err-clause-refused c).After-take_plain_lines-rest) c.in-Err.ensures.refused

pub loop-after-preserved : goal.loop-after-preserved
loop-after-preserved c =
    let p = c.take_plain_lines-rest in
    let after = c.in-Ok-Some.after.now in
    let new = c.take_one.new in
    let taken : LeadsTo p.result.now after p.new.trace new.trace p.new.progress new.progress = rw c.in-Ok-Some.field-0-is at c.in-Ok-Some.ensures.taken in
    let count : LeavesLess p.result.now after p.new.progress new.progress = rw c.in-Ok-Some.field-0-is at c.in-Ok-Some.ensures.count in
    record {
      count = omega (arith, p.ensures.count, c.loop-after.invariant.count, count.0);
      leads = leads-on c.args.bytes.now p.result.now after c.args.trace.now p.new.trace new.trace c.args.progress.now p.new.progress new.progress
          (plain-leads (goal.at.loop-after-preserved c).After-take_plain_lines-rest) taken;
    }
