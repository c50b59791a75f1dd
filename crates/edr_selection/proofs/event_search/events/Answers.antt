use Rattle.std.proofs.Common.{arith, sym, ◌∙◌, ◌+◌, ◌-◌}
use Rattle.edr_definitions.specs.Signals.{signals_of}
use Rattle.edr_definitions.specs.Selection.{is_time_zero}
use Rattle.edr_definitions.proofs.TickLaws.{first_tick-some}
use Rattle.edr_selection.proofs.SearchLemmas.{chain_from-none, chain_from-zero}
use Rattle.edr_selection.specs.Found.{bounds_of}
use Rattle.edr_selection.proofs.EventLemmas.{told_of-none, events_step}
use Rattle.edr_selection.proofs.event_search.events.Goals as goal

pub returns-in_default : goal.returns-in_default
returns-in_default c =
    told_of-none c.args.upto _ _ _
    (chain_from-none (signals_of c.args.feeds.now) c.args.upto (c.args.upto - c.loop-done._done) (bounds_of c.loop-done.from) (sym c.in_default.is ∙ c.next_zero.ensures))
    c.loop-done.invariant.all

pub step_at-step-requires : goal.step_at-step-requires
step_at-step-requires c =
    let found = first_tick-some (is_time_zero (signals_of c.args.feeds.now) (bounds_of c.loop-done.from)) (c.loop-done.from.after + 1) (c.args.upto + 1) c.in-Some.zero (sym c.next_zero.ensures ∙ c.in-Some.is) in
    omega (arith, found.1)

pub loop-done-preserved : goal.loop-done-preserved
loop-done-preserved c =
    let m = signals_of c.args.feeds.now in
    let upto = c.args.upto in
    let from = bounds_of c.loop-done.from in
    let found = first_tick-some (is_time_zero m from) (c.loop-done.from.after + 1) (upto + 1) c.in-Some.zero (sym c.next_zero.ensures ∙ c.in-Some.is) in
    record {
      near = omega (arith, found.1, c.step_at-step.ensures.near);
      all = events_step m upto c.loop-done._done c.in-Some.zero from (bounds_of c.step_at-step.result.next) c.loop-done.found.items c.put.new.found.items _ c.step_at-step.result.told c.loop-done-test.true (sym c.in-Some.is ∙ c.next_zero.ensures) c.step_at-step.ensures.told c.step_at-step.ensures.next c.in_ok-put.ensures c.loop-done.invariant.all;
    }

pub returns : goal.returns
returns c =
    told_of-none c.args.upto _ _ _
    (chain_from-zero (signals_of c.args.feeds.now) c.args.upto (c.args.upto - c.loop-done._done) (bounds_of c.loop-done.from) (omega arith))
    c.loop-done.invariant.all
