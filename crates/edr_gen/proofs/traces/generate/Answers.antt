use Rattle.std.proofs.Common.{arith, ◌≡◌, ◌∙◌, ◌+◌, ◌-◌, [], List, ℕ, ap, sym, subst}
use Rattle.std.proofs.lemmas.Result.{err_from_is_err_and}
use Rattle.edr_spell.specs.Lines.{text_of}
use Rattle.edr_device.specs.Told.{Told}
use Rattle.edr_gen.specs.Traces.{generated_trace, rows_of}
use Rattle.edr_gen.specs.Draws.{state_past}
use Rattle.edr_gen.proofs.PuttingLemmas.{IsPutBut, put-all, put-more, put-part}
use Rattle.edr_gen.proofs.TraceLemmas.{no-trace, trace-next}
use Rattle.edr_gen.proofs.traces.generate.Goals as goal

pub returns-in_err-put_cycle-clause-err : goal.returns-in_err-put_cycle-clause-err
returns-in_err-put_cycle-clause-err g c =
    let K = g.K.Sink in
    let x : ℕ = c.loop-done.draws.state in
    let whole : List ℕ = generated_trace c.args.number c.args.cycles in
    let m : ℕ = c.args.cycles - (c.loop-done._done + 1) in
    let e = trace-next x m (c.args.cycles - c.loop-done._done) c.next_plan-plan.result (omega (arith, c.loop-done-test.true)) c.next_plan-plan.ensures.value in
    let before = subst (λ (rest : List ℕ). Told (IsPutBut whole rest) (K.content c.args.sink.now) (K.content c.loop-done.sink)) e c.loop-done.invariant.put in
    let err = err_from_is_err_and c.from_residual.result c.from_residual.ensures.1 in
    rw err.1 (put-part whole (text_of (rows_of c.next_plan-plan.result)) (generated_trace (state_past x) m) (K.content c.args.sink.now) (K.content c.loop-done.sink) (K.content c.put_cycle.new.sink) before c.in_err-put_cycle.ensures.err)

pub loop-done-preserved : goal.loop-done-preserved
loop-done-preserved g c =
    let K = g.K.Sink in
    let x : ℕ = c.loop-done.draws.state in
    let whole : List ℕ = generated_trace c.args.number c.args.cycles in
    let m : ℕ = c.args.cycles - (c.loop-done._done + 1) in
    let e = trace-next x m (c.args.cycles - c.loop-done._done) c.next_plan-plan.result (omega (arith, c.loop-done-test.true)) c.next_plan-plan.ensures.value in
    let before = subst (λ (rest : List ℕ). Told (IsPutBut whole rest) (K.content c.args.sink.now) (K.content c.loop-done.sink)) e c.loop-done.invariant.put in
    let after = put-more whole (text_of (rows_of c.next_plan-plan.result)) (generated_trace (state_past x) m) (K.content c.args.sink.now) (K.content c.loop-done.sink) (K.content c.put_cycle.new.sink) before c.in_ok-put_cycle.ensures.ok in
    record {
      put = subst (λ (s : ℕ). Told (IsPutBut whole (generated_trace s m)) (K.content c.args.sink.now) (K.content c.put_cycle.new.sink)) (sym c.next_plan-plan.ensures.state) after;
      later = omega (arith, c.loop-done.invariant.later, c.put_cycle.ensures.cause.later);
    }

pub returns-clause-ok : goal.returns-clause-ok
returns-clause-ok g c =
    let K = g.K.Sink in
    let whole : List ℕ = generated_trace c.args.number c.args.cycles in
    let none : c.args.cycles - c.loop-done._done ≡ 0 = omega (arith, c.loop-done-test.false) in
    let e : generated_trace c.loop-done.draws.state (c.args.cycles - c.loop-done._done) ≡ [] = ap (generated_trace c.loop-done.draws.state) none ∙ no-trace c.loop-done.draws.state in
    put-all whole (K.content c.args.sink.now) (K.content c.loop-done.sink) (subst (λ (rest : List ℕ). Told (IsPutBut whole rest) (K.content c.args.sink.now) (K.content c.loop-done.sink)) e c.loop-done.invariant.put)
