use Rattle.std.proofs.Common.{arith, ◌≡◌, ◌∙◌, ◌+◌, ◌*◌, ◌-◌, ◌<◌, ◌≤◌, ◌++◌, [], ◌∷◌, List, ℕ, ap, sym, subst, length}
use Rattle.std.proofs.lemmas.Result.{err_from_is_err_and, on_err_weaker, on_ok_weaker}
use Rattle.edr_spell.specs.declared.Row.TheVariants as row
use Rattle.edr_spell.specs.Lines.{text_of}
use Rattle.edr_spell.specs.Samples.{Sample}
use Rattle.edr_gen.specs.declared.plan.Impulse.{Impulse}
use Rattle.edr_device.specs.Told.{Told}
use Rattle.edr_gen.specs.Draws.{Planned}
use Rattle.edr_gen.specs.Cycles.{samples_after}
use Rattle.edr_gen.specs.Texts.{samples_text}
use Rattle.edr_gen.specs.Traces.{rows_of}
use Rattle.edr_gen.proofs.PuttingLemmas.{IsPutBut, put-all, put-more, put-part}
use Rattle.edr_gen.proofs.TextLemmas.{no-samples, page-next, pages-next, page-done}
use Rattle.edr_gen.proofs.traces.put_cycle.Goals as goal

-- the rows of the page's ticks, and what follows them in the cycle
abbrev ticks : List Impulse → ℕ → List ℕ
ticks impulses n = samples_text (samples_after impulses (360 * n) 360)

abbrev later : List Impulse → ℕ → List ℕ
later impulses n = samples_text (samples_after impulses (360 * (n + 1)) (360 * (50 - (n + 1))))

-- what is left to put begins with the page that is full now
left : (impulses : List Impulse) (n : ℕ) (page cut full : List ℕ) → n < 50 → full ≡ page ++ ticks impulses n
    → page ++ (samples_text (samples_after impulses (360 * n) (360 * (50 - n))) ++ cut) ≡ full ++ (later impulses n ++ cut)
left impulses n page cut full h e = page-next page (ticks impulses n) (later impulses n) (samples_text (samples_after impulses (360 * n) (360 * (50 - n)))) cut full (pages-next impulses n h) e

-- after the last tick the page with the cut is left
last : (impulses : List Impulse) (n : ℕ) (page cut full : List ℕ) → 50 ≤ n → full ≡ page ++ cut
    → page ++ (samples_text (samples_after impulses (360 * n) (360 * (50 - n))) ++ cut) ≡ full ++ []
last impulses n page cut full h e =
    let none : 360 * (50 - n) ≡ 0 = omega (arith, h) in
    ap (λ (k : ℕ). page ++ (samples_text (samples_after impulses (360 * n) k) ++ cut)) none
    ∙ ap (λ (xs : List Sample). page ++ (samples_text xs ++ cut)) (no-samples impulses (360 * n)) ∙ page-done page cut full e

pub returns-in_err-put_all-clause-err : goal.returns-in_err-put_all-clause-err
returns-in_err-put_all-clause-err g c =
    let K = g.K.Sink in
    let p = c.args.plan.now in
    let whole : List ℕ = text_of (rows_of p) in
    let cut : List ℕ = text_of (row.Cut p.stop ∷ []) in
    let full : c.as_bytes.result.now ≡ c.loop-number.page.bytes ++ ticks p.impulses c.loop-number.number = c.as_bytes.ensures.value ∙ c.as_str.ensures.value ∙ c.push_ticks.ensures.bytes in
    let e = left p.impulses c.loop-number.number c.loop-number.page.bytes cut c.as_bytes.result.now c.loop-number-test.true full in
    let before = subst (λ (rest : List ℕ). Told (IsPutBut whole rest) (K.content c.args.sink.now) (K.content c.loop-number.sink)) e c.loop-number.invariant.put in
    let err = err_from_is_err_and c.from_residual.result c.from_residual.ensures.1 in
    rw err.1 (put-part whole c.as_bytes.result.now (later p.impulses c.loop-number.number ++ cut) (K.content c.args.sink.now) (K.content c.loop-number.sink) (K.content c.put_all.new.sink) before c.in_err-put_all.ensures.err)

pub loop-number-preserved : goal.loop-number-preserved
loop-number-preserved g c =
    let K = g.K.Sink in
    let p = c.args.plan.now in
    let whole : List ℕ = text_of (rows_of p) in
    let cut : List ℕ = text_of (row.Cut p.stop ∷ []) in
    let full : c.as_bytes.result.now ≡ c.loop-number.page.bytes ++ ticks p.impulses c.loop-number.number = c.as_bytes.ensures.value ∙ c.as_str.ensures.value ∙ c.push_ticks.ensures.bytes in
    let e = left p.impulses c.loop-number.number c.loop-number.page.bytes cut c.as_bytes.result.now c.loop-number-test.true full in
    let before = subst (λ (rest : List ℕ). Told (IsPutBut whole rest) (K.content c.args.sink.now) (K.content c.loop-number.sink)) e c.loop-number.invariant.put in
    let after = put-more whole c.as_bytes.result.now (later p.impulses c.loop-number.number ++ cut) (K.content c.args.sink.now) (K.content c.loop-number.sink) (K.content c.put_all.new.sink) before c.in_ok-put_all.ensures.ok in
    record {
      len = omega (arith, ap length c.clear.ensures);
      put = subst (λ (page : List ℕ). Told (IsPutBut whole (page ++ (later p.impulses c.loop-number.number ++ cut))) (K.content c.args.sink.now) (K.content c.put_all.new.sink)) (sym c.clear.ensures) after;
      later = omega (arith, c.loop-number.invariant.later, c.put_all.ensures.cause.later);
    }

pub returns-clause-ok : goal.returns-clause-ok
returns-clause-ok g c =
    let K = g.K.Sink in
    let p = c.args.plan.now in
    let whole : List ℕ = text_of (rows_of p) in
    let cut : List ℕ = text_of (row.Cut p.stop ∷ []) in
    let full : c.as_bytes-2.result.now ≡ c.loop-number.page.bytes ++ cut = c.as_bytes-2.ensures.value ∙ c.as_str-2.ensures.value ∙ c.push_cut.ensures ∙ ap (λ (q : Planned). c.loop-number.page.bytes ++ text_of (row.Cut q.stop ∷ [])) c.plan.view_is in
    let e = last p.impulses c.loop-number.number c.loop-number.page.bytes cut c.as_bytes-2.result.now c.loop-number-test.false full in
    let before = subst (λ (rest : List ℕ). Told (IsPutBut whole rest) (K.content c.args.sink.now) (K.content c.loop-number.sink)) e c.loop-number.invariant.put in
    on_ok_weaker c.put_all-2.result (λ told. put-all whole (K.content c.args.sink.now) (K.content c.put_all-2.new.sink)
    (put-more whole c.as_bytes-2.result.now [] (K.content c.args.sink.now) (K.content c.loop-number.sink) (K.content c.put_all-2.new.sink) before told)) c.put_all-2.ensures.ok

pub returns-clause-err : goal.returns-clause-err
returns-clause-err g c =
    let K = g.K.Sink in
    let p = c.args.plan.now in
    let whole : List ℕ = text_of (rows_of p) in
    let cut : List ℕ = text_of (row.Cut p.stop ∷ []) in
    let full : c.as_bytes-2.result.now ≡ c.loop-number.page.bytes ++ cut = c.as_bytes-2.ensures.value ∙ c.as_str-2.ensures.value ∙ c.push_cut.ensures ∙ ap (λ (q : Planned). c.loop-number.page.bytes ++ text_of (row.Cut q.stop ∷ [])) c.plan.view_is in
    let e = last p.impulses c.loop-number.number c.loop-number.page.bytes cut c.as_bytes-2.result.now c.loop-number-test.false full in
    let before = subst (λ (rest : List ℕ). Told (IsPutBut whole rest) (K.content c.args.sink.now) (K.content c.loop-number.sink)) e c.loop-number.invariant.put in
    on_err_weaker c.put_all-2.result (put-part whole c.as_bytes-2.result.now [] (K.content c.args.sink.now) (K.content c.loop-number.sink) (K.content c.put_all-2.new.sink) before) c.put_all-2.ensures.err
