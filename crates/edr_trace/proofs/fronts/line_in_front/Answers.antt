use Rattle.std.proofs.Common.{◌≡◌, ◌≢◌, sym, subst, List, ℕ, ◌∷◌}
use Rattle.edr_trace.specs.Fronts.{EndsLine}
use Rattle.edr_trace.proofs.RecordLemmas.{record-in}
use Rattle.edr_trace.proofs.fronts.line_in_front.Goals as goal

pub returns : goal.returns
returns c =
    let rest = c.in_ok-rest.rest.now in
    let parts : c.in_ok-third.rest.now ≡ c.in_ok-end.end.now ∷ c.in_ok-end.rest.now = c.in_ok-end.ensures.cases.0 in
    let ends : EndsLine c.in_ok-third.rest.now rest = subst (λ (x : List ℕ). EndsLine x rest) (sym parts) c.in_ok-rest.ensures in
    record-in c.in_ok-first.first.now c.in_ok-second.second.now c.in_ok-third.third.now c.args.bytes.now
    c.in_ok-first.rest.now c.in_ok-after.field-0.now c.in_ok-second.rest.now c.in_ok-after-2.field-0.now c.in_ok-third.rest.now rest
    c.in_ok-first.ensures c.in_ok-after.ensures c.in_ok-second.ensures c.in_ok-after-2.ensures c.in_ok-third.ensures ends
    (subst (λ (x : ℕ). x ≢ 239) c.in_ok-bare_first.ensures.is c.in_ok-bare_first.ensures.bare)
