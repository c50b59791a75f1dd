use Rattle.std.proofs.Common.{inl, sym, ◌∙◌}
use Rattle.edr_cycle.proofs.RunStepLemmas.{gives-first, on_is_ok}
use Rattle.edr_cycle.proofs.cycle_run.give_next.Goals as goal

-- the core took what was first
pub returns-then-is_ok : goal.returns-then-is_ok
returns-then-is_ok c =
    let ok = sym c.is_ok.ensures.value ∙ c.if-is_ok.true in
    inl (gives-first c.args.sensor c.in-Some.item c.next.result c.in-Some.ensures.0 c.args.core.now c.accept.new.self c.args.left.now c.next.new.self
    c.in-Some.ensures.1 c.next.ensures.item c.next.ensures.others (on_is_ok c.accept.result ok c.accept.ensures.ok) (λ n p is. (c.accept.ensures.allowed n p is).0 ok))
