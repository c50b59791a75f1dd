use Rattle.std.proofs.Common.{◌∙◌, IfSome, subst, sym}
use Rattle.edr_seats.specs.Rings.{items_known, items_taken}
use Rattle.edr_loops.specs.SlowSenders.{AreParts, IsKeeping}
use Rattle.edr_loops.proofs.SlowSenderLemmas.{front-parts}
use Rattle.edr_loops.proofs.lanes.settle_part.Goals as goal

pub returns-in-Some-clause-parts : goal.returns-in-Some-clause-parts
returns-in-Some-clause-parts c = λ xs kept.
    let keeping = subst (λ p. IfSome p (IsKeeping c.args.sensor xs)) c.in-Some.is kept in
    front-parts c.args.sensor xs (items_taken c.beside.new.self) (items_known c.beside.new.self)
    (subst (AreParts c.args.sensor xs) (sym (c.beside.ensures.met.all ∙ c.beside.ensures.met.sent)) keeping.parts)
