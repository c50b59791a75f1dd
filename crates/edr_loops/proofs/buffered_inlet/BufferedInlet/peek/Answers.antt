use Rattle.std.proofs.Common.{rules, arith, ◌<◌, ◌≤◌, length}
use Rattle.std.proofs.lemmas.List.{get_or_default}
use Rattle.edr_loops.proofs.BufferLemmas.{next_begins}
use Rattle.edr_seats.specs.Rings.{items_taken}
use Rattle.edr_loops.proofs.buffered_inlet.BufferedInlet.peek.Goals as goal

pub returns-clause-next : goal.returns-clause-next
returns-clause-next c =
    let t = c.if-self.self in
    let within = t.within in
    let apart : t.next < t.end = grind (arith, within, c.if-self-2.false) in
    let long : t.end ≤ length t.items = search rules in
    ((apart, get_or_default t.items t.next _ _ (omega (arith, apart, long))), next_begins (items_taken t.inlet) t.items t.next t.end _ apart long t.lie)
