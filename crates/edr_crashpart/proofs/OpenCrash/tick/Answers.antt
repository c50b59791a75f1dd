use Rattle.std.proofs.Common.{arith, subst, sym, ap, ◌∙◌}
use Rattle.edr_definitions.specs.OpenCrash.{OpenCrash, next_crash}
use Rattle.edr_crashpart.specs.Bounds.{IsOpen}
use Rattle.edr_crashpart.specs.Fields.{axis_of, result_of, part_of}
use Rattle.edr_crashpart.proofs.BoundLemmas.{IsOpen-next}
use Rattle.edr_crashpart.proofs.PartLemmas.{next_crash-is}
use Rattle.edr_crashpart.proofs.HistoryLemmas.{stands-next}
use Rattle.edr_crashpart.proofs.OpenCrash.tick.Goals as goal

pub invariant_of-self : goal.invariant_of-self
invariant_of-self c =
    let before = ap (λ (q : OpenCrash). q.elapsed) c.self.view_is in
    subst IsOpen
    (sym (next_crash-is (part_of c.self.inside) c.args.along c.args.across c.args.fired.0 (axis_of c.tick.new.self) (axis_of c.tick-2.new.self) (result_of c.next-self-inside.result) c.with_firings-self-inside.result c.tick.ensures.axis c.tick-2.ensures.axis c.next-self-inside.ensures c.with_firings-self-inside.ensures))
    (IsOpen-next (part_of c.self.inside) c.args.along c.args.across c.args.fired.0 c.self.invariant (omega (arith, before, c.requires.few)) c.requires.along c.requires.across)

pub returns-clause-stands : goal.returns-clause-stands
returns-clause-stands c = λ z first rows is.
    next_crash-is (part_of c.self.inside) c.args.along c.args.across c.args.fired.0 (axis_of c.tick.new.self) (axis_of c.tick-2.new.self) (result_of c.next-self-inside.result) c.with_firings-self-inside.result c.tick.ensures.axis c.tick-2.ensures.axis c.next-self-inside.ensures c.with_firings-self-inside.ensures
    ∙ ap (λ (q : OpenCrash). next_crash q c.args.along c.args.across c.args.fired.0) c.self.view_is
    ∙ stands-next c.args.self.now z first rows (record { along = c.args.along; across = c.args.across; fired = c.args.fired.0 }) is
