use Rattle.std.proofs.Common.{subst, sym, ◌∙◌}
use Rattle.edr_crashpart.specs.Bounds.{IsOpen}
use Rattle.edr_crashpart.specs.Fields.{axis_of}
use Rattle.edr_crashpart.proofs.BoundLemmas.{IsOpen-begin}
use Rattle.edr_crashpart.proofs.PartLemmas.{begin_crash-is}
use Rattle.edr_crashpart.proofs.HistoryLemmas.{stands-begin}
use Rattle.edr_crashpart.proofs.OpenCrash.begin.Goals as goal

pub invariant_of-result : goal.invariant_of-result
invariant_of-result c =
    subst IsOpen (sym (begin_crash-is c.args.zero c.args.fired.0 (axis_of c.begin.result) (axis_of c.begin-2.result) c.with_firings.result c.begin.ensures c.begin-2.ensures c.with_firings.ensures))
    (IsOpen-begin c.args.zero c.args.fired.0)

pub returns-clause-stands : goal.returns-clause-stands
returns-clause-stands c =
    begin_crash-is c.args.zero c.args.fired.0 (axis_of c.begin.result) (axis_of c.begin-2.result) c.with_firings.result c.begin.ensures c.begin-2.ensures c.with_firings.ensures
    ∙ stands-begin c.args.zero c.args.fired.0
