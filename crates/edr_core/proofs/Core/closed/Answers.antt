use Rattle.std.proofs.Common.{sym, subst}
use Rattle.edr_core.specs.Contents.{CoreContents}
use Rattle.edr_core.specs.Fields.{contents_of}
use Rattle.edr_core.specs.StandsFor.{CoreIsFor}
use Rattle.edr_core.specs.OwnParts.{resting_history}
use Rattle.edr_core.proofs.Core.closed.Goals as goal

pub returns : goal.returns
returns c = λ n p before.
    let h : CoreIsFor (contents_of c.self.inside) n p = subst (λ (v : CoreContents). CoreIsFor v n p) (sym c.self.view_is) before in
    c.closed.ensures (resting_history n p h.parts) h.split_is
