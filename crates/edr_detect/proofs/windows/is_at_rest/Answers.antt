use Rattle.std.proofs.Common.{refl, Some, pos}
use Rattle.edr_window.specs.Changes.{changes}
use Rattle.edr_detect.proofs.WindowLemmas.{swing-rest}
use Rattle.edr_detect.proofs.windows.is_at_rest.Goals as goal

pub returns-clause-none : goal.returns-clause-none
returns-clause-none g c = λ yes axis from t h. swing-rest axis g.row.K from t (Some (pos 0)) (Some (pos 0)) refl refl (c.is_still.ensures.least yes (changes axis from t) h) (c.is_still.ensures.greatest yes (changes axis from t) h)
