use Rattle.std.proofs.Common.{ap, ◌∙◌, ℕ}
use Rattle.edr_definitions.specs.Selection.{is_end}
use Rattle.edr_detect.proofs.WindowLemmas.{open-zero}
use Rattle.edr_detect.proofs.windows.Windows.end_stands.Goals as goal

pub returns-in-Open : goal.returns-in-Open
returns-in-Open c = λ m b p h z k l is.
    c.ends.ensures m b p h ∙ ap (λ (x : ℕ). is_end m x c.args.t) (open-zero c.args.stage _ z _ k _ l _ _ c.in-Open.is is)
