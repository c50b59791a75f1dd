use Rattle.std.proofs.Common.{ap, ◌∙◌, ◌++◌}
use Rattle.edr_definitions.specs.Commands.{commands}
use Rattle.edr_definitions.specs.Core.{commands_of}
use Rattle.edr_core.specs.declared.candidate.Issued.{Issued}
use Rattle.edr_core.specs.Candidate.{issues_in}
use Rattle.edr_core.proofs.StepLemmas.{put-all}
use Rattle.edr_core.proofs.Core.step.Goals as goal

pub returns-in-Closed-clause-commands : goal.returns-in-Closed-clause-commands
returns-in-Closed-clause-commands c = λ n p before.
    let all = put-all c.in-Closed.issues c.close.new.issued (λ off. c.in-Closed.ensures.quiet off ∙ c.none-issued.ensures) in
    let h = c.in-Closed.ensures.commands n p before in
    (h.0, h.1 ∙ ap (λ (i : Issued). commands p.given n p.closed ++ commands_of (issues_in i)) all)
