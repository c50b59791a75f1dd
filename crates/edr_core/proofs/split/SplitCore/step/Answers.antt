use Rattle.std.proofs.Common.{ap, ◌∙◌, ◌++◌}
use Rattle.edr_definitions.specs.Core.{commands_of}
use Rattle.edr_core.specs.declared.candidate.Issued.{Issued}
use Rattle.edr_core.specs.Candidate.{issues_in}
use Rattle.edr_core.specs.Parts.{commands_with}
use Rattle.edr_core.proofs.StepLemmas.{put-all}
use Rattle.edr_core.proofs.split.SplitCore.step.Goals as goal

pub returns-in-Closed-clause-commands : goal.returns-in-Closed-clause-commands
returns-in-Closed-clause-commands c = λ w slots before are.
    let all = put-all c.in-Closed.issues c.close.new.issued (λ off. c.in-Closed.ensures.quiet off ∙ c.none-issued.ensures) in
    let h = c.in-Closed.ensures.commands w slots before are in
    (h.0, h.1 ∙ ap (λ (i : Issued). commands_with slots w.past.given w.cycle w.past.closed ++ commands_of (issues_in i)) all)
