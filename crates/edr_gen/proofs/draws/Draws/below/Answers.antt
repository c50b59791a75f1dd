use Rattle.std.proofs.Common.{◌∙◌, ◌/◌, ◌%◌, ◌^◌, ℕ, sym, ap}
use Rattle.edr_device.specs.Draw.{next_state}
use Rattle.edr_gen.specs.Draws.{draw}
use Rattle.edr_gen.proofs.DrawLemmas.{state-next}
use Rattle.edr_gen.proofs.draws.Draws.below.Goals as goal

pub returns-clause-state : goal.returns-clause-state
returns-clause-state c = λ x k e. c.next_state-self.ensures ∙ ap next_state e ∙ sym (state-next x k)

pub returns-clause-value : goal.returns-clause-value
unfolding draw
returns-clause-value c = λ x k e. ap (λ (s : ℕ). s / 2 ^ 33 % c.args.limit) (c.next_state-self.ensures ∙ ap next_state e ∙ sym (state-next x k))
