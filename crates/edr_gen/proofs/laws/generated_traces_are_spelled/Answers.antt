use Rattle.edr_gen.proofs.SpelledLemmas.{generated-spelled, generated-many}
use Rattle.edr_gen.proofs.laws.generated_traces_are_spelled.Goals as goal

pub returns : goal.returns
returns c = record { spelled = generated-spelled; number = generated-many }
