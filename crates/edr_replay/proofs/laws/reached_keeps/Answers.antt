use Rattle.edr_replay.proofs.ReachedLaws.{reached-kept}
use Rattle.edr_replay.proofs.laws.reached_keeps.Goals as goal

pub returns : goal.returns
returns c = λ cs v w n m. reached-kept cs v n w m
