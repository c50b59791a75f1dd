use Rattle.edr_replay.proofs.ReachedLaws.{reached-locked}
use Rattle.edr_replay.proofs.laws.reached_leaves_the_locked.Goals as goal

pub returns : goal.returns
returns c = λ cs v w n m i r. reached-locked cs v n w m i r
