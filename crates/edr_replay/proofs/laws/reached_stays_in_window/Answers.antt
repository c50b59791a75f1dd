use Rattle.edr_replay.proofs.ReachedLaws.{reached-own}
use Rattle.edr_replay.proofs.laws.reached_stays_in_window.Goals as goal

pub returns : goal.returns
returns c = λ cs v w n m i r. reached-own cs v n w m i r
