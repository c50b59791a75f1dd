use Rattle.edr_run.proofs.LiveLaws.{live-lines-tell}
use Rattle.edr_run.proofs.laws.live_lines_tell_each_log.Goals as goal

pub returns : goal.returns
returns c = live-lines-tell
