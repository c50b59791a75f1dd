use Rattle.edr_drive.proofs.ReadingLemmas.{read-more, read-none}
use Rattle.edr_drive.proofs.live_reader.ReaderDesk.follow.Goals as goal

pub loop-init : goal.loop-init
loop-init g c = read-none c.args.self.reader

pub loop-preserved : goal.loop-preserved
loop-preserved g c = read-more c.args.self.reader c.loop.reader c.read.new.self c.read.result c.loop.invariant c.read.ensures.read c.read.ensures.none c.read.ensures.same

pub returns-then-news : goal.returns-then-news
returns-then-news g c = read-more c.args.self.reader c.loop.reader c.read.new.self c.read.result c.loop.invariant c.read.ensures.read c.read.ensures.none c.read.ensures.same
