use Rattle.std.proofs.Common.{arith}
use Rattle.edr_loops.proofs.LaterLemmas.{later-again, later-raised, recording-later}
use Rattle.edr_loops.proofs.CloseLemmas.{later-beside}
use Rattle.edr_loops.proofs.recorder.Desk.record.Goals as goal

pub work-requires-clause-stands : goal.work-requires-clause-stands
work-requires-clause-stands g c = recording-later 0 c.args.self _ (later-beside c.args.self c.post-2.new.self c.read.new.self c.post-2.ensures.board c.read.ensures.board) c.requires.stands

pub returns-then-read-clause-later : goal.returns-then-read-clause-later
returns-then-read-clause-later g c = later-raised 0 c.args.horizon _ _ (omega arith) (later-beside c.args.self c.post.new.self c.read.new.self c.post.ensures.board c.read.ensures.board)

pub returns-clause-later : goal.returns-clause-later
returns-clause-later g c =
    let e = c.args.horizon in
    later-again 0 e e _ _ _ (omega arith) (omega arith) (later-beside c.args.self c.post-2.new.self c.read.new.self c.post-2.ensures.board c.read.ensures.board) c.work.ensures.later
