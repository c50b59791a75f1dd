use Rattle.std.proofs.Common.{arith, refl}
use Rattle.edr_loops.proofs.LaterLemmas.{later-again, recording-later}
use Rattle.edr_loops.proofs.CloseLemmas.{later-beside}
use Rattle.edr_loops.proofs.recorder.Desk.work.Goals as goal

pub loop-preserved : goal.loop-preserved
loop-preserved g c =
    let d = c.turn-moved.new.self in
    let beside = later-beside d d.seat c.read.new.self refl c.read.ensures.board in
    let e = c.args.horizon in (
      c.turn-moved.ensures.posted,
      recording-later 0 d _ beside c.turn-moved.ensures.stands,
      later-again e e e _ _ _ (omega arith) (omega arith) c.loop.invariant.2 (later-again e 0 e _ _ _ (omega arith) (omega arith) c.turn-moved.ensures.later beside),
    )

pub returns-then-is_done-clause-later : goal.returns-then-is_done-clause-later
returns-then-is_done-clause-later g c =
    let e = c.args.horizon in
    later-again e e e _ _ _ (omega arith) (omega arith) c.loop.invariant.2 c.turn-moved.ensures.later

pub returns-then-read-clause-later : goal.returns-then-read-clause-later
returns-then-read-clause-later g c =
    let d = c.turn-moved.new.self in
    let beside = later-beside d d.seat c.read.new.self refl c.read.ensures.board in
    let e = c.args.horizon in
    later-again e e e _ _ _ (omega arith) (omega arith) c.loop.invariant.2 (later-again e 0 e _ _ _ (omega arith) (omega arith) c.turn-moved.ensures.later beside)
