use Rattle.std.proofs.Common.{◌≡◌}
use Rattle.edr_board.specs.Seats.{board_of_watch}
use Rattle.edr_loops.specs.Senders.{HaveBegun, HaveGoneOn}
use Rattle.edr_loops.proofs.worker.Stand.work.Given as goal

abbrev pub invariant-loop : goal.invariant-loop
invariant-loop g l =
    HaveBegun l.feeds l.self.senders × HaveGoneOn l.feeds l.fn.self.senders l.self.senders × (board_of_watch l.self.watch ≡ board_of_watch l.fn.self.watch)
