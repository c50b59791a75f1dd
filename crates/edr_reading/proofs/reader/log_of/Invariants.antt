use Rattle.std.proofs.Common.{◌≡◌, ◌+◌, ◌≤◌, take, length}
use Rattle.edr_reading.proofs.reader.log_of.Given as goal

-- what was passed stands in the log, and there is room for what is left
abbrev pub invariant-loop-ack : goal.invariant-loop-ack
invariant-loop-ack l = record {
  acks : l.log.acks ≡ take l.ack-index l.acks;
  room : length l.acks ≤ l.log.spare + l.ack-index;
}
