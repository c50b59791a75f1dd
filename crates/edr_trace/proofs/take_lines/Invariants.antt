use Rattle.std.proofs.Common.{◌+◌, ◌≤◌, length}
use Rattle.edr_trace.specs.SoFar.{LeadsTo}
use Rattle.edr_trace.proofs.take_lines.Given as goal

abbrev pub invariant-loop-after : goal.invariant-loop-after
invariant-loop-after l = record {
  count : l.progress.rows + length l.rest ≤ l.fn.progress.rows + length l.fn.bytes;
  leads : LeadsTo l.fn.bytes l.rest l.fn.trace l.trace l.fn.progress l.progress;
}

abbrev pub decreases-loop-after : goal.decreases-loop-after
decreases-loop-after l = length l.rest
