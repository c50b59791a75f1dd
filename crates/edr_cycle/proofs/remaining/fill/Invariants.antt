use Rattle.std.specs.Prelude.{◌≤◌, ℕ}
use Rattle.edr_items.specs.SensorLists.{SensorLists}
use Rattle.edr_core.specs.SplitHistory.{History}
use Rattle.edr_cycle.specs.Remaining.{IsAsked, SameAsk, count_left}
use Rattle.edr_cycle.proofs.remaining.fill.Given as goal

abbrev pub invariant-loop-item : goal.invariant-loop-item
invariant-loop-item l = record {
  asked : (f : SensorLists) (n : ℕ) (h : History) → IsAsked f n h l.fn.core l.fn.rest l.zero → (h' : History) × IsAsked f n h' l.core l.rest l.zero × SameAsk h h';
  fewer : count_left l.rest.left ≤ count_left l.fn.rest.left;
}

abbrev pub decreases-loop-item : goal.decreases-loop-item
decreases-loop-item l = count_left l.rest.left
