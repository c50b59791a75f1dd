use Rattle.std.proofs.Common.{◌≡◌, ℕ, ◌+◌, ◌*◌, ◌-◌, ◌<◌, ◌≤◌, Some, None, length, get_or}
use Rattle.std.specs.Prelude.{slice_get}
use Rattle.edr_items.specs.declared.Item.{Item}
use Rattle.edr_record.specs.declared.TheConstants.{LONG_SLOTS, SLOT_REACH, SLOT_STEP}
use Rattle.edr_definitions.specs.Parts.{slot}
use Rattle.edr_capture.specs.Kept.{IsLastCounted}
use Rattle.edr_capture.proofs.slots_back.Given as goal

-- the slots from the newest back are there, and no others; the items past the first ones are later than the oldest of them
abbrev pub invariant-loop-left : goal.invariant-loop-left
invariant-loop-left l = record {
  up : l.left ≤ LONG_SLOTS;
  at_is : l.at ≡ l.zero - SLOT_STEP * (LONG_SLOTS - l.left);
  long : length l.slots ≡ LONG_SLOTS;
  there : (k : ℕ) → l.left ≤ k → k < LONG_SLOTS → get_or l.slots k None ≡ slot l.ring.items (l.zero + SLOT_STEP * k - SLOT_REACH);
  none : (k : ℕ) → k < l.left → get_or l.slots k None ≡ None;
  in_list : l.first.count ≤ length l.ring.items;
  past : (p : ℕ) (x : Item) → l.first.count ≤ p → slice_get l.ring.items p ≡ Some x → l.zero + SLOT_STEP * l.left - SLOT_REACH < x.moment;
  last : IsLastCounted l.ring.items l.first.count l.first.last;
}

abbrev pub decreases-loop-left : goal.decreases-loop-left
decreases-loop-left l = l.left
