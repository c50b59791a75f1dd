use Rattle.std.proofs.Common.{◌≡◌, ◌++◌, ℕ, List, length, map, take, drop}
use Rattle.std.specs.List.{All}
use Rattle.edr_report.specs.Words.{spaced_words}
use Rattle.edr_reading.specs.Answers.{ShowSlots, spaced_after}
use Rattle.edr_reading.proofs.values.read_slots.Given as goal

-- the slots that were passed are read, and what is left gives the others
abbrev pub invariant-loop-i : goal.invariant-loop-i
invariant-loop-i g l = record {
  read : (ws : List (List ℕ)) → l.rest ≡ spaced_after l.i ws → l.fn.bytes ≡ spaced_words (map g.S.SlotRead.words (take l.i l.slots) ++ ws);
  slots : All g.S.SlotRead.is_slot (take l.i l.slots);
  whole : (xs : List g.row.S.Denot) → length xs ≡ length l.fn.slots → ShowSlots g.S.SlotRead.words g.S.SlotRead.is_slot l.fn.bytes xs
      → (take l.i l.slots ≡ take l.i xs) × (l.rest ≡ spaced_after l.i (map g.S.SlotRead.words (drop l.i xs)));
}
