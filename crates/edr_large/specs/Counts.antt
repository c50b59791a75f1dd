-- What is counted of a run, and the lines that tell it.
use Rattle.std.specs.Prelude.{ℕ, Bool, true, false, List, ◌++◌, length, filter, codes, decimal}
use Rattle.edr_record.specs.Complete.{is_complete as is_complete_record}
use Rattle.edr_text.specs.Lines.{line_of}
use Rattle.edr_image.specs.declared.Ack.{Ack}
use Rattle.edr_image.specs.declared.Applied.{Applied}
use Rattle.edr_image.specs.declared.Applied.TheVariants as applied
use Rattle.edr_image.specs.declared.BankView.{BankView}
use Rattle.edr_image.specs.declared.BankView.TheVariants.{Void, Event, Damaged}
use Rattle.edr_image.specs.declared.Found.{Found}
use Rattle.edr_image.specs.Banks.{holds_event}
use Rattle.edr_large.specs.declared.counts.Counts.{Counts}

-- how many of them are so
abbrev pub many : {X : Type 0} → (X → Bool) → List X → ℕ
many is xs = length (filter is xs)

-- ---- what came of a command

-- an event was taken into a bank
abbrev pub says_kept : Applied → Bool
says_kept (applied.Kept m) = true
says_kept (applied.Locked m) = false
says_kept (applied.Done m) = false
says_kept applied.NotKept = false

abbrev pub is_kept : Ack → Bool
is_kept a = says_kept a.applied

-- an event was locked in a bank
abbrev pub says_locked : Applied → Bool
says_locked (applied.Kept m) = false
says_locked (applied.Locked m) = true
says_locked (applied.Done m) = false
says_locked applied.NotKept = false

abbrev pub is_locked : Ack → Bool
is_locked a = says_locked a.applied

-- an event was done in a bank
abbrev pub says_done : Applied → Bool
says_done (applied.Kept m) = false
says_done (applied.Locked m) = false
says_done (applied.Done m) = true
says_done applied.NotKept = false

abbrev pub is_done : Ack → Bool
is_done a = says_done a.applied

-- no bank kept it
abbrev pub says_not_kept : Applied → Bool
says_not_kept (applied.Kept m) = false
says_not_kept (applied.Locked m) = false
says_not_kept (applied.Done m) = false
says_not_kept applied.NotKept = true

abbrev pub is_not_kept : Ack → Bool
is_not_kept a = says_not_kept a.applied

-- ---- what was found

-- a bank holds an event
abbrev pub is_event : Found → Bool
is_event f = holds_event f.view

-- a bank holds an event with every element
abbrev pub holds_complete : BankView → Bool
holds_complete Void = false
holds_complete (Event r) = is_complete_record r
holds_complete (Damaged o b l) = false

abbrev pub is_complete : Found → Bool
is_complete f = holds_complete f.view

-- ---- the counts

-- of so many cycles with so many rows, of which these commands were acknowledged and this was found
abbrev pub counts_of : ℕ → ℕ → List Ack → List Found → Counts
counts_of cycles rows acks found = record {
  cycles = cycles;
  rows = rows;
  takes = many is_kept acks;
  locks = many is_locked acks;
  dones = many is_done acks;
  not_kept = many is_not_kept acks;
  retrieved = many is_event found;
  complete = many is_complete found;
}

-- the eight lines
abbrev pub counts_text : Counts → List ℕ
counts_text c =
    line_of (codes "cycles") (decimal c.cycles)
    ++ line_of (codes "rows") (decimal c.rows)
    ++ line_of (codes "takes") (decimal c.takes)
    ++ line_of (codes "locks") (decimal c.locks)
    ++ line_of (codes "dones") (decimal c.dones)
    ++ line_of (codes "not kept") (decimal c.not_kept)
    ++ line_of (codes "retrieved") (decimal c.retrieved)
    ++ line_of (codes "complete") (decimal c.complete)
