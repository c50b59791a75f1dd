-- The fault of a trace: that of the first row that has one, and in it the first in the order of `TraceFault`.
use Rattle.std.specs.Prelude.{◌≡◌, ℕ, zero, suc, ◌+◌, nat_le, nat_lt, if◌then◌else◌, Option, Some, None, option_map, Result, Ok, Err, List, [], ◌∷◌, ◌++◌, fold, length}
use Rattle.edr_items.specs.declared.TheConstants.{LATEST_MOMENT, LONGEST_GAP}
use Rattle.edr_items.specs.declared.Sensor.{Sensor}
use Rattle.edr_items.specs.declared.Item.{Item}
use Rattle.edr_items.specs.Sensor.{lowest_of, highest_of}
use Rattle.edr_items.specs.Item.{mark_of, has_value_in_range}
use Rattle.edr_items.specs.SensorLists.{SensorLists, items_of, lagging_of}
use Rattle.edr_spell.specs.declared.Row.{Row}
use Rattle.edr_spell.specs.declared.Row.TheVariants as row
use Rattle.edr_spell.specs.declared.TraceFault.{TraceFault}
use Rattle.edr_spell.specs.declared.TraceFault.TheVariants as f
use Rattle.edr_spell.specs.declared.TraceRefused.{TraceRefused}
use Rattle.edr_spell.specs.Rows.{row_of, AreRows}
use Rattle.edr_spell.specs.Samples.{Sample, feeds_given}
use Rattle.edr_spell.specs.Spell.{RecordsOf}

-- ---- the open cycle

-- the sensor rows of the cycle that is open, one row later: `on,0,` opens one, a stopped start and a cut close it
abbrev pub open_next : Option (List Sample) → Row → Option (List Sample)
open_next open_rows (row.On zero) = Some []
open_next open_rows (row.On (suc k)) = None
open_next None (row.Sample s x) = None
open_next (Some xs) (row.Sample s x) = Some (xs ++ record { sensor = s; item = x } ∷ [])
open_next open_rows (row.Cut k) = None

-- the sensor rows of the cycle that is open after these rows, if one is
unfoldable pub open_after : List Row → Option (List Sample)
open_after rows = fold open_next None rows

-- ---- what one row has wrong

-- what a sensor row has wrong after this last moment
unfoldable pub item_fault : Sensor → ℕ → Item → Option TraceFault
item_fault s last x =
    if nat_le x.moment last then Some (f.Order last)
    else if nat_lt LATEST_MOMENT x.moment then Some (f.Moment LATEST_MOMENT)
    else if has_value_in_range s x then (if nat_lt (last + LONGEST_GAP) x.moment then Some (f.Gap last) else None)
    else Some (f.Range (lowest_of s) (highest_of s))

-- what a row has wrong outside every cycle, or inside one that has given these feeds
unfoldable pub fault_in : Option SensorLists → Row → Option TraceFault
fault_in None (row.On k) = None
fault_in None (row.Sample s x) = Some f.Place
fault_in None (row.Cut k) = Some f.Place
fault_in (Some feeds) (row.On k) = Some f.Place
fault_in (Some feeds) (row.Sample s x) = item_fault s (mark_of (items_of s feeds)) x
fault_in (Some feeds) (row.Cut k) = option_map (λ s. f.Skew s) (lagging_of feeds)

-- what a record has wrong there
abbrev pub fault_of : Option SensorLists → Result Row TraceFault → Option TraceFault
fault_of feeds (Err fault) = Some fault
fault_of feeds (Ok r) = fault_in feeds r

-- ---- the first fault

-- the feeds of the cycle that is open after these rows, if one is
abbrev pub feeds_after : List Row → Option SensorLists
feeds_after rows = option_map feeds_given (open_after rows)

-- each of the rows is right after those before it
abbrev pub AreFaultless : List Row → Type 0
AreFaultless rows = (before : List Row) (r : Row) (after : List Row) → rows ≡ before ++ r ∷ after → fault_in (feeds_after before) r ≡ None

-- an open cycle has no end
abbrev pub fault_at_end : Option SensorLists → Option TraceFault
fault_at_end None = None
fault_at_end (Some feeds) = Some f.Unended

-- what is wrong after these rows with the records that follow: with the first of them, or with the end
abbrev pub fault_at : List Row → List (List (List ℕ)) → Option TraceFault
fault_at before [] = fault_at_end (feeds_after before)
fault_at before (r ∷ rest) = fault_of (feeds_after before) (row_of r)

-- the records begin with rows that are right, and what follows them has the fault
pub record HasFault (records : List (List (List ℕ))) (t : TraceRefused) : Type 0 where
  pub front : List (List (List ℕ))
  pub rest : List (List (List ℕ))
  pub before : List Row
  pub whole : records ≡ front ++ rest
  pub meant : AreRows front before
  pub faultless : AreFaultless before
  pub here : fault_at before rest ≡ Some t.fault
  pub number : t.row ≡ length before + 1

-- the first row of the bytes that has a fault, and its fault
pub record FirstFault (bytes : List ℕ) (t : TraceRefused) : Type 0 where
  pub records : List (List (List ℕ))
  pub read : RecordsOf bytes records
  pub first : HasFault records t
