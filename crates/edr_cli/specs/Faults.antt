-- Why a call ends without what was asked of it: the line that tells it, its status, and the faults of what is called.
use Rattle.std.specs.Prelude.{ℕ, List, [], ◌∷◌, ◌++◌, codes, decimal}
use Rattle.std.specs.Fmt.{signed_decimal}
use Rattle.edr_spell.specs.declared.TraceFault.{TraceFault}
use Rattle.edr_spell.specs.declared.TraceFault.TheVariants as trace
use Rattle.edr_spell.specs.declared.Word.TheVariants.{Of}
use Rattle.edr_spell.specs.Rows.{spelling_of}
use Rattle.edr_image.specs.declared.OldRefused.{OldRefused}
use Rattle.edr_image.specs.declared.OldRefused.TheVariants as old
use Rattle.edr_report.specs.ImageWords.{header_words, short_words}
use Rattle.edr_cli.specs.declared.fault.Fault.{Fault}
use Rattle.edr_cli.specs.declared.fault.Fault.TheVariants.{Usage, Trace, Read, Store, Short, Header, Formatted, Spent, OutOfMemory, TooLong, Old, Fleet}
use Rattle.edr_cli.specs.declared.status.Status.{Status}
use Rattle.edr_cli.specs.declared.status.Status.TheVariants as status
use Rattle.edr_device.specs.declared.transfer.TakeFault.{TakeFault}
use Rattle.edr_device.specs.declared.transfer.TakeFault.TheVariants as take
use Rattle.edr_trace.specs.declared.ReadRefused.{ReadRefused}
use Rattle.edr_trace.specs.declared.ReadRefused.TheVariants as read
use Rattle.edr_image.specs.declared.OpenFault.{OpenFault}
use Rattle.edr_image.specs.declared.OpenFault.TheVariants as open_fault
use Rattle.edr_banks.specs.declared.FormatFault.{FormatFault}
use Rattle.edr_banks.specs.declared.FormatFault.TheVariants as format
use Rattle.edr_migrate.specs.declared.MigrateFault.{MigrateFault}
use Rattle.edr_migrate.specs.declared.MigrateFault.TheVariants as migrate
use Rattle.edr_fleet.specs.declared.frames.FleetRefused.{FleetRefused}
use Rattle.edr_fleet.specs.declared.frames.FleetRefused.TheVariants as fleet
use Rattle.edr_cycle.specs.declared.started.StartFault.{StartFault}
use Rattle.edr_cycle.specs.declared.started.StartFault.TheVariants as start

-- what is wrong with a row of a trace
abbrev pub trace_words : TraceFault → List ℕ
trace_words (trace.Fields n) = codes "fields " ++ decimal n
trace_words trace.Word = codes "word"
trace_words (trace.Number n) = codes "number in field " ++ decimal n
trace_words trace.Place = codes "place"
trace_words (trace.Order last) = codes "order after " ++ decimal last
trace_words (trace.Moment limit) = codes "moment past " ++ decimal limit
trace_words (trace.Range low high) = codes "range " ++ signed_decimal low ++ codes " to " ++ signed_decimal high
trace_words (trace.Gap last) = codes "gap after " ++ decimal last
trace_words (trace.Skew s) = codes "skew of " ++ spelling_of (Of s)
trace_words trace.Unended = codes "unended"

-- what is wrong with an old image
abbrev pub old_words : OldRefused → List ℕ
old_words (old.Short size needed) = short_words size needed
old_words (old.Header h) = header_words h
old_words (old.Bank bank offset found) = codes "bank " ++ decimal bank ++ codes " damaged at " ++ decimal offset ++ codes " found " ++ decimal found

abbrev pub fault_words : Fault → List ℕ
fault_words Usage = codes "usage"
fault_words (Trace t) = codes "trace row " ++ decimal t.row ++ codes ": " ++ trace_words t.fault
fault_words Read = codes "read fault"
fault_words Store = codes "store fault"
fault_words (Short size needed) = codes "image " ++ short_words size needed
fault_words (Header h) = codes "image " ++ header_words h
fault_words Formatted = codes "image formatted"
fault_words Spent = codes "spent"
fault_words OutOfMemory = codes "out of memory"
fault_words TooLong = codes "too long"
fault_words (Old e) = codes "old image " ++ old_words e
fault_words (Fleet offset) = codes "fleet truncated at " ++ decimal offset

-- the line of a fault
abbrev pub fault_line : Fault → List ℕ
fault_line f = codes "fault: " ++ fault_words f ++ 10 ∷ []

-- the status of a call that ends with it
abbrev pub status_of : Fault → Status
status_of Usage = status.Usage
status_of (Trace t) = status.Trace
status_of Read = status.ReadFault
status_of Store = status.StoreFault
status_of (Short size needed) = status.Image
status_of (Header h) = status.Image
status_of Formatted = status.Image
status_of Spent = status.Spent
status_of OutOfMemory = status.OutOfMemory
status_of TooLong = status.TooLong
status_of (Old e) = status.OldImage
status_of (Fleet offset) = status.Fleet

-- its number
abbrev pub number_of : Status → ℕ
number_of status.Ok = 0
number_of status.Usage = 2
number_of status.Trace = 3
number_of status.ReadFault = 4
number_of status.WriteFault = 5
number_of status.StoreFault = 6
number_of status.Image = 7
number_of status.Spent = 8
number_of status.OutOfMemory = 9
number_of status.TooLong = 10
number_of status.OldImage = 11
number_of status.Dialog = 12
number_of status.Audit = 13
number_of status.Fleet = 14

-- ---- the fault of a call, from that of what it called

-- a source was not taken whole
abbrev pub fault_of_take : TakeFault → Fault
fault_of_take take.Failed = Read
fault_of_take take.TooLong = TooLong
fault_of_take take.OutOfMemory = OutOfMemory

-- bytes were not read as a trace
abbrev pub fault_of_read : ReadRefused → Fault
fault_of_read (read.Trace t) = Trace t
fault_of_read read.OutOfMemory = OutOfMemory

-- the banks were not opened
abbrev pub fault_of_open : OpenFault → Fault
fault_of_open (open_fault.Short size needed) = Short size needed
fault_of_open (open_fault.Header h) = Header h
fault_of_open open_fault.StoreFault = Store
fault_of_open open_fault.OutOfMemory = OutOfMemory

-- no image was made
abbrev pub fault_of_format : FormatFault → Fault
fault_of_format (format.Short size needed) = Short size needed
fault_of_format format.Formatted = Formatted
fault_of_format format.StoreFault = Store

-- an old image was not taken over
abbrev pub fault_of_migrate : MigrateFault → Fault
fault_of_migrate (migrate.OldShort size needed) = Old (old.Short size needed)
fault_of_migrate (migrate.OldHeader h) = Old (old.Header h)
fault_of_migrate (migrate.OldBank bank offset found) = Old (old.Bank bank offset found)
fault_of_migrate (migrate.Short size needed) = Short size needed
fault_of_migrate migrate.Formatted = Formatted
fault_of_migrate migrate.StoreFault = Store

-- there is no report of a fleet
abbrev pub fault_of_fleet : FleetRefused → Fault
fault_of_fleet (fleet.Truncated offset) = Fleet offset
fault_of_fleet fleet.OutOfMemory = OutOfMemory

-- a run ended early
abbrev pub fault_of_start : StartFault → Fault
fault_of_start (start.Open e) = fault_of_open e
fault_of_start start.Spent = Spent
fault_of_start start.StoreFault = Store
fault_of_start start.OutOfMemory = OutOfMemory
