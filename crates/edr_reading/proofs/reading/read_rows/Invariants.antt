use Rattle.std.proofs.Common.{map, take}
use Rattle.csv.specs.Records.{fields_of}
use Rattle.edr_reading.specs.Reader.{HasReadRows}
use Rattle.edr_reading.proofs.reading.read_rows.Given as goal

-- the records so far were read
abbrev pub invariant-loop-record : goal.invariant-loop-record
invariant-loop-record l = HasReadRows l.reader (take l.record-index (map fields_of l.records))
