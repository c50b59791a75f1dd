-- The fields of a cycle that was started.
use Rattle.edr_cycle.specs.declared.started.Started.TheInside.{Inside}
use Rattle.edr_cycle.specs.Begun.{Begun}

abbrev pub begun_of : Inside → Begun
begun_of s = record { number = s.number; ticks = s.ticks; banks = s.banks; core = s.core; log = s.log }
