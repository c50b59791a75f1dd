-- The fields of a `Core`.
use Rattle.edr_definitions.specs.Schedule.{Progress}
use Rattle.edr_core.specs.declared.Core.TheInside.{Inside}
use Rattle.edr_core.specs.Contents.{CoreContents}
use Rattle.edr_core.specs.StandsFor.{CoreIsFor}

abbrev pub contents_of : Inside → CoreContents
contents_of c = record { cycle = c.split.cycle; closed = c.split.closed; split = c.split; captures = c.captures }

-- each core was given some items of its cycle, and has closed some ticks
pub record HasHistory (c : Inside) : Type 0 where
  pub past : Progress
  pub stands : CoreIsFor (contents_of c) c.split.cycle past
