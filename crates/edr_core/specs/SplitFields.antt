-- The fields of a `SplitCore`.
use Rattle.std.specs.Prelude.{◌≡◌, is_some}
use Rattle.edr_core.specs.declared.split.Events.{Events}
use Rattle.edr_core.specs.declared.split.SplitCore.TheInside.{Inside}
use Rattle.edr_core.specs.SplitContents.{SplitContents}
use Rattle.edr_core.specs.SplitHistory.{History}
use Rattle.edr_core.specs.SplitStandsFor.{SplitCoreStandsFor}

-- the fields, with these events in the place of its own
abbrev pub contents_with : Inside → Events → SplitContents
contents_with c events = record {
  cycle = c.cycle;
  closed = c.closed;
  merge = c.merge;
  detect = events.detect;
  link = c.link;
  candidate = events.candidate;
  ask = events.ask;
}

abbrev pub split_contents : Inside → SplitContents
split_contents c = contents_with c c.events.value

-- each split core was told something of its cycle, and one byte says whether it asks
pub record IsSplit (c : Inside) : Type 0 where
  pub history : History
  pub stands : SplitCoreStandsFor (split_contents c) history
  pub asking_is : c.asking ≡ is_some c.events.value.ask
