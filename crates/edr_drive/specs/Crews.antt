-- What the threads of a cycle are started with.
use Rattle.std.specs.Arc.{arc_value}
use Rattle.edr_items.specs.SensorLists.{SensorLists}
use Rattle.edr_drive.specs.declared.threads.Crew.{Crew}

-- the feeds of a cycle
abbrev pub crew_feeds : {R G : Type 0} → Crew R G → SensorLists
crew_feeds c = arc_value c.feeds.now
