use Rattle.edr_trace.specs.declared.reading.Way.TheVariants as way
use Rattle.edr_trace.proofs.ReadingLemmas.{by-way}
use Rattle.edr_trace.proofs.reading.TraceReading.finish.Goals as goal

pub returns-in-Refused-clause-refused : goal.returns-in-Refused-clause-refused
returns-in-Refused-clause-refused c = λ before h.
    let self = c.args.self in
    by-way self.way (way.Refused c.in-Refused.refused) before self.trace self.progress c.in-Refused.is h.are_read c.args.left.now
