use Rattle.std.proofs.Common.{arith}
use Rattle.edr_trace.proofs.ReadLemmas.{so-far-start}
use Rattle.edr_trace.proofs.reading.TraceReading.new.Goals as goal

pub returns : goal.returns
returns c =
    let t = c.new in
    record { are_read = (omega arith, λ more. so-far-start more t.result.cycles.items t.result.inside t.ensures.cycles t.ensures.inside) }
