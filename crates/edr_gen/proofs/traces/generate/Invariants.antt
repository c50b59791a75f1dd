use Rattle.std.proofs.Common.{◌-◌, ◌≤◌}
use Rattle.edr_device.specs.Told.{Told}
use Rattle.edr_gen.specs.Traces.{generated_trace}
use Rattle.edr_gen.proofs.PuttingLemmas.{IsPutBut}
use Rattle.edr_gen.proofs.traces.generate.Given as goal

abbrev pub invariant-loop-done : goal.invariant-loop-done
invariant-loop-done g l = let K = g.K.Sink in record {
  put : Told (IsPutBut (generated_trace l.number l.cycles) (generated_trace l.draws.state (l.cycles - l._done))) (K.content l.fn.sink) (K.content l.sink);
  later : K.faults l.fn.sink ≤ K.faults l.sink;
}
