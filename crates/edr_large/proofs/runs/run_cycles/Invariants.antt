use Rattle.edr_large.proofs.CountingLemmas.{Counted}
use Rattle.edr_large.proofs.runs.run_cycles.Given as goal

abbrev pub invariant-loop-done : goal.invariant-loop-done
invariant-loop-done l = Counted l.number l.cycles l._done l.generator l.rows l.acks.items l.image.items
