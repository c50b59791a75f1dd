use Rattle.std.proofs.Common.{◌≡◌, ◌-◌, ◌++◌, List}
use Rattle.edr_spell.specs.Samples.{Sample, feeds_given}
use Rattle.edr_gen.specs.Cycles.{samples_after}
use Rattle.edr_gen.specs.Traces.{samples_of}
use Rattle.edr_gen.proofs.cycles.feeds_of.Given as goal

-- the feeds have the samples so far, which those of the ticks that follow make whole
abbrev pub invariant-loop-passed : goal.invariant-loop-passed
invariant-loop-passed l = (xs : List Sample) × (l.feeds ≡ feeds_given xs) × (samples_of l.plan ≡ xs ++ samples_after l.plan.impulses l.passed (18000 - l.passed))
