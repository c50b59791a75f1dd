use Rattle.std.proofs.Common.{◌-◌, ◌*◌, ◌≤◌, [], ◌∷◌, ◌++◌}
use Rattle.arrayvec.specs.ArrayString.{array_string_len}
use Rattle.edr_spell.specs.declared.Row.TheVariants as row
use Rattle.edr_spell.specs.Lines.{text_of}
use Rattle.edr_device.specs.Told.{Told}
use Rattle.edr_gen.specs.Cycles.{samples_after}
use Rattle.edr_gen.specs.Texts.{samples_text}
use Rattle.edr_gen.specs.Traces.{rows_of}
use Rattle.edr_gen.proofs.PuttingLemmas.{IsPutBut}
use Rattle.edr_gen.proofs.traces.put_cycle.Given as goal

-- the page and the rows of the ticks that follow, with the cut, are left to put
abbrev pub invariant-loop-number : goal.invariant-loop-number
invariant-loop-number g l = let K = g.K.Sink in record {
  len : array_string_len l.page ≤ 6;
  put : Told (IsPutBut (text_of (rows_of l.plan))
      (l.page.bytes ++ (samples_text (samples_after l.plan.impulses (360 * l.number) (360 * (50 - l.number))) ++ text_of (row.Cut l.plan.stop ∷ []))))
      (K.content l.fn.sink) (K.content l.sink);
  later : K.faults l.fn.sink ≤ K.faults l.sink;
}
