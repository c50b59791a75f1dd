use Rattle.std.proofs.Common.{◌≡◌, ◌+◌, ◌-◌, ◌*◌, ◌≤◌, ◌++◌}
use Rattle.arrayvec.specs.ArrayString.{array_string_len}
use Rattle.edr_gen.specs.Cycles.{samples_after}
use Rattle.edr_gen.specs.Texts.{samples_text}
use Rattle.edr_gen.specs.declared.pages.TheConstants.{ON_ROOM, TICK_ROOM, TICKS_OF_PAGE}
use Rattle.edr_gen.proofs.pages.push_ticks.Given as goal

abbrev pub invariant-loop-passed : goal.invariant-loop-passed
invariant-loop-passed l = record {
  bytes : l.page.bytes ++ samples_text (samples_after l.plan.impulses (l.from + l.passed) (TICKS_OF_PAGE - l.passed)) ≡ l.fn.page.bytes ++ samples_text (samples_after l.plan.impulses l.from TICKS_OF_PAGE);
  len : array_string_len l.page ≤ ON_ROOM + TICK_ROOM * l.passed;
}
