use Rattle.std.proofs.Common.{◌≡◌, ◌+◌, ◌*◌}
use Rattle.arrayvec.specs.ArrayVec.{array_vec_len}
use Rattle.edr_gen.specs.Draws.{impulses_from, state_after}
use Rattle.edr_gen.proofs.draws.Draws.next_plan.Given as goal

abbrev pub invariant-loop-place : goal.invariant-loop-place
invariant-loop-place l = record {
  state : l.self.state ≡ state_after l.fn.self.state (5 * l.place + 1);
  impulses : l.impulses.items ≡ impulses_from l.fn.self.state l.place;
  len : array_vec_len l.impulses ≡ l.place;
}
