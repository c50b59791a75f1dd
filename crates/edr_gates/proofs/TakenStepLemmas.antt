-- Calls that take steps, one after the other.
use Rattle.std.proofs.Common.{◌++◌, ℕ, List, [], Result, Ok, Err, IsErr, inl, refl, subst, sym}
use Rattle.std.proofs.lemmas.Bool.{false≢true}
use Rattle.std.proofs.Math.Nat.{le_refl}
use Rattle.std.proofs.lemmas.List.Sums.{sum_by-append}
use Rattle.edr_device.specs.Device.{MayLeave}
use Rattle.edr_device.specs.Pieces.{Makes}
use Rattle.edr_device.specs.declared.device.Nvm.{Ghosts}
use Rattle.edr_device.proofs.LendingLemmas.{lent_again, lent_failed, makes_again, makes_first, none_made, tells_self}
use Rattle.edr_device.proofs.SettlingLemmas.{map_err, map_ok}
use Rattle.edr_image.specs.Calls.{all_calls, calls_of}
use Rattle.edr_image.specs.Steps.{BankStep}
use Rattle.edr_gates.specs.Taken.{PassMeanwhile, TakesSteps}
use Rattle.edr_gates.proofs.StepListLemmas.{each_passed, pass_again, pass_first, stopped_first, stopped_later, taken_again}

-- a crash now leaves nothing but what the device may leave
abbrev pub OnlyNow : {D : Type 0} → Ghosts D → D → Type 0
OnlyNow g d = (image : List ℕ) → g.since d (g.clock d) image → MayLeave (g.content d) (g.settled d) image

-- the first of two calls failed
pub first_failed : {T U E F D : Type 0} {g : Ghosts D} (a b : List BankStep) (old new : D) (e : E) (r : Result U F) → IsErr r → OnlyNow g old
    → TakesSteps {T = T} g a old new (Err e) → TakesSteps g (a ++ b) old new r
first_failed a b old new e (Ok x) is only first = absurd (false≢true is)
first_failed {U = U} {F = F} {g = g} a b old new e (Err f) is only first =
    let passed : PassMeanwhile (a ++ b) (g.content old) (g.settled old) (g.clock old) (g.since old) (g.since new) = pass_first a b (g.content old) (g.settled old) (g.clock old) (g.since old) (g.since new) first.any_moment in
    record {
      lent = lent_failed old new e f first.lent;
      time = subst (λ (n : ℕ). Makes {T = U} {E = F} n (g.clock old) (g.clock new) (g.last_good old) (g.last_good new) (Err f)) (sym (sum_by-append calls_of a b))
          (makes_first (all_calls a) (all_calls b) (g.clock old) (g.clock new) (g.last_good old) (g.last_good new) e f first.time);
      taken = tt;
      stopped = stopped_first a b _ (g.content old) (g.content new) (g.settled old) (g.settled new) first.stopped;
      any_moment = passed;
      each = each_passed (a ++ b) (g.content old) (g.settled old) (g.clock old) (g.since old) (g.since new) only passed;
    }

-- the first of two calls took its steps, and the second one came to this
pub then_came : {T U E F D : Type 0} {g : Ghosts D} (a b : List BankStep) (old mid new : D) (x : T) (r : Result U F) → OnlyNow g old
    → (g.goes_on old mid → g.goes_on mid new → g.goes_on old new)
    → TakesSteps {E = E} g a old mid (Ok x) → TakesSteps g b mid new r → TakesSteps g (a ++ b) old new r
then_came {g = g} a b old mid new x r only on first second = record {
  lent = lent_again old mid new x r on first.lent second.lent;
  time = subst (λ (n : ℕ). Makes n (g.clock old) (g.clock new) (g.last_good old) (g.last_good new) r) (sym (sum_by-append calls_of a b))
      (makes_again (all_calls a) (all_calls b) (g.clock old) (g.clock mid) (g.clock new) (g.last_good old) (g.last_good mid) (g.last_good new) x r first.time second.time);
  taken = map_ok r second.taken (taken_again a b (g.content old) (g.content mid) (g.content new) (g.settled old) (g.settled mid) (g.settled new) first.taken);
  stopped = map_err r second.stopped (stopped_later a b (g.clock old) (g.clock mid) (g.clock new) (g.content old) (g.content mid) (g.content new) (g.settled old) (g.settled mid) (g.settled new)
      first.time.ok second.time.later first.taken);
  any_moment = passed;
  each = each_passed (a ++ b) (g.content old) (g.settled old) (g.clock old) (g.since old) (g.since new) only passed;
}
  where
    passed : PassMeanwhile (a ++ b) (g.content old) (g.settled old) (g.clock old) (g.since old) (g.since new)
    passed = pass_again a b (g.content old) (g.content mid) (g.settled old) (g.settled mid) (g.clock old) (g.clock mid) (g.since old) (g.since mid) (g.since new)
        first.time.later first.taken first.any_moment second.any_moment

-- no step is taken by no call
pub takes_none : {T E D : Type 0} {g : Ghosts D} (d : D) (x : T) → OnlyNow g d → g.goes_on d d → TakesSteps {E = E} g [] d d (Ok x)
takes_none {g = g} d x only on = record {
  lent = record { size = refl; device = on; tells = tells_self (g.content d); cause = record { later = le_refl (g.faults d); failed = tt } };
  time = none_made (g.clock d) (g.last_good d) x;
  taken = λ bytes v ready. (bytes, ready.found.quiet, record { size = refl; same = λ i below aside. refl; unwritten = λ i below out. refl; view = ready.found.view_is }, refl);
  stopped = tt;
  any_moment = stays;
  each = each_passed [] (g.content d) (g.settled d) (g.clock d) (g.since d) (g.since d) only stays;
}
  where
    stays : PassMeanwhile [] (g.content d) (g.settled d) (g.clock d) (g.since d) (g.since d)
    stays = λ bytes v ready. record { nothing_else = λ t image within left. inl left; past_stays = λ t image within left. left }
