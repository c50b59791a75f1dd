-- What the first steps of a cycle keep.
use Rattle.std.proofs.Common.{◌≡◌, subst, arith, ℕ, ◌+◌, ◌-◌, ◌≤◌, ◌⊎◌, inl, inr, Option, Some, None, List, [], ◌∷◌, map, take}
use Rattle.std.specs.Prelude.{Contains, slice_get}
use Rattle.edr_items.specs.SensorLists.{SensorLists}
use Rattle.edr_record.specs.Parts.{PrePart, CrashPart}
use Rattle.edr_record.specs.declared.Record.{Record}
use Rattle.edr_record.specs.declared.Command.{Command}
use Rattle.edr_record.specs.declared.Command.TheVariants as command
use Rattle.edr_image.specs.declared.BankView.TheVariants.{Event}
use Rattle.edr_image.specs.Banks.{Store}
use Rattle.edr_image.specs.Kept.{AreKept}
use Rattle.edr_image.specs.Order.{AreOwn, IsOwn}
use Rattle.edr_image.specs.Steps.{after, steps_of}
use Rattle.edr_image.proofs.OwnLaws.{own-steps}
use Rattle.edr_image.proofs.StepLaws.{locked-stays}
use Rattle.edr_image.proofs.StopLaws.{contains_here, contains_later}
use Rattle.edr_run.specs.Cycle.{issues_in, steps_in}
use Rattle.edr_run.specs.Own.{ArePartsOf, IsPreOfCycle}
use Rattle.edr_run.proofs.OrderLaws.{cycle_steps-kept}
use Rattle.edr_run.proofs.OwnLaws.{issues-own}
use Rattle.edr_cycle.specs.Commits.{IsAfterFirst}
use Rattle.edr_cycle.specs.Ends.{KeepsEvents}

-- each crash part is that of a Done among the commands
own_done : (P : PrePart → Type 0) (Q : PrePart → CrashPart → Type 0) (all : List Command) (o : Option PrePart) (cs : List Command) → ((c : Command) → Contains cs c → Contains all c) → AreOwn P Q o cs
    → AreOwn P (λ p c. Contains all (command.Done c)) o cs
own_done P Q all o [] among h = tt
own_done P Q all None (command.Take pre ∷ cs) among h = (h.0, own_done P Q all (Some pre) cs (λ c at. among c (contains_later (command.Take pre) cs c at)) h.1)
own_done P Q all (Some p) (command.Take pre ∷ cs) among h = absurd h
own_done P Q all None (command.Lock pre ∷ cs) among h = absurd h
own_done P Q all (Some p) (command.Lock pre ∷ cs) among h = (h.0, h.1, own_done P Q all (Some p) cs (λ c at. among c (contains_later (command.Lock pre) cs c at)) h.2)
own_done P Q all None (command.Done crash ∷ cs) among h = absurd h
own_done P Q all (Some p) (command.Done crash ∷ cs) among h = (among (command.Done crash) (contains_here (command.Done crash) cs), own_done P Q all None cs (λ c at. among c (contains_later (command.Done crash) cs c at)) h.1)

pub first_steps-keep : (f : SensorLists) (n : ℕ) (v : Store) (image : List ℕ) → 1 ≤ n → IsAfterFirst (steps_in f n v) (record { store = v; count = n }) image → KeepsEvents f n v image
unfolding steps_in
first_steps-keep f n v image some h =
    let cs = map (λ i. i.command) (issues_in f n) in
    let own = issues-own f n in
    let number : n - 1 + 1 ≡ n = omega (arith, some) in
    record {
      view = record { store = after v (take h.p (steps_of v cs)); count = n };
      view_is = h.says;
      locked = λ i r at is. locked-stays v cs h.p i r at is;
      own = λ i r at. (own-steps (IsPreOfCycle f n) (ArePartsOf f n) v cs h.p own).each i r at;
      crash_parts = λ i r crash at is. by_done i r crash is ((own-steps (IsPreOfCycle f n) (λ p c. Contains cs (command.Done c)) v cs h.p (own_done (IsPreOfCycle f n) (ArePartsOf f n) cs None cs (λ c at. at) own)).each i r at);
      kept = λ was. subst (λ (m : ℕ). AreKept (after v (take h.p (steps_in f m v))).banks m) number (cycle_steps-kept f v (n - 1) h.p was);
    }
  where
    by_done : (i : ℕ) (r : Record) (crash : CrashPart) → r.crash ≡ Some crash → (slice_get v.banks i ≡ Some (Event r)) ⊎ IsOwn (IsPreOfCycle f n) (λ p c. Contains (map (λ x. x.command) (issues_in f n)) (command.Done c)) r
        → (slice_get v.banks i ≡ Some (Event r)) ⊎ Contains (map (λ x. x.command) (issues_in f n)) (command.Done crash)
    by_done i r crash is (inl old) = inl old
    by_done i r crash is (inr own) = inr (own.crash crash is)
