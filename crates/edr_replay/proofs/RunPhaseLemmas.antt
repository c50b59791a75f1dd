-- What the commands of a cycle over an armed fuse come to.
use Rattle.std.proofs.Common.{◌≡◌, ◌⊎◌, ◌<◌, ◌+◌, ◌-◌, ℕ, Bool, List, Option, Some, None, refl, sym, subst, inl, inr, ⊎_elim, arith}
use Rattle.edr_items.specs.SensorLists.{SensorLists}
use Rattle.edr_device.specs.Device.{Comes, IsQuiet, IsSettled, MayLeave, StillTells}
use Rattle.edr_device.specs.FuseState.{FuseState}
use Rattle.edr_device.specs.Told.{Told}
use Rattle.edr_image.specs.declared.Ack.{Ack}
use Rattle.edr_image.specs.Banks.{Store}
use Rattle.edr_image.specs.Calls.{all_calls}
use Rattle.edr_image.specs.Reports.{Ran, Report}
use Rattle.edr_run.specs.Cycle.{End, IsCycle, start_stopped, start_counted, whole, cut, steps_in}
use Rattle.edr_cycle.specs.Ends.{ComesTo, cycle_with}
use Rattle.edr_gates.specs.Found.{Holds, IsFound}
use Rattle.edr_replay.specs.Phases.{RunsAs}
use Rattle.edr_replay.proofs.StopLemmas.{IsPlanned, leaves_itself, not_reached, told_some}

-- an image to which the cycle may come is what the device holds
runs_to : (f : SensorLists) (stop number n : ℕ) (store : Store) (planned : Option ℕ) (acks : List Ack) (content : Option (List ℕ)) (settled : ℕ → Bool) (now : List ℕ)
    → number ≡ n + 1 → IsQuiet content settled now → ComesTo (cycle_with 0 f stop) store (number - 1) (Ran number planned acks) now → RunsAs (Ran number planned acks) f stop store n content settled
runs_to f stop number n store planned acks content settled now next quiet come =
    let e : End = record { report = Ran number planned acks; store = come.view.store; count = come.view.count } in
    let before : number - 1 ≡ n = omega (arith, next) in
    (e, subst (λ (k : ℕ). IsCycle (cycle_with 0 f stop) store k e) before come.cycle, refl, record { bytes = now; found = record { quiet = quiet; view_is = come.view_is } })

-- ---- stopped as planned

-- the device holds what a stop in the planned call leaves
pub runs_stopped : (f : SensorLists) (stop calls number : ℕ) (store : Store) (acks : List Ack) (content : Option (List ℕ)) (settled : ℕ → Bool) (content' : Option (List ℕ)) (settled' : ℕ → Bool)
    → calls ≡ stop → StillTells content content' → ((bytes : List ℕ) → content' ≡ Some bytes → IsSettled settled')
    → ((bytes image : List ℕ) → IsFound (record { store = store; count = number }) content settled bytes → MayLeave content' settled' image → ComesTo (cycle_with 0 f calls) store (number - 1) (Ran number (Some calls) acks) image)
    → (n : ℕ) → number ≡ n + 1 → Holds content settled store number → RunsAs (Ran number (Some stop) acks) f stop store n content' settled'
runs_stopped f stop calls number store acks content settled content' settled' is tells settles comes n next h =
    let now = told_some content content' h.bytes h.found.quiet.0 tells in
    let come = comes h.bytes now.0 h.found (leaves_itself content' settled' now.0 now.1) in
    runs_to f stop number n store (Some stop) acks content' settled' now.0 next (now.1, settles now.0 now.1)
    (subst (λ (k : ℕ). ComesTo (cycle_with 0 f k) store (number - 1) (Ran number (Some k) acks) now.0) is come)

-- ---- not stopped

-- a stop that is none or past the last call doesn't show
pub whole_with : (f : SensorLists) (stop : ℕ) (v : Store) (n : ℕ) (e : End) → (stop ≡ 0) ⊎ (all_calls (steps_in f (n + 1) v) < stop) → IsCycle (cycle_with 0 f 0) v n e → IsCycle (cycle_with 0 f stop) v n e
whole_with f stop v n e past (start_stopped some few is) = absurd (omega (arith, some))
whole_with f stop v n e past (start_counted some few is) = absurd (omega (arith, some))
whole_with f stop v n e past (whole none all is) = whole refl past is
whole_with f stop v n e past (cut done none at is) = let before = at.falls.before in let from = at.falls.from in absurd (omega (arith, before, from))

-- after the power was away the device tells an image that a crash may leave
come_back : (old new : Option (List ℕ)) (settled settled' : ℕ → Bool) (bytes : List ℕ) → old ≡ Some bytes → Told (Comes settled settled') old new → (now : List ℕ) × IsQuiet new settled' now × MayLeave old settled now
come_back None None settled settled' bytes e t = absurd cc
come_back None (Some b) settled settled' bytes e t = absurd t
come_back (Some a) None settled settled' bytes e t = absurd t
come_back (Some a) (Some b) settled settled' bytes e t = (b, (refl, t.1), t.0)

-- the device holds what all commands leave
pub runs_whole : (f : SensorLists) (stop number : ℕ) (store : Store) (acks : List Ack) (content : Option (List ℕ)) (settled : ℕ → Bool) (content' : Option (List ℕ)) (settled' : ℕ → Bool) (content'' : Option (List ℕ)) (settled'' : ℕ → Bool)
    → (stop ≡ 0) ⊎ (all_calls (steps_in f number store) < stop) → StillTells content content' → Told (Comes settled' settled'') content' content''
    → ((bytes image : List ℕ) → IsFound (record { store = store; count = number }) content settled bytes → MayLeave content' settled' image → ComesTo (cycle_with 0 f 0) store (number - 1) (Ran number None acks) image)
    → (n : ℕ) → number ≡ n + 1 → Holds content settled store number → RunsAs (Ran number None acks) f stop store n content'' settled''
runs_whole f stop number store acks content settled content' settled' content'' settled'' past tells off comes n next h =
    let mid = told_some content content' h.bytes h.found.quiet.0 tells in
    let now = come_back content' content'' settled' settled'' mid.0 mid.1 off in
    let come = comes h.bytes now.0 h.found now.2 in
    let same : number - 1 + 1 ≡ number = omega (arith, next) in
    let beyond = subst (λ (k : ℕ). (stop ≡ 0) ⊎ (all_calls (steps_in f k store) < stop)) (sym same) past in
    runs_to f stop number n store None acks content'' settled'' now.0 next now.1
    (record { view = come.view; view_is = come.view_is; cycle = whole_with f stop store (number - 1) (record { report = Ran number None acks; store = come.view.store; count = come.view.count }) beyond come.cycle })

-- a run that succeeded made all its calls, and the last one was good: the stop is none or past it
pub past_last : (stop calls began : ℕ) (s : FuseState) (before now : ℕ) → IsPlanned stop s before now → began ≡ 0 → s.ticks ≡ began + calls → (0 < calls → s.last_good ≡ s.ticks) → (stop ≡ 0) ⊎ (calls < stop)
past_last stop calls began s before now planned begins all good =
    ⊎_elim
    (λ (none : stop ≡ 0). inl none)
    (λ (later : s.ticks < stop). inr (omega (arith, later, begins, all)))
    (not_reached stop s before now planned (λ some. good (omega (arith, some, begins, all))))

-- the same end under the report that is told
pub told_as : (report told : Report) (f : SensorLists) (stop : ℕ) (v : Store) (n : ℕ) (content : Option (List ℕ)) (settled : ℕ → Bool) → told ≡ report → RunsAs report f stop v n content settled → RunsAs told f stop v n content settled
told_as report told f stop v n content settled same runs = subst (λ r. RunsAs r f stop v n content settled) (sym same) runs
