-- What the two phases of a cycle make of it.
use Rattle.std.proofs.Common.{◌≡◌, ◌⊎◌, refl, sym, subst, ap, ◌∙◌, inl, inr, arith, ℕ, ◌+◌, ◌≤◌, ◌<◌, Bool, List, Option, Result, Ok, Err, IfOk, IfErr}
use Rattle.edr_image.specs.Banks.{Store}
use Rattle.edr_image.specs.declared.log.CycleReport.{CycleReport}
use Rattle.edr_image.specs.Reports.{Report, StartStopped, report_of}
use Rattle.edr_spell.specs.declared.CycleInput.{CycleInput}
use Rattle.edr_device.specs.Faults.{Rose}
use Rattle.edr_device.specs.Lent.{GoesOn}
use Rattle.edr_device.specs.declared.device.Nvm.{Ghosts}
use Rattle.edr_device.proofs.LendingLemmas.{tells_self}
use Rattle.edr_device.proofs.SettlingLemmas.{tells_again}
use Rattle.std.proofs.Math.Nat.{le_refl, le_trans}
use Rattle.edr_cycle.specs.declared.started.StartFault.{StartFault}
use Rattle.edr_cycle.specs.declared.started.StartFault.TheVariants as fault
use Rattle.edr_image.specs.declared.OpenFault.TheVariants as open_fault
use Rattle.edr_run.specs.Cycle.{End, IsCycle, start_stopped, start_counted, start_end, last_count}
use Rattle.edr_cycle.specs.Ends.{cycle_with}
use Rattle.edr_cycle.specs.Starts.{IsDeviceFault}
use Rattle.edr_replay.specs.Replayed.{IsStartRefusal, IsTrulySpent, IsTrulyRefused, IsTrulyShort, EndsSpent}
use Rattle.edr_gates.specs.Found.{Holds}
use Rattle.edr_replay.specs.Phases.{RunsAs, RunsFrom}

-- ---- a memory that goes on

pub goes_self : {D : Type 0} {g : Ghosts D} (d : D) → g.goes_on d d → GoesOn g d d
goes_self {g = g} d on = record { size = refl; device = on; tells = tells_self (g.content d); later = le_refl (g.faults d) }

pub goes_again : {D : Type 0} {g : Ghosts D} (old mid new : D) → (g.goes_on old mid → g.goes_on mid new → g.goes_on old new) → GoesOn g old mid → GoesOn g mid new → GoesOn g old new
goes_again {g = g} old mid new on first second = record {
  size = second.size ∙ first.size;
  device = on first.device second.device;
  tells = tells_again (g.content old) (g.content mid) (g.content new) first.tells second.tells;
  later = le_trans first.later second.later;
}

-- ---- an end of a cycle

-- an end of the cycle that tells this report, and that the device holds
abbrev pub EndsAs : CycleInput → Store → ℕ → Report → Option (List ℕ) → (ℕ → Bool) → Type 0
EndsAs c v n report content settled = (n < last_count) × (e : End) × IsCycle c v n e × (e.report ≡ report) × Holds content settled e.store e.count

-- its start was stopped
pub stopped_ends : (c : CycleInput) (v : Store) (n : ℕ) (content : Option (List ℕ)) (settled : ℕ → Bool) → 1 ≤ c.start_stop → c.start_stop ≤ 6
    → n < last_count → Holds content settled v n ⊎ ((5 ≤ c.start_stop) × Holds content settled v (n + 1)) → EndsAs c v n (StartStopped c.start_stop) content settled
stopped_ends c v n content settled some up below (inl holds) = (below, start_end c.start_stop v n, start_stopped some up refl, refl, holds)
stopped_ends c v n content settled some up below (inr h) = (below, start_end c.start_stop v (n + 1), start_counted h.0 up refl, refl, h.1)

-- its commands ran
pub ran_ends : (c : CycleInput) (v : Store) (n : ℕ) (report : Report) (content : Option (List ℕ)) (settled : ℕ → Bool) → c.start_stop ≡ 0 → n < last_count
    → RunsAs report c.feeds c.stop v n content settled → EndsAs c v n report content settled
ran_ends c v n report content settled run below ran =
    let same : ◌≡◌ {A = CycleInput} (cycle_with 0 c.feeds c.stop) c = ap {B = CycleInput} (λ (k : ℕ). cycle_with k c.feeds c.stop) (sym run) in
    (below, ran.0, subst (λ (x : CycleInput). IsCycle x v n ran.0) same ran.1, ran.2, ran.3)

-- what is said of a report of the whole cycle
abbrev pub EndsFrom : CycleInput → Option (List ℕ) → (ℕ → Bool) → Option (List ℕ) → (ℕ → Bool) → CycleReport → Type 0
EndsFrom c content settled content' settled' report =
    (v : Store) (n : ℕ) → Holds content settled v n → EndsAs c v n (report_of report) content' settled'

-- the commands ran after a start that was done
pub begun_ran : (c : CycleInput) (number : ℕ) (store : Store) (content : Option (List ℕ)) (settled : ℕ → Bool) (content' : Option (List ℕ)) (settled' : ℕ → Bool) (content'' : Option (List ℕ)) (settled'' : ℕ → Bool) (r : Result CycleReport StartFault)
    → c.start_stop ≡ 0 → ((v : Store) (n : ℕ) → Holds content settled v n → (n < last_count) × (store ≡ v) × (number ≡ n + 1) × Holds content' settled' v (n + 1))
    → IfOk r (RunsFrom c.feeds c.stop number store content' settled' content'' settled'') → IfOk r (EndsFrom c content settled content'' settled'')
begun_ran c number store content settled content' settled' content'' settled'' (Err e) run begun ran = ran
begun_ran c number store content settled content' settled' content'' settled'' (Ok report) run begun ran = λ v n holds.
    let f = begun v n holds in
    let there : Holds content' settled' store number = subst (λ (k : ℕ). Holds content' settled' store k) (sym f.2) (subst (λ (w : Store). Holds content' settled' w (n + 1)) (sym f.1) f.3) in
    let r : RunsAs (report_of report) c.feeds c.stop store n content'' settled'' = ran n f.2 there in
    ran_ends c v n (report_of report) content'' settled'' run f.0 (subst (λ (w : Store). RunsAs (report_of report) c.feeds c.stop w n content'' settled'') f.1 r)

-- ---- commands that fail tell a fault of the device, and nothing else

-- not that no number is left
pub not_spent : (r : Result CycleReport StartFault) (a b : ℕ) (content : Option (List ℕ)) (settled : ℕ → Bool) (content' : Option (List ℕ)) (settled' : ℕ → Bool)
    → IfErr r (λ e. (e ≡ fault.StoreFault) × Rose a b) → IfErr r (IsTrulySpent content settled content' settled')
unfolding IsTrulySpent
not_spent (Ok x) a b content settled content' settled' h = h
not_spent (Err e) a b content settled content' settled' h = λ spent. absurd (different (sym h.0 ∙ spent)) where
  different : fault.StoreFault ≡ fault.Spent → ⊥
  different e = cc

-- not that the image is refused
pub not_refused : (r : Result CycleReport StartFault) (a b : ℕ) (content : Option (List ℕ)) (settled : ℕ → Bool)
    → IfErr r (λ e. (e ≡ fault.StoreFault) × Rose a b) → IfErr r (IsTrulyRefused content settled)
unfolding IsTrulyRefused
not_refused (Ok x) a b content settled h = h
not_refused (Err e) a b content settled h = λ refused. absurd (subst IsStartRefusal h.0 refused)

-- not that the image is short
pub not_short : (r : Result CycleReport StartFault) (a b extent : ℕ) → IfErr r (λ e. (e ≡ fault.StoreFault) × Rose a b) → IfErr r (IsTrulyShort extent)
unfolding IsTrulyShort
not_short (Ok x) a b extent h = h
not_short (Err e) a b extent h = λ size needed told. absurd (different size needed (sym h.0 ∙ told)) where
  different : (size needed : ℕ) → fault.StoreFault ≡ fault.Open (open_fault.Short size needed) → ⊥
  different size needed e = cc

-- faults that rose in the commands rose in the whole cycle
pub rose_again : (a b c : ℕ) → a ≤ b → Rose b c → Rose a c
rose_again a b c le rose = grind (arith, le, rose)

pub rose_later : (r : Result CycleReport StartFault) (a b c : ℕ) → a ≤ b → IfErr r (λ e. (e ≡ fault.StoreFault) × Rose b c) → IfErr r (λ e. IsDeviceFault e → Rose a c)
rose_later (Ok x) a b c le h = h
rose_later (Err e) a b c le h = λ f. rose_again a b c le h.1

-- ---- want of memory tells nothing

different : fault.OutOfMemory ≡ fault.Spent → ⊥
different e = cc

-- not that no number is left
pub memory_spent : (cs : List CycleInput) (content : Option (List ℕ)) (settled : ℕ → Bool) (content' : Option (List ℕ)) (settled' : ℕ → Bool) → EndsSpent cs content settled content' settled' fault.OutOfMemory
unfolding EndsSpent
memory_spent cs content settled content' settled' = λ spent. absurd (different spent)

pub memory_unspent : (content : Option (List ℕ)) (settled : ℕ → Bool) (content' : Option (List ℕ)) (settled' : ℕ → Bool) → IsTrulySpent content settled content' settled' fault.OutOfMemory
unfolding IsTrulySpent
memory_unspent content settled content' settled' = λ spent. absurd (different spent)

-- not that the image is refused
pub memory_refused : (content : Option (List ℕ)) (settled : ℕ → Bool) → IsTrulyRefused content settled fault.OutOfMemory
unfolding IsTrulyRefused
memory_refused content settled = λ refused. absurd refused

-- not that the image is short
pub memory_short : (extent : ℕ) → IsTrulyShort extent fault.OutOfMemory
unfolding IsTrulyShort
memory_short extent = λ size needed told. absurd (different size needed told) where
  different : (size needed : ℕ) → fault.OutOfMemory ≡ fault.Open (open_fault.Short size needed) → ⊥
  different size needed e = cc
