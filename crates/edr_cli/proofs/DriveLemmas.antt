-- What the parts of a run by threads say of the whole.
use Rattle.std.proofs.Common.{◌≡◌, refl, inl, inr, ℕ, ◌+◌, ◌≤◌, List, length, Option, Some, None, IfSome}
use Rattle.edr_device.specs.Device.{StillTells}
use Rattle.edr_device.specs.Faults.{Rose}
use Rattle.edr_image.specs.declared.OpenFault.TheVariants as open_fault
use Rattle.edr_image.specs.Banks.{Store}
use Rattle.edr_spell.specs.declared.CycleInput.{CycleInput}
use Rattle.edr_spell.specs.Spell.{Spell, largest_trace}
use Rattle.edr_run.specs.Cycle.{last_count}
use Rattle.edr_cycle.specs.declared.started.StartFault.{StartFault}
use Rattle.edr_cycle.specs.declared.started.StartFault.TheVariants as start
use Rattle.edr_cycle.specs.Starts.{IsDeviceFault}
use Rattle.edr_cli.specs.declared.fault.Fault.{Fault}
use Rattle.edr_cli.specs.declared.fault.Fault.TheVariants as fault
use Rattle.edr_replay.specs.Replayed.{EndsCutShort, EndsShort, EndsSpent, IsMemory, IsTrulyRefused, IsTrulyShort, LeavesReached}
use Rattle.edr_gates.specs.Found.{Holds, IsFound, Says}
use Rattle.edr_cli.specs.Drives.{IsDriveCause, RanCutShort}
use Rattle.edr_cli.specs.Outside.{Input, IsAtEnd, Memory}
use Rattle.edr_cli.specs.Runs.{IsTraceOf}
use Rattle.edr_cli.specs.Faults.{fault_of_start}
use Rattle.edr_cli.specs.Steps.{IsDrivenCause}
use Rattle.edr_cli.proofs.CompletenessLemmas.{only_memory}
use Rattle.edr_cli.proofs.ReplayLemmas.{Settled, run_replay, start_cause}

-- memory didn't run out
not_short : (cs : List CycleInput) (old new : Memory) (e : StartFault) → (IsMemory e → ⊥) → EndsShort cs old.content old.settled new.content new.settled e
unfolding EndsShort
not_short cs old new e none = λ short v n held. absurd (none short)

-- the run's fault is that of a call
pub driven_cause : (cs : List CycleInput) (old new : Memory) (e : StartFault) → (IsDeviceFault e → Rose old.faults new.faults) → IsTrulyRefused old.content old.settled e
    → IsTrulyShort old.size e → EndsSpent cs old.content old.settled new.content new.settled e → LeavesReached cs old.content old.settled new.content new.settled → EndsCutShort cs old.content old.settled new.content new.settled e
    → IsDrivenCause cs old new (fault_of_start e)
unfolding EndsCutShort
driven_cause cs old new (start.Open (open_fault.Short size needed)) rose refused sizes spent left short = inl (start_cause cs old new _ rose refused sizes spent left (not_short cs old new _ (λ e. cc)))
driven_cause cs old new (start.Open (open_fault.Header h)) rose refused sizes spent left short = inl (start_cause cs old new _ rose refused sizes spent left (not_short cs old new _ (λ e. cc)))
driven_cause cs old new (start.Open open_fault.StoreFault) rose refused sizes spent left short = inl (start_cause cs old new _ rose refused sizes spent left (not_short cs old new _ (λ e. cc)))
driven_cause cs old new (start.Open open_fault.OutOfMemory) rose refused sizes spent left short = inr (refl, short refl)
driven_cause cs old new start.Spent rose refused sizes spent left short = inl (start_cause cs old new _ rose refused sizes spent left (not_short cs old new _ (λ none. none)))
driven_cause cs old new start.StoreFault rose refused sizes spent left short = inl (start_cause cs old new _ rose refused sizes spent left (not_short cs old new _ (λ none. none)))
driven_cause cs old new start.OutOfMemory rose refused sizes spent left short = inr (refl, short tt)

-- the cycles were not run to the end, or not reported
pub run_drive : (i i' : Input) (old mid new : Memory) (cs : List CycleInput) (v : Store) (n : ℕ) (f : Fault) → IfSome i.left (IsTraceOf cs) → IsAtEnd i'.left → Settled old mid v n
    → StillTells old.content new.content → mid.size ≡ old.size → old.faults ≤ mid.faults → IsDrivenCause cs mid new f → IsDriveCause i i' old new f
run_drive i i' old mid new cs v n f spelled end settled tells size later (inl cause) = inl (run_replay i i' old mid new cs v n f spelled end settled tells size later cause)
run_drive i i' old mid new cs v n f spelled end settled tells size later (inr cause) = inr (cause.0, go i.left old.content spelled (λ image told. settled image told))
  where
    go : (left content : Option (List ℕ)) → IfSome left (IsTraceOf cs) → ((image : List ℕ) → content ≡ Some image → IsFound (record { store = v; count = n }) mid.content mid.settled image)
        → IfSome left (λ bytes. IfSome content (λ image. RanCutShort bytes image new))
    go None content spelled settled = tt
    go (Some bytes) None spelled settled = tt
    go (Some bytes) (Some image) spelled settled =
        let s = settled image refl in
        let held : Holds mid.content mid.settled v n = record { bytes = image; found = s } in
        let r = cause.1 v n held in
        record { cycles = cs; store = v; count = n; end = record { store = r.0; count = r.1 }; spelled = spelled; says = s.view_is; cut_short = r.2; held = r.3 }

-- where nothing counts a fault, a trace wants nothing but memory
pub driven_only_memory : (i i' : Input) (old new : Memory) (f : Fault) (bytes image : List ℕ) (cs : List CycleInput) (v : Store) (n : ℕ) → i.left ≡ Some bytes → length bytes ≤ largest_trace → Spell bytes cs
    → old.content ≡ Some image → Says image v n → n + length cs ≤ last_count → ¬ Rose i.faults i'.faults → ¬ Rose old.faults new.faults → IsDriveCause i i' old new f → f ≡ fault.OutOfMemory
driven_only_memory i i' old new f bytes image cs v n left within spelled told says room calm quiet (inl cause) = only_memory i i' old new f bytes image cs v n left within spelled told says room calm quiet cause
driven_only_memory i i' old new f bytes image cs v n left within spelled told says room calm quiet (inr cause) = cause.0
