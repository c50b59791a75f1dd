-- What every run keeps.
use Rattle.std.specs.Prelude.{◌≡◌, ◌<◌, ℕ, true, Option, Some, List, slice_get}
use Rattle.edr_record.specs.Parts.{PrePart, CrashPart}
use Rattle.edr_record.specs.declared.Record.{Record}
use Rattle.edr_record.specs.declared.Command.TheVariants as command
use Rattle.edr_image.specs.declared.Ack.{Ack}
use Rattle.edr_image.specs.declared.Kind.TheVariants as kind
use Rattle.edr_image.specs.declared.Applied.TheVariants as applied
use Rattle.edr_image.specs.declared.BankView.TheVariants.{Event}
use Rattle.edr_image.specs.Answered.{IsLockedIn, IsLockedWith}
use Rattle.edr_image.specs.Banks.{Store}
use Rattle.edr_image.specs.Reports.{Ran}
use Rattle.edr_spell.specs.declared.CycleInput.{CycleInput}
use Rattle.edr_run.specs.Cycle.{Outcome}
use Rattle.edr_run.specs.Logged.{IsLogged, NoTakeBetween}
use Rattle.edr_run.specs.Own.{IsInWindow}

-- each event that stands after the run is one of the cycle that had its number, with its own parts, or stood in its bank at first
abbrev pub StaysInWindow : List CycleInput → Store → ℕ → Outcome → Type 0
StaysInWindow cs v n o = (i : ℕ) (r : Record) → slice_get o.store.banks i ≡ Some (Event r) → IsInWindow cs v.banks n o.reports i r

-- an event that was locked at first stands in its bank as it was
abbrev pub LeavesLocked : Store → Outcome → Type 0
LeavesLocked v o = (i : ℕ) (r : Record) → slice_get v.banks i ≡ Some (Event r) → r.locked ≡ true → slice_get o.store.banks i ≡ Some (Event r)

-- the acknowledgement in place j of the log of the cycle in place k tells that an event was locked in the bank m
pub record IsLockAck (cs : List CycleInput) (o : Outcome) (k j m : ℕ) : Type 0 where
  pub cycle : CycleInput
  pub number : ℕ
  pub stop : Option ℕ
  pub log : List Ack
  pub ack : Ack
  pub ran : slice_get cs k ≡ Some cycle
  pub told : slice_get o.reports k ≡ Some (Ran number stop log)
  pub stands : slice_get log j ≡ Some ack
  pub is_lock : ack.kind ≡ kind.Lock
  pub is_locked : ack.applied ≡ applied.Locked m

-- its event is locked in that bank
abbrev pub KeepsLocked : List CycleInput → Outcome → Type 0
KeepsLocked cs o = (k j m : ℕ) (a : IsLockAck cs o k j m)
    → (pre : PrePart) × IsLogged a.cycle.feeds a.number j (command.Lock pre) × IsLockedIn o.store.banks m pre

-- and where a Done follows in that log before another Take, it has the crash part of that Done
abbrev pub KeepsDone : List CycleInput → Outcome → Type 0
KeepsDone cs o = (k j l m : ℕ) (a : IsLockAck cs o k j m) (done : Ack) → slice_get a.log l ≡ Some done → done.kind ≡ kind.Done → j < l → NoTakeBetween a.log j l
    → (pre : PrePart) × (crash : CrashPart)
    × IsLogged a.cycle.feeds a.number j (command.Lock pre) × IsLogged a.cycle.feeds a.number l (command.Done crash)
    × IsLockedWith o.store.banks m pre crash
