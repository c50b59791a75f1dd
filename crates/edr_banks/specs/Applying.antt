-- What a command leaves of opened banks and of time.
use Rattle.std.specs.Prelude.{◌≡◌, ◌⊎◌, ◌+◌, ◌-◌, ℕ, Bool, true, false, List, [], fold, Option, Some, None, slice_get, Result, Ok, Err, IfOk, IfErr, OnOk, OnErr}
use Rattle.edr_record.specs.Parts.{CrashPart, PrePart}
use Rattle.edr_record.specs.declared.Record.{Record}
use Rattle.edr_record.specs.declared.Command.{Command}
use Rattle.edr_record.specs.declared.Command.TheVariants as command
use Rattle.edr_image.specs.declared.Applied.{Applied}
use Rattle.edr_image.specs.declared.Applied.TheVariants.{NotKept}
use Rattle.edr_image.specs.declared.BankView.{BankView}
use Rattle.edr_image.specs.declared.BankView.TheVariants.{Event}
use Rattle.edr_device.specs.Faults.{Rose}
use Rattle.edr_device.specs.Lent.{At, Between, GoesOn, LeftSince, MakesCalls}
use Rattle.edr_device.specs.declared.device.Nvm.{Ghosts}
use Rattle.edr_image.specs.Banks.{with_bank}
use Rattle.edr_image.specs.Calls.{all_calls}
use Rattle.edr_image.specs.Image.{View, view_of}
use Rattle.edr_gates.specs.Taken.{AreStopped, AreTaken, EachIsPassedOn, IsReady, MayTakeAll, PassMeanwhileOn}
use Rattle.edr_image.specs.Steps.{BankStep, Reply, after, held_after, reply_to}
use Rattle.edr_banks.specs.declared.ApplyFault.{ApplyFault}
use Rattle.edr_banks.specs.declared.ApplyFault.TheVariants.{StoreFault, Ended}
use Rattle.edr_banks.specs.Opened.{OpenedBanks, state_of}

-- ---- the banks after a command

-- the steps of a command, and its answer
abbrev pub reply_of : OpenedBanks → Command → Reply
reply_of o c = reply_to (state_of o) c

abbrev pub steps_for : OpenedBanks → Command → List BankStep
steps_for o c = (reply_of o c).steps

-- the banks after steps, with the bank that is then held
abbrev pub opened_after : OpenedBanks → List BankStep → OpenedBanks
opened_after o steps = record o { store = after o.store steps; held = fold held_after o.held steps }

-- the banks with a new event in that bank, which is then held
abbrev pub with_held_event : ℕ → PrePart → Bool → OpenedBanks → OpenedBanks
with_held_event bank pre locked o = record o {
  store = record o.store { banks = with_bank o.store.banks bank (Event (record { pre = pre; locked = locked; crash = None })) };
  held = Some bank;
}

-- no command is taken any more
abbrev pub ended_after : OpenedBanks → OpenedBanks
ended_after o = record o { ended = true }

-- ---- what a crash in or after it may leave

-- the event at place i of the image is this one, or a Done of the bank that is held has given it its crash part
abbrev pub IsSameOrDone : Command → Option ℕ → ℕ → Record → List BankView → Type 0
IsSameOrDone c held i r banks =
    (slice_get banks i ≡ Some (Event r))
    ⊎ ((held ≡ Some (i + 1)) × (crash : CrashPart) × (c ≡ command.Done crash) × (slice_get banks i ≡ Some (Event (record r { crash = Some crash }))))

-- a crash part of the image at place i stood in that bank before, or a Done of the bank that is held gives it
abbrev pub IsOldOrDone : Command → Option ℕ → List BankView → ℕ → CrashPart → Type 0
IsOldOrDone c held old i crash =
    ((r : Record) × (slice_get old i ≡ Some (Event r)) × (r.crash ≡ Some crash)) ⊎ ((held ≡ Some (i + 1)) × (c ≡ command.Done crash))

-- a crash in or after a command on the opened banks may leave an image that says w, of a device that told v, these banks
pub record MayLeaveView {D : Type 0} (g : Ghosts D) (o : OpenedBanks) (c : Command) (old new : D) (v w : View) : Type 0 where
  pub bytes : List ℕ
  pub image : List ℕ
  pub ready : At g (IsReady (steps_for o c)) old bytes v
  pub same : v.store ≡ o.store
  pub left : LeftSince g old new image
  pub seen : view_of image ≡ Some w

-- a locked event stays in its bank, but for the crash part that its own Done gives it
abbrev pub KeepsLockedEvents : Command → Option ℕ → List BankView → List BankView → Type 0
KeepsLockedEvents c held old new = (i : ℕ) (r : Record) → slice_get old i ≡ Some (Event r) → r.locked ≡ true → IsSameOrDone c held i r new

-- each crash part was there, or the Done of its event gives it
abbrev pub KeepsCrashParts : Command → Option ℕ → List BankView → List BankView → Type 0
KeepsCrashParts c held old new =
    (i : ℕ) (r : Record) (crash : CrashPart) → slice_get new i ≡ Some (Event r) → r.crash ≡ Some crash → IsOldOrDone c held old i crash

-- the banks that a crash in or after the command may leave are such, beside those that the device told
abbrev pub LeavesBanks : {D : Type 0} → Ghosts D → (Command → Option ℕ → List BankView → List BankView → Type 0) → OpenedBanks → Command → D → D → Type 0
LeavesBanks g keeps o c old new = (v w : View) → MayLeaveView g o c old new v w → keeps c o.held v.store.banks w.store.banks

-- ---- the outcome of a command, in one record

-- Whatever comes of it, the memory goes on. Nothing is done where the table has no step, and after a fault of the device; else the
-- steps are taken on the memory, and at Ok on the banks. A locked event stays in each image, but for the crash part that its own
-- Done gives it.
pub record Applies {D : Type 0} (g : Ghosts D) (o o' : OpenedBanks) (c : Command) (old new : D) (result : Result Applied ApplyFault) : Type 0 where
  pub lent : GoesOn g old new
  pub answer : IfOk result (λ a. (o.ended ≡ false) × (a ≡ (reply_of o c).answer))
  pub next : OnOk result (o' ≡ opened_after o (steps_for o c))
  pub not_kept : o.ended ≡ false → steps_for o c ≡ [] → (result ≡ Ok NotKept) × (o' ≡ o) × (new ≡ old)
  pub kept : IfOk result (λ a. a ≡ NotKept → steps_for o c ≡ [])
  pub ended : o.ended ≡ true → (result ≡ Err Ended) × (o' ≡ o) × (new ≡ old)
  pub fault : IfErr result (λ e. o.ended ≡ false → (e ≡ StoreFault) × Rose (g.faults old) (g.faults new))
  pub spoiled : OnErr result (o' ≡ ended_after o)
  pub time : o.ended ≡ false → MakesCalls (all_calls (steps_for o c)) g old new result
  -- the steps may be taken on these banks
  pub may : MayTakeAll o.store.banks (steps_for o c)
  pub taken : OnOk result (Between g (AreTaken (steps_for o c)) old new)
  pub stopped : OnErr result (o.ended ≡ false → Between g (AreStopped (steps_for o c) (g.clock new - g.clock old)) old new)
  pub any_moment : PassMeanwhileOn g (steps_for o c) old new
  pub each : EachIsPassedOn g (steps_for o c) old new
  pub locked : LeavesBanks g KeepsLockedEvents o c old new
  pub crash_parts : LeavesBanks g KeepsCrashParts o c old new
