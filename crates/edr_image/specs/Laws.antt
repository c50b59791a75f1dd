-- What the laws of the banks say.
use Rattle.std.specs.Prelude.{◌≡◌, ◌⊎◌, ◌+◌, ◌++◌, ℕ, Bool, true, Some, None, List, flat_map, take, slice_get}
use Rattle.edr_record.specs.Parts.{PrePart, CrashPart}
use Rattle.edr_record.specs.declared.Record.{Record}
use Rattle.edr_record.specs.declared.Command.{Command}
use Rattle.edr_record.specs.declared.Command.TheVariants.{Done}
use Rattle.edr_image.specs.declared.BankView.{BankView}
use Rattle.edr_image.specs.declared.BankView.TheVariants.{Event}
use Rattle.edr_image.specs.Banks.{Store}
use Rattle.edr_image.specs.Steps.{Reply, State, BankStep, after, reply_to, steps_of}
use Rattle.edr_image.specs.Calls.{count_acknowledged}
use Rattle.edr_image.specs.Order.{AreOwn, IsOwn}

-- the bank with this index holds the event
abbrev pub HoldsEvent : List BankView → ℕ → Record → Type 0
HoldsEvent banks i r = slice_get banks i ≡ Some (Event r)

-- the banks once the first p of the steps are done
abbrev pub banks_after : Store → ℕ → List BankStep → List BankView
banks_after v p steps = (after v (take p steps)).banks

-- the steps of all replies
abbrev pub all_steps : List Reply → List BankStep
all_steps rs = flat_map (λ r. r.steps) rs

-- the steps of what was acknowledged before a stop in call k are done, and others
abbrev pub HasAcknowledged : List Reply → ℕ → List BankStep → Type 0
HasAcknowledged rs k done = (rest : List BankStep) × (done ≡ all_steps (take (count_acknowledged k rs) rs) ++ rest)

-- after the first p steps of the command the event stands, or it is the one that the command ends
abbrev pub StandsOrEnds : State → Command → ℕ → ℕ → Record → Type 0
StandsOrEnds s c p i r =
    let banks = banks_after s.store p (reply_to s c).steps in
    HoldsEvent banks i r
    ⊎ ((s.held ≡ Some (i + 1)) × (crash : CrashPart) × (c ≡ Done crash) × HoldsEvent banks i (record r { crash = Some crash }))

-- the commands are those of events whose parts these tests tell
abbrev pub AreToldBy : (PrePart → Bool) → (PrePart → CrashPart → Bool) → List Command → Type 0
AreToldBy is_pre go_with cs = AreOwn (λ a. is_pre a ≡ true) (λ a c. go_with a c ≡ true) None cs

-- the event stood there before, or is one of those
abbrev pub StoodOrIsTold : (PrePart → Bool) → (PrePart → CrashPart → Bool) → List BankView → ℕ → Record → Type 0
StoodOrIsTold is_pre go_with banks i r = HoldsEvent banks i r ⊎ IsOwn (λ a. is_pre a ≡ true) (λ a c. go_with a c ≡ true) r

-- after any first steps of the commands each event stood there before, or is one of those
abbrev pub EachStoodOrIsTold : (PrePart → Bool) → (PrePart → CrashPart → Bool) → Store → List Command → Type 0
EachStoodOrIsTold is_pre go_with v cs =
    (p i : ℕ) (r : Record) → HoldsEvent (banks_after v p (steps_of v cs)) i r → StoodOrIsTold is_pre go_with v.banks i r
