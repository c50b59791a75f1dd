-- What the source and the device tell at one moment.
use Rattle.std.specs.Prelude.{◌≡◌, ℕ, Bool, List, [], Option, IfSome, Result, IfOk, IfErr, Vec}
use Rattle.std.specs.declared.alloc.Global.{Global}
use Rattle.edr_device.specs.Faults.{Rose}
use Rattle.edr_device.specs.declared.device.Nvm as device
use Rattle.edr_device.specs.declared.stream.Source as stream

-- a source: the bytes that are left, if it tells them, and its count of faults
pub record Input : Type 0 where
  pub left : Option (List ℕ)
  pub faults : ℕ

-- a device: its size, its bytes, if it tells them, which of them are settled, and its count of faults
pub record Memory : Type 0 where
  pub size : ℕ
  pub content : Option (List ℕ)
  pub settled : ℕ → Bool
  pub faults : ℕ

-- what a source tells
abbrev pub input : {S : Type 0} → stream.Ghosts S → S → Input
input g source = record { left = g.left source; faults = g.faults source }

-- what a device tells
abbrev pub memory : {D : Type 0} → device.Ghosts D → D → Memory
memory g nvm = record { size = g.extent nvm; content = g.content nvm; settled = g.settled nvm; faults = g.faults nvm }

-- the source is at its end, if it tells
abbrev pub IsAtEnd : Option (List ℕ) → Type 0
IsAtEnd left = IfSome left (λ bytes. bytes ≡ [])

-- the count of faults didn't rise
abbrev pub NoFault : {D : Type 0} → (D → ℕ) → D → D → Type 0
NoFault faults old new = ¬ Rose (faults old) (faults new)

-- ---- what is said of what is told, said of the source and of the device

-- of a device before a call and after it
abbrev pub OfMemory : {D : Type 0} {X : Type 1} → device.Ghosts D → (Memory → Memory → X) → D → D → X
OfMemory g says old new = says (memory g old) (memory g new)

-- and of the source before it
abbrev pub OfRun : {S D : Type 0} {X : Type 1} → stream.Ghosts S → device.Ghosts D → (Input → Memory → Memory → X) → S → D → D → X
OfRun s g says source old new = says (input s source) (memory g old) (memory g new)

-- and of the source after it
abbrev pub OfBoth : {S D : Type 0} {X : Type 1} → stream.Ghosts S → device.Ghosts D → (Input → Input → Memory → Memory → X) → S → S → D → D → X
OfBoth s g says source source' old new = says (input s source) (input s source') (memory g old) (memory g new)

-- ---- what is said of an answer

-- a text that is answered is so of the device before the call and after it
abbrev pub AnswersOfMemory : {D E : Type 0} → device.Ghosts D → (Memory → Memory → List ℕ → Type 0) → D → D → Result (Vec ℕ Global) E → Type 0
AnswersOfMemory g says old new result = IfOk result (λ out. OfMemory g says old new out.items)

-- and of the source before it
abbrev pub AnswersOfRun : {S D E : Type 0} → stream.Ghosts S → device.Ghosts D → (Input → Memory → Memory → List ℕ → Type 0) → S → D → D → Result (Vec ℕ Global) E → Type 0
AnswersOfRun s g says source old new result = IfOk result (λ out. OfRun s g says source old new out.items)

-- a fault has this cause
abbrev pub FailsBy : {S D T E : Type 0} → stream.Ghosts S → device.Ghosts D → (Input → Input → Memory → Memory → E → Type 0) → S → S → D → D → Result T E → Type 0
FailsBy s g cause source source' old new result = IfErr result (OfBoth s g cause source source' old new)
