-- What a source gave, and why it gave nothing.
use Rattle.std.specs.Prelude.{◌≤◌, ℕ, List, length, IfSome, ⊤}
use Rattle.edr_device.specs.Faults.{Rose}
use Rattle.edr_device.specs.Told.{Told}
use Rattle.edr_device.specs.Transfer.{GivesTooMany}
use Rattle.edr_spell.specs.Fault.{FirstFault as IsFaultOf}
use Rattle.edr_spell.specs.Spell.{largest_trace}
use Rattle.edr_cli.specs.declared.fault.Fault.TheVariants as fault
use Rattle.edr_cli.specs.declared.fault.Fault.{Fault}
use Rattle.edr_cli.specs.Outside.{Input, IsAtEnd}

-- the source gave such bytes, and is at its end
abbrev pub Gave : Input → Input → (List ℕ → Type 0) → Type 0
Gave i i' AreSuch = IfSome i.left AreSuch × IsAtEnd i'.left

-- why a source gave no trace; one that gave too much was read for one byte past the most that a trace may have
abbrev pub IsTraceCause : Input → Input → Fault → Type 0
IsTraceCause i i' (fault.Trace t) = IfSome i.left (λ bytes. (length bytes ≤ largest_trace) × IsFaultOf bytes t) × IsAtEnd i'.left
IsTraceCause i i' fault.Read = Rose i.faults i'.faults
IsTraceCause i i' fault.TooLong = Told (GivesTooMany largest_trace) i.left i'.left
IsTraceCause i i' fault.OutOfMemory = ⊤
IsTraceCause i i' other = ⊥
