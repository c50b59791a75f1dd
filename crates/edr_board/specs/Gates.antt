-- The numbers of the gate.
use Rattle.std.specs.Prelude.{ℕ}
use Rattle.edr_board.specs.declared.status.GateWord.{GateWord}
use Rattle.edr_board.specs.declared.status.GateWord.TheVariants.{Shut, Open, End}

-- the number that stands for what the gate says
abbrev pub gate_number : GateWord → ℕ
gate_number Shut = 0
gate_number Open = 1
gate_number End = 2
