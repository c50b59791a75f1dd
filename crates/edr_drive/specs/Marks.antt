-- A command that stands for banks. What a function over any ledger leaves of it is told by its banks and its log alone, and where the
-- device failed by its log alone. So the log of a ledger that shows begins, in proofs, with the mark of the banks that it began with.
use Rattle.std.specs.Prelude.{ℕ, Some, None, List, [], ◌∷◌, ◌++◌, map}
use base.Stored.{Gv, gnil, gnum, gcons}
use Rattle.edr_record.specs.declared.Place.TheVariants.{First}
use Rattle.edr_record.specs.declared.Profile.TheVariants.{Short}
use Rattle.edr_record.specs.declared.Command.{Command}
use Rattle.edr_record.specs.declared.Command.TheVariants as command
use Rattle.edr_banks.specs.Opened.{OpenedBanks}
use Rattle.edr_banks.specs.contracts.Banks.{the_row}
use Rattle.edr_cycle.specs.CycleLogged.{CycleLogged}

-- the numbers of a tree, each part with its kind before it
abbrev pub numbers_of : Gv → List ℕ
numbers_of gnil = 0 ∷ []
numbers_of (gnum n) = 1 ∷ n ∷ []
numbers_of (gcons a b) = 2 ∷ numbers_of a ++ numbers_of b

-- the command of a part that no event has, with these numbers for its speed
abbrev pub command_with : List ℕ → Command
command_with ns = command.Lock (record {
  key = record { cycle = 0; zero = 0 };
  place = First;
  profile = Short;
  speed = map (λ (n : ℕ). Some n) ns;
  throttle = [];
  brake = [];
  belt = None;
  lamp = None;
})

-- banks as a command
unfoldable pub mark_of : OpenedBanks → Command
mark_of o = command_with (numbers_of (the_row.coded.code o))

-- the log with the mark of these banks before its commands
abbrev pub marked : OpenedBanks → CycleLogged → CycleLogged
marked o l = record l { commands = mark_of o ∷ l.commands }
