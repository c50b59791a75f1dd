-- The commands that the log of a cycle keeps in proofs.
use Rattle.std.specs.Prelude.{List, map}
use Rattle.edr_record.specs.declared.Command.{Command}
use Rattle.edr_cycle.specs.declared.logged_command.LoggedCommand.{LoggedCommand}

abbrev pub commands_kept : List LoggedCommand → List Command
commands_kept entries = map (λ (e : LoggedCommand). e.command.value) entries
