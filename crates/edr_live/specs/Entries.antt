-- The commands that a copy keeps.
use Rattle.std.specs.Prelude.{List, map}
use Rattle.edr_live.specs.declared.shown.ShownCommand.{ShownCommand}
use Rattle.edr_live.specs.declared.entry.ShownEntry.{ShownEntry}

-- the commands of these entries
abbrev pub commands_in : List ShownEntry → List ShownCommand
commands_in entries = map (λ (e : ShownEntry). e.command.value) entries
