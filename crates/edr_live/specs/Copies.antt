-- What a copy shows, as the commands since the opening.
use Rattle.std.specs.Prelude.{List, [], ◌∷◌, ◌++◌}
use Rattle.edr_live.specs.declared.copy.LiveCopy.{LiveCopy}
use Rattle.edr_live.specs.declared.knowledge.Trail.{Trail}
use Rattle.edr_live.specs.declared.shown.ShownCommand.{ShownCommand}
use Rattle.edr_live.specs.Entries.{commands_in}

-- the commands that it shows, in order
abbrev pub commands_of_copy : LiveCopy → List ShownCommand
commands_of_copy x = commands_in x.shown.items

-- what both copies have in common
abbrev pub trail_of : LiveCopy → Trail
trail_of x = record { opening = x.opening.value; shown = commands_of_copy x }

-- after one more command
abbrev pub trail_after : Trail → ShownCommand → Trail
trail_after t c = record { opening = t.opening; shown = t.shown ++ c ∷ [] }
