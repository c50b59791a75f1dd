-- What a contract sees of the two ends.
use Rattle.std.specs.Prelude.{Bool, List, Option}
use Rattle.left_right.specs.Sides.{view}
use Rattle.edr_live.specs.declared.shown.LiveView.{LiveView}
use Rattle.edr_live.specs.declared.shown.ShownCommand.{ShownCommand}
use Rattle.edr_live.specs.declared.ends.LiveWriter.{LiveWriter}
use Rattle.edr_live.specs.declared.ends.LiveReader.{LiveReader}
use Rattle.edr_live.specs.Copies.{commands_of_copy}
use Rattle.edr_live.specs.Shown.{shown_view}

-- the banks at opening
abbrev pub opened_by : LiveWriter → LiveView
opened_by w = w.writer.desk.shown.value.opening.value

-- the same as a reader knows them, which it always does
abbrev pub opening_known : LiveReader → Option LiveView
opening_known r = (view r.reader.place).opening

-- what a writer has shown
abbrev pub shown_by : LiveWriter → List ShownCommand
shown_by w = commands_of_copy w.writer.desk.shown.value

-- all banks as it shows them
abbrev pub view_shown : LiveWriter → LiveView
view_shown w = shown_view (opened_by w) (shown_by w)

-- memory has run out in a show: nothing is shown any more
abbrev pub has_ended : LiveWriter → Bool
has_ended w = w.ended

-- the lists of shown commands that a reader saw or was told of, the last one first
abbrev pub lists_known : LiveReader → List (List ShownCommand)
lists_known r = (view r.reader.place).lists
