-- What a form and its printer have given.
use Rattle.std.specs.Prelude.{◌≡◌, List, ◌++◌, flat_map, string_bytes}
use Rattle.edr_report.specs.declared.forms.Lines as form
use Rattle.edr_report.specs.declared.printer.Printer.{Printer}
use Rattle.edr_report.specs.Lines.{Line, line}

-- the form has these lines more
abbrev pub GainsLines : {L : Type 0} → form.Ghosts L → L → L → List Line → Type 0
GainsLines g old new lines = g.bytes new ≡ g.bytes old ++ flat_map g.form lines

-- the form took these lines, and can take more
pub record Takes {L : Type 0} (g : form.Ghosts L) (old new : L) (lines : List Line) : Type 0 where
  pub ready : g.ready new
  pub bytes : GainsLines g old new lines

-- the line of block 0 that has the printer's name and value
abbrev pub named_line : {L : Type 0} → Printer L → Line
named_line printer = line 0 (string_bytes printer.name) (string_bytes printer.value)
