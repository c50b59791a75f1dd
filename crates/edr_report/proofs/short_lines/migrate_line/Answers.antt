use Rattle.std.proofs.Common.{◌∙◌, append_assoc}
use Rattle.edr_report.proofs.short_lines.migrate_line.Goals as goal

pub returns : goal.returns
returns c =
    let first = rw (c.new-line.ensures, c.from.ensures) at c.push_number.ensures.bytes in
    let second = rw first at c.push_number-2.ensures.bytes in
    let whole = c.new.ensures ∙ c.push_str.ensures.bytes in
    simp append_assoc (simp append_assoc at (rw second at whole))
