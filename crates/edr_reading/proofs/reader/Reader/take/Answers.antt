use Rattle.std.proofs.{Common.{arith, ◌∙◌, sym, ap, decimal}, lemmas.{Option.none-some, Result.err_from_is_err_and}}
use Rattle.edr_reading.proofs.ReadLemmas.{end-refused, line-block-refused, or-err}
use Rattle.edr_reading.proofs.reader.Reader.take.Goals as goal

pub returns-in_err-ok_or-in-Line : goal.returns-in_err-ok_or-in-Line
returns-in_err-ok_or-in-Line c =
    let row = c.args.row.now in
    let p = err_from_is_err_and c.from_residual.result c.from_residual.ensures.1 in
    let n = c.in_err-ok_or-in-Line.ensures in
    rw (p.1, p.2, or-err _ _ _ n.value n.ok_part)
    (λ rows h. line-block-refused c.args.self.now rows c.in-Line.line c.in-Line.event row.block.now row.name.now row.value.now h c.in-Line.is
    (λ e. none-some _ (sym n.ok_part ∙ c.last_within.ensures.whole c.block-block.result (omega arith, omega arith) (e ∙ ap decimal (sym c.block-block.ensures)))))

pub returns-in-Nothing : goal.returns-in-Nothing
returns-in-Nothing c rows h = let row = c.args.row.now in end-refused c.args.self.now rows c.in-Nothing.count row.block.now row.name.now row.value.now h c.in-Nothing.is
