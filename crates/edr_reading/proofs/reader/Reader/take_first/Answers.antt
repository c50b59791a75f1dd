use Rattle.std.proofs.{Common.{arith, ◌∙◌, sym, ap, decimal}, lemmas.{Option.{MatchOption-at_none, none-some}, Result.err_from_is_err_and}}
use Rattle.edr_reading.proofs.ReadLemmas.{block-refused, first-at, or-err, takes-from}
use Rattle.edr_reading.proofs.reader.Reader.take_first.Goals as goal

pub returns-in_err-bank : goal.returns-in_err-bank
returns-in_err-bank c =
    let row = c.args.row.now in
    let p = err_from_is_err_and c.from_residual.result c.from_residual.ensures.1 in
    let n = c.in_err-bank.ensures in
    rw (p.1, p.2, or-err _ _ _ n.value n.ok_part)
    (λ rows h. block-refused c.args.self.now rows row.name.now row.value.now h c.requires.between row.block.now c.requires.block
    (λ may bank ok free e. MatchOption-at_none _ _ n.ok_part c.bank_of_next.ensures.none may bank ok free))

pub returns-in_err-ok_or : goal.returns-in_err-ok_or
returns-in_err-ok_or c =
    let row = c.args.row.now in
    let p = err_from_is_err_and c.from_residual-in_err-ok_or.result c.from_residual-in_err-ok_or.ensures.1 in
    let n = c.in_err-ok_or.ensures in
    rw (p.1, p.2, or-err _ _ _ n.value n.ok_part)
    (λ rows h. block-refused c.args.self.now rows row.name.now row.value.now h c.requires.between row.block.now c.requires.block
    (λ may bank ok free e. none-some _ (sym n.ok_part ∙ c.last_within.ensures.whole c.block-block.result (omega arith, omega arith) (e ∙ ap decimal (sym c.block-block.ensures)))))

pub take_line-requires-clause-read : goal.take_line-requires-clause-read
take_line-requires-clause-read c =
    let p = c.requires.read in
    let b = rw c.in_ok-bank.ensures.ok_part at c.bank_of_next.ensures.read in
    (p.0, first-at c.args.self.now p.0 _ p.1 b.2 b.0 b.1 (record { pre = c.plain_pre.ensures; crash = tt }))

pub returns : goal.returns
returns c =
    let b = rw c.in_ok-bank.ensures.ok_part at c.bank_of_next.ensures.read in
    takes-from _ _ _ c.take_line.ensures (λ rows h. first-at c.args.self.now rows _ h b.2 b.0 b.1 (record { pre = c.plain_pre.ensures; crash = tt }))
