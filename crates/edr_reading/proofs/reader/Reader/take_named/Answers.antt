use Rattle.std.proofs.{Common.{arith, sym, ◌∙◌}, lemmas.{Option.{none-some}, Result.err_from_is_err_and}}
use Rattle.edr_reading.proofs.FaultLemmas.{or-ok}
use Rattle.edr_reading.proofs.ReadLemmas.{ack-read, count-read, cycle-read, damaged-read, or-err, value-refused}
use Rattle.edr_reading.proofs.reader.Reader.take_named.Goals as goal
use Rattle.edr_reading.proofs.reader.Reader.take_named.Goals.{in-Cycle+in_ok-first-in-Cycle+in_ok-or-in-Cycle, in-Ack+in_ok-applied-in-Ack+in_ok-or-in-Ack, in-Bank+in_ok-view-in-Bank+in_ok-or-in-Bank, in-Count+in_ok-count-in-Count}

pub returns-in_err-first-in-Cycle : goal.returns-in_err-first-in-Cycle
returns-in_err-first-in-Cycle c =
    let p = err_from_is_err_and c.from_residual.result c.from_residual.ensures.1 in
    let n = c.in_err-first-in-Cycle.ensures in
    rw (p.1, p.2, or-err _ _ _ n.value n.ok_part, c.in-Cycle.is)
    (λ w o rows h. value-refused c.args.self.now rows w c.args.value.now _ h o (λ a e v i block banks more t. none-some _ (sym n.ok_part ∙ c.cycle_value.ensures.whole t.1 t.2 t.3)))

pub returns-in_err-applied-in-Ack : goal.returns-in_err-applied-in-Ack
returns-in_err-applied-in-Ack c =
    let p = err_from_is_err_and c.from_residual-in_err-applied-in-Ack.result c.from_residual-in_err-applied-in-Ack.ensures.1 in
    let n = c.in_err-applied-in-Ack.ensures in
    rw (p.1, p.2, or-err _ _ _ n.value n.ok_part, c.in-Ack.is)
    (λ w o rows h. value-refused c.args.self.now rows w c.args.value.now _ h o (λ a e v i block banks more t. none-some _ (sym n.ok_part ∙ c.answer.ensures.whole t.1 t.2 t.3)))

pub returns-in_err-view-in-Bank : goal.returns-in_err-view-in-Bank
returns-in_err-view-in-Bank c =
    let p = err_from_is_err_and c.from_residual-in_err-view-in-Bank.result c.from_residual-in_err-view-in-Bank.ensures.1 in
    let n = c.in_err-view-in-Bank.ensures in
    rw (p.1, p.2, or-err _ _ _ n.value n.ok_part, c.in-Bank.is)
    (λ w o rows h. value-refused c.args.self.now rows w c.args.value.now _ h o (λ a e v i block banks more t. none-some _ (sym n.ok_part ∙ c.damage.ensures.whole t.0 t.1 t.2)))

pub returns-in_err-count-in-Count : goal.returns-in_err-count-in-Count
returns-in_err-count-in-Count c =
    let p = err_from_is_err_and c.from_residual-in_err-count-in-Count.result c.from_residual-in_err-count-in-Count.ensures.1 in
    let n = c.in_err-count-in-Count.ensures in
    rw (p.1, p.2, or-err _ _ _ n.value n.ok_part, c.in-Count.is)
    (λ w o rows h. value-refused c.args.self.now rows w c.args.value.now _ h o (λ a e v i block banks more t. none-some _ (sym n.ok_part ∙ c.count.ensures.whole t.0 (omega arith) t.1)))

pub returns : goal.returns
returns c w o rows h = elim c.match-name.branch [
  | in-Cycle+in_ok-first-in-Cycle+in_ok-or-in-Cycle z ↦
      let only = rw z.in-Cycle.is at o in
      let read = rw z.in_ok-first-in-Cycle.ensures.ok_part at z.cycle_value.ensures in
      let e = rw (or-ok _ _ _ z.in_ok-or-in-Cycle.ensures) at z.end_cycle.ensures in
      rw z.self-is (cycle-read c.args.self.now rows w c.args.value.now h z.in_ok-first-in-Cycle.first z.end_cycle.new.self only read.read.1 read.read.0 read.whole e.run e.last.1 e.found e.next)
  | in-Ack+in_ok-applied-in-Ack+in_ok-or-in-Ack z ↦
      let only = rw z.in-Ack.is at o in
      let read = rw z.in_ok-applied-in-Ack.ensures.ok_part at z.answer.ensures in
      let e = rw (or-ok _ _ _ z.in_ok-or-in-Ack.ensures) at z.push.ensures in
      rw z.self-is (ack-read c.args.self.now rows w c.args.value.now h z.in-Ack.kind z.in-Ack.tick z.in_ok-applied-in-Ack.applied (record c.args.self.now { acks = z.push.new.self }) only read.read.1 read.read.0 e.items)
  | in-Bank+in_ok-view-in-Bank+in_ok-or-in-Bank z ↦
      let only = rw z.in-Bank.is at o in
      let read = rw z.in_ok-view-in-Bank.ensures.ok_part at z.damage.ensures in
      let e = rw (or-ok _ _ _ z.in_ok-or-in-Bank.ensures) at z.push-in-Bank.ensures in
      rw z.self-is (damaged-read c.args.self.now rows w c.args.value.now h z.in-Bank.bank z.in_ok-view-in-Bank.view (record c.args.self.now { found = z.push-in-Bank.new.self }) only read.read.1 read.read.0 e.items)
  | in-Count+in_ok-count-in-Count z ↦
      let only = rw z.in-Count.is at o in
      let part = z.in_ok-count-in-Count.ensures.ok_part in
      let shows = rw part at z.count.ensures.read in
      let range = rw part at z.count.ensures.range in
      rw z.self-is (count-read c.args.self.now rows w c.args.value.now h z.in_ok-count-in-Count.count only shows range.1)
]
