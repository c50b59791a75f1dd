use Rattle.std.proofs.Common.{◌∙◌, sym, arith}
use Rattle.edr_codec.specs.Rows.{ranges_of}
use Rattle.edr_codec.proofs.FieldLemmas.{field-goes_on, field-stops, number-grows, number-small}
use Rattle.edr_codec.proofs.rows.FieldRow.damaged_byte.Goals as goal

pub overflow_mul-begun : goal.overflow_mul-begun
overflow_mul-begun c = let h = number-small c.loop-k.begun c.loop-k.k 0 c.loop-k.invariant.0 (omega arith) (omega arith) in omega arith

pub overflow_add-begun : goal.overflow_add-begun
overflow_add-begun c = let h = number-small c.loop-k.begun c.loop-k.k c.from.result c.loop-k.invariant.0 (omega arith) (omega arith) in omega arith

pub can_begin-requires-clause-small : goal.can_begin-requires-clause-small
can_begin-requires-clause-small c = number-small c.loop-k.begun c.loop-k.k c.from.result c.loop-k.invariant.0 (omega arith) (omega arith)

pub returns-then-not-can_begin-clause-value : goal.returns-then-not-can_begin-clause-value
returns-then-not-can_begin-clause-value c =
    sym (c.loop-k.invariant.1
    ∙ field-stops (ranges_of c.args.self.now) c.args.bytes.now c.args.at c.loop-k.begun c.args.self.now.size c.loop-k.k c.from.result c.loop-k-test.true c.from.ensures (sym c.can_begin.ensures ∙ c.if-not-can_begin.true))

pub loop-k-preserved : goal.loop-k-preserved
loop-k-preserved c = (
  number-grows c.loop-k.begun c.loop-k.k c.from.result c.loop-k.invariant.0 (omega arith),
  c.loop-k.invariant.1
      ∙ field-goes_on (ranges_of c.args.self.now) c.args.bytes.now c.args.at c.loop-k.begun c.args.self.now.size c.loop-k.k c.from.result c.loop-k-test.true c.from.ensures (sym c.can_begin.ensures ∙ c.if-not-can_begin.false),
)
