use Rattle.std.proofs.Common.{◌∙◌, sym, ap, None, Option, ℕ, ◌+◌, drop, get_or, arith}
use Rattle.std.proofs.lemmas.List.Sums.{sum_by-drop_more}
use Rattle.std.specs.List.{flat_map}
use Rattle.std.specs.Option.{option_or, is_some}
use Rattle.edr_image.specs.PartBytes.{damage_of_fields}
use Rattle.edr_codec.specs.declared.rows.FieldRow.{FieldRow}
use Rattle.edr_codec.specs.Rows.{fields_of, row_size}
use Rattle.edr_codec.proofs.FieldLemmas.{rows-go_on, is_some-false, option_or-first}
use Rattle.edr_codec.proofs.rows.damage_of_rows.Goals as goal

-- what a list is read as past its end
abbrev none : FieldRow
none = record { count = 0; size = 0; values = (0, 0); others = None }

pub returns-then-is_some-clause-value : goal.returns-then-is_some-clause-value
returns-then-is_some-clause-value c =
    let bytes = c.args.bytes.now in
    let i = c.loop-row.row-index in
    let rows = c.args.rows.now in
    let first = damage_of_fields bytes c.loop-row.at (fields_of (get_or rows i none)) in
    let rest = damage_of_fields bytes (c.loop-row.at + row_size (get_or rows i none)) (flat_map fields_of (drop (i + 1) rows)) in
    let is = option_or-first first rest (ap is_some (sym c.damage_of_row-damage.ensures.value) ∙ sym c.is_some.ensures ∙ c.if-is_some.true) in
    c.damage_of_row-damage.ensures.value ∙ sym (c.loop-row.invariant.1 ∙ rows-go_on bytes c.loop-row.at i rows none c.loop-row-test.true ∙ is)

pub loop-row-preserved : goal.loop-row-preserved
loop-row-preserved c =
    let bytes = c.args.bytes.now in
    let i = c.loop-row.row-index in
    let rows = c.args.rows.now in
    let rest = damage_of_fields bytes (c.loop-row.at + row_size (get_or rows i none)) (flat_map fields_of (drop (i + 1) rows)) in
    let first = sym c.damage_of_row-damage.ensures.value ∙ is_some-false c.damage_of_row-damage.result (sym c.is_some.ensures ∙ c.if-is_some.false) in
    let sums = sum_by-drop_more row_size rows i none c.loop-row-test.true in (
      omega arith,
      c.loop-row.invariant.1 ∙ rows-go_on bytes c.loop-row.at i rows none c.loop-row-test.true ∙ ap (λ (o : Option ℕ). option_or o rest) first,
    )
