use Rattle.std.proofs.Common.{◌∙◌, arith, sym, ap, length, length-append}
use Rattle.edr_cli.proofs.PieceLemmas.{line_numbers, pieces_feed, pieces_follow, pieces_line, pieces_small}
use Rattle.edr_cli.proofs.pieces.pieces_of.Goals as goal

pub returns-in_err-line-clause-none : goal.returns-in_err-line-clause-none
returns-in_err-line-clause-none c = λ none before trace report pieces. pieces_feed c.args.bytes.now before trace report pieces (c.parted_by.ensures.none c.in_err-line.was)

pub returns-then-line-gt-LONGEST_FIRST_LINE-clause-none : goal.returns-then-line-gt-LONGEST_FIRST_LINE-clause-none
returns-then-line-gt-LONGEST_FIRST_LINE-clause-none c = λ none before trace report pieces.
    let p = pieces_line c.args.bytes.now before trace report c.in_ok-line.line.now c.in_ok-line.rest.now pieces c.in_ok-line.ensures.first c.in_ok-line.ensures.parts in
    let long = ap length p.0 in
    omega (arith, c.if-line-gt-LONGEST_FIRST_LINE.true, pieces.short, long)

pub returns-in_err-image_len-clause-none : goal.returns-in_err-image_len-clause-none
returns-in_err-image_len-clause-none c = λ none before trace report pieces.
    let p = pieces_line c.args.bytes.now before trace report c.in_ok-line.line.now c.in_ok-line.rest.now pieces c.in_ok-line.ensures.first c.in_ok-line.ensures.parts in
    let small = pieces_small c.args.bytes.now before trace report pieces c.requires in
    c.lengths_in.ensures.none c.in_err-image_len.was (length before) (length trace) small.0 small.1 p.0

pub returns-in_err-before-clause-none : goal.returns-in_err-before-clause-none
returns-in_err-before-clause-none c = λ none before trace report pieces.
    let p = pieces_line c.args.bytes.now before trace report c.in_ok-line.line.now c.in_ok-line.rest.now pieces c.in_ok-line.ensures.first c.in_ok-line.ensures.parts in
    let n = line_numbers (length before) (length trace) c.in_ok-image_len.image_len c.in_ok-image_len.trace_len (sym c.in_ok-image_len.ensures.some ∙ p.0) in
    let more = pieces_follow before trace report c.in_ok-line.rest.now p.1 in
    let short = c.cut_at.ensures.none c.in_err-before.was in
    omega (arith, short, n.0, more)

pub returns-in_err-trace-clause-none : goal.returns-in_err-trace-clause-none
returns-in_err-trace-clause-none c = λ none before trace report pieces.
    let p = pieces_line c.args.bytes.now before trace report c.in_ok-line.line.now c.in_ok-line.rest.now pieces c.in_ok-line.ensures.first c.in_ok-line.ensures.parts in
    let n = line_numbers (length before) (length trace) c.in_ok-image_len.image_len c.in_ok-image_len.trace_len (sym c.in_ok-image_len.ensures.some ∙ p.0) in
    let more = pieces_follow before trace report c.in_ok-line.rest.now p.1 in
    let short = c.cut_at-2.ensures.none c.in_err-trace.was in
    let whole = ap length c.in_ok-before.ensures.parts in
    let parts = length-append c.in_ok-before.before.now c.in_ok-before.rest.now in
    let first = c.in_ok-before.ensures.first in
    omega (arith, short, n.0, n.1, more, whole, parts, first)
