use Rattle.std.proofs.Common.{◌≤◌, ◌+◌, arith}
use Rattle.edr_codec.proofs.FieldLemmas.{span-small, moved-small}
use Rattle.edr_codec.proofs.rows.FieldRow.can_begin.Goals as goal

pub pow-span-requires : goal.pow-span-requires
pow-span-requires c = let h = span-small c.args.left c.requires.few in omega arith

pub overflow_mul-first : goal.overflow_mul-first
overflow_mul-first c =
    let span : c.pow-span.result ≤ 16_777_216 = rw c.pow-span.ensures (span-small c.args.left c.requires.few) in
    let h = moved-small c.args.begun c.pow-span.result (omega arith) span in
    omega arith

pub overflow_mul-last : goal.overflow_mul-last
overflow_mul-last c =
    let span : c.pow-span.result ≤ 16_777_216 = rw c.pow-span.ensures (span-small c.args.left c.requires.few) in
    let h = moved-small (c.args.begun + 1) c.pow-span.result (omega arith) span in
    omega arith
