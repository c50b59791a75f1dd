-- The event of one more bank is taken where it is the lesser.
use Rattle.std.proofs.Common.{◌∙◌, sym, arith}
use Rattle.edr_banks.specs.Lesser.{referred_event}
use Rattle.edr_banks.proofs.LeastKeyLemmas.{least_left, least_taken}
use Rattle.edr_banks.proofs.bank_choice.least_number.Goals as goal

pub loop-k-preserved-then-is_lesser : goal.loop-k-preserved-then-is_lesser
loop-k-preserved-then-is_lesser c =
    least_taken c.args.banks.now c.loop-k.k c.index-banks-k.result c.in-Event.record (referred_event c.loop-k.least) (omega arith) (omega arith) (sym c.index-banks-k.is) c.in-Event.is c.loop-k.invariant (sym c.is_lesser.ensures ∙ c.if-is_lesser.true)

pub loop-k-preserved-else-is_lesser : goal.loop-k-preserved-else-is_lesser
loop-k-preserved-else-is_lesser c =
    least_left c.args.banks.now c.loop-k.k c.index-banks-k.result c.in-Event.record (referred_event c.loop-k.least) (omega arith) (omega arith) (sym c.index-banks-k.is) c.in-Event.is c.loop-k.invariant (sym c.is_lesser.ensures ∙ c.if-is_lesser.false)
