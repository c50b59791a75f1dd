use Rattle.std.proofs.Common.{arith, ◌+◌, ◌-◌, ◌++◌, length-append}
use Rattle.edr_device.proofs.TransferLemmas.{gives_at_most}
use Rattle.edr_fleet.proofs.TakingLemmas.{gives_all, gives_more}
use Rattle.edr_fleet.proofs.taking.read_frames.Goals as goal

pub returns-in_err-filled-clause-most : goal.returns-in_err-filled-clause-most
returns-in_err-filled-clause-most g c =
    let S = g.S.Source in
    let inv = c.loop-taken.invariant in
    gives_at_most (c.args.limit + 1 - c.loop-taken.taken) (c.args.limit + 1) inv.bytes (S.left c.args.source.now) (S.left c.loop-taken.source) (S.left c.take_on.new.source)
    (omega (arith, inv.taken, inv.within)) inv.gives c.take_on.ensures.gives

pub returns-then-filled-clause-most : goal.returns-then-filled-clause-most
returns-then-filled-clause-most g c =
    let S = g.S.Source in
    let inv = c.loop-taken.invariant in
    gives_at_most (c.args.limit + 1 - c.loop-taken.taken) (c.args.limit + 1) inv.bytes (S.left c.args.source.now) (S.left c.loop-taken.source) (S.left c.take_on.new.source)
    (omega (arith, inv.taken, inv.within)) inv.gives c.take_on.ensures.gives

pub returns-then-filled-clause-all : goal.returns-then-filled-clause-all
returns-then-filled-clause-all g c =
    let S = g.S.Source in
    let inv = c.loop-taken.invariant in
    let fills = c.in_ok-filled.ensures.filled in
    let piece = fills.0 in
    let within = c.in_ok-filled.ensures.within.1 c.if-filled.true in (
      inv.bytes ++ piece,
      fills.1 inv.bytes inv.gave,
      omega (arith, length-append inv.bytes piece, inv.taken, inv.within, fills.2, within),
      gives_all inv.bytes piece _ (S.left c.args.source.now) (S.left c.loop-taken.source) (S.left c.take_on.new.source) c.if-filled.true inv.gives fills.3,
    )

pub loop-taken-preserved : goal.loop-taken-preserved
loop-taken-preserved g c =
    let S = g.S.Source in
    let inv = c.loop-taken.invariant in
    let fills = c.in_ok-filled.ensures.filled in
    let piece = fills.0 in
    record {
      bytes = inv.bytes ++ piece;
      gave = fills.1 inv.bytes inv.gave;
      taken = omega (arith, inv.taken, length-append inv.bytes piece, fills.2);
      within = omega (arith, inv.taken, inv.within, c.in_ok-filled.ensures.within.0);
      buffer = inv.buffer;
      gives = gives_more inv.bytes piece _ (S.left c.args.source.now) (S.left c.loop-taken.source) (S.left c.take_on.new.source) inv.gives fills.3;
      later = omega (arith, inv.later, c.in_ok-filled.ensures.later);
    }
