use Rattle.std.proofs.Common.{rules, ◌≡◌, ◌∙◌, arith, ap, ℕ, List, [], ◌++◌, take, append_assoc, append-nil, drop, length-append, length-take, length-take-le}
use Rattle.edr_device.proofs.TransferLemmas.{gives_at_most}
use Rattle.edr_fleet.proofs.TakingLemmas.{gives_end, gives_most, gives_next, gives_on}
use Rattle.edr_fleet.proofs.filling.fill.Goals as goal

pub returns-in_err-n : goal.returns-in_err-n
returns-in_err-n g c =
    let S = g.S.Source in
    let inv = c.loop-taken.invariant in
    record {
      filled = search rules;
      within = search rules;
      gives = gives_at_most _ c.args.most inv.piece (S.left c.args.source.now) (S.left c.loop-taken.source) (S.left c.take_piece.new.source)
          (omega (arith, inv.taken, inv.within, inv.most, c.min-room.ensures, length-take {A = ℕ})) inv.gives c.in_err-n.ensures.err;
      later = omega (arith, inv.later, c.in_err-n.ensures.later);
      failed = search rules;
      not_too_long = search rules;
    }

pub returns-then-n-eq0 : goal.returns-then-n-eq0
returns-then-n-eq0 g c =
    let S = g.S.Source in
    let inv = c.loop-taken.invariant in
    let n = c.in_ok-n.n in
    let piece = take n c.take_piece.new.buffer in
    let none : n ≡ 0 = c.if-n-eq0.true in
    let empty : piece ≡ [] = ap (λ (k : ℕ). take k c.take_piece.new.buffer) none in
    record {
      filled = (
        inv.piece,
        c.in_ok-n.ensures.gained ∙ ap (λ (t : List ℕ). c.loop-taken.held.items ++ t) empty ∙ append-nil c.loop-taken.held.items ∙ inv.held,
        inv.taken,
        gives_end n inv.piece piece (S.left c.args.source.now) (S.left c.loop-taken.source) (S.left c.take_piece.new.source) none empty inv.gives c.in_ok-n.ensures.carries,
      );
      within = search rules;
      gives = gives_most c.args.most (inv.piece ++ piece) (S.left c.args.source.now) (S.left c.take_piece.new.source)
          (omega (arith, length-append inv.piece piece, length-take-le n c.take_piece.new.buffer, inv.taken, inv.within, inv.most, c.if-n-eq0.true))
          (gives_next n inv.piece piece (S.left c.args.source.now) (S.left c.loop-taken.source) (S.left c.take_piece.new.source) inv.gives c.in_ok-n.ensures.carries);
      later = omega (arith, inv.later, c.in_ok-n.ensures.later);
      failed = λ e. absurd (cc);
      not_too_long = λ e. absurd (cc);
    }

pub returns : goal.returns
returns g c =
    let S = g.S.Source in
    let inv = c.loop-taken.invariant in
    record {
      filled = (inv.piece, inv.held, inv.taken, gives_on inv.piece (S.left c.args.source.now) (S.left c.loop-taken.source) inv.gives);
      within = search rules;
      gives = gives_most c.args.most inv.piece (S.left c.args.source.now) (S.left c.loop-taken.source) (omega (arith, inv.taken, inv.within, inv.most)) inv.gives;
      later = inv.later;
      failed = λ e. absurd (cc);
      not_too_long = λ e. absurd (cc);
    }

pub loop-taken-preserved : goal.loop-taken-preserved
loop-taken-preserved g c =
    let S = g.S.Source in
    let inv = c.loop-taken.invariant in
    let n = c.in_ok-n.n in
    let buffer = c.take_piece.new.buffer in
    let piece = take n buffer in
    let long = length-take-le n buffer (omega (arith, c.in_ok-n.ensures.within, c.take_piece.auto.buffer)) in
    record {
      piece = inv.piece ++ piece;
      held = c.in_ok-n.ensures.gained ∙ ap (λ (t : List ℕ). t ++ piece) inv.held ∙ append_assoc c.args.held.now.items inv.piece piece;
      taken = omega (arith, inv.taken, length-append inv.piece piece, long);
      within = omega (arith, c.in_ok-n.ensures.within, c.min-room.ensures, length-take {A = ℕ});
      most = inv.most;
      buffer = omega (arith, length-append buffer (drop c.min-room.result c.loop-taken.buffer), c.take_piece.auto.buffer, c.min-room.ensures, c.loop-taken-test.true, inv.buffer, length-take {A = ℕ});
      gives = gives_next n inv.piece piece (S.left c.args.source.now) (S.left c.loop-taken.source) (S.left c.take_piece.new.source) inv.gives c.in_ok-n.ensures.carries;
      later = omega (arith, inv.later, c.in_ok-n.ensures.later);
    }
