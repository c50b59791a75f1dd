-- Each piece stands after those before it.
use Rattle.std.proofs.Common.{◌≡◌, ◌≤◌, ◌+◌, arith, rules, subst, take, drop, length, ℕ}
use Rattle.edr_device.specs.Device.{MayLeave, outside}
use Rattle.edr_image.specs.declared.places.TheConstants.{BANK_SIZE}
use Rattle.edr_image.specs.Image.{image_size, place_of}
use Rattle.edr_device.proofs.SettlingLemmas.{elapses_again, elapses_more, on_err, told_tells, tells_again, wrote_tells}
use Rattle.edr_banks.specs.Laying.{IsUnmarked, Laid}
use Rattle.edr_banks.proofs.LaidPieceLemmas.{IsPieceOf, bare_during, laid_during, laid_first, laid_more}
use Rattle.edr_banks.proofs.PieceLemmas.{bank_piece, head_piece, head_size, piece_size}
use Rattle.edr_banks.proofs.overlay.lay_image.Goals as goal

pub loop-k-init : goal.loop-k-init
loop-k-init g c =
    let D = g.N.Nvm in
    let start = c.args.nvm.now in
    let end = c.write.new.self in
    let full = image_size (g.I.Image.bank_count c.args.image.now) in
    let target = g.I.Image.bytes c.args.image.now in
    let piece = take 95 (drop 1 c.front-front.result) in
    let first = c.front-front.ensures in
    let sized : length target ≡ full = c.requires.whole.size in
    let front_fits : 96 ≤ length target = omega (arith, sized) in
    let long = head_size target c.front-front.result front_fits first in
    record {
      size = search rules;
      faults = search rules;
      device = search rules;
      tells = wrote_tells 1 piece c.write.result (D.content start) (D.content end) (D.settled start) (D.settled end) c.write.ensures.told;
      later = search rules;
      laid = λ bytes bare.
          let room : full ≤ length bytes = omega (arith, g.met.N.Nvm.told_size start bytes bare.0.0, c.requires.room) in
          subst (λ n. Laid full target (1 + n) bytes (D.content end) (D.settled end)) long (laid_more full target 1 piece bytes (D.content start) (D.content end) (D.settled start) (D.settled end) (omega arith) (omega (arith, long)) room (head_piece target c.front-front.result front_fits first)
          (laid_first full target bytes (D.content start) (D.settled start) bare) c.in_ok-write.ensures.told);
      moments = λ bytes bare.
          let room : full ≤ length bytes = omega (arith, g.met.N.Nvm.told_size start bytes bare.0.0, c.requires.room) in
          elapses_more (D.clock start) (D.since start) (D.since end) (MayLeave (D.content start) (outside 1 (length piece) (D.settled start))) (IsUnmarked full bytes) c.write.ensures.crash
          (λ image left. bare_during full target (length piece) bytes (D.content start) (D.settled start) image (omega (arith, long)) room bare left);
    }

pub returns-in_err-write-2-clause-any_moment : goal.returns-in_err-write-2-clause-any_moment
returns-in_err-write-2-clause-any_moment g c = λ bytes bare.
    let D = g.N.Nvm in
    let start = c.args.nvm.now in
    let mid = c.loop-k.nvm in
    let full = image_size (g.I.Image.bank_count c.args.image.now) in
    let target = g.I.Image.bytes c.args.image.now in
    let n = image_size c.loop-k.k in
    let at : c.place.result ≡ n = omega (arith, c.place.ensures.place, c.from_index-bank.ensures) in
    let room : full ≤ length bytes = omega (arith, g.met.N.Nvm.told_size start bytes bare.0.0, c.requires.room) in
    let crash = rw at at c.write-in-loop-k.ensures.crash in
    let sized : length target ≡ full = c.requires.whole.size in
    let k = length c.bank-piece.result in
    let long : k ≡ BANK_SIZE = piece_size target c.bank-piece.result (place_of c.from_index-bank.result) BANK_SIZE (omega (arith, sized, c.from_index-bank.ensures)) c.bank-piece.ensures in
    elapses_again (D.clock start) (D.clock mid) (D.since start) (D.since mid) (D.since c.write-in-loop-k.new.self) (IsUnmarked full bytes) (MayLeave (D.content mid) (outside n k (D.settled mid))) (IsUnmarked full bytes)
    (c.loop-k.invariant.moments bytes bare) crash c.loop-k.invariant.later (λ image s. s)
    (λ image s. laid_during full target n k bytes (D.content mid) (D.settled mid) image (omega arith) (omega (arith, long)) room (c.loop-k.invariant.laid bytes bare) s)

pub returns-in_err-write-2-clause-lent : goal.returns-in_err-write-2-clause-lent
returns-in_err-write-2-clause-lent g c =
    let D = g.N.Nvm in
    let start = c.args.nvm.now in
    let mid = c.loop-k.nvm in
    let end = c.write-in-loop-k.new.self in
    record {
      size = search rules;
      device = g.met.N.Nvm.goes_on_again start mid end c.loop-k.invariant.device c.write-in-loop-k.ensures.device;
      tells = tells_again (D.content start) (D.content mid) (D.content end) c.loop-k.invariant.tells
          (wrote_tells c.place.result c.bank-piece.result c.write-in-loop-k.result _ _ _ _ c.write-in-loop-k.ensures.told);
      cause = record {
        later = omega (arith, c.loop-k.invariant.faults, c.write-in-loop-k.ensures.cause.later);
        failed = on_err c.from_residual-in_err-write-2.result (omega (arith, c.loop-k.invariant.faults, c.in_err-write-2.ensures.cause.failed));
      };
    }

pub loop-k-preserved : goal.loop-k-preserved
loop-k-preserved g c =
    let D = g.N.Nvm in
    let start = c.args.nvm.now in
    let mid = c.loop-k.nvm in
    let end = c.write-in-loop-k.new.self in
    let full = image_size (g.I.Image.bank_count c.args.image.now) in
    let target = g.I.Image.bytes c.args.image.now in
    let n = image_size c.loop-k.k in
    let at : c.place.result ≡ n = omega (arith, c.place.ensures.place, c.from_index-bank.ensures) in
    let told = rw at at c.in_ok-write-2.ensures.told in
    let crash = rw at at c.write-in-loop-k.ensures.crash in
    let sized : length target ≡ full = c.requires.whole.size in
    let k = length c.bank-piece.result in
    let long : k ≡ BANK_SIZE = piece_size target c.bank-piece.result (place_of c.from_index-bank.result) BANK_SIZE (omega (arith, sized, c.from_index-bank.ensures)) c.bank-piece.ensures in
    let there : place_of c.from_index-bank.result ≡ n = omega (arith, c.from_index-bank.ensures) in
    let piece = subst (λ (m : ℕ). IsPieceOf target m c.bank-piece.result) there (bank_piece target c.bank-piece.result (place_of c.from_index-bank.result) BANK_SIZE (omega (arith, sized, c.from_index-bank.ensures)) c.bank-piece.ensures) in
    let more : n + k ≡ image_size (c.loop-k.k + 1) = omega (arith, long) in
    record {
      size = search rules;
      faults = omega (arith, c.loop-k.invariant.faults, c.write-in-loop-k.ensures.cause.later);
      device = g.met.N.Nvm.goes_on_again start mid end c.loop-k.invariant.device c.write-in-loop-k.ensures.device;
      tells = tells_again (D.content start) (D.content mid) (D.content end) c.loop-k.invariant.tells (told_tells _ (D.content mid) (D.content end) told);
      later = omega (arith, c.loop-k.invariant.later, c.write-in-loop-k.ensures.time.later);
      laid = λ bytes bare.
          let room : full ≤ length bytes = omega (arith, g.met.N.Nvm.told_size start bytes bare.0.0, c.requires.room) in
          subst (λ (k : ℕ). Laid full target k bytes (D.content end) (D.settled end)) more (laid_more full target n c.bank-piece.result bytes (D.content mid) (D.content end) (D.settled mid) (D.settled end) (omega arith) (omega (arith, long)) room piece (c.loop-k.invariant.laid bytes bare) told);
      moments = λ bytes bare.
          let room : full ≤ length bytes = omega (arith, g.met.N.Nvm.told_size start bytes bare.0.0, c.requires.room) in
          elapses_again (D.clock start) (D.clock mid) (D.since start) (D.since mid) (D.since end) (IsUnmarked full bytes) (MayLeave (D.content mid) (outside n k (D.settled mid))) (IsUnmarked full bytes)
          (c.loop-k.invariant.moments bytes bare) crash c.loop-k.invariant.later (λ image s. s)
          (λ image s. laid_during full target n k bytes (D.content mid) (D.settled mid) image (omega arith) (omega (arith, long)) room (c.loop-k.invariant.laid bytes bare) s);
    }
