-- A sync settles what was laid.
use Rattle.std.proofs.Common.{◌≤◌, arith, length, List, ℕ}
use Rattle.edr_image.specs.Image.{image_size}
use Rattle.edr_banks.specs.Laying.{IsBare}
use Rattle.edr_banks.proofs.LaidPieceLemmas.{filled_if}
use Rattle.edr_banks.proofs.overlay.fill_image.Goals as goal

pub returns-clause-filled : goal.returns-clause-filled
returns-clause-filled g c =
    let D = g.N.Nvm in
    let start = c.args.nvm.now in
    let mid = c.lay_image.new.nvm in
    let end = c.sync.new.self in
    let full = image_size (g.I.Image.bank_count c.args.image.now) in
    let target = g.I.Image.bytes c.args.image.now in
    let wide = λ (bytes : List ℕ) (bare : IsBare (D.content start) (D.settled start) bytes). let fits : full ≤ length bytes = omega (arith, g.met.N.Nvm.told_size start bytes bare.0.0, c.requires.room) in fits in
    filled_if c.sync.result full target (λ bytes. IsBare (D.content start) (D.settled start) bytes) (D.content mid) (D.content end) (D.settled mid) (D.settled end) (c.requires.whole.size) wide c.in_ok-lay_image.ensures.laid c.sync.ensures.told
