-- The first byte is put over what was filled.
use Rattle.std.proofs.Common.{◌≤◌, arith, length, subst, List, ℕ}
use Rattle.edr_device.specs.Device.{IsQuiet}
use Rattle.edr_device.specs.Pieces.{SameBut}
use Rattle.edr_device.proofs.SettlingLemmas.{elapses_again, map_ok}
use Rattle.edr_image.specs.Image.{image_size}
use Rattle.edr_banks.specs.Laying.{IsPartlyOver, IsUnmarked}
use Rattle.edr_banks.proofs.MarkingLemmas.{filled_part, filled_put, unmarked_part}
use Rattle.edr_banks.proofs.overlay.put_image.Goals as goal

pub returns-clause-done : goal.returns-clause-done
returns-clause-done g c =
    let D = g.N.Nvm in
    let start = c.args.nvm.now in
    let end = c.write_settled.new.nvm in
    let full = image_size (g.I.Image.bank_count c.args.image.now) in
    let target = g.I.Image.bytes c.args.image.now in
    let is = c.requires.whole in
    map_ok c.write_settled.result c.write_settled.ensures.done (λ done. λ bytes bare.
    let wide : full ≤ length bytes = omega (arith, g.met.N.Nvm.told_size start bytes bare.0.0, c.requires.room) in
    let now = c.in_ok-fill_image.ensures.filled bytes bare in
    subst (λ (xs : List ℕ). IsQuiet (D.content end) (D.settled end) xs) (filled_put full target bytes now.0 is wide now.2) (done now.0 now.1))

pub returns-clause-any_moment : goal.returns-clause-any_moment
returns-clause-any_moment g c = λ bytes bare.
    let D = g.N.Nvm in
    let start = c.args.nvm.now in
    let mid = c.fill_image.new.nvm in
    let end = c.write_settled.new.nvm in
    let full = image_size (g.I.Image.bank_count c.args.image.now) in
    let target = g.I.Image.bytes c.args.image.now in
    let is = c.requires.whole in
    let wide : full ≤ length bytes = omega (arith, g.met.N.Nvm.told_size start bytes bare.0.0, c.requires.room) in
    let now = c.in_ok-fill_image.ensures.filled bytes bare in
    elapses_again (D.clock start) (D.clock mid) (D.since start) (D.since mid) (D.since end) (IsUnmarked full bytes) (SameBut 0 1 now.0) (IsPartlyOver full target bytes)
    (c.fill_image.ensures.any_moment bytes bare) (c.write_settled.ensures.any_moment now.0 now.1) c.fill_image.ensures.later
    (λ image left. unmarked_part full target bytes image left) (λ image but. filled_part full target bytes now.0 image is wide now.2 but)
