-- What is put over the bytes without the magic is what is put over them.
use Rattle.std.proofs.Common.{subst, arith, List, ℕ}
use Rattle.edr_device.specs.Device.{IsQuiet}
use Rattle.edr_device.proofs.SettlingLemmas.{elapses_again, map_ok}
use Rattle.edr_image.specs.Image.{image_size}
use Rattle.edr_banks.specs.Laying.{IsPartlyOver, IsUnmarking}
use Rattle.edr_banks.proofs.MarkingLemmas.{over_same, part_before, unmarking_part}
use Rattle.edr_banks.proofs.overlay.write_image.Goals as goal

pub returns-clause-done : goal.returns-clause-done
returns-clause-done g c =
    let D = g.N.Nvm in
    let end = c.put_image.new.nvm in
    let full = image_size (g.I.Image.bank_count c.args.image.now) in
    let target = g.I.Image.bytes c.args.image.now in
    map_ok c.put_image.result c.put_image.ensures.done (λ done. λ bytes quiet first.
    let now = c.in_ok-unmark.ensures.bare bytes quiet first in
    subst (λ (xs : List ℕ). IsQuiet (D.content end) (D.settled end) xs) (over_same full target bytes now.0 (omega arith) now.2) (done now.0 now.1))

pub returns-clause-any_moment : goal.returns-clause-any_moment
returns-clause-any_moment g c = λ bytes quiet first.
    let D = g.N.Nvm in
    let start = c.args.nvm.now in
    let mid = c.unmark.new.nvm in
    let end = c.put_image.new.nvm in
    let full = image_size (g.I.Image.bank_count c.args.image.now) in
    let target = g.I.Image.bytes c.args.image.now in
    let now = c.in_ok-unmark.ensures.bare bytes quiet first in
    elapses_again (D.clock start) (D.clock mid) (D.since start) (D.since mid) (D.since end) (IsUnmarking bytes) (IsPartlyOver full target now.0) (IsPartlyOver full target bytes)
    (c.unmark.ensures.any_moment bytes quiet first) (c.put_image.ensures.any_moment now.0 now.1) c.unmark.ensures.later
    (λ image is. unmarking_part full target bytes image (omega arith) is) (λ image part. part_before full target bytes now.0 image (omega arith) now.2 now.1.1 part)
