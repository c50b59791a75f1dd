-- Either byte 0 is not that of the magic, or it alone may have changed.
use Rattle.std.proofs.Common.{◌∙◌}
use Rattle.edr_device.specs.Pieces.{SameBut}
use Rattle.edr_device.proofs.SettlingLemmas.{elapses_more}
use Rattle.edr_banks.specs.Laying.{IsUnmarking}
use Rattle.edr_banks.proofs.MarkingLemmas.{unmarking_marked}
use Rattle.edr_banks.proofs.overlay.unmark.Goals as goal

pub returns-then-first-clause-any_moment : goal.returns-then-first-clause-any_moment
returns-then-first-clause-any_moment g c = λ bytes quiet first.
    let D = g.N.Nvm in
    elapses_more (D.clock c.args.nvm.now) (D.since c.args.nvm.now) (D.since c.write_settled.new.nvm) (SameBut 0 1 bytes) (IsUnmarking bytes)
    (c.write_settled.ensures.any_moment bytes quiet) (λ image but. unmarking_marked bytes image (first ∙ c.if-first.true) but)
