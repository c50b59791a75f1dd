use Rattle.std.proofs.Common.{ap, sym, subst, ◌∙◌, List, Option, ℕ}
use Rattle.std.specs.Prelude.{All}
use Rattle.edr_record.specs.Bounds.{IsUpTo}
use Rattle.edr_capture.specs.SensorPart.{SensorPart}
use Rattle.edr_core.proofs.SlotLemmas.{speeds-up-to}
use Rattle.edr_core.proofs.ask.speeds_of.Goals as goal

pub speeds-requires : goal.speeds-requires
speeds-requires c = speeds-up-to (record { sensor = c.part.inside.sensor; zero = c.part.inside.zero; slots = c.part.inside.slots }) c.part.invariant (ap (λ (q : SensorPart). q.sensor) c.part.view_is ∙ c.requires)

pub returns-clause-bounded : goal.returns-clause-bounded
returns-clause-bounded c =
    subst (λ (xs : List (Option ℕ)). All (IsUpTo 300) xs) (sym c.speeds.ensures)
    (speeds-up-to (record { sensor = c.part.inside.sensor; zero = c.part.inside.zero; slots = c.part.inside.slots }) c.part.invariant (ap (λ (q : SensorPart). q.sensor) c.part.view_is ∙ c.requires))
