use Rattle.std.proofs.Common.{ap, sym, subst, ◌∙◌, List, Option, ℕ}
use Rattle.std.specs.Prelude.{All}
use Rattle.edr_record.specs.Bounds.{IsUpTo}
use Rattle.edr_capture.specs.SensorPart.{SensorPart}
use Rattle.edr_core.proofs.SlotLemmas.{per_cents-up-to}
use Rattle.edr_core.proofs.ask.per_cents_of.Goals as goal

pub per_cents-requires : goal.per_cents-requires
per_cents-requires c = per_cents-up-to (record { sensor = c.part.inside.sensor; zero = c.part.inside.zero; slots = c.part.inside.slots }) c.part.invariant (ap (λ (q : SensorPart). q.sensor) c.part.view_is ∙ c.requires)

pub returns-clause-bounded : goal.returns-clause-bounded
returns-clause-bounded c =
    subst (λ (xs : List (Option ℕ)). All (IsUpTo 100) xs) (sym c.per_cents.ensures)
    (per_cents-up-to (record { sensor = c.part.inside.sensor; zero = c.part.inside.zero; slots = c.part.inside.slots }) c.part.invariant (ap (λ (q : SensorPart). q.sensor) c.part.view_is ∙ c.requires))
