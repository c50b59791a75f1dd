use Rattle.std.proofs.Common.{refl, ◌≡◌, true, None}
use Rattle.std.specs.Prelude.{IfSome}
use Rattle.std.proofs.lemmas.List.Elements.{All-replicate}
use Rattle.edr_items.specs.declared.Sensor.TheVariants.{Speed}
use Rattle.edr_items.specs.Sensor.{is_in_range}
use Rattle.edr_record.specs.declared.TheConstants.{LONG_SLOTS}
use Rattle.edr_core.proofs.ask.PartPlace.empty.Goals as goal

pub invariant_of-result : goal.invariant_of-result
invariant_of-result c = record {
  slow = refl;
  long = refl;
  range = All-replicate (λ o. IfSome o (λ v. is_in_range Speed v ≡ true)) LONG_SLOTS None tt;
  its = tt;
}
