use Rattle.std.proofs.Common.{subst, sym}
use Rattle.edr_items.specs.SensorLists.{IsLevel, SensorLists}
use Rattle.edr_tests.proofs.drives.share.Goals as goal

pub returns : goal.returns
returns c = subst (λ (f : SensorLists). IsLevel f) (sym c.in_ok-new.ensures.ok) c.requires
