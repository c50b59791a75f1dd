-- The layouts whose banks can be read.
use Rattle.std.specs.Prelude.{◌<◌, ◌≤◌, ◌+◌, ◌^◌}
use Rattle.edr_image.specs.declared.forms.Layout.{Layout}
use Rattle.edr_image.specs.PartBytes.{HasSlots, IsPreForm, crash_size}
use Rattle.edr_image.specs.Image.{crash_place}

-- the parts of a layout can be told, have the slots of records, and stand in its banks, which have few bytes
pub record IsReadable (layout : Layout) : Type 0 where
  pub form : IsPreForm layout.pre
  pub slots : HasSlots layout.pre
  pub fits : crash_place layout + crash_size layout.crash ≤ layout.bank
  pub few : layout.bank < 2 ^ 16
