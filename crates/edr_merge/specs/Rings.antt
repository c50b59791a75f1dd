-- The samples that wait of the three sensors that a row is made of.
use Rattle.std.specs.Prelude.{[]}
use Rattle.edr_items.specs.declared.Sensor.{Sensor}
use Rattle.edr_items.specs.declared.Sensor.TheVariants.{Along, Across, Restraint}
use Rattle.edr_items.specs.declared.Item.{Item}
use Rattle.edr_merge.specs.declared.rings.Rings.{Rings}
use Rattle.edr_merge.specs.Samples.{with_sample}

-- none wait
abbrev pub no_samples : Rings
no_samples = record { along = []; across = []; restraint = [] }

-- one more item of that sensor: of the slow ones nothing is kept
abbrev pub with_kept : Sensor → Item → Rings → Rings
with_kept Along x r = record r { along = with_sample x r.along }
with_kept Across x r = record r { across = with_sample x r.across }
with_kept Restraint x r = record r { restraint = with_sample x r.restraint }
with_kept s x r = r
