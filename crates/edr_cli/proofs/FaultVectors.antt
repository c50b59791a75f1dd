-- Fault lines that are computed.
use Rattle.std.proofs.Common.{◌≡◌, refl, pos, negsuc}
use Rattle.std.specs.Prelude.{codes}
use Rattle.std.specs.Fmt.{digits}
use Rattle.edr_items.specs.declared.Sensor.TheVariants.{Across}
use Rattle.edr_image.specs.declared.HeaderRefused.TheVariants as header
use Rattle.edr_spell.specs.declared.TraceFault.TheVariants as trace
use Rattle.edr_cli.specs.declared.fault.Fault.TheVariants as fault
use Rattle.edr_cli.specs.Faults.{fault_line}

range-fault : fault_line (fault.Trace (record { row = 2; fault = trace.Range (negsuc 99999) (pos 100000) })) ≡ codes "fault: trace row 2: range -100000 to 100000\n"
unfolding digits
range-fault = refl

skew-fault : fault_line (fault.Trace (record { row = 4; fault = trace.Skew Across })) ≡ codes "fault: trace row 4: skew of across\n"
unfolding digits
skew-fault = refl

image-fault : fault_line (fault.Header (header.NotFormatted 0 0)) ≡ codes "fault: image not formatted at 0 found 0\n"
unfolding digits
image-fault = refl

short-fault : fault_line (fault.Short 95 96) ≡ codes "fault: image short 95 of 96\n"
unfolding digits
short-fault = refl
