-- Both parts are put after the gates.
use Rattle.std.proofs.Common.{◌∙◌, ap, arith}
use Rattle.edr_migrate.specs.NewBytes.{gate_byte}
use Rattle.edr_migrate.proofs.ImageByteLemmas.{event_put}
use Rattle.edr_migrate.proofs.new_bytes.event_bytes.Goals as goal

pub returns : goal.returns
returns c = event_put c.args.event.now c.gate_byte.result c.gate_byte-2.result c.copy_from_slice.new.self c.copy_from_slice-2.new.self c.gate_byte.ensures (c.gate_byte-2.ensures ∙ ap gate_byte c.is_some.ensures) (c.copy_from_slice.ensures.after ∙ c.pre_bytes.ensures) (c.copy_from_slice-2.ensures.after ∙ c.crash_bytes.ensures) (omega arith)
