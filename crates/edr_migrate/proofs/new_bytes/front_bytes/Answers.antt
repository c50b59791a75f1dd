-- The count is put into the front of a new image.
use Rattle.std.proofs.Common.{◌∙◌}
use Rattle.edr_migrate.proofs.ImageByteLemmas.{front_put}
use Rattle.edr_migrate.proofs.new_bytes.front_bytes.Goals as goal

pub returns : goal.returns
returns c = front_put c.args.header c.args.count c.gate_byte.result c.new_front-front.result c.copy_from_slice.new.self c.new_front-front.ensures c.gate_byte.ensures (c.copy_from_slice.ensures.after ∙ c.write_u32.ensures)
