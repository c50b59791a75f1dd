-- The front is that of the image.
use Rattle.std.proofs.Common.{◌∙◌}
use Rattle.edr_migrate.specs.OldImage.{view_in}
use Rattle.edr_migrate.proofs.ImageByteLemmas.{image_front}
use Rattle.edr_migrate.proofs.old_image.OldImageImage.front.Goals as goal

pub returns : goal.returns
returns c = let o = c.args.self.now in c.front_bytes.ensures ∙ image_front (view_in o.header o.count o.bytes.now)
