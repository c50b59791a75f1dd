-- The bank is that of the image.
use Rattle.edr_migrate.proofs.ImageViewLemmas.{old_bank_range}
use Rattle.edr_migrate.proofs.old_image.OldImageImage.bank.Goals as goal

pub returns : goal.returns
returns c =
    let o = c.args.self.now in
    let number = rw c.get.ensures.same at c.get.ensures.number in
    old_bank_range o.header o.count o.bytes.now c.args.bank c.view_at.result c.bank_bytes.result c.requires.told number.0 c.requires.to c.view_at.ensures c.bank_bytes.ensures
