-- The bytes after the front are zeros.
use Rattle.edr_banks.proofs.NewImageLemmas.{bank_zeros}
use Rattle.edr_banks.proofs.new_image.NewImageImage.bank.Goals as goal

pub returns : goal.returns
returns c =
    let number = rw c.get.ensures.same at c.get.ensures.number in
    bank_zeros c.args.self.now.header c.args.bank number.0 c.requires.to
