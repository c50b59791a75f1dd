use Rattle.std.proofs.Common.{ap, arith}
use Rattle.edr_banks.specs.Opened.{OpenedBanks}
use Rattle.edr_image.specs.Image.{image_size}
use Rattle.edr_tests.proofs.drives.begun.Goals as goal

pub returns : goal.returns
returns c =
    let begins = c.in_ok-beginning.ensures.begins in
    let starts = c.in_ok-beginning.ensures.starts in
    let size = c.in_ok-started.ensures.lent.size in
    let fits = c.in_ok-started.ensures.finds.fits in
    let same = ap (λ (b : OpenedBanks). image_size b.store.header.banks) starts.banks_are in
    record {
      senders = λ f. (begins.tied f).begun;
      recording = (_, 0, begins.stands 0);
      posted = begins.posted;
      live = starts.live;
      holds = omega (arith, size, fits, same);
      fresh = begins.fresh;
    }
