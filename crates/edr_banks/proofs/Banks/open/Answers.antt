-- What was read is what the image says.
use Rattle.std.proofs.Common.{◌≡◌, ◌<◌, ◌∙◌, Some, ap, sym, arith, length, List, ℕ}
use Rattle.std.proofs.lemmas.Result.{err_from_is_err_and}
use Rattle.edr_image.specs.declared.OpenFault.TheVariants as open_fault
use Rattle.edr_image.specs.Image.{image_refusal}
use Rattle.edr_banks.specs.Opening.{IsRefusal}
use Rattle.edr_banks.proofs.FirstByteLemmas.{shown_first, where_ok}
use Rattle.edr_banks.proofs.HeaderByteLemmas.{IsFront, refused_by_first, refused_short, view_read}
use Rattle.edr_banks.proofs.Banks.open.Goals as goal

pub returns-then-size-least-clause-refused : goal.returns-then-size-least-clause-refused
returns-then-size-least-clause-refused g c = λ _ bytes told.
    let size : length bytes ≡ c.size-size.result = g.met.N.Nvm.told_size c.args.nvm.now bytes told ∙ sym c.size-size.ensures in
    let short : length bytes < 96 = omega (arith, size, c.if-size-least.true) in
    refused_short bytes short ∙ ap (λ (n : ℕ). Some (open_fault.Short n 96)) size

pub returns-in_err-header-clause-refused : goal.returns-in_err-header-clause-refused
returns-in_err-header-clause-refused g c =
    let D = g.N.Nvm in
    let p = err_from_is_err_and c.from_residual.result c.from_residual.ensures.1 in
    let f : IsRefusal c.in_err-header.field-0.0 → (bytes : List ℕ) → D.content c.args.nvm.now ≡ Some bytes → image_refusal bytes ≡ Some c.in_err-header.field-0.0 = λ _ bytes told.
    let size : length bytes ≡ c.size-size.result = g.met.N.Nvm.told_size c.args.nvm.now bytes told ∙ sym c.size-size.ensures in
    let shows = shown_first c.read.new.into bytes (D.content c.args.nvm.now) told (where_ok c.read.result c.is_err.result c.is_err.ensures.value c.if-is_err.false c.read.ensures.bytes) in
    let front : IsFront c.read.new.into bytes = λ k below. shows k (omega arith) in
    refused_by_first c.read.new.into bytes c.size-size.result front c.if-size-least.false size ∙ c.in_err-header.ensures.refused in
    rw (p.1, p.2) f

pub returns-clause-view : goal.returns-clause-view
returns-clause-view g c = λ bytes told.
    let D = g.N.Nvm in
    let size : length bytes ≡ c.size-size.result = g.met.N.Nvm.told_size c.args.nvm.now bytes told ∙ sym c.size-size.ensures in
    let shows = shown_first c.read.new.into bytes (D.content c.args.nvm.now) told (where_ok c.read.result c.is_err.result c.is_err.ensures.value c.if-is_err.false c.read.ensures.bytes) in
    let front : IsFront c.read.new.into bytes = λ k below. shows k (omega arith) in
    view_read c.read.new.into bytes c.size-size.result c.in_ok-header.header c.in_ok-banks.banks.items c.read_count.result front c.if-size-least.false size c.in_ok-header.ensures.accepted c.in_ok-header.ensures.header
    (c.in_ok-banks.ensures.views bytes (c.read.ensures.stays.same_content ∙ told)) c.read_count.ensures
