-- What is read out of the bytes of the part is read out of the bank.
use Rattle.std.proofs.Common.{◌≡◌, ◌+◌, ◌∙◌, Some, None, slice_range, sym, ap, arith, ℕ, List}
use Rattle.edr_image.specs.PartBytes.{crash_at, crash_damage_by, crash_size}
use Rattle.edr_codec.proofs.GrammarLaws.{crash_damage-within}
use Rattle.edr_layout.proofs.PartPlaceLemmas.{byte_found, crash_damaged, crash_read}
use Rattle.edr_layout.proofs.bank.crash_of.Goals as goal

-- the bytes of the part
is_part : (bank : List ℕ) (place found size : ℕ) → found ≡ size → slice_range bank place (place + found) ≡ slice_range bank place (place + size)
is_part bank place found size same = ap (λ (n : ℕ). slice_range bank place (place + n)) same

pub overflow_add-result : goal.overflow_add-result
overflow_add-result c =
    let place = c.crash_place-place.result in
    let part = slice_range c.args.bank.now place (place + c.size.result) in
    let below = crash_damage-within c.args.layout.now.crash part c.in-Err.field-0.offset c.in-Err.ensures.damaged in
    omega (arith, below, c.crash_place-place.ensures, c.requires.layout.fits, c.requires.layout.few)

pub returns-in-Ok-clause-read : goal.returns-in-Ok-clause-read
returns-in-Ok-clause-read c =
    let form = c.args.layout.now.crash in
    let bank = c.args.bank.now in
    let place = c.crash_place-place.result in
    crash_read form bank (slice_range bank place (place + c.size.result)) place c.in-Ok.crash (is_part bank place c.size.result (crash_size form) c.size.ensures) c.in-Ok.ensures.read
    ∙ ap (λ (n : ℕ). crash_at bank n) c.crash_place-place.ensures

pub returns-in-Ok-clause-whole : goal.returns-in-Ok-clause-whole
returns-in-Ok-clause-whole c =
    let form = c.args.layout.now.crash in
    let bank = c.args.bank.now in
    let place = c.crash_place-place.result in
    sym (ap (λ (n : ℕ). crash_damage_by form bank n) c.crash_place-place.ensures)
    ∙ crash_damaged form bank (slice_range bank place (place + c.size.result)) place None (is_part bank place c.size.result (crash_size form) c.size.ensures) c.in-Ok.ensures.whole

pub returns-in-Err-clause-damaged : goal.returns-in-Err-clause-damaged
returns-in-Err-clause-damaged c =
    let form = c.args.layout.now.crash in
    let bank = c.args.bank.now in
    let place = c.crash_place-place.result in
    sym (ap (λ (n : ℕ). crash_damage_by form bank n) c.crash_place-place.ensures)
    ∙ crash_damaged form bank (slice_range bank place (place + c.size.result)) place (Some c.in-Err.field-0.offset) (is_part bank place c.size.result (crash_size form) c.size.ensures) c.in-Err.ensures.damaged

pub returns-in-Err-clause-found : goal.returns-in-Err-clause-found
returns-in-Err-clause-found c =
    let form = c.args.layout.now.crash in
    let bank = c.args.bank.now in
    let place = c.crash_place-place.result in
    let part = slice_range bank place (place + c.size.result) in
    let below = crash_damage-within form part c.in-Err.field-0.offset c.in-Err.ensures.damaged in
    byte_found bank part place (crash_size form) c.in-Err.field-0.offset c.in-Err.field-0.found (is_part bank place c.size.result (crash_size form) c.size.ensures) below c.in-Err.ensures.found
