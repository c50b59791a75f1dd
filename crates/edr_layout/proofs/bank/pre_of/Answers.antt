-- What is read out of the bytes of the part is read out of the bank.
use Rattle.std.proofs.Common.{◌≡◌, ◌+◌, Some, None, slice_range, ap, arith, ℕ, List}
use Rattle.edr_image.specs.PartBytes.{pre_size}
use Rattle.edr_codec.proofs.GrammarLaws.{pre_damage-within}
use Rattle.edr_layout.proofs.PartPlaceLemmas.{byte_found, pre_damaged, pre_read}
use Rattle.edr_layout.proofs.bank.pre_of.Goals as goal

-- the bytes up to the crash part are those of the pre part
is_part : (bank : List ℕ) (size place : ℕ) → place ≡ 16 + size → slice_range bank 16 place ≡ slice_range bank 16 (16 + size)
is_part bank size place same = ap (λ (n : ℕ). slice_range bank 16 n) same

pub overflow_add-result : goal.overflow_add-result
overflow_add-result c =
    let form = c.args.layout.now.pre in
    let below = pre_damage-within form c.requires.layout.form (slice_range c.args.bank.now 16 c.crash_place.result) c.in-Err.field-0.offset c.in-Err.ensures.damaged in
    omega (arith, below, c.requires.layout.fits, c.requires.layout.few)

pub returns-in-Ok-clause-read : goal.returns-in-Ok-clause-read
returns-in-Ok-clause-read c =
    let form = c.args.layout.now.pre in
    let bank = c.args.bank.now in
    let place = c.crash_place.result in
    pre_read form c.requires.layout.form bank (slice_range bank 16 place) 16 c.in-Ok.pre (is_part bank (pre_size form) place c.crash_place.ensures) c.in-Ok.ensures.read

pub returns-in-Ok-clause-whole : goal.returns-in-Ok-clause-whole
returns-in-Ok-clause-whole c =
    let form = c.args.layout.now.pre in
    let bank = c.args.bank.now in
    let place = c.crash_place.result in
    pre_damaged form c.requires.layout.form bank (slice_range bank 16 place) 16 None (is_part bank (pre_size form) place c.crash_place.ensures) c.in-Ok.ensures.whole

pub returns-in-Err-clause-damaged : goal.returns-in-Err-clause-damaged
returns-in-Err-clause-damaged c =
    let form = c.args.layout.now.pre in
    let bank = c.args.bank.now in
    let place = c.crash_place.result in
    pre_damaged form c.requires.layout.form bank (slice_range bank 16 place) 16 (Some c.in-Err.field-0.offset) (is_part bank (pre_size form) place c.crash_place.ensures) c.in-Err.ensures.damaged

pub returns-in-Err-clause-found : goal.returns-in-Err-clause-found
returns-in-Err-clause-found c =
    let form = c.args.layout.now.pre in
    let bank = c.args.bank.now in
    let place = c.crash_place.result in
    let part = slice_range bank 16 place in
    let below = pre_damage-within form c.requires.layout.form part c.in-Err.field-0.offset c.in-Err.ensures.damaged in
    byte_found bank part 16 (pre_size form) c.in-Err.field-0.offset c.in-Err.field-0.found (is_part bank (pre_size form) place c.crash_place.ensures) below c.in-Err.ensures.found
