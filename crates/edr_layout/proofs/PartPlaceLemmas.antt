-- A part that is read out of the bytes from its place on is that of the bank.
use Rattle.std.proofs.Common.{◌≡◌, ◌<◌, ◌+◌, ◌∙◌, ℕ, List, slice_index, slice_range, Option, option_map, sym, ap}
use Rattle.edr_record.specs.Parts.{PrePart, CrashPart}
use Rattle.edr_image.specs.declared.forms.CrashForm.{CrashForm}
use Rattle.edr_image.specs.declared.forms.PreForm.{PreForm}
use Rattle.edr_image.specs.PartBytes.{IsPreForm, crash_at, crash_damage_by, crash_size, pre_at_by, pre_damage_by, pre_size}
use Rattle.edr_codec.proofs.MovedLaws.{crash_at-moved, crash_damage-moved, pre_at-moved, pre_damage-moved, range-stands}

pub pre_read : (form : PreForm) → IsPreForm form → (bank part : List ℕ) (at : ℕ) (pre : PrePart) → part ≡ slice_range bank at (at + pre_size form) → pre ≡ pre_at_by form part 0 → pre ≡ pre_at_by form bank at
pre_read form is_form bank part at pre is e =
    e ∙ ap (λ (xs : List ℕ). pre_at_by form xs 0) is ∙ sym (pre_at-moved form is_form at bank (slice_range bank at (at + pre_size form)) (range-stands bank at (pre_size form)))

pub pre_damaged : (form : PreForm) → IsPreForm form → (bank part : List ℕ) (at : ℕ) (o : Option ℕ) → part ≡ slice_range bank at (at + pre_size form) → pre_damage_by form part 0 ≡ o → pre_damage_by form bank at ≡ option_map (λ k. at + k) o
pre_damaged form is_form bank part at o is e =
    pre_damage-moved form is_form at bank (slice_range bank at (at + pre_size form)) (range-stands bank at (pre_size form))
    ∙ ap (λ (x : Option ℕ). option_map (λ k. at + k) x) (ap (λ (xs : List ℕ). pre_damage_by form xs 0) (sym is) ∙ e)

pub crash_read : (form : CrashForm) (bank part : List ℕ) (at : ℕ) (crash : CrashPart) → part ≡ slice_range bank at (at + crash_size form) → crash ≡ crash_at part 0 → crash ≡ crash_at bank at
crash_read form bank part at crash is e =
    e ∙ ap (λ (xs : List ℕ). crash_at xs 0) is ∙ sym (crash_at-moved form at bank (slice_range bank at (at + crash_size form)) (range-stands bank at (crash_size form)))

pub crash_damaged : (form : CrashForm) (bank part : List ℕ) (at : ℕ) (o : Option ℕ) → part ≡ slice_range bank at (at + crash_size form) → crash_damage_by form part 0 ≡ o → crash_damage_by form bank at ≡ option_map (λ k. at + k) o
crash_damaged form bank part at o is e =
    crash_damage-moved form at bank (slice_range bank at (at + crash_size form)) (range-stands bank at (crash_size form))
    ∙ ap (λ (x : Option ℕ). option_map (λ k. at + k) x) (ap (λ (xs : List ℕ). crash_damage_by form xs 0) (sym is) ∙ e)

-- a byte of the part
pub byte_found : (bank part : List ℕ) (at n k found : ℕ) → part ≡ slice_range bank at (at + n) → k < n → found ≡ slice_index part k → found ≡ slice_index bank (at + k)
byte_found bank part at n k found is below e = e ∙ ap (λ (xs : List ℕ). slice_index xs k) is ∙ sym (range-stands bank at n k below)
