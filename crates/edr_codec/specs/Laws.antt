-- What the laws of the two parts say of their bytes.
use Rattle.std.specs.Prelude.{◌≡◌, ◌<◌, ◌+◌, ◌↔◌, ℕ, List, Option, Some, None, length, All, option_map, slice_range}
use Rattle.edr_record.specs.Parts.{PrePart, CrashPart}
use Rattle.edr_record.specs.Bounds.{IsCrash}
use Rattle.edr_image.specs.declared.forms.CrashForm.{CrashForm}
use Rattle.edr_image.specs.declared.forms.PreForm.{PreForm}
use Rattle.edr_image.specs.PartBytes.{BeginsCrashBy, BeginsPreBy, IsDamagedAt, IsPreBy, crash_at, crash_bytes_by, crash_damage_by, crash_size, pre_at_by, pre_bytes_by, pre_damage_by, pre_size}

-- so of any n bytes
abbrev pub OfBytes : ℕ → (List ℕ → Type 0) → Type 0
OfBytes n says = (bytes : List ℕ) → length bytes ≡ n → All (λ b. b < 256) bytes → says bytes

-- ---- there and back

-- its bytes are as many as the form has, they are whole, and they say it
abbrev pub PreIsReadBack : PreForm → PrePart → Type 0
PreIsReadBack form p =
    (length (pre_bytes_by form p) ≡ pre_size form)
    × (pre_damage_by form (pre_bytes_by form p) 0 ≡ None)
    × (pre_at_by form (pre_bytes_by form p) 0 ≡ p)

abbrev pub CrashIsReadBack : CrashForm → CrashPart → Type 0
CrashIsReadBack form c =
    (length (crash_bytes_by form c) ≡ crash_size form)
    × (crash_damage_by form (crash_bytes_by form c) 0 ≡ None)
    × (crash_at (crash_bytes_by form c) 0 ≡ c)

-- where they are whole, what they say is in its bounds and has these bytes
abbrev pub PreIsWrittenBack : PreForm → List ℕ → Type 0
PreIsWrittenBack form bytes =
    pre_damage_by form bytes 0 ≡ None → IsPreBy form (pre_at_by form bytes 0) × (pre_bytes_by form (pre_at_by form bytes 0) ≡ bytes)

abbrev pub CrashIsWrittenBack : CrashForm → List ℕ → Type 0
CrashIsWrittenBack form bytes =
    crash_damage_by form bytes 0 ≡ None → IsCrash (crash_at bytes 0) × (crash_bytes_by form (crash_at bytes 0) ≡ bytes)

-- they are damaged at a place exactly where those before it begin a part, and those up to and with it begin none
abbrev pub PreDamageIsFirst : PreForm → List ℕ → Type 0
PreDamageIsFirst form bytes = (k : ℕ) → (pre_damage_by form bytes 0 ≡ Some k) ↔ IsDamagedAt (BeginsPreBy form bytes) k

abbrev pub CrashDamageIsFirst : CrashForm → List ℕ → Type 0
CrashDamageIsFirst form bytes = (k : ℕ) → (crash_damage_by form bytes 0 ≡ Some k) ↔ IsDamagedAt (BeginsCrashBy form bytes) k

-- ---- in further bytes

-- the bytes of a part that stands from a place on
abbrev pub pre_range : PreForm → List ℕ → ℕ → List ℕ
pre_range form bytes at = slice_range bytes at (at + pre_size form)

abbrev pub crash_range : CrashForm → List ℕ → ℕ → List ℕ
crash_range form bytes at = slice_range bytes at (at + crash_size form)

-- a damage of these is one of all, so much further on
abbrev pub further : ℕ → Option ℕ → Option ℕ
further at damage = option_map (λ k. at + k) damage
