-- The forms of the versions are such as the laws ask for.
use Rattle.std.proofs.Common.{◌≡◌, ◌≤◌, ◌↔◌, inl, inr, refl, sym, ℕ, nat_eq, subst, arith}
use Rattle.std.proofs.lemmas.Bool.{cases_Bool, cases_lt}
use Rattle.edr_record.specs.Bounds.{IsPre, slots_in}
use Rattle.edr_record.specs.Parts.{PrePart}
use Rattle.edr_record.specs.declared.Profile.{Profile}
use Rattle.edr_record.specs.declared.Profile.TheVariants.{Short, Long}
use Rattle.edr_image.specs.declared.forms.TheConstants.{VERSION_1, VERSION_2}
use Rattle.edr_image.specs.PartBytes.{slots_of, profile_byte, profile_from, IsPreForm, HasProfile, HasSlots, IsPreBy}
use Rattle.edr_codec.proofs.PreLemmas.{IsProfile, by-record, record-by, record-profile}

-- version 1 has eleven slots, whatever the profile byte
slots-1 : (profile : ℕ) → slots_of VERSION_1.pre profile ≡ 11
slots-1 profile = elim (cases_Bool (nat_eq profile 0)) [ inl e ↦ rw e refl | inr e ↦ rw e refl ]

pub version_1-form : IsPreForm VERSION_1.pre
version_1-form = record {
  order = omega arith;
  byte = omega arith;
  room = λ profile. rw (slots-1 profile) (omega arith);
  told = λ profile low high. subst (λ (b : ℕ). profile_byte VERSION_1.pre (profile_from VERSION_1.pre b) ≡ b) (let e : 0 ≡ profile = omega arith in e) refl;
}

pub version_1-slots : HasSlots VERSION_1.pre
version_1-slots = λ profile low high. subst (λ (b : ℕ). slots_of VERSION_1.pre b ≡ slots_in (profile_from VERSION_1.pre b)) (let e : 0 ≡ profile = omega arith in e) refl

-- and no long profile
pub version_1-short : (profile : Profile) → HasProfile VERSION_1.pre profile → profile ≡ Short
version_1-short Short has = refl
version_1-short Long has = sym has

-- version 2 has no more than 201 slots, and one of two profile bytes
slots-2 : (profile : ℕ) → slots_of VERSION_2.pre profile ≤ 201
slots-2 profile = elim (cases_Bool (nat_eq profile 1)) [ inl e ↦ rw e (omega arith) | inr e ↦ rw e (omega arith) ]

either : (P : ℕ → Type 0) (profile : ℕ) → 1 ≤ profile → profile ≤ 2 → P 1 → P 2 → P profile
either P profile low high one two = elim (cases_lt profile 2) [
  | inl less ↦ subst P (let e : 1 ≡ profile = omega arith in e) one
  | inr more ↦ subst P (let e : 2 ≡ profile = omega arith in e) two
]

pub version_2-form : IsPreForm VERSION_2.pre
version_2-form = record {
  order = omega arith;
  byte = omega arith;
  room = slots-2;
  told = λ profile low high. either (λ b. profile_byte VERSION_2.pre (profile_from VERSION_2.pre b) ≡ b) profile low high refl refl;
}

pub version_2-slots : HasSlots VERSION_2.pre
version_2-slots = λ profile low high. either (λ b. slots_of VERSION_2.pre b ≡ slots_in (profile_from VERSION_2.pre b)) profile low high refl refl

pub version_2-has : (profile : Profile) → HasProfile VERSION_2.pre profile
version_2-has Short = refl
version_2-has Long = refl

pub version_2-profile : (profile : Profile) → IsProfile VERSION_2.pre (slots_in profile) profile
version_2-profile profile = record-profile VERSION_2.pre profile version_2-form version_2-slots (version_2-has profile)

-- ---- the parts of the versions are those of records

version_1-has : (profile : Profile) → profile ≡ Short → HasProfile VERSION_1.pre profile
version_1-has profile is = subst (λ (p : Profile). HasProfile VERSION_1.pre p) (sym is) refl

pub version_1-profiles : (profile : Profile) → HasProfile VERSION_1.pre profile ↔ (profile ≡ Short)
version_1-profiles profile = (version_1-short profile, version_1-has profile)

pub version_1-parts : (p : PrePart) → IsPreBy VERSION_1.pre p ↔ (IsPre p × (p.profile ≡ Short))
version_1-parts p = (
  (λ by. (by-record VERSION_1.pre p version_1-form version_1-slots by, version_1-short p.profile by.profile)),
  (λ is. record-by VERSION_1.pre p version_1-form version_1-slots is.0 (version_1-has p.profile is.1)),
)

pub version_2-parts : (p : PrePart) → IsPreBy VERSION_2.pre p ↔ IsPre p
version_2-parts p = (
  by-record VERSION_2.pre p version_2-form version_2-slots,
  (λ is. record-by VERSION_2.pre p version_2-form version_2-slots is (version_2-has p.profile)),
)
