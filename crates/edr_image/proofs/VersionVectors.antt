-- Parts and images of version 1, and parts of the long profile, computed.
use Rattle.std.proofs.Common.{◌≡◌, refl, ℕ, true, false, Option, Some, None, List, [], ◌∷◌, ◌++◌, length, replicate, slice_set, take}
use Rattle.edr_record.specs.Parts.{PrePart}
use Rattle.edr_record.specs.declared.Place.TheVariants.{First}
use Rattle.edr_record.specs.declared.Profile.TheVariants.{Short, Long}
use Rattle.edr_image.specs.declared.HeaderRefused.TheVariants as refused
use Rattle.edr_image.specs.declared.OldRefused.TheVariants as old_refused
use Rattle.edr_image.specs.declared.forms.TheConstants.{VERSION_1, VERSION_2}
use Rattle.edr_image.specs.PartBytes.{pre_size, crash_size, profile_byte, profile_from, pre_bytes, pre_bytes_by, crash_bytes, crash_bytes_by, pre_at, pre_at_by, crash_at, pre_damage, pre_damage_by, crash_damage_by, old_pre_at, old_pre_damage, old_crash_damage}
use Rattle.edr_image.specs.Image.{magic, image_size, old_image_size, view_of, view_by, bank_view_by, image_refusal_by, header_refusal, header_refusal_by, old_header_refusal, count_of, old_view_of, old_refusal}
use Rattle.edr_image.proofs.Vectors.{pre_1, crash, speeds}

-- ---- the parts of `crash_with_tie` in version 1

abbrev old_pre : List ℕ
old_pre = pre_bytes_by VERSION_1.pre pre_1

pre-bytes : old_pre ≡ 0 ∷ 0 ∷ 0 ∷ 1 ∷ 0 ∷ 0 ∷ 0x17 ∷ 0x73 ∷ 1 ∷ 0 ∷ 0 ∷ 0 ∷ [] ++ speeds 11 ++ replicate 11 20 ++ replicate 11 0 ++ 1 ∷ 0 ∷ [] ++ replicate 102 0
unfolding pre_bytes_by
pre-bytes = refl

pre-sizes : (pre_size VERSION_1.pre ≡ 160) × (length old_pre ≡ 160)
unfolding pre_bytes_by
pre-sizes = (refl, refl)

pre-whole : old_pre_damage old_pre 0 ≡ None
unfolding pre_damage_by pre_bytes_by
pre-whole = refl

pre-back : old_pre_at old_pre 0 ≡ pre_1
unfolding pre_at_by pre_bytes_by
pre-back = refl

abbrev damage : ℕ → ℕ → Option ℕ
damage at byte = old_pre_damage (slice_set old_pre at byte) 0

-- cycle 0, the profile byte of version 2, a speed of 512 and more, one of 301, the last zero
damage-pre : (damage 3 0 ≡ Some 3) × (damage 9 1 ≡ Some 9) × (damage 12 2 ≡ Some 12) × (old_pre_damage (slice_set (slice_set old_pre 12 1) 13 0x2d) 0 ≡ Some 13) × (damage 159 1 ≡ Some 159)
unfolding pre_damage_by pre_bytes_by
damage-pre = (refl, refl, refl, refl, refl)

abbrev old_crash : List ℕ
old_crash = crash_bytes_by VERSION_1.crash crash

crash-bytes : old_crash ≡ take 136 (crash_bytes crash) ++ replicate 184 0
unfolding crash_bytes_by
crash-bytes = refl

crash-sizes : (crash_size VERSION_1.crash ≡ 320) × (length old_crash ≡ 320)
unfolding crash_bytes_by
crash-sizes = (refl, refl)

crash-whole : old_crash_damage old_crash 0 ≡ None
unfolding crash_damage_by crash_bytes_by
crash-whole = refl

crash-back : crash_at old_crash 0 ≡ crash
unfolding crash_at crash_bytes_by
crash-back = refl

damage-crash : (old_crash_damage (slice_set old_crash 1 0x13) 0 ≡ Some 1) × (old_crash_damage (slice_set old_crash 33 1) 0 ≡ Some 33) × (old_crash_damage (slice_set old_crash 319 1) 0 ≡ Some 319)
unfolding crash_damage_by crash_bytes_by
damage-crash = (refl, refl, refl)

-- ---- the long profile, which uses all the room

-- the pre part of `crash_with_tie`
abbrev long_pre : PrePart
long_pre = record {
  key = record { cycle = 1; zero = 26003 };
  place = First;
  profile = Long;
  speed = replicate 201 (Some 50);
  throttle = replicate 201 (Some 20);
  brake = replicate 201 (Some false);
  belt = Some true;
  lamp = Some false;
}

abbrev long_bytes : List ℕ
long_bytes = 0 ∷ 0 ∷ 0 ∷ 1 ∷ 0 ∷ 0 ∷ 0x65 ∷ 0x93 ∷ 1 ∷ 2 ∷ 0 ∷ 0 ∷ [] ++ speeds 201 ++ replicate 201 20 ++ replicate 201 0 ++ 1 ∷ 0 ∷ [] ++ replicate 30 0

long-bytes : pre_bytes long_pre ≡ long_bytes
unfolding pre_bytes_by
long-bytes = refl

long-size : length long_bytes ≡ 848
long-size = refl

long-whole : pre_damage long_bytes 0 ≡ None
unfolding pre_damage_by
long-whole = refl

long-back : pre_at long_bytes 0 ≡ long_pre
unfolding pre_at_by
long-back = refl

abbrev long_damage : ℕ → ℕ → Option ℕ
long_damage at byte = pre_damage (slice_set long_bytes at byte) 0

-- told short it has a twelfth speed; no other profile
long-profile : (long_damage 9 1 ≡ Some 35) × (long_damage 9 0 ≡ Some 9) × (long_damage 9 3 ≡ Some 9)
unfolding pre_damage_by
long-profile = (refl, refl, refl)

-- the last slots of speed, throttle and brake, and the last zero
long-slots : (long_damage 412 2 ≡ Some 412) × (long_damage 614 101 ≡ Some 614) × (long_damage 815 2 ≡ Some 815) × (long_damage 847 1 ≡ Some 847)
unfolding pre_damage_by
long-slots = (refl, refl, refl, refl)

-- each profile has its byte in version 2, and version 1 has no long one
profile-bytes : (profile_byte VERSION_2.pre Short ≡ 1) × (profile_byte VERSION_2.pre Long ≡ 2) × (profile_from VERSION_1.pre 0 ≡ Short)
profile-bytes = (refl, refl, refl)

-- ---- images

-- the front of an image of two banks with the count 1
abbrev front : ℕ → List ℕ
front version = magic ++ 0 ∷ version ∷ 2 ∷ 0 ∷ replicate 20 0 ++ 0xa5 ∷ 0 ∷ 0 ∷ 0 ∷ 0 ∷ 0 ∷ 0 ∷ 1 ∷ replicate 56 0

-- one event that is done and not locked
abbrev old_image : List ℕ
old_image = front 1 ++ 0xa5 ∷ 0 ∷ 0xa5 ∷ replicate 13 0 ++ old_pre ++ old_crash ++ replicate 528 0

abbrev new_image : List ℕ
new_image = front 2 ++ 0xa5 ∷ 0 ∷ 0xa5 ∷ replicate 13 0 ++ pre_bytes pre_1 ++ crash_bytes crash ++ replicate 1024 0

old_image-sizes : (old_image_size 2 ≡ 1120) × (length old_image ≡ 1120)
unfolding pre_bytes_by crash_bytes_by
old_image-sizes = (refl, refl)

image-sizes : (image_size 2 ≡ 2144) × (length new_image ≡ 2144) × (image_size 16 ≡ 16480)
unfolding pre_bytes_by crash_bytes_by
image-sizes = (refl, refl, refl)

-- both versions say the same of this event
image-view : view_of new_image ≡ old_view_of old_image
unfolding view_by image_refusal_by header_refusal_by count_of bank_view_by pre_damage_by crash_damage_by pre_at_by crash_at pre_bytes_by crash_bytes_by
image-view = refl

-- and refuse each other's header
image-version_1 : header_refusal old_image ≡ Some (refused.Version 1)
unfolding header_refusal_by pre_bytes_by crash_bytes_by
image-version_1 = refl

image-version_2 : old_header_refusal new_image ≡ Some (refused.Version 2)
unfolding header_refusal_by pre_bytes_by crash_bytes_by
image-version_2 = refl

-- ---- old images that are migrated, or aren't

migrated : old_refusal old_image ≡ None
unfolding old_refusal header_refusal_by bank_view_by pre_damage_by crash_damage_by pre_at_by crash_at pre_bytes_by crash_bytes_by
migrated = refl

not_migrated-short : (old_refusal [] ≡ Some (old_refused.Short 0 96)) × (old_refusal (take 95 old_image) ≡ Some (old_refused.Short 95 96)) × (old_refusal (take 1119 old_image) ≡ Some (old_refused.Short 1119 1120))
unfolding old_refusal header_refusal_by pre_bytes_by crash_bytes_by
not_migrated-short = (refl, refl, refl)

not_migrated-header : (old_refusal new_image ≡ Some (old_refused.Header (refused.Version 2))) × (old_refusal (replicate 96 0) ≡ Some (old_refused.Header (refused.NotFormatted 0 0)))
unfolding old_refusal header_refusal_by pre_bytes_by crash_bytes_by
not_migrated-header = (refl, refl)

-- cycle 0 in bank 1, and a second bank that is damaged too
not_migrated-bank : old_refusal (slice_set (slice_set old_image 115 0) 608 0xa5) ≡ Some (old_refused.Bank 1 19 0)
unfolding old_refusal header_refusal_by bank_view_by pre_damage_by crash_damage_by pre_at_by crash_at pre_bytes_by crash_bytes_by
not_migrated-bank = refl

not_migrated-second_bank : old_refusal (slice_set old_image 608 0xa5) ≡ Some (old_refused.Bank 2 19 0)
unfolding old_refusal header_refusal_by bank_view_by pre_damage_by crash_damage_by pre_at_by crash_at pre_bytes_by crash_bytes_by
not_migrated-second_bank = refl
