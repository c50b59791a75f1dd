-- What a laying of a migrated image leaves.
use Rattle.std.proofs.Common.{◌≡◌, ◌⊎◌, ◌∙◌, ℕ, Bool, List, length, drop, slice_index, Option, Some, None, refl, sym, ap, subst, inl, inr, ⊎_elim}
use Rattle.edr_device.specs.Device.{IsQuiet, MayLeave}
use Rattle.edr_device.proofs.SettlingLemmas.{quiet_leaves}
use Rattle.edr_image.specs.declared.Header.{Header}
use Rattle.edr_image.specs.declared.OldRefused.{OldRefused}
use Rattle.edr_image.specs.Image.{View, image_size, old_refusal, old_view_of, view_of}
use Rattle.edr_image.specs.Kept.{AreKept, IsKept}
use Rattle.edr_banks.specs.Laying.{IsLaidOver, IsPartlyOver, LacksMagic, over}
use Rattle.edr_migrate.specs.Migrated.{IsWhole}
use Rattle.edr_migrate.specs.NewBytes.{IsMigrated, IsPartlyMigrated, image_of}
use Rattle.edr_migrate.specs.OldImage.{IsOld, view_in}
use Rattle.edr_migrate.proofs.ImageViewLemmas.{IsSoundView, old_view_sound, view_is}
use Rattle.edr_migrate.proofs.OldReadingLemmas.{view_same, whole_passes}
use Rattle.edr_migrate.proofs.ShortEventLemmas.{migrated_is}

-- ---- of a sound view of an old image

new_migrated : (old : List ℕ) (v : View) (bytes image : List ℕ) → old_view_of old ≡ Some v → IsSoundView v → image ≡ over (image_size v.store.header.banks) (image_of v) bytes → IsMigrated v bytes image
new_migrated old v bytes image seen sound is = record { same = is; view = ap view_of is ∙ view_is v (drop (image_size v.store.header.banks) bytes) sound ∙ ap Some (sym (migrated_is old v seen)) }

part_migrated : (old : List ℕ) (v : View) (bytes image : List ℕ) → old_view_of old ≡ Some v → IsSoundView v → IsPartlyOver (image_size v.store.header.banks) (image_of v) bytes image → IsPartlyMigrated v bytes image
part_migrated old v bytes image seen sound part = record {
  size = part.size;
  past = part.past;
  says = ⊎_elim
      (λ (same : image ≡ bytes). inl same)
      (λ (other : LacksMagic image ⊎ IsLaidOver (image_size v.store.header.banks) (image_of v) bytes image). inr (⊎_elim
      (λ (none : LacksMagic image). inl none)
      (λ (new : IsLaidOver (image_size v.store.header.banks) (image_of v) bytes image). inr (new_migrated old v bytes image seen sound new))
      other))
      part.says;
}

-- ---- of the old image that was read, and so of what it says

pub old_over : (h : Header) (count : ℕ) (old : List ℕ) (v : View) (bytes : List ℕ) → IsOld h count old → old_view_of old ≡ Some v → IsMigrated v bytes (over (image_size h.banks) (image_of (view_in h count old)) bytes)
old_over h count old v bytes is seen =
    subst (λ (w : View). IsMigrated w bytes (over (image_size h.banks) (image_of (view_in h count old)) bytes)) (view_same old (view_in h count old) v is.whole.view seen)
    (new_migrated old (view_in h count old) bytes (over (image_size h.banks) (image_of (view_in h count old)) bytes) is.whole.view (old_view_sound h count old is) refl)

pub old_part : (h : Header) (count : ℕ) (old : List ℕ) (v : View) (bytes image : List ℕ) → IsOld h count old → old_view_of old ≡ Some v → IsPartlyOver (image_size h.banks) (image_of (view_in h count old)) bytes image → IsPartlyMigrated v bytes image
old_part h count old v bytes image is seen part =
    subst (λ (w : View). IsPartlyMigrated w bytes image) (view_same old (view_in h count old) v is.whole.view seen) (part_migrated old (view_in h count old) bytes image is.whole.view (old_view_sound h count old is) part)

-- where nothing was done
pub same_part : (v : View) (bytes : List ℕ) (content : Option (List ℕ)) (settled : ℕ → Bool) (image : List ℕ) → IsQuiet content settled bytes → MayLeave content settled image → IsPartlyMigrated v bytes image
same_part v bytes content settled image quiet left =
    let same = quiet_leaves bytes content settled image quiet left in
    record { size = ap length same; past = λ i from below. ap (λ (xs : List ℕ). slice_index xs i) same; says = inl same }

-- ---- what is kept

pub part_kept : (old : List ℕ) (v : View) (bytes image : List ℕ) → old_view_of old ≡ Some v → AreKept v.store.banks v.count → IsPartlyMigrated v bytes image → (image ≡ bytes) ⊎ (LacksMagic image ⊎ IsKept image)
part_kept old v bytes image seen kept part = ⊎_elim
    (λ (same : image ≡ bytes). inl same)
    (λ (other : LacksMagic image ⊎ IsMigrated v bytes image). inr (⊎_elim
    (λ (none : LacksMagic image). inl none)
    (λ (new : IsMigrated v bytes image). inr (v, new.view ∙ ap Some (migrated_is old v seen), kept))
    other))
    part.says

-- ---- an image that is refused isn't whole

pub refused_not_whole : (old : List ℕ) (refused : OldRefused) (v : View) → old_refusal old ≡ Some refused → IsWhole old v → ⊥
refused_not_whole old refused v is whole = let e : Some refused ≡ None = sym is ∙ whole_passes old v whole in cc

pub same_refused : (old : List ℕ) (a b : OldRefused) → old_refusal old ≡ Some a → old_refusal old ≡ Some b → a ≡ b
same_refused old a b first second = let e : Some a ≡ Some b = sym first ∙ second in cc
