-- What is said of an old image that a source gave.
use Rattle.std.proofs.Common.{arith, ◌≡◌, ◌≢◌, ◌∙◌, refl, sym, subst, ap, ◌≤◌, ◌<◌, ℕ, List, length, Option, Some, None, IfSome, IsSome}
use Rattle.edr_device.specs.Faults.{Rose}
use Rattle.edr_device.specs.Told.{Told}
use Rattle.edr_device.specs.Transfer.{GivesAll, GivesTooMany}
use Rattle.edr_device.specs.declared.transfer.TakeFault.{TakeFault}
use Rattle.edr_device.specs.declared.transfer.TakeFault.TheVariants as take
use Rattle.edr_image.specs.Image.{View, image_size, not_magic}
use Rattle.edr_banks.specs.Formatting.{LacksMagic}
use Rattle.edr_migrate.specs.Causes.{IsCause}
use Rattle.edr_migrate.specs.Migrated.{IsWhole}
use Rattle.edr_migrate.specs.declared.MigrateFault.{MigrateFault}
use Rattle.edr_migrate.specs.declared.MigrateFault.TheVariants as migrate
use Rattle.edr_migrate.proofs.OutcomeLemmas.{refused_not_whole}
use Rattle.edr_spell.specs.Spell.{largest_trace}
use Rattle.edr_cli.specs.declared.fault.Fault.{Fault}
use Rattle.edr_cli.specs.declared.fault.Fault.TheVariants as fault
use Rattle.edr_cli.specs.Sources.{Gave}
use Rattle.edr_cli.specs.Migrations.{IsMigrateCause, IsTakingCause, CanMigrate, IsOldRefused, NeedsBytes}
use Rattle.edr_cli.specs.Faults.{fault_of_migrate, fault_of_take}
use Rattle.edr_cli.specs.Outside.{Input, IsAtEnd, Memory}
use Rattle.edr_cli.specs.Crashes.{HasMagic}
use Rattle.edr_cli.proofs.ImageLemmas.{same_view, told_is}
use Rattle.edr_cli.proofs.TakingLemmas.{too_many}

-- ---- from what was given to the source that gave it

-- what holds of the bytes that were taken holds of those that the source told
pub of_given : (P : List ℕ → Type 0) (left : Option (List ℕ)) (bytes : List ℕ) → IfSome left (λ b. b ≡ bytes) → P bytes → IfSome left P
of_given P None bytes is p = tt
of_given P (Some b) bytes is p = subst P (sym is) p

lifted : (G H : (List ℕ → Type 0) → Type 0) (old new : Memory) (f : Fault) → ((P : List ℕ → Type 0) → G P → H P) → IsTakingCause G old new f → IsTakingCause H old new f
lifted G H old new (fault.Old e) so cause = (so _ cause.0, cause.1)
lifted G H old new fault.Store so cause = (so _ cause.0, cause.1)
lifted G H old new (fault.Short size needed) so cause = (so _ cause.0, cause.1, cause.2, cause.3)
lifted G H old new fault.Formatted so cause = (so _ cause.0, cause.1, cause.2)
lifted G H old new other so cause = cause

pub migrate_cause : (i i' : Input) (bytes : List ℕ) (old new : Memory) (f : Fault) → IfSome i.left (λ b. b ≡ bytes) → IsAtEnd i'.left → IsTakingCause (λ P. P bytes) old new f → IsMigrateCause i i' old new f
migrate_cause i i' bytes old new f is end cause =
    by_fault f (lifted (λ P. P bytes) (Gave i i') old new f (λ P p. (of_given P i.left bytes is p, end)) cause)
  where
    by_fault : (f : Fault) → IsTakingCause (Gave i i') old new f → IsMigrateCause i i' old new f
    by_fault fault.Read cause = absurd cause
    by_fault fault.TooLong cause = absurd cause
    by_fault fault.OutOfMemory cause = absurd cause
    by_fault other cause = cause

-- the bytes that were taken are all that the source told
pub gave_all : (bytes : List ℕ) (x y : Option (List ℕ)) → Told (GivesAll bytes) x y → IfSome x (λ b. b ≡ bytes) × IsAtEnd y
gave_all bytes None None t = (tt, tt)
gave_all bytes (Some a) (Some b) t = t
gave_all bytes None (Some b) t = absurd t
gave_all bytes (Some a) None t = absurd t

-- a source that was not taken whole
pub source_cause : (i i' : Input) (m : Memory) (e : TakeFault) → (e ≡ take.TooLong → Told (GivesTooMany largest_trace) i.left i'.left) → (e ≡ take.Failed → Rose i.faults i'.faults)
    → IsMigrateCause i i' m m (fault_of_take e)
source_cause i i' m take.Failed long failed = (failed refl, refl)
source_cause i i' m take.TooLong long failed = (long refl, refl)
source_cause i i' m take.OutOfMemory long failed = refl

-- ---- the fault of a migration

rose_before : (a b c : ℕ) → a ≤ b → Rose b c → Rose a c
rose_before a b c later rose = omega (arith, later, rose)

-- after a barrier, which leaves what the device tells
pub taking_cause : (image : List ℕ) (v : View) (old mid new : Memory) (e : MigrateFault) → length image ≤ largest_trace → IsWhole image v
    → mid.content ≡ old.content → mid.size ≡ old.size → old.faults ≤ mid.faults → (e ≢ migrate.StoreFault → new.content ≡ mid.content)
    → IsCause image mid.size mid.content mid.faults new.faults e → IsTakingCause (λ P. P image) old new (fault_of_migrate e)
taking_cause image v old mid new (migrate.OldShort size needed) few whole told same later stays cause = absurd (refused_not_whole image _ v cause whole)
taking_cause image v old mid new (migrate.OldHeader h) few whole told same later stays cause = absurd (refused_not_whole image _ v cause whole)
taking_cause image v old mid new (migrate.OldBank bank offset found) few whole told same later stays cause = absurd (refused_not_whole image _ v cause whole)
taking_cause image v old mid new (migrate.Short size needed) few whole told same later stays cause =
    ((cause.0, (few, cause.2.old_is), cause.2.needs), cause.1 ∙ same, subst (λ (n : ℕ). n < needed) (sym cause.1) cause.2.short, stays (λ e. cc) ∙ told)
taking_cause image v old mid new migrate.Formatted few whole told same later stays cause = (
  (cause.0, (few, cause.1.old_is), subst (λ (n : ℕ). image_size cause.0.store.header.banks ≤ n) same cause.1.room),
  subst (λ (x : Option (List ℕ)). IfSome x HasMagic) told cause.2,
  stays (λ e. cc) ∙ told,
)
taking_cause image v old mid new migrate.StoreFault few whole told same later stays cause =
    ((v, (few, whole)), rose_before old.faults mid.faults new.faults later cause.2)

-- ---- where nothing counts a fault, a migration wants nothing but memory

has_lacks : (bytes : List ℕ) → HasMagic bytes → LacksMagic bytes → ⊥
has_lacks bytes has lacks = by_place (not_magic bytes) has lacks where
  by_place : (o : Option ℕ) → o ≡ None → IsSome o → ⊥
  by_place (Some k) is some = cc
  by_place None is some = cc

pub migrate_only_memory : (i i' : Input) (old new : Memory) (f : Fault) → CanMigrate i old → ¬ Rose i.faults i'.faults → ¬ Rose old.faults new.faults → IsMigrateCause i i' old new f → f ≡ fault.OutOfMemory
migrate_only_memory i i' old new (fault.Old e) can calm quiet cause =
    absurd ((told_is (IsOldRefused e) i.left can.old can.given cause.0.0).not_whole can.view can.old_is.1)
migrate_only_memory i i' old new fault.Read can calm quiet cause = absurd (calm cause.0)
migrate_only_memory i i' old new fault.TooLong can calm quiet cause =
    absurd (let more = too_many largest_trace can.old i.left i'.left can.given cause.0 in omega (arith, more, can.old_is.0))
migrate_only_memory i i' old new fault.Store can calm quiet cause = absurd (quiet cause.1)
migrate_only_memory i i' old new (fault.Short size needed) can calm quiet cause =
    let needs = told_is (NeedsBytes needed) i.left can.old can.given cause.0.0 in
    let view = same_view needs.0 can.view (sym needs.1.1.view ∙ can.old_is.1.view) in
    let much : needed ≡ image_size can.view.store.header.banks = needs.2 ∙ ap (λ (v : View). image_size v.store.header.banks) view in
    absurd (omega (arith, much, can.room, cause.1, cause.2))
migrate_only_memory i i' old new fault.Formatted can calm quiet cause =
    absurd (has_lacks can.bytes (told_is HasMagic old.content can.bytes can.told cause.1) can.lacks)
migrate_only_memory i i' old new fault.OutOfMemory can calm quiet cause = refl
migrate_only_memory i i' old new other can calm quiet cause = absurd cause
