-- The events of an image of version 1 are short, and so a migration keeps all that it says.
use Rattle.std.proofs.Common.{◌≡◌, ◌+◌, ℕ, zero, suc, List, [], ◌∷◌, map, Some, refl, sym, ap, ap₂, subst}
use Rattle.std.specs.List.{range_with_len}
use Rattle.edr_record.specs.declared.Profile.{Profile}
use Rattle.edr_record.specs.declared.Profile.TheVariants.{Short}
use Rattle.edr_record.specs.declared.Record.{Record}
use Rattle.edr_image.specs.declared.BankView.{BankView}
use Rattle.edr_image.specs.declared.BankView.TheVariants.{Void, Event, Damaged}
use Rattle.edr_image.specs.Image.{View, header_of, old_view_of}
use Rattle.edr_migrate.specs.Migrated.{AreShort, migrated_view, migrated_bank, migrated_record}
use Rattle.edr_migrate.proofs.EventByteLemmas.{IsShortBank, old_short}
use Rattle.edr_migrate.proofs.OldBankLemmas.{old_view_at}
use Rattle.edr_migrate.proofs.OldReadingLemmas.{seen}

-- each event of several banks, one after the other
abbrev pub AllShort : List BankView → Type 0
AllShort [] = Unit {0}
AllShort (view ∷ views) = IsShortBank view × AllShort views

short_at : (xs : List BankView) → AllShort xs → AreShort xs
short_at [] all i r there = absurd (let y : ⊥ = cc in y)
short_at (Void ∷ xs) all zero r there = absurd (let y : ⊥ = cc in y)
short_at (Void ∷ xs) all (suc i) r there = short_at xs all.1 i r there
short_at (Event e ∷ xs) all zero r there = let same : e ≡ r = cc in subst (λ (x : Record). x.pre.profile ≡ Short) same all.0
short_at (Event e ∷ xs) all (suc i) r there = short_at xs all.1 i r there
short_at (Damaged o f l ∷ xs) all zero r there = absurd (let y : ⊥ = cc in y)
short_at (Damaged o f l ∷ xs) all (suc i) r there = short_at xs all.1 i r there

-- ---- what is migrated

all_migrated : (xs : List BankView) → AllShort (map migrated_bank xs)
all_migrated [] = tt
all_migrated (Void ∷ xs) = (tt, all_migrated xs)
all_migrated (Event r ∷ xs) = (refl, all_migrated xs)
all_migrated (Damaged o f l ∷ xs) = (tt, all_migrated xs)

pub migrated_short : (v : View) → AreShort (migrated_view v).store.banks
migrated_short v = short_at (map migrated_bank v.store.banks) (all_migrated v.store.banks)

-- ---- what an image of version 1 says

all_old : (old : List ℕ) (s n : ℕ) → AllShort (map (old_view_at old) (range_with_len s n))
all_old old s zero = tt
all_old old s (suc n) = (old_short _, all_old old (s + 1) n)

old_all_short : (old : List ℕ) (v : View) → old_view_of old ≡ Some v → AllShort v.store.banks
old_all_short old v is = subst (λ (w : View). AllShort w.store.banks) (seen old v is).1 (all_old old 1 (header_of old).banks)

pub old_view_short : (old : List ℕ) (v : View) → old_view_of old ≡ Some v → AreShort v.store.banks
old_view_short old v is = short_at v.store.banks (old_all_short old v is)

-- ---- it is kept

event_kept : (r : Record) → r.pre.profile ≡ Short → migrated_record r ≡ r
event_kept r short = ap (λ (p : Profile). let x : Record = record r { pre = record r.pre { profile = p } } in x) (sym short)

banks_kept : (xs : List BankView) → AllShort xs → map migrated_bank xs ≡ xs
banks_kept [] all = refl
banks_kept (Void ∷ xs) all = ap (λ (ys : List BankView). Void ∷ ys) (banks_kept xs all.1)
banks_kept (Event r ∷ xs) all = ap₂ (λ (x : Record) (ys : List BankView). Event x ∷ ys) (event_kept r all.0) (banks_kept xs all.1)
banks_kept (Damaged o f l ∷ xs) all = ap (λ (ys : List BankView). Damaged o f l ∷ ys) (banks_kept xs all.1)

pub migrated_is : (old : List ℕ) (v : View) → old_view_of old ≡ Some v → migrated_view v ≡ v
migrated_is old v is =
    ap (λ (xs : List BankView). let w : View = record { store = record { header = v.store.header; banks = xs }; count = v.count } in w)
    (banks_kept v.store.banks (old_all_short old v is))
