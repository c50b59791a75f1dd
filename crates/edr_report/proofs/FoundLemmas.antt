-- The events among what was found, one bank after the other.
use Rattle.std.proofs.Common.{◌≡◌, ◌∙◌, refl, sym, ap, ℕ, ◌+◌, ◌<◌, List, [], ◌∷◌, ◌++◌, length, take, get_or, append-nil}
use Rattle.std.proofs.lemmas.List.{take_more, Elements.filter_map-append}
use Rattle.edr_record.specs.declared.Record.{Record}
use Rattle.edr_image.specs.declared.{BankView.{BankView, TheVariants.{Void, Event, Damaged}}, Found.Found}
use Rattle.edr_report.specs.Report.{found_record, found_records}

-- what a bank without an event gives
one-other : (bank : ℕ) (view : BankView) → ((r : Record) → view ≡ Event r → ⊥) → found_records (record { bank = bank; view = view } ∷ []) ≡ []
one-other bank Void other = refl
one-other bank (Event q) other = absurd (other q refl)
one-other bank (Damaged o x l) other = refl

-- what one more bank adds
records-more : (found : List Found) (i : ℕ) (f : Found) → i < length found → f ≡ get_or found i f →
    found_records (take (i + 1) found) ≡ found_records (take i found) ++ found_records (f ∷ [])
records-more found i f in_range here =
    ap found_records (take_more found i f in_range ∙ ap (λ (x : Found). take i found ++ x ∷ []) (sym here))
    ∙ filter_map-append (λ (x : Found). found_record x.bank x.view) (take i found) (f ∷ [])

pub records-event : (found : List Found) (i : ℕ) (f : Found) (r : Record) → i < length found → f ≡ get_or found i f → f.view ≡ Event r →
    found_records (take (i + 1) found) ≡ found_records (take i found) ++ (f.bank, r) ∷ []
records-event found i f r in_range here is =
    records-more found i f in_range here
    ∙ ap (λ (view : BankView). found_records (take i found) ++ found_records (record { bank = f.bank; view = view } ∷ [])) is

pub records-other : (found : List Found) (i : ℕ) (f : Found) → i < length found → f ≡ get_or found i f → ((r : Record) → f.view ≡ Event r → ⊥) →
    found_records (take (i + 1) found) ≡ found_records (take i found)
records-other found i f in_range here other =
    records-more found i f in_range here
    ∙ ap (λ rs. found_records (take i found) ++ rs) (one-other f.bank f.view other)
    ∙ append-nil (found_records (take i found))
