-- The lines after those of the cycles, one after the other.
use Rattle.std.proofs.Common.{◌≡◌, refl, sym, ap, ◌∙◌, arith, ℕ, ◌+◌, ◌<◌, Bool, true, false, cond, nat_lt, List, [], ◌∷◌, ◌++◌, length, map, take, get_or, append_assoc, append-nil}
use Rattle.std.specs.Prelude.{filter_map, flat_map, codes}
use Rattle.std.specs.List.{enumerate_from}
use Rattle.std.proofs.lemmas.Bool.Decides.{nat_tests}
use Rattle.std.proofs.lemmas.List.{length-take, take_more}
use Rattle.std.proofs.lemmas.List.Concat.{flat_map-append}
use Rattle.edr_text.specs.Lines.{line_of}
use Rattle.edr_record.specs.declared.Record.{Record}
use Rattle.edr_image.specs.declared.BankView.{BankView}
use Rattle.edr_image.specs.declared.BankView.TheVariants.{Void, Event, Damaged}
use Rattle.edr_image.specs.declared.Found.{Found}
use Rattle.edr_image.specs.Banks.{damage_in, damaged_banks, events, found_event, retrieved_banks}
use Rattle.edr_image.specs.Image.{View}
use Rattle.edr_report.specs.Lines.{Line, line, text_line, text_of}
use Rattle.edr_report.specs.Report.{damage_lines, damaged_lines, event_lines, events_lines, found_records}
use Rattle.edr_report.specs.Words.{shown_count, spaced_words}
use Rattle.edr_report.proofs.PrintedLemmas.{numbered-more}
use Rattle.edr_report.proofs.SpacedLemmas.{spaced-first, spaced-next}
use Rattle.edr_audit.specs.declared.compared.Compared.{Compared}
use Rattle.edr_audit.specs.Compared.{compare}
use Rattle.edr_audit.specs.Tail.{parted, tail_lines}
use Rattle.edr_audit.proofs.CompareLemmas.{compare_append}

-- ---- a list of slots

pub slots_more : {X : Type 0} (f : X → List ℕ) (xs : List X) (i : ℕ) (x : X) → i < length xs → x ≡ get_or xs i x → spaced_words (map f (take (i + 1) xs)) ≡ spaced_words (map f (take i xs)) ++ parted i (f x)
slots_more f xs i x below here = by_test (nat_lt 0 i) refl where
  by_test : (b : Bool) → nat_lt 0 i ≡ b → spaced_words (map f (take (i + 1) xs)) ≡ spaced_words (map f (take i xs)) ++ cond b (32 ∷ f x) (f x)
  by_test true later =
      let ws = spaced_words (map f (take i xs)) in
      let past : 0 < i = grind (arith, nat_tests, later) in
      sym (sym (append_assoc ws (32 ∷ []) (f x)) ∙ spaced-next f xs i x [] ws (ws ++ 32 ∷ []) (ws ++ 32 ∷ []) ((ws ++ 32 ∷ []) ++ f x) below past here refl refl refl refl)
  by_test false first =
      let ws = spaced_words (map f (take i xs)) in
      sym (spaced-first f xs i x [] ws ws (ws ++ f x) below (grind (arith, nat_tests, first)) here refl refl refl)

-- ---- events

pub events_more : (es : List (ℕ × Record)) (i : ℕ) (e : ℕ × Record) → i < length es → e ≡ get_or es i e → text_of (events_lines 1 (take (i + 1) es)) ≡ text_of (events_lines 1 (take i es)) ++ text_of (event_lines (i + 1) e.0 e.1)
events_more es i e below here =
    let place : 1 + length (take i es) ≡ i + 1 = omega (arith, below, length-take i es) in
    let further : take (i + 1) es ≡ take i es ++ e ∷ [] = take_more es i e below ∙ ap (λ (x : ℕ × Record). take i es ++ x ∷ []) (sym here) in
    ap (λ (xs : List (ℕ × Record)). text_of (events_lines 1 xs)) further
    ∙ ap text_of (numbered-more (λ e. event_lines e.0 e.1.0 e.1.1) 1 (take i es) e)
    ∙ flat_map-append text_line (events_lines 1 (take i es)) (event_lines (1 + length (take i es)) e.0 e.1)
    ∙ ap (λ (k : ℕ). text_of (events_lines 1 (take i es)) ++ text_of (event_lines k e.0 e.1)) place

-- ---- damaged banks

-- the lines of the damaged ones of these banks, the first of which is bank 1
abbrev pub damage_of : List BankView → List Line
damage_of banks = flat_map (λ b. damaged_lines b.0 b.1) (enumerate_from 1 banks)

damage_from : (n : ℕ) (banks : List BankView) → flat_map (λ f. damaged_lines f.bank f.view) (filter_map (λ b. damage_in b.0 b.1) (enumerate_from n banks)) ≡ flat_map (λ b. damaged_lines b.0 b.1) (enumerate_from n banks)
damage_from n [] = refl
damage_from n (Void ∷ banks) = damage_from (n + 1) banks
damage_from n (Event r ∷ banks) = damage_from (n + 1) banks
damage_from n (Damaged o x l ∷ banks) = ap (λ ls. damaged_lines n (Damaged o x l) ++ ls) (damage_from (n + 1) banks)

pub damage_is : (banks : List BankView) → damage_lines (damaged_banks banks) ≡ damage_of banks
unfolding damaged_banks
damage_is banks = damage_from 1 banks

pub damage_more : (banks : List BankView) (k : ℕ) (b : BankView) → k < length banks → b ≡ get_or banks k b → text_of (damage_of (take (k + 1) banks)) ≡ text_of (damage_of (take k banks)) ++ text_of (damaged_lines (k + 1) b)
damage_more banks k b below here =
    let place : 1 + length (take k banks) ≡ k + 1 = omega (arith, below, length-take k banks) in
    let further : take (k + 1) banks ≡ take k banks ++ b ∷ [] = take_more banks k b below ∙ ap (λ (x : BankView). take k banks ++ x ∷ []) (sym here) in
    ap (λ (xs : List BankView). text_of (damage_of xs)) further
    ∙ ap text_of (numbered-more (λ b. damaged_lines b.0 b.1) 1 (take k banks) b)
    ∙ flat_map-append text_line (damage_of (take k banks)) (damaged_lines (1 + length (take k banks)) b)
    ∙ ap (λ (m : ℕ). text_of (damage_of (take k banks)) ++ text_of (damaged_lines m b)) place

-- ---- all of them

no_records : (n : ℕ) (banks : List BankView) → found_records (filter_map (λ b. damage_in b.0 b.1) (enumerate_from n banks)) ≡ []
no_records n [] = refl
no_records n (Void ∷ banks) = no_records (n + 1) banks
no_records n (Event r ∷ banks) = no_records (n + 1) banks
no_records n (Damaged o x l ∷ banks) = no_records (n + 1) banks

records_first : (es : List (ℕ × Record)) (found : List Found) → found_records (map found_event es ++ found) ≡ es ++ found_records found
records_first [] found = refl
records_first (e ∷ es) found = ap (λ xs. e ∷ xs) (records_first es found)

damage_later : (es : List (ℕ × Record)) (found : List Found) → damage_lines (map found_event es ++ found) ≡ damage_lines found
damage_later [] found = refl
damage_later (e ∷ es) found = damage_later es found

records_are : (banks : List BankView) → found_records (retrieved_banks banks) ≡ events banks
unfolding damaged_banks
records_are banks = records_first (events banks) (damaged_banks banks) ∙ ap (λ xs. events banks ++ xs) (no_records 1 banks) ∙ append-nil (events banks)

pub tail_told : (report : List ℕ) (w : View) (es : List (ℕ × Record)) (c a b d : Compared) → es ≡ events w.store.banks → a ≡ compare report c (text_of (events_lines 1 es)) → b ≡ compare report a (text_of (damage_lines (damaged_banks w.store.banks)))
    → d ≡ compare report b (line_of (codes "ignition cycle, download") (shown_count w.count)) → d ≡ compare report c (text_of (tail_lines w))
tail_told report w es c a b d are first second third =
    let blocks = events_lines 1 (found_records (retrieved_banks w.store.banks)) in
    let banks = damage_lines (retrieved_banks w.store.banks) in
    let last = line 0 (codes "ignition cycle, download") (shown_count w.count) in
    let told_blocks : a ≡ compare report c (text_of blocks) = first ∙ ap (λ (xs : List (ℕ × Record)). compare report c (text_of (events_lines 1 xs))) (are ∙ sym (records_are w.store.banks)) in
    let told_banks : b ≡ compare report a (text_of banks) = second ∙ ap (λ (ls : List Line). compare report a (text_of ls)) (sym (damage_later (events w.store.banks) (damaged_banks w.store.banks))) in
    let whole : text_of (tail_lines w) ≡ (text_of blocks ++ text_of banks) ++ text_line last =
    flat_map-append text_line (blocks ++ banks) (last ∷ []) ∙ ap (λ bs. bs ++ text_of (last ∷ [])) (flat_map-append text_line blocks banks) ∙ ap (λ bs. (text_of blocks ++ text_of banks) ++ bs) (append-nil (text_line last)) in
    third
    ∙ ap (λ x. compare report x (text_line last)) (told_banks ∙ ap (λ x. compare report x (text_of banks)) told_blocks)
    ∙ ap (λ x. compare report x (text_line last)) (sym (compare_append report c (text_of blocks) (text_of banks)))
    ∙ sym (compare_append report c (text_of blocks ++ text_of banks) (text_line last))
    ∙ ap (compare report c) (sym whole)
