-- The lines of an event, one after the other.
use Rattle.std.proofs.Common.{◌≡◌, refl, sym, ap, ◌∙◌, ℕ, Option, Some, None, List, get_or}
use Rattle.std.specs.Prelude.{codes, decimal, fold, option_map}
use Rattle.std.specs.Option.{option_map_or}
use Rattle.edr_text.specs.Lines.{line_of}
use Rattle.edr_record.specs.Complete.{is_complete}
use Rattle.edr_record.specs.Parts.{CrashPart}
use Rattle.edr_record.specs.declared.Record.{Record}
use Rattle.edr_report.specs.Lines.{text_of}
use Rattle.edr_report.specs.Report.{event_lines}
use Rattle.edr_report.specs.Words.{firing_words, none_word, yes_no}
use Rattle.edr_audit.specs.declared.compared.Compared.{Compared}
use Rattle.edr_audit.specs.Branches.{compare_line}
use Rattle.edr_audit.specs.Compared.{compare}
use Rattle.edr_audit.specs.Tail.{compare_some, first_firing}
use Rattle.edr_audit.proofs.CommandLemmas.{lines-told}

-- one more line, after what was compared
pub line_more : (report : List ℕ) (before now was : Compared) (name value shown : List ℕ) → now ≡ compare report before (line_of name value) → before ≡ was → value ≡ shown → now ≡ compare report was (line_of name shown)
line_more report before now was name value shown put so is = put ∙ ap (λ c. compare report c (line_of name value)) so ∙ ap (λ words. compare report was (line_of name words)) is

-- a word of something that a crash part may have
pub or_map : {A B C : Type 0} (f : B → C) (g : A → B) (o : Option A) (d : C) → option_map_or f (option_map g o) d ≡ option_map_or (λ x. f (g x)) o d
or_map f g None d = refl
or_map f g (Some x) d = refl

fired_in : (o : Option CrashPart) (k : ℕ) → firing_words (option_map_or (λ c. get_or c.fired k None) o None) ≡ option_map_or (λ c. firing_words (get_or c.fired k None)) o none_word
fired_in None k = refl
fired_in (Some c) k = refl

pub fired_is : (r : Record) (k : ℕ) → firing_words (first_firing r k) ≡ option_map_or (λ c. firing_words (get_or c.fired k None)) r.crash none_word
fired_is r k = fired_in r.crash k

pub event_told : (report : List ℕ) (block bank : ℕ) (r : Record) (c0 c1 c2 c3 c4 c5 c6 : Compared) → c1 ≡ compare report c0 (line_of (codes "event") (decimal block)) → c2 ≡ compare report c1 (line_of (codes "bank") (decimal bank))
    → c3 ≡ compare_some 2 11 report c2 r → c4 ≡ compare_some 13 7 report c3 r → c5 ≡ compare_some 20 8 report c4 r → c6 ≡ compare report c5 (line_of (codes "complete file recorded") (yes_no (is_complete r)))
    → c6 ≡ compare report c0 (text_of (event_lines block bank r))
unfolding event_lines
event_told report block bank r c0 c1 c2 c3 c4 c5 c6 e1 e2 e3 e4 e5 e6 =
    let whole : c6 ≡ fold (compare_line report) c0 (event_lines block bank r) =
    e6
    ∙ ap (λ c. compare report c (line_of (codes "complete file recorded") (yes_no (is_complete r))))
    (e5 ∙ ap (λ c. compare_some 20 8 report c r) (e4 ∙ ap (λ c. compare_some 13 7 report c r) (e3 ∙ ap (λ c. compare_some 2 11 report c r) (e2 ∙ ap (λ c. compare report c (line_of (codes "bank") (decimal bank))) e1)))) in
    whole ∙ sym (lines-told report c0 (event_lines block bank r))
