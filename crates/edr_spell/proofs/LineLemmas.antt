-- Lines with no quotes are read as their fields.
use Rattle.std.proofs.Common.{arith, ◌≡◌, ◌≢◌, ◌∙◌, sym, ap, ap₂, subst, refl, ℕ, Bool, true, false, eqb, ◌||◌, Some, List, [], ◌∷◌, ◌++◌, map, flat_map, append_assoc, get_or}
use Rattle.std.proofs.lemmas.List.{append-nil}
use Rattle.std.proofs.lemmas.Bool.Decides.{nat_tests}
use Rattle.std.specs.List.{list_any, AllByRecursion}
use Rattle.csv.specs.Machine.{Read, next_record}
use Rattle.csv.specs.Reading.{AreRecords, Reached, default_config, strip_bom}
use Rattle.csv.specs.Writing.{needs_byte, row_text, default_writer, fields_text, is_blank}
use Rattle.csv.specs.declared.parser.State.TheVariants as st
use Rattle.csv.proofs.RoundTrip.{read-write-many}
use Rattle.edr_spell.specs.Spell.{RecordsOf}
use Rattle.edr_spell.specs.Lines.{TraceLine, fields_in, line_text, is_special, IsPlain}

needs-special : (b : ℕ) → needs_byte default_writer b ≡ is_special b
needs-special b = by (eqb b 44) (eqb b 34) (eqb b 13) (eqb b 10)
  where
    by : (p q r s : Bool) → ((p || q || (r || s)) || false || false) ≡ (p || q || r || s)
    by true q r s = refl
    by false true r s = refl
    by false false true s = refl
    by false false false true = refl
    by false false false false = refl

or-false : (a b : Bool) → (a || b) ≡ false → (a ≡ false) × (b ≡ false)
or-false true b h = cc h
or-false false b h = (refl, h)

plain-needs : (f : List ℕ) → list_any is_special f ≡ false → list_any (needs_byte default_writer) f ≡ false
plain-needs [] h = refl
plain-needs (b ∷ f) h =
    let parts = or-false (is_special b) (list_any is_special f) h in
    ap₂ (λ (x y : Bool). x || y) (needs-special b ∙ parts.0) (plain-needs f parts.1)

regroup : (a b c : List ℕ) → (a ++ 44 ∷ (b ++ 44 ∷ (c ++ []))) ++ 10 ∷ [] ≡ a ++ 44 ∷ (b ++ 44 ∷ (c ++ 10 ∷ []))
regroup a b c = simp (append-nil, append_assoc)

plain-text : (l : TraceLine) → IsPlain l → row_text default_writer (fields_in l) ≡ line_text l
unfolding fields_text is_blank
plain-text l h = rw (plain-needs l.first h.0, plain-needs l.second h.1, plain-needs l.third h.2) (regroup l.first l.second l.third)

-- a line without special bytes is the next record
pub line-read : (l : TraceLine) (rest : List ℕ) → IsPlain l → next_record default_config st.StartRecord [] [] (line_text l ++ rest) ≡ Some (fields_in l, st.StartRecord, rest)
line-read l rest h = ap (λ (x : List ℕ). next_record default_config st.StartRecord [] [] (x ++ rest)) (sym (plain-text l h)) ∙ read-write-many l.first l.second (l.third ∷ []) rest

lines-read : (ls : List TraceLine) → AllByRecursion IsPlain ls → AreRecords default_config st.StartRecord (flat_map line_text ls) (map fields_in ls)
unfolding Reached next_record
lines-read [] h = (st.StartRecord, [], (refl, refl), refl)
lines-read (l ∷ ls) h =
    let more = lines-read ls h.1 in
    let p : Read = (fields_in l, st.StartRecord, flat_map line_text ls) in
    (more.0, more.1, (p, line-read l (flat_map line_text ls) h.0, refl, more.2), more.3)

no-mark : (xs : List ℕ) → get_or xs 0 0 ≢ 239 → strip_bom xs ≡ xs
unfolding strip_bom
no-mark [] h = refl
no-mark (a ∷ []) h = refl
no-mark (a ∷ b ∷ []) h = refl
no-mark (a ∷ b ∷ c ∷ rest) h = rw (other a h) refl
  where
    other : (n : ℕ) → n ≢ 239 → eqb n 239 ≡ false
    other n k = grind (arith, nat_tests)

-- these lines have these records
pub lines-records : (ls : List TraceLine) → AllByRecursion IsPlain ls → get_or (flat_map line_text ls) 0 0 ≢ 239 → RecordsOf (flat_map line_text ls) (map fields_in ls)
lines-records ls h first = subst (λ (x : List ℕ). AreRecords default_config st.StartRecord x (map fields_in ls)) (sym (no-mark (flat_map line_text ls) first)) (lines-read ls h)
