-- A line of three fields is a record, however its fields are spelled and its end.
use Rattle.std.proofs.Common.{arith, ◌≡◌, ◌≢◌, ◌∙◌, sym, ap, subst, refl, ℕ, ℤ, ◌≤◌, Bool, true, false, Option, Some, inl, inr, ◌⊎◌, List, [], ◌∷◌, ◌++◌, length, length-append, append_assoc, get_or, eqb, ap₂}
use Rattle.std.specs.Prelude.{◌||◌, ◌==◌}
use Rattle.std.specs.List.{list_any}
use Rattle.std.proofs.lemmas.List.{append-nil}
use Rattle.std.proofs.lemmas.Bool.Decides.{nat_tests}
use Rattle.csv.specs.Machine.{Read, next_record}
use Rattle.csv.specs.Reading.{AreRecords, Reached, default_config, strip_bom}
use Rattle.csv.specs.declared.parser.State.{State}
use Rattle.csv.specs.declared.parser.State.TheVariants as st
use Rattle.edr_items.specs.declared.Item.{Item}
use Rattle.edr_items.specs.declared.Sensor.{Sensor}
use Rattle.edr_items.specs.declared.Sensor.TheVariants as s
use Rattle.edr_text.specs.Numbers.{numeral}
use Rattle.edr_spell.specs.declared.Word.TheVariants as w
use Rattle.edr_spell.specs.declared.Row.{Row}
use Rattle.edr_spell.specs.declared.Row.TheVariants as row
use Rattle.edr_spell.specs.Rows.{spelling_of, IsRow}
use Rattle.edr_spell.specs.Lines.{is_special, value_text, fields_in, line_for}
use Rattle.edr_spell.proofs.WrittenLemmas.{line_for-plain, row-read}
use Rattle.edr_trace.specs.declared.steps.Trace.{Trace}
use Rattle.edr_trace.specs.Fronts.{IsLineEnd, EndsLine, IsSpelled, IsFieldIn, IsRecordIn, IsRowIn, IsRowTaken}
use Rattle.edr_trace.specs.Steps.{TakesSample}

-- ---- bytes that aren't special

or-parts : (a b : Bool) → (a || b) ≡ false → (a ≡ false) × (b ≡ false)
or-parts true b h = cc h
or-parts false b h = (refl, h)

not-true : (x : Bool) → (x ≡ true → ⊥) → x ≡ false
not-true true n = absurd (n refl)
not-true false n = refl

abbrev IsOther : ℕ → Type 0
IsOther b = ((b == 44) ≡ false) × ((b == 34) ≡ false) × ((b == 13) ≡ false) × ((b == 10) ≡ false)

other : (b : ℕ) → is_special b ≡ false → IsOther b
other b e =
    let a = not-true (b == 44) (λ t. cc (rw t at e)) in
    let q = not-true (b == 34) (λ t. cc (rw (a, t) at e)) in
    let r = not-true (b == 13) (λ t. cc (rw (a, q, t) at e)) in
    let n = not-true (b == 10) (λ t. cc (rw (a, q, r, t) at e)) in
    (a, q, r, n)

-- ---- one field

field-run : (fields : List (List ℕ)) (field x tail : List ℕ) → list_any is_special x ≡ false
    → next_record default_config st.InField fields field (x ++ tail) ≡ next_record default_config st.InField fields (field ++ x) tail
unfolding next_record
field-run fields field [] tail e = rw (append-nil field) refl
field-run fields field (b ∷ x) tail e =
    let p = or-parts (is_special b) (list_any is_special x) e in
    let q = other b p.0 in
    rw (q.0, q.2, q.3) (field-run fields (field ++ b ∷ []) x tail p.1
    ∙ ap (λ (f : List ℕ). next_record default_config st.InField fields f tail) (append_assoc field (b ∷ []) x))

quotes-run : (fields : List (List ℕ)) (field x tail : List ℕ) → list_any is_special x ≡ false
    → next_record default_config st.InQuoted fields field (x ++ 34 ∷ tail) ≡ next_record default_config st.AfterQuote fields (field ++ x) tail
unfolding next_record
quotes-run fields field [] tail e = rw (append-nil field) refl
quotes-run fields field (b ∷ x) tail e =
    let p = or-parts (is_special b) (list_any is_special x) e in
    let q = other b p.0 in
    rw q.1 (quotes-run fields (field ++ b ∷ []) x tail p.1
    ∙ ap (λ (f : List ℕ). next_record default_config st.AfterQuote fields f tail) (append_assoc field (b ∷ []) x))

-- what ends a field is read in the same way in three states
field-start : (fields : List (List ℕ)) (x tail : List ℕ) (c : ℕ) → list_any is_special x ≡ false → (c == 34) ≡ false
    → next_record default_config st.StartField fields [] (x ++ c ∷ tail) ≡ next_record default_config st.InField fields x (c ∷ tail)
unfolding next_record
field-start fields [] tail c e n = rw n refl
field-start fields (b ∷ x) tail c e n =
    let p = or-parts (is_special b) (list_any is_special x) e in
    let q = other b p.0 in
    rw (q.1, q.0, q.2, q.3) (field-run fields (b ∷ []) x (c ∷ tail) p.1)

quote-end : (fields : List (List ℕ)) (field tail : List ℕ) (c : ℕ) → (c == 34) ≡ false
    → next_record default_config st.AfterQuote fields field (c ∷ tail) ≡ next_record default_config st.InField fields field (c ∷ tail)
unfolding next_record
quote-end fields field tail c n = rw n refl

quotes-start : (fields : List (List ℕ)) (xs : List ℕ) → next_record default_config st.StartField fields [] (34 ∷ xs) ≡ next_record default_config st.InQuoted fields [] xs
unfolding next_record
quotes-start fields xs = refl

field-spelled : (fields : List (List ℕ)) (f text tail : List ℕ) (c : ℕ) → list_any is_special f ≡ false → IsSpelled f text → (c == 34) ≡ false
    → next_record default_config st.StartField fields [] (text ++ c ∷ tail) ≡ next_record default_config st.InField fields f (c ∷ tail)
field-spelled fields f text tail c p (inl e) n =
    ap (λ (t : List ℕ). next_record default_config st.StartField fields [] (t ++ c ∷ tail)) e ∙ field-start fields f tail c p n
field-spelled fields f text tail c p (inr e) n =
    ap (λ (t : List ℕ). next_record default_config st.StartField fields [] (t ++ c ∷ tail)) e
    ∙ quotes-start fields ((f ++ 34 ∷ []) ++ c ∷ tail)
    ∙ ap (λ (t : List ℕ). next_record default_config st.InQuoted fields [] t) (append_assoc f (34 ∷ []) (c ∷ tail))
    ∙ quotes-run fields [] f (c ∷ tail) p
    ∙ quote-end fields f tail c n

-- ---- three fields

first-plain : (f tail : List ℕ) → list_any is_special f ≡ false → next_record default_config st.StartRecord [] [] (f ++ 44 ∷ tail) ≡ next_record default_config st.StartField [] [] (f ++ 44 ∷ tail)
unfolding next_record
first-plain [] tail p = refl
first-plain (b ∷ f) tail p =
    let h = or-parts (is_special b) (list_any is_special f) p in
    let q = other b h.0 in
    rw (q.2, q.3) refl

first-quote : (xs : List ℕ) → next_record default_config st.StartRecord [] [] (34 ∷ xs) ≡ next_record default_config st.StartField [] [] (34 ∷ xs)
unfolding next_record
first-quote xs = refl

first-spelled : (f text tail : List ℕ) → list_any is_special f ≡ false → IsSpelled f text
    → next_record default_config st.StartRecord [] [] (text ++ 44 ∷ tail) ≡ next_record default_config st.StartField [] [] (text ++ 44 ∷ tail)
first-spelled f text tail p (inl e) =
    subst (λ (t : List ℕ). next_record default_config st.StartRecord [] [] (t ++ 44 ∷ tail) ≡ next_record default_config st.StartField [] [] (t ++ 44 ∷ tail)) (sym e) (first-plain f tail p)
first-spelled f text tail p (inr e) =
    subst (λ (t : List ℕ). next_record default_config st.StartRecord [] [] (t ++ 44 ∷ tail) ≡ next_record default_config st.StartField [] [] (t ++ 44 ∷ tail)) (sym e) (first-quote ((f ++ 34 ∷ []) ++ 44 ∷ tail))

comma : (fields : List (List ℕ)) (f tail : List ℕ) → next_record default_config st.InField fields f (44 ∷ tail) ≡ next_record default_config st.StartField (fields ++ f ∷ []) [] tail
unfolding next_record
comma fields f tail = refl

-- the text of three fields, up to what ends the last
abbrev upto : List ℕ → List ℕ → List ℕ → List ℕ → List ℕ
upto a b c tail = a ++ 44 ∷ (b ++ 44 ∷ (c ++ tail))

fields-read : (f g h a b c tail : List ℕ) (end : ℕ) → list_any is_special f ≡ false → list_any is_special g ≡ false → list_any is_special h ≡ false
    → IsSpelled f a → IsSpelled g b → IsSpelled h c → (end == 34) ≡ false
    → next_record default_config st.StartRecord [] [] (upto a b c (end ∷ tail)) ≡ next_record default_config st.InField (f ∷ g ∷ []) h (end ∷ tail)
fields-read f g h a b c tail end pf pg ph sf sg sh n =
    first-spelled f a (b ++ 44 ∷ (c ++ end ∷ tail)) pf sf
    ∙ field-spelled [] f a (b ++ 44 ∷ (c ++ end ∷ tail)) 44 pf sf refl
    ∙ comma [] f (b ++ 44 ∷ (c ++ end ∷ tail))
    ∙ field-spelled (f ∷ []) g b (c ++ end ∷ tail) 44 pg sg refl
    ∙ comma (f ∷ []) g (c ++ end ∷ tail)
    ∙ field-spelled (f ∷ g ∷ []) h c tail end ph sh n

-- ---- the records of a text

-- the same next record, and so the same records
pub same-next : (s t : State) (xs ys : List ℕ) (left : List (List (List ℕ))) → next_record default_config t [] [] ys ≡ next_record default_config s [] [] xs
    → AreRecords default_config s xs left → AreRecords default_config t ys left
unfolding Reached
same-next s t xs ys [] e h = (t, ys, (refl, refl), e ∙ (ap₂ (λ (u : State) (z : List ℕ). next_record default_config u [] [] z) h.2.0 h.2.1 ∙ h.3))
same-next s t xs ys (r ∷ left) e h = (h.0, h.1, (h.2.0, e ∙ h.2.1, h.2.2, h.2.3), h.3)

one-more : (s t : State) (xs ys : List ℕ) (r : List (List ℕ)) (left : List (List (List ℕ))) → next_record default_config s [] [] xs ≡ Some (r, t, ys)
    → AreRecords default_config t ys left → AreRecords default_config s xs (r ∷ left)
unfolding Reached
one-more s t xs ys r left e h =
    let p : Read = (r, t, ys) in
    (h.0, h.1, (p, e, refl, h.2), h.3)

-- after a carriage return a record begins as after a line feed
past_cr : (xs : List ℕ) → next_record default_config st.AfterCr [] [] xs ≡ next_record default_config st.StartRecord [] [] xs
unfolding next_record
past_cr [] = refl
past_cr (c ∷ xs) = by (c == 10) (c == 13) refl refl
  where
    by : (p q : Bool) → (c == 10) ≡ p → (c == 13) ≡ q → next_record default_config st.AfterCr [] [] (c ∷ xs) ≡ next_record default_config st.StartRecord [] [] (c ∷ xs)
    by true true e f = rw (e, f) refl
    by true false e f = rw (e, f) refl
    by false q e f = rw e refl

-- a byte of a blank line
pub blank-passed : (b : ℕ) (xs : List ℕ) → (b ≡ 10) ⊎ (b ≡ 13) → next_record default_config st.StartRecord [] [] (b ∷ xs) ≡ next_record default_config st.StartRecord [] [] xs
unfolding next_record
blank-passed b xs (inl e) = rw e refl
blank-passed b xs (inr e) = rw e refl

line_feed-ends : (fields : List (List ℕ)) (f tail : List ℕ) → next_record default_config st.InField fields f (10 ∷ tail) ≡ Some (fields ++ f ∷ [], st.StartRecord, tail)
unfolding next_record
line_feed-ends fields f tail = refl

cr-ends : (fields : List (List ℕ)) (f tail : List ℕ) → next_record default_config st.InField fields f (13 ∷ tail) ≡ Some (fields ++ f ∷ [], st.AfterCr, tail)
unfolding next_record
cr-ends fields f tail = refl

-- three fields and the end of a line are a record, whatever follows
line-reads : (f g h a b c end : List ℕ) → list_any is_special f ≡ false → list_any is_special g ≡ false → list_any is_special h ≡ false
    → IsSpelled f a → IsSpelled g b → IsSpelled h c → IsLineEnd end → (more : List ℕ) (left : List (List (List ℕ)))
    → AreRecords default_config st.StartRecord more left → AreRecords default_config st.StartRecord (upto a b c (end ++ more)) ((f ∷ g ∷ h ∷ []) ∷ left)
line-reads f g h a b c end pf pg ph sf sg sh (inl e) more left all =
    rw e (one-more st.StartRecord st.StartRecord (upto a b c (10 ∷ more)) more (f ∷ g ∷ h ∷ []) left
    (fields-read f g h a b c more 10 pf pg ph sf sg sh refl ∙ line_feed-ends (f ∷ g ∷ []) h more) all)
line-reads f g h a b c end pf pg ph sf sg sh (inr (inl e)) more left all =
    rw e (one-more st.StartRecord st.AfterCr (upto a b c (13 ∷ more)) more (f ∷ g ∷ h ∷ []) left
    (fields-read f g h a b c more 13 pf pg ph sf sg sh refl ∙ cr-ends (f ∷ g ∷ []) h more)
    (same-next st.StartRecord st.AfterCr more more left (past_cr more) all))
line-reads f g h a b c end pf pg ph sf sg sh (inr (inr e)) more left all =
    rw e (one-more st.StartRecord st.AfterCr (upto a b c (13 ∷ 10 ∷ more)) (10 ∷ more) (f ∷ g ∷ h ∷ []) left
    (fields-read f g h a b c (10 ∷ more) 13 pf pg ph sf sg sh refl ∙ cr-ends (f ∷ g ∷ []) h (10 ∷ more))
    (same-next st.StartRecord st.AfterCr more (10 ∷ more) left (past_cr (10 ∷ more) ∙ blank-passed 10 more (inl refl)) all))

-- ---- a line in front of bytes

line-parts : (a b c end rest : List ℕ) → upto a b c end ++ rest ≡ upto a b c (end ++ rest)
line-parts a b c end rest = simp append_assoc

-- three fields, each in front of what is after the one before, and the end of the line
pub record-in : (f g h bytes r1 s1 r2 s2 r3 rest : List ℕ) → IsFieldIn f bytes r1 → r1 ≡ 44 ∷ s1 → IsFieldIn g s1 r2 → r2 ≡ 44 ∷ s2 → IsFieldIn h s2 r3 → EndsLine r3 rest
    → get_or bytes 0 0 ≢ 239 → IsRecordIn (f ∷ g ∷ h ∷ []) bytes rest
record-in f g h bytes r1 s1 r2 s2 r3 rest i1 e1 i2 e2 i3 ends first =
    let text = upto i1.text i2.text i3.text ends.text in
    let long = length-append i1.text (44 ∷ (i2.text ++ 44 ∷ (i3.text ++ ends.text))) in
    record {
      text = text;
      reads = λ more left all. subst (λ (x : List ℕ). AreRecords default_config st.StartRecord x ((f ∷ g ∷ h ∷ []) ∷ left)) (sym (line-parts i1.text i2.text i3.text ends.text more))
          (line-reads f g h i1.text i2.text i3.text ends.text i1.plain i2.plain i3.plain i1.spelled i2.spelled i3.spelled ends.is_end more left all);
      some = omega (arith, long);
      first = first;
      parts = i1.parts
          ∙ ap (λ (x : List ℕ). i1.text ++ x) (e1 ∙ ap (λ (x : List ℕ). 44 ∷ x) (i2.parts ∙ ap (λ (x : List ℕ). i2.text ++ x) (e2 ∙ ap (λ (x : List ℕ). 44 ∷ x) (i3.parts ∙ ap (λ (x : List ℕ). i3.text ++ x) ends.parts))))
          ∙ sym (line-parts i1.text i2.text i3.text ends.text rest);
    }

-- a field without quotes, and one with them
pub field-bare : (f bytes rest : List ℕ) → list_any is_special f ≡ false → bytes ≡ f ++ rest → IsFieldIn f bytes rest
field-bare f bytes rest p parts = record { text = f; spelled = inl refl; plain = p; parts = parts }

pub field-quoted : (f bytes inside after rest : List ℕ) → list_any is_special f ≡ false → bytes ≡ 34 ∷ inside → inside ≡ f ++ after → after ≡ 34 ∷ rest → IsFieldIn f bytes rest
field-quoted f bytes inside after rest p begun parts shut = record {
  text = 34 ∷ (f ++ 34 ∷ []);
  spelled = inr refl;
  plain = p;
  parts = begun ∙ ap (λ (x : List ℕ). 34 ∷ x) (parts ∙ ap (λ (x : List ℕ). f ++ x) shut ∙ sym (append_assoc f (34 ∷ []) rest));
}

-- the word of a sensor begins with a letter
sensor-first : (s : Sensor) (rest : List ℕ) → get_or (spelling_of (w.Of s) ++ rest) 0 0 ≢ 239
sensor-first s.Along rest = λ e. omega (arith, e)
sensor-first s rest = λ e. omega (arith, e)

-- a row of a sensor
pub sample-in : (s : Sensor) (moment : ℕ) (value : Option ℤ) (q : Row) (bytes r2 r3 rest : List ℕ) → q ≡ row.Sample s (record { moment = moment; value = value }) → IsRow q
    → bytes ≡ numeral moment ++ 44 ∷ r2 → r2 ≡ value_text value ++ r3 → EndsLine r3 rest → IsRowIn q (spelling_of (w.Of s) ++ 44 ∷ bytes) rest
sample-in s moment value q bytes r2 r3 rest is are e2 e3 ends =
    let r : Row = row.Sample s (record { moment = moment; value = value }) in
    let plain = line_for-plain r in
    subst (λ (x : Row). IsRowIn x (spelling_of (w.Of s) ++ 44 ∷ bytes) rest) (sym is) (record {
      fields = fields_in (line_for r);
      is_row = row-read r (subst IsRow is are);
      record_in = record-in (spelling_of (w.Of s)) (numeral moment) (value_text value) (spelling_of (w.Of s) ++ 44 ∷ bytes) (44 ∷ bytes) bytes (44 ∷ r2) r2 r3 rest
          (field-bare (spelling_of (w.Of s)) (spelling_of (w.Of s) ++ 44 ∷ bytes) (44 ∷ bytes) plain.0 refl) refl
          (field-bare (numeral moment) bytes (44 ∷ r2) plain.1 e2) refl
          (field-bare (value_text value) r2 r3 plain.2 e3) ends (sensor-first s (44 ∷ bytes));
    })

-- a row of a sensor that is in front of the bytes is taken
pub sample-taken : (s : Sensor) (x : Item) (old new : Trace) (bytes r2 r3 rest : List ℕ) → TakesSample s x old new
    → bytes ≡ numeral x.moment ++ 44 ∷ r2 → r2 ≡ value_text x.value ++ r3 → EndsLine r3 rest → IsRowTaken old new (spelling_of (w.Of s) ++ 44 ∷ bytes) rest
sample-taken s x old new bytes r2 r3 rest t e2 e3 ends = record {
  row = row.Sample s x;
  row_in = sample-in s x.moment x.value (row.Sample s x) bytes r2 r3 rest refl t.0 e2 e3 ends;
  fault = t.1;
  inside = t.2;
  cycles = t.3 ∙ sym (append-nil old.cycles.items);
}

-- ---- no byte order mark

no-mark : (xs : List ℕ) → get_or xs 0 0 ≢ 239 → strip_bom xs ≡ xs
unfolding strip_bom
no-mark [] h = refl
no-mark (a ∷ []) h = refl
no-mark (a ∷ b ∷ []) h = refl
no-mark (a ∷ b ∷ c ∷ rest) h = rw (different a h) refl
  where
    different : (n : ℕ) → n ≢ 239 → eqb n 239 ≡ false
    different n k = grind (arith, nat_tests)

-- what begins as these bytes do has none
pub text-bare : (bytes text rest more : List ℕ) → bytes ≡ text ++ rest → 1 ≤ length text → get_or bytes 0 0 ≢ 239 → strip_bom (text ++ more) ≡ text ++ more
text-bare bytes [] rest more parts some first = absurd (omega arith)
text-bare bytes (b ∷ text) rest more parts some first = no-mark (b ∷ (text ++ more)) (λ e. first (ap (λ (x : List ℕ). get_or x 0 0) parts ∙ e))
