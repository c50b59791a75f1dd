-- Each text spells one list of cycles, or has one first fault, and not both.
use Rattle.std.proofs.Common.{arith, ◌≡◌, ◌∙◌, sym, ap, ap₂, subst, refl, ℕ, zero, suc, ◌+◌, ◌≤◌, true, eqb, Option, Some, None, Result, Ok, Err, List, [], ◌∷◌, ◌++◌, map, fold, length, append_assoc, inl, inr, ◌⊎◌}
use Rattle.std.proofs.lemmas.Bool.Decides.{nat_tests}
use Rattle.std.proofs.lemmas.List.{append-nil}
use Rattle.csv.specs.Reading.{AreRecords, default_config, strip_bom}
use Rattle.csv.specs.declared.parser.State.TheVariants as st
use Rattle.edr_items.specs.declared.Sensor.{Sensor}
use Rattle.edr_items.specs.declared.Item.{Item}
use Rattle.edr_items.specs.Sensor.{number_of}
use Rattle.edr_items.specs.Item.{mark_of, IsFeed}
use Rattle.edr_items.specs.SensorLists.{items_of, AreFeeds, IsLevel}
use Rattle.edr_items.proofs.LevelLemmas.{lagging-from_IsLevel}
use Rattle.edr_spell.specs.declared.CycleInput.{CycleInput}
use Rattle.edr_spell.specs.declared.Row.{Row}
use Rattle.edr_spell.specs.declared.Row.TheVariants as row
use Rattle.edr_spell.specs.declared.TraceFault.{TraceFault}
use Rattle.edr_spell.specs.declared.TraceFault.TheVariants as f
use Rattle.edr_spell.specs.declared.TraceRefused.{TraceRefused}
use Rattle.edr_spell.specs.Rows.{row_of, AreRows}
use Rattle.edr_spell.specs.Samples.{Sample, row_for, is_of, items_given, feeds_given}
use Rattle.edr_spell.specs.Spell.{stopped_cycle, whole_cycle, SpellsCycle, SpellCycles, Spell}
use Rattle.edr_spell.specs.Fault.{open_next, open_after, item_fault, fault_in, fault_of, feeds_after, fault_at, fault_at_end, AreFaultless, HasFault, FirstFault}
use Rattle.edr_spell.specs.Steps.{cycles_next}
use Rattle.edr_spell.proofs.FeedsLemmas.{items_given-append, items_of-given, IsFeedAfter-within}
use Rattle.edr_spell.proofs.CsvLemmas.{records-are, same_records}
use Rattle.edr_spell.proofs.StandLemmas.{are_rows-push, Stands, feeds_in, RightFrom, fold-append, right-append, faultless-right, stands-none, stands-next, stands-spelled}

-- the cycles that the rows end, one after the other
abbrev cycles_from : Option (List Sample) → List Row → List CycleInput
cycles_from o [] = []
cycles_from o (r ∷ rows) = cycles_next (feeds_in o) r ++ cycles_from (open_next o r) rows

cycles_from-append : (o : Option (List Sample)) (a b : List Row) → cycles_from o (a ++ b) ≡ cycles_from o a ++ cycles_from (fold open_next o a) b
cycles_from-append o [] b = refl
cycles_from-append o (r ∷ a) b = ap (λ (x : List CycleInput). cycles_next (feeds_in o) r ++ x) (cycles_from-append (open_next o r) a b) ∙ sym (append_assoc (cycles_next (feeds_in o) r) (cycles_from (open_next o r) a) (cycles_from (fold open_next o (r ∷ a)) b))

-- rows that are right lead from one open cycle to another, and end these cycles
record Ran (o : Option (List Sample)) (rows : List Row) (o2 : Option (List Sample)) (cs : List CycleInput) : Type 0 where
  right : RightFrom o rows
  to : fold open_next o rows ≡ o2
  gives : cycles_from o rows ≡ cs

ran-append : (o o2 o3 : Option (List Sample)) (a b : List Row) (cs ds : List CycleInput) → Ran o a o2 cs → Ran o2 b o3 ds → Ran o (a ++ b) o3 (cs ++ ds)
ran-append o o2 o3 a b cs ds h k = record {
  right = right-append o a b h.right (subst (λ (x : Option (List Sample)). RightFrom x b) (sym h.to) k.right);
  to = fold-append o a b ∙ ap (λ (x : Option (List Sample)). fold open_next x b) h.to ∙ k.to;
  gives = cycles_from-append o a b ∙ ap₂ (λ (x y : List CycleInput). x ++ y) h.gives (ap (λ (x : Option (List Sample)). cycles_from x b) h.to ∙ k.gives);
}

is_of-itself : (s : Sensor) (x : Item) → is_of s (record { sensor = s; item = x }) ≡ true
is_of-itself s x = same (number_of s)
  where
    same : (n : ℕ) → eqb n n ≡ true
    same n = grind (arith, nat_tests)

given-cons : (s : Sensor) (x : Item) (xs : List Sample) → items_given s (record { sensor = s; item = x } ∷ xs) ≡ x ∷ items_given s xs
given-cons s x xs = rw (is_of-itself s x) refl

-- a sensor row is right where all the cycle's rows give feeds
sample-right : (done xs : List Sample) (s : Sensor) (x : Item) → AreFeeds (feeds_given (done ++ record { sensor = s; item = x } ∷ xs)) → item_fault s (mark_of (items_of s (feeds_given done))) x ≡ None
sample-right done xs s x fed =
    let z : Sample = record { sensor = s; item = x } in
    let all = items_of-given s (done ++ z ∷ xs) ∙ items_given-append s done (z ∷ xs) ∙ ap (λ (y : List Item). items_given s done ++ y) (given-cons s x xs) in
    let of_s : IsFeed s (items_given s done ++ x ∷ items_given s xs) = subst (λ (y : List Item). IsFeed s y) all (fed s) in
    subst (λ (y : List Item). item_fault s (mark_of y) x ≡ None) (sym (items_of-given s done)) (IsFeedAfter-within s 0 (items_given s done) (items_given s xs) x of_s)

samples-ran : (done xs : List Sample) → AreFeeds (feeds_given (done ++ xs)) → Ran (Some done) (map row_for xs) (Some (done ++ xs)) []
unfolding fault_in
samples-ran done [] fed = record { right = tt; to = ap Some (sym (append-nil done)); gives = refl }
samples-ran done (x ∷ xs) fed =
    let e = append_assoc done (x ∷ []) xs in
    let more = samples-ran (done ++ x ∷ []) xs (subst (λ (y : List Sample). AreFeeds (feeds_given y)) (sym e) fed) in
    record {
      right = (sample-right done xs x.sensor x.item fed, more.right);
      to = more.to ∙ ap Some e;
      gives = more.gives;
    }

cut-ran : (xs : List Sample) (k : ℕ) → IsLevel (feeds_given xs) → Ran (Some xs) (row.Cut k ∷ []) None (whole_cycle xs k ∷ [])
unfolding fault_in
cut-ran xs k level = record { right = (rw (lagging-from_IsLevel (feeds_given xs) level) refl, tt); to = refl; gives = refl }

on-ran : Ran None (row.On 0 ∷ []) (Some []) []
unfolding fault_in
on-ran = record { right = (refl, tt); to = refl; gives = refl }

stopped-ran : (k : ℕ) → 1 ≤ k → Ran None (row.On k ∷ []) None (stopped_cycle k ∷ [])
unfolding fault_in
stopped-ran zero h = absurd (omega arith)
stopped-ran (suc k) h = record { right = (refl, tt); to = refl; gives = refl }

cycle-ran : (rows : List Row) (c : CycleInput) → SpellsCycle rows c → Ran None rows None (c ∷ [])
cycle-ran rows c (inl h) = rw (h.2, h.3) (stopped-ran h.0 h.1)
cycle-ran rows c (inr h) =
    let xs = h.0 in
    let k = h.1 in
    let body = ran-append (Some []) (Some xs) None (map row_for xs) (row.Cut k ∷ []) [] (whole_cycle xs k ∷ []) (samples-ran [] xs h.3) (cut-ran xs k h.4) in
    let all = ran-append None (Some []) None (row.On 0 ∷ []) (map row_for xs ++ row.Cut k ∷ []) [] (whole_cycle xs k ∷ []) on-ran body in
    rw (h.2, h.5) all

spelled-ran : (rows : List Row) (cs : List CycleInput) → SpellCycles rows cs → Ran None rows None cs
unfolding SpellCycles
spelled-ran rows [] h = rw h (record { right = tt; to = refl; gives = refl })
spelled-ran rows (c ∷ cs) h = rw h.2 (ran-append None None None h.0 h.1 (c ∷ []) cs (cycle-ran h.0 c h.3) (spelled-ran h.1 cs h.4))

-- rows and records, one by one
ok-same : (a b : List Row) → ◌≡◌ {A = List (Result Row TraceFault)} (map Ok a) (map Ok b) → a ≡ b
ok-same [] [] h = refl
ok-same [] (y ∷ b) h = cc h
ok-same (x ∷ a) [] h = cc h
ok-same (x ∷ a) (y ∷ b) h =
    let first : x ≡ y = cc h in
    let rest : ◌≡◌ {A = List (Result Row TraceFault)} (map Ok a) (map Ok b) = cc h in
    ap₂ (λ (p : Row) (q : List Row). p ∷ q) first (ok-same a b rest)

same-rows : (records : List (List (List ℕ))) (a b : List Row) → AreRows records a → AreRows records b → a ≡ b
same-rows records a b h k = ok-same a b (sym h ∙ k)

cons-same : (p q : Row) (x y : List Row) → p ≡ q → x ≡ y → p ∷ x ≡ q ∷ y
cons-same p q x y e h = ap₂ (λ (a : Row) (b : List Row). a ∷ b) e h

split-rows : (front rest : List (List (List ℕ))) (before rows : List Row) → AreRows front before → AreRows (front ++ rest) rows → (after : List Row) × (rows ≡ before ++ after) × AreRows rest after
split-rows [] rest [] rows h k = (rows, refl, k)
split-rows [] rest (b ∷ before) rows h k = cc h
split-rows (r ∷ front) rest [] rows h k = cc h
split-rows (r ∷ front) rest (b ∷ before) [] h k = cc k
split-rows (r ∷ front) rest (b ∷ before) (q ∷ rows) h k =
    let same : q ≡ b = cc (h, k) in
    let t : AreRows front before = cc h in
    let u : AreRows (front ++ rest) rows = cc k in
    let more = split-rows front rest before rows t u in
    (more.0, cons-same q b rows (before ++ more.0) same more.1, more.2)

-- a record after rows that are right with it has no fault
next-right : (rows before : List Row) (r : List (List ℕ)) (rest : List (List (List ℕ))) (after : List Row) (fault : TraceFault)
    → AreFaultless rows → rows ≡ before ++ after → AreRows (r ∷ rest) after → fault_of (feeds_after before) (row_of r) ≡ Some fault → ⊥
next-right rows before r rest [] fault right e meant here = cc meant
next-right rows before r rest (q ∷ after) fault right e meant here =
    let is : row_of r ≡ Ok q = cc meant in
    let none = right before q after e in
    let some : fault_in (feeds_after before) q ≡ Some fault = rw is at here in
    absurd (cc (none, some))

fault-not : (records : List (List (List ℕ))) (rows : List Row) (cs : List CycleInput) (t : TraceRefused) → AreRows records rows → SpellCycles rows cs → HasFault records t → ⊥
unfolding open_after
fault-not records rows cs t meant spelled h =
    let ran = spelled-ran rows cs spelled in
    let k = split-rows h.front h.rest h.before rows h.meant (rw h.whole at meant) in
    by h.rest k.0 k.1 k.2 h.here (faultless-right rows ran.right) ran.to
  where
    by : (rest : List (List (List ℕ))) (after : List Row) → rows ≡ h.before ++ after → AreRows rest after → fault_at h.before rest ≡ Some t.fault → AreFaultless rows → fold open_next None rows ≡ None → ⊥
    by [] [] e m here right shut =
        let same : rows ≡ h.before = e ∙ append-nil h.before in
        let none : feeds_after h.before ≡ None = ap feeds_in (ap (λ (x : List Row). fold open_next None x) (sym same) ∙ shut) in
        let no : fault_at_end (feeds_after h.before) ≡ None = ap fault_at_end none in
        absurd (cc (no, here))
    by [] (q ∷ after) e m here right shut = cc m
    by (r ∷ rest) after e m here right shut = next-right rows h.before r rest after t.fault right e m here

pub spell-not_fault : (bytes : List ℕ) (cs : List CycleInput) (t : TraceRefused) → Spell bytes cs → FirstFault bytes t → ⊥
spell-not_fault bytes cs t h k =
    let same = same_records default_config st.StartRecord (strip_bom bytes) k.records h.records k.read h.read in
    fault-not h.records h.rows cs t h.meant h.spelled (subst (λ (x : List (List (List ℕ))). HasFault x t) same k.first)

pub spell-one : (bytes : List ℕ) (a b : List CycleInput) → Spell bytes a → Spell bytes b → a ≡ b
spell-one bytes a b h k =
    let same = same_records default_config st.StartRecord (strip_bom bytes) h.records k.records h.read k.read in
    let rows = same-rows k.records h.rows k.rows (subst (λ (x : List (List (List ℕ))). AreRows x h.rows) same h.meant) k.meant in
    let first = spelled-ran h.rows a h.spelled in
    let second = spelled-ran k.rows b k.spelled in
    sym first.gives ∙ ap (cycles_from None) rows ∙ second.gives

-- two fronts of one list: the same, or one goes on where the other ends
abbrev Ahead : List (List (List ℕ)) → List (List (List ℕ)) → List (List (List ℕ)) → List (List (List ℕ)) → Type 0
Ahead a b c d = (x : List (List ℕ)) × (m : List (List (List ℕ))) × (c ≡ a ++ x ∷ m) × (b ≡ x ∷ m ++ d)

abbrev Meet : List (List (List ℕ)) → List (List (List ℕ)) → List (List (List ℕ)) → List (List (List ℕ)) → Type 0
Meet a b c d = ((a ≡ c) × (b ≡ d)) ⊎ (Ahead a b c d ⊎ Ahead c d a b)

cons-meet : (x y : List (List ℕ)) (a b c d : List (List (List ℕ))) → x ≡ y → Meet a b c d → Meet (x ∷ a) b (y ∷ c) d
cons-meet x y a b c d e (inl h) = inl (ap₂ (λ (p : List (List ℕ)) (q : List (List (List ℕ))). p ∷ q) e h.0, h.1)
cons-meet x y a b c d e (inr (inl h)) = inr (inl (h.0, h.1, ap₂ (λ (p : List (List ℕ)) (q : List (List (List ℕ))). p ∷ q) (sym e) h.2, h.3))
cons-meet x y a b c d e (inr (inr h)) = inr (inr (h.0, h.1, ap₂ (λ (p : List (List ℕ)) (q : List (List (List ℕ))). p ∷ q) e h.2, h.3))

meet : (a b c d : List (List (List ℕ))) → a ++ b ≡ c ++ d → Meet a b c d
meet [] b [] d e = inl (refl, e)
meet [] b (y ∷ c) d e = inr (inl (y, c, refl, e))
meet (x ∷ a) b [] d e = inr (inr (x, a, refl, sym e))
meet (x ∷ a) b (y ∷ c) d e =
    let first : x ≡ y = cc e in
    let rest : a ++ b ≡ c ++ d = cc e in
    cons-meet x y a b c d first (meet a b c d rest)

-- the front of the one fault can't go past the other fault
not-ahead : (records : List (List (List ℕ))) (t u : TraceRefused) (h : HasFault records t) (k : HasFault records u) → Ahead h.front h.rest k.front k.rest → ⊥
not-ahead records t u h k w =
    let s = split-rows h.front (w.0 ∷ w.1) h.before k.before h.meant (rw w.2 at k.meant) in
    let here : fault_at h.before (w.0 ∷ w.1 ++ k.rest) ≡ Some t.fault = subst (λ (x : List (List (List ℕ))). fault_at h.before x ≡ Some t.fault) w.3 h.here in
    next-right k.before h.before w.0 w.1 s.0 t.fault k.faultless s.1 s.2 here

same-fault : (records : List (List (List ℕ))) (t u : TraceRefused) → HasFault records t → HasFault records u → t ≡ u
same-fault records t u h k = by (meet h.front h.rest k.front k.rest (sym h.whole ∙ k.whole))
  where
    some-same : (x y : TraceFault) → Some x ≡ Some y → x ≡ y
    some-same x y e = cc e

    by : Meet h.front h.rest k.front k.rest → t ≡ u
    by (inl e) =
        let before = same-rows k.front h.before k.before (subst (λ (x : List (List (List ℕ))). AreRows x h.before) e.0 h.meant) k.meant in
        let fault = some-same t.fault u.fault (sym h.here ∙ ap₂ fault_at before e.1 ∙ k.here) in
        let number : t.row ≡ u.row = h.number ∙ ap (λ (x : List Row). length x + 1) before ∙ sym k.number in
        ap₂ (λ (n : ℕ) (x : TraceFault). record { row = n; fault = x }) number fault
    by (inr (inl w)) = absurd (not-ahead records t u h k w)
    by (inr (inr w)) = absurd (not-ahead records u t k h w)

pub fault-one : (bytes : List ℕ) (t u : TraceRefused) → FirstFault bytes t → FirstFault bytes u → t ≡ u
fault-one bytes t u h k =
    let same = same_records default_config st.StartRecord (strip_bom bytes) h.records k.records h.read k.read in
    same-fault k.records t u (subst (λ (x : List (List (List ℕ))). HasFault x t) same h.first) k.first

-- one of the two there is
abbrev Either : List (List (List ℕ)) → Type 0
Either records = ((rows : List Row) × (cs : List CycleInput) × AreRows records rows × SpellCycles rows cs) ⊎ ((t : TraceRefused) × HasFault records t)

wrong-here : (front rest : List (List (List ℕ))) (rows : List Row) (cs : List CycleInput) (o : Option (List Sample)) (fault : TraceFault) → AreRows front rows → Stands rows cs o → fault_at rows rest ≡ Some fault → Either (front ++ rest)
wrong-here front rest rows cs o fault meant stands here = inr (
  record { row = length rows + 1; fault = fault },
  record {
    front = front;
    rest = rest;
    before = rows;
    whole = refl;
    meant = meant;
    faultless = faultless-right rows stands.right;
    here = here;
    number = refl;
  },
)

walk : (left front : List (List (List ℕ))) (rows : List Row) (cs : List CycleInput) (o : Option (List Sample)) → AreRows front rows → Stands rows cs o → Either (front ++ left)
walk [] front rows cs None meant stands = inl (rows, cs, subst (λ (x : List (List (List ℕ))). AreRows x rows) (sym (append-nil front)) meant, stands-spelled rows cs None stands refl)
walk [] front rows cs (Some xs) meant stands = wrong-here front [] rows cs (Some xs) f.Unended meant stands (ap (λ (x : Option (List Sample)). fault_at_end (feeds_in x)) stands.stands)
walk (r ∷ left) front rows cs o meant stands = by (row_of r) refl (λ (q : Row). walk left (front ++ r ∷ []) (rows ++ q ∷ []) (cs ++ cycles_next (feeds_in o) q) (open_next o q))
  where
    kept : feeds_after rows ≡ feeds_in o
    kept = ap feeds_in stands.stands

    on : (q : Row) → row_of r ≡ Ok q → (p : Option TraceFault) → fault_in (feeds_in o) q ≡ p
        → (AreRows (front ++ r ∷ []) (rows ++ q ∷ []) → Stands (rows ++ q ∷ []) (cs ++ cycles_next (feeds_in o) q) (open_next o q) → Either ((front ++ r ∷ []) ++ left)) → Either (front ++ r ∷ left)
    on q e None p go = subst (λ (x : List (List (List ℕ))). Either x) (append_assoc front (r ∷ []) left) (go (are_rows-push front rows r q meant e) (stands-next rows cs o q stands p))
    on q e (Some fault) p go = wrong-here front (r ∷ left) rows cs o fault meant stands (ap₂ fault_of kept e ∙ p)

    by : (x : Result Row TraceFault) → row_of r ≡ x
        → ((q : Row) → AreRows (front ++ r ∷ []) (rows ++ q ∷ []) → Stands (rows ++ q ∷ []) (cs ++ cycles_next (feeds_in o) q) (open_next o q) → Either ((front ++ r ∷ []) ++ left)) → Either (front ++ r ∷ left)
    by (Err fault) e go = wrong-here front (r ∷ left) rows cs o fault meant stands (ap₂ fault_of kept e)
    by (Ok q) e go = on q e (fault_in (feeds_in o) q) refl (go q)

pub spell-or_fault : (bytes : List ℕ) → ((cs : List CycleInput) × Spell bytes cs) ⊎ ((t : TraceRefused) × FirstFault bytes t)
spell-or_fault bytes =
    let all = records-are default_config (length (strip_bom bytes)) st.StartRecord (strip_bom bytes) (omega arith) refl in
    by all.0 all.1 (walk all.0 [] [] [] None refl stands-none)
  where
    by : (records : List (List (List ℕ))) → AreRecords default_config st.StartRecord (strip_bom bytes) records → Either records → ((cs : List CycleInput) × Spell bytes cs) ⊎ ((t : TraceRefused) × FirstFault bytes t)
    by records read (inl h) = inl (h.1, record { records = records; rows = h.0; read = read; meant = h.2; spelled = h.3 })
    by records read (inr h) = inr (h.0, record { records = records; read = read; first = h.1 })
