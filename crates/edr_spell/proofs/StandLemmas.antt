-- What the rows so far have given: some cycles, and the rows of one that is open.
use Rattle.std.proofs.Common.{arith, ◌≡◌, ◌∙◌, sym, ap, ap₂, subst, ℕ, Result, Ok, refl, zero, suc, Option, Some, None, option_map, List, [], ◌∷◌, ◌++◌, map, fold, append_assoc, inl, inr}
use Rattle.std.proofs.lemmas.List.{append-nil, map-append}
use Rattle.edr_items.specs.declared.Sensor.{Sensor}
use Rattle.edr_items.specs.SensorLists.{SensorLists, AreFeeds, IsLevel, lagging_of}
use Rattle.edr_items.proofs.FeedLemmas.{no_items-feeds}
use Rattle.edr_items.proofs.LevelLemmas.{IsLevel-from_lagging}
use Rattle.edr_spell.specs.declared.CycleInput.{CycleInput}
use Rattle.edr_spell.specs.declared.Row.{Row}
use Rattle.edr_spell.specs.declared.Row.TheVariants as row
use Rattle.edr_spell.specs.declared.TraceFault.TheVariants as f
use Rattle.edr_spell.specs.declared.TraceFault.{TraceFault}
use Rattle.edr_spell.specs.Rows.{row_of, AreRows}
use Rattle.edr_spell.specs.Samples.{Sample, row_for, feeds_given}
use Rattle.edr_spell.specs.Spell.{stopped_cycle, whole_cycle, SpellsCycle, SpellCycles}
use Rattle.edr_spell.specs.Fault.{open_next, open_after, fault_in, AreFaultless}
use Rattle.edr_spell.specs.Steps.{feeds_next, cycles_next}
use Rattle.edr_spell.proofs.FeedsLemmas.{feeds_given-nil, feeds_given-push, AreFeeds-push}

-- one record more is one row more
pub are_rows-push : (records : List (List (List ℕ))) (rows : List Row) (r : List (List ℕ)) (q : Row) → AreRows records rows → row_of r ≡ Ok q → AreRows (records ++ r ∷ []) (rows ++ q ∷ [])
are_rows-push records rows r q h e =
    map-append row_of records (r ∷ []) ∙ ap₂ (λ (x y : List (Result Row TraceFault)). x ++ y) h (ap (λ (x : Result Row TraceFault). x ∷ []) e) ∙ sym (map-append Ok rows (q ∷ []))

-- the feeds of an open cycle
abbrev pub feeds_in : Option (List Sample) → Option SensorLists
feeds_in o = option_map feeds_given o

pub feeds-next : (o : Option (List Sample)) (r : Row) → feeds_in (open_next o r) ≡ feeds_next (feeds_in o) r
feeds-next o (row.On zero) = ap Some feeds_given-nil
feeds-next o (row.On (suc k)) = refl
feeds-next None (row.Sample s x) = refl
feeds-next (Some xs) (row.Sample s x) = ap Some (feeds_given-push xs s x)
feeds-next o (row.Cut k) = refl

-- each row is right, from where the front leaves the trace
abbrev pub RightFrom : Option (List Sample) → List Row → Type 0
RightFrom o [] = Unit {0}
RightFrom o (r ∷ rows) = (fault_in (feeds_in o) r ≡ None) × RightFrom (open_next o r) rows

pub fold-append : (o : Option (List Sample)) (a b : List Row) → fold open_next o (a ++ b) ≡ fold open_next (fold open_next o a) b
fold-append o [] b = refl
fold-append o (r ∷ a) b = fold-append (open_next o r) a b

pub right-append : (o : Option (List Sample)) (a b : List Row) → RightFrom o a → RightFrom (fold open_next o a) b → RightFrom o (a ++ b)
right-append o [] b h k = k
right-append o (r ∷ a) b h k = (h.0, right-append (open_next o r) a b h.1 k)

right-at : (o : Option (List Sample)) (before : List Row) (r : Row) (after : List Row) → RightFrom o (before ++ r ∷ after) → fault_in (feeds_in (fold open_next o before)) r ≡ None
right-at o [] r after h = h.0
right-at o (q ∷ before) r after h = right-at (open_next o q) before r after h.1

pub faultless-right : (rows : List Row) → RightFrom None rows → AreFaultless rows
unfolding open_after
faultless-right rows h = λ before r after e. right-at None before r after (subst (λ (x : List Row). RightFrom None x) e h)

-- the rows of one cycle more
pub spell-push : (rows more : List Row) (cs : List CycleInput) (c : CycleInput) → SpellCycles rows cs → SpellsCycle more c → SpellCycles (rows ++ more) (cs ++ c ∷ [])
unfolding SpellCycles
spell-push rows more [] c h k = (more, [], ap (λ (x : List Row). x ++ more) h ∙ sym (append-nil more), k, refl)
spell-push rows more (d ∷ cs) c h k =
    (h.0, h.1 ++ more, ap (λ (x : List Row). x ++ more) h.2 ∙ append_assoc h.0 h.1 more, h.3, spell-push h.1 more cs c h.4 k)

-- the rows of the open cycle
abbrev pub OpenTail : List Row → Option (List Sample) → Type 0
OpenTail tail None = tail ≡ []
OpenTail tail (Some xs) = (tail ≡ row.On 0 ∷ map row_for xs) × AreFeeds (feeds_given xs)

pub record Stands (rows : List Row) (cycles : List CycleInput) (o : Option (List Sample)) : Type 0 where
  pub ended : List Row
  pub tail : List Row
  pub whole : rows ≡ ended ++ tail
  pub spelled : SpellCycles ended cycles
  pub left : OpenTail tail o
  pub right : RightFrom None rows
  pub stands : open_after rows ≡ o

pub stands-none : Stands [] [] None
unfolding SpellCycles open_after
stands-none = record { ended = []; tail = []; whole = refl; spelled = refl; left = refl; right = tt; stands = refl }

-- what of the next row is the same in each case
record Next (rows : List Row) (o : Option (List Sample)) (r : Row) : Type 0 where
  right : RightFrom None (rows ++ r ∷ [])
  stands : open_after (rows ++ r ∷ []) ≡ open_next o r

next-row : (rows : List Row) (cycles : List CycleInput) (o : Option (List Sample)) (r : Row) → Stands rows cycles o → fault_in (feeds_in o) r ≡ None → Next rows o r
unfolding open_after
next-row rows cycles o r h e = record {
  right = right-append None rows (r ∷ []) h.right (subst (λ (q : Option (List Sample)). RightFrom q (r ∷ [])) (sym h.stands) (e, tt));
  stands = fold-append None rows (r ∷ []) ∙ ap (λ (q : Option (List Sample)). open_next q r) h.stands;
}

-- one row more, that is right
pub stands-next : (rows : List Row) (cycles : List CycleInput) (o : Option (List Sample)) (r : Row)
    → Stands rows cycles o → fault_in (feeds_in o) r ≡ None → Stands (rows ++ r ∷ []) (cycles ++ cycles_next (feeds_in o) r) (open_next o r)
unfolding fault_in
stands-next rows cycles None (row.On zero) h e =
    let n = next-row rows cycles None (row.On zero) h e in
    record {
      ended = h.ended;
      tail = row.On 0 ∷ [];
      whole = ap (λ (x : List Row). x ++ row.On 0 ∷ []) (h.whole ∙ ap (λ (x : List Row). h.ended ++ x) h.left ∙ append-nil h.ended);
      spelled = rw (append-nil cycles) h.spelled;
      left = (refl, rw feeds_given-nil no_items-feeds);
      right = n.right;
      stands = n.stands;
    }
stands-next rows cycles None (row.On (suc k)) h e =
    let n = next-row rows cycles None (row.On (suc k)) h e in
    record {
      ended = h.ended ++ row.On (suc k) ∷ [];
      tail = [];
      whole = ap (λ (x : List Row). x ++ row.On (suc k) ∷ []) (h.whole ∙ ap (λ (x : List Row). h.ended ++ x) h.left ∙ append-nil h.ended) ∙ sym (append-nil (h.ended ++ row.On (suc k) ∷ []));
      spelled = spell-push h.ended (row.On (suc k) ∷ []) cycles (stopped_cycle (suc k)) h.spelled (inl (suc k, omega arith, refl, refl));
      left = refl;
      right = n.right;
      stands = n.stands;
    }
stands-next rows cycles None (row.Sample s x) h e = cc e
stands-next rows cycles None (row.Cut k) h e = cc e
stands-next rows cycles (Some xs) (row.On k) h e = cc e
stands-next rows cycles (Some xs) (row.Sample s x) h e =
    let z : Sample = record { sensor = s; item = x } in
    let n = next-row rows cycles (Some xs) (row.Sample s x) h e in
    record {
      ended = h.ended;
      tail = row.On 0 ∷ map row_for (xs ++ z ∷ []);
      whole = ap (λ (y : List Row). y ++ row.Sample s x ∷ []) (h.whole ∙ ap (λ (y : List Row). h.ended ++ y) h.left.0) ∙ append_assoc h.ended (row.On 0 ∷ map row_for xs) (row.Sample s x ∷ [])
          ∙ ap (λ (y : List Row). h.ended ++ row.On 0 ∷ y) (sym (map-append row_for xs (z ∷ [])));
      spelled = rw (append-nil cycles) h.spelled;
      left = (refl, rw (feeds_given-push xs s x) (AreFeeds-push (feeds_given xs) s x h.left.1 e));
      right = n.right;
      stands = n.stands;
    }
stands-next rows cycles (Some xs) (row.Cut k) h e =
    let n = next-row rows cycles (Some xs) (row.Cut k) h e in
    let level : IsLevel (feeds_given xs) = IsLevel-from_lagging (feeds_given xs) (no-skew (lagging_of (feeds_given xs)) e) in
    record {
      ended = h.ended ++ (row.On 0 ∷ map row_for xs ++ row.Cut k ∷ []);
      tail = [];
      whole = ap (λ (y : List Row). y ++ row.Cut k ∷ []) (h.whole ∙ ap (λ (y : List Row). h.ended ++ y) h.left.0) ∙ append_assoc h.ended (row.On 0 ∷ map row_for xs) (row.Cut k ∷ [])
          ∙ sym (append-nil (h.ended ++ (row.On 0 ∷ map row_for xs ++ row.Cut k ∷ [])));
      spelled = spell-push h.ended (row.On 0 ∷ map row_for xs ++ row.Cut k ∷ []) cycles (whole_cycle xs k) h.spelled (inr (xs, k, refl, h.left.1, level, refl));
      left = refl;
      right = n.right;
      stands = n.stands;
    }
  where
    no-skew : (l : Option Sensor) → option_map (λ s. f.Skew s) l ≡ None → l ≡ None
    no-skew None p = refl
    no-skew (Some s) p = cc p

-- with no cycle open, the rows spell the cycles
pub stands-spelled : (rows : List Row) (cycles : List CycleInput) (o : Option (List Sample)) → Stands rows cycles o → feeds_in o ≡ None → SpellCycles rows cycles
stands-spelled rows cycles None h e = subst (λ (x : List Row). SpellCycles x cycles) (sym (h.whole ∙ ap (λ (x : List Row). h.ended ++ x) h.left ∙ append-nil h.ended)) h.spelled
stands-spelled rows cycles (Some xs) h e = cc e
