-- There is one verdict on any four pieces.
use Rattle.std.proofs.Common.{◌≡◌, refl, sym, ap, subst, ◌∙◌, arith, ℕ, ◌<◌, ◌≤◌, ◌⊎◌, inl, inr, Bool, true, false, nat_lt, Option, Some, None, List, [], ◌∷◌, ◌++◌}
use Rattle.std.specs.Prelude.{Contains}
use Rattle.edr_image.specs.Image.{View, view_of}
use Rattle.edr_image.proofs.StopLaws.{contains_here, contains_later}
use Rattle.edr_spell.specs.declared.CycleInput.{CycleInput}
use Rattle.edr_spell.specs.declared.TraceRefused.{TraceRefused}
use Rattle.edr_spell.specs.Spell.{Spell}
use Rattle.edr_spell.proofs.LawLemmas.{spell-not_fault, spell-one, fault-one}
use Rattle.edr_run.specs.Cycle.{Outcome, outcomes}
use Rattle.edr_audit.specs.declared.Difference.{Difference}
use Rattle.edr_audit.specs.declared.Difference.TheVariants.{Before, Trace, Stops, After, Run, Report}
use Rattle.edr_audit.specs.declared.Verdict.{Verdict}
use Rattle.edr_audit.specs.declared.Verdict.TheVariants.{Agrees, Differs}
use Rattle.edr_audit.specs.Compared.{first_difference}
use Rattle.edr_audit.specs.Verdicts.{HasView, IsAudited, IsFirstMember, IsMember, IsVerdict, stops_in, text_with}

some_one : {A : Type 0} (o : Option A) (x y : A) → o ≡ Some x → o ≡ Some y → x ≡ y
some_one o x y e f = let both : Some x ≡ Some y = sym e ∙ f in cc

none_some : {A : Type 0} (o : Option A) (x : A) (P : Type 0) → o ≡ None → o ≡ Some x → P
none_some o x P e f = let both : None ≡ Some x = sym e ∙ f in absurd cc

rank : Verdict → ℕ
rank (Differs Before) = 0
rank (Differs (Trace row)) = 1
rank (Differs (Stops found)) = 2
rank (Differs After) = 3
rank (Differs Run) = 4
rank (Differs (Report offset)) = 5
rank Agrees = 6

-- ---- what each verdict past others has

from_of : (b t a r : List ℕ) (w : Verdict) → 0 < rank w → IsVerdict b t a r w → (x : View) × (view_of b ≡ Some x)
unfolding rank
from_of b t a r (Differs Before) up is = absurd (omega (arith, up))
from_of b t a r (Differs (Trace row)) up is = (is.from, is.says)
from_of b t a r (Differs (Stops found)) up is = (is.from, is.says)
from_of b t a r (Differs After) up is = (is.from, is.begins.says)
from_of b t a r (Differs Run) up is = (is.from, is.audited.begins.says)
from_of b t a r (Differs (Report offset)) up is = (is.from, is.audited.begins.says)
from_of b t a r Agrees up is = (is.from, is.audited.begins.says)

cycles_of : (b t a r : List ℕ) (w : Verdict) → 1 < rank w → IsVerdict b t a r w → (cs : List CycleInput) × Spell t cs
unfolding rank
cycles_of b t a r (Differs Before) up is = absurd (omega (arith, up))
cycles_of b t a r (Differs (Trace row)) up is = absurd (omega (arith, up))
cycles_of b t a r (Differs (Stops found)) up is = (is.cycles, is.spelled)
cycles_of b t a r (Differs After) up is = (is.cycles, is.begins.spelled)
cycles_of b t a r (Differs Run) up is = (is.cycles, is.audited.begins.spelled)
cycles_of b t a r (Differs (Report offset)) up is = (is.cycles, is.audited.begins.spelled)
cycles_of b t a r Agrees up is = (is.cycles, is.audited.begins.spelled)

few_of : (b t a r : List ℕ) (w : Verdict) → 2 < rank w → IsVerdict b t a r w → (cs : List CycleInput) × Spell t cs × (stops_in cs ≤ 8)
unfolding rank
few_of b t a r (Differs Before) up is = absurd (omega (arith, up))
few_of b t a r (Differs (Trace row)) up is = absurd (omega (arith, up))
few_of b t a r (Differs (Stops found)) up is = absurd (omega (arith, up))
few_of b t a r (Differs After) up is = (is.cycles, is.begins.spelled, is.begins.few)
few_of b t a r (Differs Run) up is = (is.cycles, is.audited.begins.spelled, is.audited.begins.few)
few_of b t a r (Differs (Report offset)) up is = (is.cycles, is.audited.begins.spelled, is.audited.begins.few)
few_of b t a r Agrees up is = (is.cycles, is.audited.begins.spelled, is.audited.begins.few)

to_of : (b t a r : List ℕ) (w : Verdict) → 3 < rank w → IsVerdict b t a r w → (to : View) × (view_of a ≡ Some to)
unfolding rank
to_of b t a r (Differs Before) up is = absurd (omega (arith, up))
to_of b t a r (Differs (Trace row)) up is = absurd (omega (arith, up))
to_of b t a r (Differs (Stops found)) up is = absurd (omega (arith, up))
to_of b t a r (Differs After) up is = absurd (omega (arith, up))
to_of b t a r (Differs Run) up is = (is.to, is.audited.says)
to_of b t a r (Differs (Report offset)) up is = (is.to, is.audited.says)
to_of b t a r Agrees up is = (is.to, is.audited.says)

-- a member of Outcomes, of what is audited
record HasMember (b t a : List ℕ) : Type 0 where
  from : View
  cycles : List CycleInput
  to : View
  outcome : Outcome
  audited : IsAudited b t a from cycles to
  member : IsMember from cycles to outcome

contains_middle : {A : Type 0} (xs ys : List A) (x : A) → Contains (xs ++ x ∷ ys) x
contains_middle [] ys x = contains_here x ys
contains_middle (y ∷ xs) ys x = contains_later y (xs ++ x ∷ ys) x (contains_middle xs ys x)

first_is_member : (from : View) (cycles : List CycleInput) (to : View) (o : Outcome) → IsFirstMember from cycles to o → IsMember from cycles to o
first_is_member from cycles to o first = record {
  listed = subst (λ (os : List Outcome). Contains os o) (sym first.listed) (contains_middle first.front first.rest o);
  view = first.view;
}

member_of : (b t a r : List ℕ) (w : Verdict) → 4 < rank w → IsVerdict b t a r w → HasMember b t a
unfolding rank
member_of b t a r (Differs Before) up is = absurd (omega (arith, up))
member_of b t a r (Differs (Trace row)) up is = absurd (omega (arith, up))
member_of b t a r (Differs (Stops found)) up is = absurd (omega (arith, up))
member_of b t a r (Differs After) up is = absurd (omega (arith, up))
member_of b t a r (Differs Run) up is = absurd (omega (arith, up))
member_of b t a r (Differs (Report offset)) up is = record { from = is.from; cycles = is.cycles; to = is.to; outcome = is.outcome; audited = is.audited; member = first_is_member is.from is.cycles is.to is.outcome is.member }
member_of b t a r Agrees up is = record { from = is.from; cycles = is.cycles; to = is.to; outcome = is.outcome; audited = is.audited; member = is.member }

-- what is audited is one
froms : (b t a : List ℕ) (f g : View) (cs ds : List CycleInput) (v w : View) → IsAudited b t a f cs v → IsAudited b t a g ds w → f ≡ g
froms b t a f g cs ds v w x y = some_one (view_of b) f g x.begins.says y.begins.says

spells : (b t a : List ℕ) (f g : View) (cs ds : List CycleInput) (v w : View) → IsAudited b t a f cs v → IsAudited b t a g ds w → cs ≡ ds
spells b t a f g cs ds v w x y = spell-one t cs ds x.begins.spelled y.begins.spelled

tos : (b t a : List ℕ) (f g : View) (cs ds : List CycleInput) (v w : View) → IsAudited b t a f cs v → IsAudited b t a g ds w → v ≡ w
tos b t a f g cs ds v w x y = some_one (view_of a) v w x.says y.says

-- a member of the one is a member of the other
moved : (f g : View) (cs ds : List CycleInput) (v w : View) (o : Outcome) → f ≡ g → cs ≡ ds → v ≡ w → IsMember g ds w o → IsMember f cs v o
moved f g cs ds v w o e p q is =
    subst (λ (x : View). IsMember x cs v o) (sym e) (subst (λ (xs : List CycleInput). IsMember g xs v o) (sym p) (subst (λ (x : View). IsMember g ds x o) (sym q) is))

-- ---- of two verdicts none comes before the other

lower : (b t a r : List ℕ) (v w : Verdict) → rank v < rank w → IsVerdict b t a r v → IsVerdict b t a r w → ⊥
unfolding rank
lower b t a r (Differs Before) w up is other = let from = from_of b t a r w up other in none_some (view_of b) from.0 ⊥ is from.1
lower b t a r (Differs (Trace row)) w up is other = let cs = cycles_of b t a r w up other in spell-not_fault t cs.0 (record { row = row; fault = is.fault }) cs.1 is.first
lower b t a r (Differs (Stops found)) w up is other =
    let cs = few_of b t a r w up other in
    let same : is.cycles ≡ cs.0 = spell-one t is.cycles cs.0 is.spelled cs.1 in
    let count : stops_in is.cycles ≡ stops_in cs.0 = ap stops_in same in
    let is_count = is.count in
    let many = is.many in
    let few = cs.2 in
    omega (arith, count, is_count, many, few)
lower b t a r (Differs After) w up is other = let to = to_of b t a r w up other in none_some (view_of a) to.0 ⊥ is.nothing to.1
lower b t a r (Differs Run) w up is other =
    let m = member_of b t a r w up other in
    is.none m.outcome (moved is.from m.from is.cycles m.cycles is.to m.to m.outcome (froms b t a is.from m.from is.cycles m.cycles is.to m.to is.audited m.audited) (spells b t a is.from m.from is.cycles m.cycles is.to m.to is.audited m.audited) (tos b t a is.from m.from is.cycles m.cycles is.to m.to is.audited m.audited) m.member)
lower b t a r (Differs (Report offset)) Agrees up is m =
    let same = tos b t a is.from m.from is.cycles m.cycles is.to m.to is.audited m.audited in
    is.none m.outcome (moved is.from m.from is.cycles m.cycles is.to m.to m.outcome (froms b t a is.from m.from is.cycles m.cycles is.to m.to is.audited m.audited) (spells b t a is.from m.from is.cycles m.cycles is.to m.to is.audited m.audited) same m.member)
    (m.text ∙ ap (λ (x : View). text_with x m.outcome) (sym same))
lower b t a r (Differs (Report offset)) (Differs d) up is other = later d up where
  later : (d : Difference) → 5 < rank (Differs d) → ⊥
  later Before up = omega (arith, up)
  later (Trace row) up = omega (arith, up)
  later (Stops found) up = omega (arith, up)
  later After up = omega (arith, up)
  later Run up = omega (arith, up)
  later (Report offset) up = omega (arith, up)
lower b t a r Agrees (Differs Before) up is other = omega (arith, up)
lower b t a r Agrees (Differs (Trace row)) up is other = omega (arith, up)
lower b t a r Agrees (Differs (Stops found)) up is other = omega (arith, up)
lower b t a r Agrees (Differs After) up is other = omega (arith, up)
lower b t a r Agrees (Differs Run) up is other = omega (arith, up)
lower b t a r Agrees (Differs (Report offset)) up is other = omega (arith, up)
lower b t a r Agrees Agrees up is other = omega (arith, up)

-- ---- two of one kind are one

-- the first one of a list that is so is one
first_same : (P : Outcome → Type 0) (xs ys : List Outcome) (o p : Outcome) (rest more : List Outcome) → xs ++ o ∷ rest ≡ ys ++ p ∷ more → P o → P p → ((q : Outcome) → Contains xs q → P q → ⊥) → ((q : Outcome) → Contains ys q → P q → ⊥) → o ≡ p
first_same P [] [] o p rest more e is_o is_p no_x no_y = cc
first_same P [] (y ∷ ys) o p rest more e is_o is_p no_x no_y = let head : o ≡ y = cc in absurd (no_y y (contains_here y ys) (subst P head is_o))
first_same P (x ∷ xs) [] o p rest more e is_o is_p no_x no_y = let head : p ≡ x = cc in absurd (no_x x (contains_here x xs) (subst P head is_p))
first_same P (x ∷ xs) (y ∷ ys) o p rest more e is_o is_p no_x no_y =
    let tail : xs ++ o ∷ rest ≡ ys ++ p ∷ more = cc in
    first_same P xs ys o p rest more tail is_o is_p (λ q h. no_x q (contains_later x xs q h)) (λ q h. no_y q (contains_later y ys q h))

firsts : (f g : View) (cs ds : List CycleInput) (v w : View) (o p : Outcome) → f ≡ g → cs ≡ ds → v ≡ w → IsFirstMember f cs v o → IsFirstMember g ds w p → o ≡ p
firsts f g cs ds v w o p e q same x y =
    let lists : outcomes cs f.store f.count ≡ outcomes ds g.store g.count = ap (λ (z : View). outcomes cs z.store z.count) e ∙ ap (λ (zs : List CycleInput). outcomes zs g.store g.count) q in
    first_same (HasView v) x.front y.front o p x.rest y.rest (sym x.listed ∙ lists ∙ y.listed) x.view (subst (λ (z : View). HasView z p) (sym same) y.view) x.others
    (λ r h is. y.others r h (subst (λ (z : View). HasView z r) same is))

below_agrees : (d : Difference) → rank (Differs d) ≡ 6 → ⊥
unfolding rank
below_agrees Before e = omega (arith, e)
below_agrees (Trace row) e = omega (arith, e)
below_agrees (Stops found) e = omega (arith, e)
below_agrees After e = omega (arith, e)
below_agrees Run e = omega (arith, e)
below_agrees (Report offset) e = omega (arith, e)

same : (b t a r : List ℕ) (v w : Verdict) → rank v ≡ rank w → IsVerdict b t a r v → IsVerdict b t a r w → v ≡ w
unfolding rank
same b t a r (Differs Before) (Differs Before) e x y = refl
same b t a r (Differs (Trace m)) (Differs (Trace n)) e x y =
    let one = fault-one t (record { row = m; fault = x.fault }) (record { row = n; fault = y.fault }) x.first y.first in ap (λ (f : TraceRefused). Differs (Trace f.row)) one
same b t a r (Differs (Stops m)) (Differs (Stops n)) e x y = ap (λ k. Differs (Stops k)) (x.count ∙ ap stops_in (spell-one t x.cycles y.cycles x.spelled y.spelled) ∙ sym y.count)
same b t a r (Differs After) (Differs After) e x y = refl
same b t a r (Differs Run) (Differs Run) e x y = refl
same b t a r (Differs (Report m)) (Differs (Report n)) e x y =
    let from = froms b t a x.from y.from x.cycles y.cycles x.to y.to x.audited y.audited in
    let cycles = spells b t a x.from y.from x.cycles y.cycles x.to y.to x.audited y.audited in
    let to = tos b t a x.from y.from x.cycles y.cycles x.to y.to x.audited y.audited in
    let outcome = firsts x.from y.from x.cycles y.cycles x.to y.to x.outcome y.outcome from cycles to x.member y.member in
    let text : text_with x.to x.outcome ≡ text_with y.to y.outcome = ap (λ (z : View). text_with z x.outcome) to ∙ ap (text_with y.to) outcome in
    ap (λ k. Differs (Report k)) (some_one (first_difference r (text_with x.to x.outcome)) m n x.differs (ap (first_difference r) text ∙ y.differs))
same b t a r Agrees Agrees e x y = refl
same b t a r Agrees (Differs d) e x y = absurd (below_agrees d (sym e))
same b t a r (Differs d) Agrees e x y = absurd (below_agrees d e)
same b t a r (Differs d) (Differs other) e x y = absurd (omega (arith, e))

by_rank : (b t a r : List ℕ) (v w : Verdict) → IsVerdict b t a r v → IsVerdict b t a r w → ((rank v < rank w) ⊎ ((rank w < rank v) ⊎ (rank v ≡ rank w))) → v ≡ w
by_rank b t a r v w x y (inl low) = absurd (lower b t a r v w low x y)
by_rank b t a r v w x y (inr (inl low)) = absurd (lower b t a r w v low y x)
by_rank b t a r v w x y (inr (inr e)) = same b t a r v w e x y

compared : (m n : ℕ) → (m < n) ⊎ ((n < m) ⊎ (m ≡ n))
compared m n = by_test (nat_lt m n) (nat_lt n m) refl refl where
  by_test : (p q : Bool) → nat_lt m n ≡ p → nat_lt n m ≡ q → (m < n) ⊎ ((n < m) ⊎ (m ≡ n))
  by_test true q e f = inl (grind (arith, e))
  by_test false true e f = inr (inl (grind (arith, f)))
  by_test false false e f = inr (inr (grind (arith, e, f)))

pub verdicts-one : (b t a r : List ℕ) (v w : Verdict) → IsVerdict b t a r v → IsVerdict b t a r w → v ≡ w
verdicts-one b t a r v w x y = by_rank b t a r v w x y (compared (rank v) (rank w))
