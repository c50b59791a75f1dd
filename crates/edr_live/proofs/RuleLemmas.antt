-- Each step of a reader and of the writer keeps the rule of what is shown.
use Rattle.std.proofs.Common.{◌≡◌, ◌≢◌, ◌∙◌, ℕ, List, [], ◌∷◌, ◌++◌, Option, Some, None, refl, sym, ap, subst, ⊎_elim, append_assoc, set, fold, Result, Ok, Err, MatchResult, OnOk}
use Rattle.std.proofs.lemmas.List.{append-nil}
use mathlib.Core.Option.{some}
use mathlib.Core.List.{IsPrefix}
use lib.ListN.{get_elem?}
use Rattle.left_right.specs.Register.{Admits, Forks, Merges, TurnsAt}
use Rattle.atomic_table.proofs.Lists.{at_set, at_snoc}
use Rattle.edr_live.specs.declared.shown.LiveView.{LiveView}
use Rattle.edr_live.specs.declared.shown.ShownCommand.{ShownCommand}
use Rattle.edr_live.specs.declared.copy.LiveCopy.{LiveCopy}
use Rattle.edr_live.specs.declared.knowledge.Knowledge.{Knowledge}
use Rattle.edr_live.specs.declared.knowledge.Trail.{Trail}
use Rattle.edr_live.specs.Copies.{commands_of_copy, trail_after, trail_of}
use Rattle.edr_live.specs.Publishing.{IsPublished}
use Rattle.edr_live.specs.Rule.{BeginsWithAll, IsKnownOf, IsOpening, KeepsShown, Learns, KnowsAll, all_of, newcomer}

-- ---- lists

itself : (xs : List ShownCommand) → IsPrefix xs xs
itself xs = ([], append-nil xs)

-- a list that begins with another begins with all that the other begins with
prefix_on : (l xs ys : List ShownCommand) → IsPrefix l xs → IsPrefix xs ys → IsPrefix l ys
prefix_on l xs ys a b = (a.0 ++ b.0, sym (append_assoc l a.0 b.0) ∙ ap (λ (t : List ShownCommand). t ++ b.0) a.1 ∙ b.1)

all_on : (ls : List (List ShownCommand)) (xs ys : List ShownCommand) → BeginsWithAll xs ls → IsPrefix xs ys → BeginsWithAll ys ls
all_on [] xs ys h up = tt
all_on (l ∷ ls) xs ys h up = (prefix_on l xs ys h.0 up, all_on ls xs ys h.1 up)

-- ---- copies

-- the copy y has the same banks at opening, and its commands begin with those of x
pub record Grows (x y : LiveCopy) : Type 0 where
  pub opening : y.opening.value ≡ x.opening.value
  pub more : IsPrefix (commands_of_copy x) (commands_of_copy y)

pub stays : (x : LiveCopy) → Grows x x
stays x = record { opening = refl; more = itself (commands_of_copy x) }

opening_on : (a b : LiveView) (o : Option LiveView) → b ≡ a → IsOpening a o → IsOpening b o
opening_on a b None e h = tt
opening_on a b (Some v) e h = e ∙ h

known_on : (x y : LiveCopy) (v : Knowledge) → Grows x y → IsKnownOf x v → IsKnownOf y v
known_on x y v g k = record {
  opening = opening_on x.opening.value y.opening.value v.opening g.opening k.opening;
  lists = all_on v.lists (commands_of_copy x) (commands_of_copy y) k.lists g.more;
}

blank_known : (x : LiveCopy) → IsKnownOf x newcomer
blank_known x = record { opening = tt; lists = tt }

all_known : (x : LiveCopy) → IsKnownOf x (all_of x)
all_known x = record { opening = refl; lists = (itself (commands_of_copy x), tt) }

-- ---- the steps

put_in : (x : LiveCopy) (views : List Knowledge) (seat : ℕ) (w : Knowledge) → KeepsShown x views → IsKnownOf x w → KeepsShown x (set views seat w)
put_in x views seat w h k j u e = ⊎_elim
    (λ (t : (j ≡ seat) × (w ≡ u)). subst (IsKnownOf x) t.1 k)
    (λ (t : (j ≢ seat) × (get_elem? views j ≡ some u)). h j u t.1) (at_set views seat j w u e)

all_grow : (x y : LiveCopy) (views : List Knowledge) → Grows x y → KeepsShown x views → KeepsShown y views
all_grow x y views g h j u e = known_on x y u g (h j u e)

pub admits : Admits KeepsShown newcomer
admits x views h seat v at = ⊎_elim (h seat v) (λ (e : newcomer ≡ v). subst (IsKnownOf x) e (blank_known x)) (at_snoc views newcomer v seat at)

pub looks : (seat : ℕ) (v : Knowledge) (x : LiveCopy) → TurnsAt KeepsShown seat v x x Learns
looks seat v x views h at =
    let mine = h seat v at in
    let w : Knowledge = record { opening = Some x.opening.value; lists = commands_of_copy x ∷ v.lists } in
    (w, put_in x views seat w h (record { opening = refl; lists = (itself (commands_of_copy x), mine.lists) }), (mine, refl))

pub shows : (seat : ℕ) (v : Knowledge) (x y : LiveCopy) → Grows x y → TurnsAt KeepsShown seat v x y KnowsAll
shows seat v x y g views h at = (all_of y, put_in y views seat (all_of y) (all_grow x y views g h) (all_known y), refl)

pub forks : (seat : ℕ) (v : Knowledge) → Forks KeepsShown seat v v v
forks seat v x views h at j u e = ⊎_elim (put_in x views seat v h (h seat v at) j u)
    (λ (same : v ≡ u). subst (IsKnownOf x) same (h seat v at)) (at_snoc (set views seat v) v u j e)

other_known : (seat : ℕ) (b : Knowledge) (other : ℕ) (w : Knowledge) (x : LiveCopy) (views : List Knowledge) → KeepsShown x views → ¬ (other ≡ seat) → get_elem? (set views seat b) other ≡ some w → IsKnownOf x w
other_known seat b other w x views h apart there = ⊎_elim (λ (t : (other ≡ seat) × (b ≡ w)). absurd (apart t.0))
    (λ (t : (other ≢ seat) × (get_elem? views other ≡ some w)). h other w t.1) (at_set views seat other b w there)

pub welcomes : (seat : ℕ) (v : Knowledge) (other : ℕ) (w : Knowledge) → Merges KeepsShown seat v other w w newcomer
welcomes seat v other w x views h at apart there =
    put_in x (set views seat w) other newcomer (put_in x views seat w h (other_known seat w other w x views h apart there)) (blank_known x)

-- ---- publishing

-- the commands of one publishing come after those that were shown
then_these : (t : Trail) (xs : List ShownCommand) → fold trail_after t xs ≡ record { opening = t.opening; shown = t.shown ++ xs }
then_these t [] = ap (λ (l : List ShownCommand). record { opening = t.opening; shown = l }) (sym (append-nil t.shown))
then_these t (x ∷ xs) = then_these (trail_after t x) xs ∙ ap (λ (l : List ShownCommand). record { opening = t.opening; shown = l }) (append_assoc t.shown (x ∷ []) xs)

pub grown : (x y : LiveCopy) (xs : List ShownCommand) → trail_of y ≡ fold trail_after (trail_of x) xs → Grows x y
grown x y xs e =
    let f = e ∙ then_these (trail_of x) xs in record {
      opening = ap (λ (t : Trail). t.opening) f;
      more = (xs, sym (ap (λ (t : Trail). t.shown) f));
    }

-- what a publishing tells, where it comes to something
pub published : {T E : Type 0} (r : Result T E) (x y : LiveCopy) (more : List ShownCommand) (v w : Knowledge) (P Q S : Type 0)
    → MatchResult r (λ _. (trail_of y ≡ fold trail_after (trail_of x) more) × P) (λ _. Q) → MatchResult r (λ _. KnowsAll v x y w) (λ _. S) → OnOk r (IsPublished x more y w)
published (Ok u) x y more v w P Q S values rule =
    let f = values.0 ∙ then_these (trail_of x) more in record {
      opening = ap (λ (t : Trail). t.opening) f;
      shown = ap (λ (t : Trail). t.shown) f;
      knows = rule;
    }
published (Err e) x y more v w P Q S values rule = tt
