-- A sender in a hand that goes on, and goes on again, and how it is dealt.
use Rattle.std.proofs.Common.{◌≡◌, Option, Some, None, IfSome, refl, sym, subst, inl, inr}
use Rattle.edr_loops.specs.Hands.{GoesHere, IsDealt, either}
use Rattle.edr_loops.specs.declared.per_fast_sensor.FastSensor.{FastSensor}
use Rattle.edr_loops.specs.declared.per_fast_sensor.FastSensor.TheVariants.{Along, Across, Restraint}
use Rattle.edr_loops.specs.PerFastSensor.{EachFast}

-- what holds of each fast sensor, one by one
module _ (P : FastSensor → Type 0) where
  pub each-fast : ((k : FastSensor) → P k) → EachFast P
  each-fast h = record { along = h Along; across = h Across; restraint = h Restraint }

  pub of-each : EachFast P → (k : FastSensor) → P k
  of-each h Along = h.along
  of-each h Across = h.across
  of-each h Restraint = h.restraint

none-or : {A : Type 0} (m : Option A) → either m None ≡ m
none-or None = refl
none-or (Some m) = refl

module _ {A : Type 0} (P : A → Type 0) where
  pub dealt-here : (a m r : Option A) → IfSome a P → IsDealt a m r → IfSome m P × IfSome r P
  dealt-here a m r h (inl d) = (subst (λ q. IfSome q P) (sym d.0) h, subst (λ q. IfSome q P) (sym d.1) tt)
  dealt-here a m r h (inr d) = (subst (λ q. IfSome q P) (sym d.0) tt, subst (λ q. IfSome q P) (sym d.1) h)

module _ {A : Type 0} (P : A → Type 0) (R : A → A → Type 0) where
  pub here-begun : ((a b : A) → R a b → P b) → (a b : Option A) → GoesHere R a b → IfSome b P
  here-begun by None None h = tt
  here-begun by (Some a) (Some b) h = by a b h
  here-begun by None (Some b) h = absurd h
  here-begun by (Some a) None h = absurd h

  pub here-self : ((a : A) → P a → R a a) → (a : Option A) → IfSome a P → GoesHere R a a
  here-self by None h = tt
  here-self by (Some a) h = by a h

module _ {A : Type 0} (R : A → A → Type 0) where
  none-left : (r : Option A) → GoesHere R None r → r ≡ None
  none-left None h = refl
  none-left (Some r) h = absurd h

  pub dealt-goes : (a m r m' r' : Option A) → IsDealt a m r → GoesHere R m m' → GoesHere R r r' → GoesHere R a (either r' m')
  dealt-goes a m r m' r' (inl d) h k =
      let gone : r' ≡ None = none-left r' (subst (λ q. GoesHere R q r') d.1 k) in
      subst (λ q. GoesHere R a (either q m')) (sym gone) (subst (λ q. GoesHere R q m') d.0 h)
  dealt-goes a m r m' r' (inr d) h k =
      let gone : m' ≡ None = none-left m' (subst (λ q. GoesHere R q m') d.0 h) in
      subst (λ q. GoesHere R a (either r' q)) (sym gone) (subst (λ q. GoesHere R a q) (sym (none-or r')) (subst (λ q. GoesHere R q r') d.1 k))
