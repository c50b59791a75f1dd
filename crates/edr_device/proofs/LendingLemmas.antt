-- A memory that is lent to one call after another, and the time that they take.
use Rattle.std.proofs.Common.{◌≡◌, ◌⊎◌, ◌+◌, ◌≤◌, ◌<◌, ◌∙◌, ℕ, Result, Ok, Err, IsErr, List, Option, Some, None, inl, inr, ⊎_elim, refl, arith}
use Rattle.std.proofs.Math.Nat.{le_trans}
use Rattle.edr_device.specs.Device.{StillTells, Ticks}
use Rattle.edr_device.specs.Faults.{HasCause, last_number}
use Rattle.edr_device.specs.Lent.{Lent}
use Rattle.edr_device.specs.Pieces.{Makes}
use Rattle.edr_device.specs.declared.device.Nvm.{Ghosts}
use Rattle.edr_device.proofs.SettlingLemmas.{rose_of, tells_again}

pub tells_self : (content : Option (List ℕ)) → StillTells content content
tells_self None = tt
tells_self (Some bytes) = tt

-- a failure is one under any error
pub lent_failed : {T U E F D : Type 0} {g : Ghosts D} (old new : D) (e : E) (f : F) → Lent {T = T} g old new (Err e) → Lent {T = U} g old new (Err f)
lent_failed old new e f lent = record {
  size = lent.size;
  device = lent.device;
  tells = lent.tells;
  cause = record { later = lent.cause.later; failed = lent.cause.failed };
}

pub cause_again : {U F : Type 0} (a b c : ℕ) (r : Result U F) → a ≤ b → HasCause b c r → HasCause a c r
cause_again a b c (Ok x) before cause = record { later = le_trans before cause.later; failed = tt }
cause_again a b c (Err e) before cause = record {
  later = le_trans before cause.later;
  failed = let rose = cause.failed in omega (arith, before, rose);
}

pub lent_again : {T U E F D : Type 0} {g : Ghosts D} (old mid new : D) (x : T) (r : Result U F) → (g.goes_on old mid → g.goes_on mid new → g.goes_on old new)
    → Lent {E = E} g old mid (Ok x) → Lent g mid new r → Lent g old new r
lent_again {g = g} old mid new x r on first second = record {
  size = second.size ∙ first.size;
  device = on first.device second.device;
  tells = tells_again (g.content old) (g.content mid) (g.content new) first.tells second.tells;
  cause = cause_again (g.faults old) (g.faults mid) (g.faults new) r first.cause.later second.cause;
}

-- ---- writes and syncs, one after the other

pub none_made : {T E : Type 0} (before good : ℕ) (x : T) → Makes {T = T} {E = E} 0 before before good good (Ok x)
none_made before good x = record { later = omega arith; ok = omega arith; good_is = (λ some. absurd (omega arith), λ none. refl); few = tt; made = tt; last = tt }

-- one write or sync
pub makes_one : {T E A : Type 0} (before now good good' : ℕ) (r : Result T E) → before ≤ last_number → Ticks before now good good' r → (before ≡ last_number → IsErr r × A) → Makes 1 before now good good' r
makes_one before now good good' (Ok x) fits t full =
    let clock = t.clock in
    let rose = rose_of before now clock fits full in
    record { later = t.later; ok = omega (arith, clock, rose); good_is = (λ some. t.ok, λ none. absurd (omega (arith, none))); few = tt; made = tt; last = tt }
makes_one before now good good' (Err e) fits t full =
    let clock = t.clock in
    record { later = t.later; ok = tt; good_is = tt; few = omega (arith, clock); made = λ room. omega (arith, clock, room, fits); last = λ room. inl (omega (arith, clock, room, fits), t.err) }

-- a run of calls that failed, and would have been longer
pub makes_first : {T E U F : Type 0} (n m before now good good' : ℕ) (e : E) (f : F) → Makes {T = T} n before now good good' (Err e) → Makes {T = U} (n + m) before now good good' (Err f)
makes_first n m before now good good' e f h = record { later = h.later; ok = tt; good_is = tt; few = let few = h.few in omega (arith, few); made = h.made; last = h.last }

-- one run after another
pub makes_again : {T E U F : Type 0} (n m before mid now good good' good'' : ℕ) (x : T) (r : Result U F) → Makes {E = E} n before mid good good' (Ok x) → Makes m mid now good' good'' r → Makes (n + m) before now good good'' r
makes_again n m before mid now good good' good'' x (Ok y) h k =
    let a = h.ok in
    let b = k.ok in record {
      later = omega (arith, a, b);
      ok = omega (arith, a, b);
      good_is = (
        λ some. ⊎_elim
            (λ (more : 0 < m). k.good_is.0 more)
            (λ (none : m ≡ 0). k.good_is.1 none ∙ h.good_is.0 (omega (arith, some, none)) ∙ omega (arith, b, none))
            (split m),
        λ none. k.good_is.1 (omega (arith, none)) ∙ h.good_is.1 (omega (arith, none)),
      );
      few = tt;
      made = tt;
      last = tt;
    }
  where
    split : (m : ℕ) → (0 < m) ⊎ (m ≡ 0)
    split m = grind arith
makes_again n m before mid now good good' good'' x (Err e) h k =
    let a = h.ok in
    let few = k.few in
    let later = k.later in record {
      later = omega (arith, a, later);
      ok = tt;
      good_is = tt;
      few = omega (arith, a, few);
      made = λ room. let made = k.made room in omega (arith, a, made);
      last = λ room. ⊎_elim
          (λ (one : (now ≡ mid + 1) × (good'' ≡ good')). ⊎_elim
          (λ (some : 0 < n). let g = h.good_is.0 some in let one_is = one.0 in let same = one.1 in inr (omega (arith, g, one_is, same)))
          (λ (none : n ≡ 0). let one_is = one.0 in inl (omega (arith, a, none, one_is), one.1 ∙ h.good_is.1 none))
          (split n))
          (λ (last : now ≡ good'' + 1). inr last)
          (k.last room);
    }
  where
    split : (m : ℕ) → (0 < m) ⊎ (m ≡ 0)
    split m = grind arith

-- the same calls under another value, and under another error
pub makes_ok : {T E U F : Type 0} (n before now good good' : ℕ) (x : T) (y : U) → Makes {E = E} n before now good good' (Ok x) → Makes {E = F} n before now good good' (Ok y)
makes_ok n before now good good' x y h = record { later = h.later; ok = h.ok; good_is = h.good_is; few = tt; made = tt; last = tt }

pub makes_err : {T E U F : Type 0} (n before now good good' : ℕ) (e : E) (f : F) → Makes {T = T} n before now good good' (Err e) → Makes {T = U} n before now good good' (Err f)
makes_err n before now good good' e f h = record { later = h.later; ok = tt; good_is = tt; few = h.few; made = h.made; last = h.last }
