-- What passes by an open candidate.
use Rattle.std.proofs.Common.{arith, refl, ap, ◌≡◌, ◌↔◌, ℕ, suc, not, Bool, true, false, ◌||◌, Some, None, Option}
use Rattle.std.specs.Prelude.{is_some, if◌then◌else◌}
use Rattle.edr_definitions.specs.Change.{Change}
use Rattle.edr_definitions.specs.Core.{when}
use Rattle.edr_core.specs.declared.candidate.Candidate.{Candidate}
use Rattle.edr_core.specs.declared.candidate.Issued.{Issued}
use Rattle.edr_core.specs.Candidate.{PassesBy}

-- nothing stands that an open candidate is told
pub record TellsNothing (change : Change) : Type 0 where
  pub confirmed : change.confirmed ≡ false
  pub locked : change.locked ≡ false
  pub ended : change.ended ≡ false
  pub dropped : change.dropped ≡ false
  pub closed : change.closed ≡ false

neither : (a b : Bool) → (a || b) ≡ false → (a ≡ false) × (b ≡ false)
neither false b e = (refl, e)
neither true b e = absurd cc

not-when : {X : Type 0} (b : Bool) (x : X) → None ≡ when b x → b ≡ false
not-when false x e = refl
not-when true x e = absurd cc

still-open : (b : Bool) (p o : Candidate) → Some p ≡ (if b then None else Some o) → (b ≡ false) × (p ≡ o)
still-open false p o e = (refl, cc)
still-open true p o e = absurd cc

end-kept : (b : Bool) (e : ℕ) → e ≡ (if b then suc e else e) → b ≡ false
end-kept false e same = refl
end-kept true e same = absurd (omega (arith, same))

passed-open : (change : Change) (p : Candidate) → PassesBy change (Some p) → TellsNothing change
passed-open change p passes =
    let past = passes (suc p.end) None in
    let kept = still-open (change.dropped || change.closed) p _ past.0 in
    record {
      confirmed = not-when change.confirmed _ (ap (λ (i : Issued). i.take) past.2);
      locked = not-when change.locked _ (ap (λ (i : Issued). i.lock) past.2);
      ended = end-kept change.ended p.end (ap (λ (o : Candidate). o.end) kept.1);
      dropped = (neither change.dropped change.closed kept.0).0;
      closed = (neither change.dropped change.closed kept.0).1;
    }

-- where something stands that a candidate is told, all passes by just where none is open
pub told-none : (none : Bool) (change : Change) (o : Option Candidate) → is_some o ≡ not none → ¬ TellsNothing change → none ≡ true ↔ PassesBy change o
told-none true change None is tells = (λ _ t link. (refl, refl, refl), λ _. refl)
told-none true change (Some p) is tells = absurd cc
told-none false change None is tells = absurd cc
told-none false change (Some p) is tells = (λ no. absurd cc, λ passes. absurd (tells (passed-open change p passes)))
