-- What an applied command says, in the words of commits.
use Rattle.std.proofs.Common.{◌≡◌, ◌⊎◌, ◌≤◌, ◌-◌, ℕ, Bool, Option, List, [], ◌∷◌, take, sym, subst, inl, inr, arith}
use Rattle.std.specs.Prelude.{Contains}
use Rattle.edr_device.specs.Device.{Elapses, IsQuiet, MayLeave}
use Rattle.edr_device.proofs.SettlingLemmas.{elapses_more}
use Rattle.edr_image.specs.Banks.{Store}
use Rattle.edr_image.specs.Calls.{stops}
use Rattle.edr_image.specs.Image.{View}
use Rattle.edr_image.specs.Steps.{BankStep, Erase, Fill, Lock, Done}
use Rattle.edr_image.proofs.StopLaws.{contains_cases, contains_none, stops-is}
use Rattle.edr_gates.specs.Taken.{AreStopped, AreTaken, MayTakeAll, PassMeanwhile}
use Rattle.edr_gates.specs.Taken as taken
use Rattle.edr_cycle.specs.Commits.{IsAfterFirst, IsLeftBy, IsFoundWith, SaysAfter}
use Rattle.edr_cycle.specs.Past.{KeepsPast}
use Rattle.edr_cycle.proofs.PastLemmas.{done_past}

-- a stop before the first call
none_left : (steps done : List BankStep) → Contains (stops 0 steps) done → done ≡ []
unfolding stops
none_left [] done h = contains_none done _ h
none_left (Erase m ∷ steps) done h = elim (contains_cases [] [] done h) [ inl e ↦ sym e | inr none ↦ contains_none done _ none ]
none_left (Fill m pre ∷ steps) done h = elim (contains_cases [] [] done h) [ inl e ↦ sym e | inr none ↦ contains_none done _ none ]
none_left (Lock m ∷ steps) done h = elim (contains_cases [] [] done h) [ inl e ↦ sym e | inr none ↦ contains_none done _ none ]
none_left (Done m crash ∷ steps) done h = elim (contains_cases [] [] done h) [ inl e ↦ sym e | inr none ↦ contains_none done _ none ]

left_by : (k : ℕ) (steps done : List BankStep) → Contains (stops k steps) done → IsLeftBy k steps done
left_by k steps done h = by_call (split k) where
  split : (k : ℕ) → (k ≡ 0) ⊎ (1 ≤ k)
  split k = grind arith

  by_call : (k ≡ 0) ⊎ (1 ≤ k) → IsLeftBy k steps done
  by_call (inl none) = inl (none, none_left steps done (subst (λ n. Contains (stops n steps) done) none h))
  by_call (inr some) = inr (stops-is steps k done some h)

module _ {D : Type 0} (content : D → Option (List ℕ)) (settled : D → ℕ → Bool) (since : D → ℕ → List ℕ → Type 0) (clock good : D → ℕ) (steps : List BankStep) (store : Store) (may : MayTakeAll store.banks steps) (d d' : D) where
  ready : (bytes : List ℕ) (v : View) → IsFoundWith store (content d) (settled d) bytes v → taken.IsReady steps (content d) (settled d) bytes v
  ready bytes v h = record { found = h.0; may = subst (λ (s : Store). MayTakeAll s.banks steps) (sym h.1) may }

  keeps : (bytes : List ℕ) (v : View) → IsFoundWith store (content d) (settled d) bytes v → (image : List ℕ) (done : List BankStep) → taken.HasDone steps done bytes v image → KeepsPast store.header bytes image
  keeps bytes v r image done has = subst (λ (s : Store). KeepsPast s.header bytes image) r.1 (done_past steps done bytes image v r.0.view_is (subst (λ (s : Store). MayTakeAll s.banks steps) (sym r.1) may) has)

  pub taken_says : AreTaken steps (content d) (settled d) (content d') (settled d') → (bytes : List ℕ) (v : View) → IsFoundWith store (content d) (settled d) bytes v → (now : List ℕ) × IsQuiet (content d') (settled d') now × SaysAfter v steps now × KeepsPast store.header bytes now
  taken_says h bytes v r = let x = h bytes v (ready bytes v r) in (x.0, x.1, x.2.view, keeps bytes v r x.0 steps x.2)

  pub stopped_cuts : AreStopped steps (clock d' - clock d) (content d) (settled d) (content d') (settled d') → (bytes image : List ℕ) (v : View) → IsFoundWith store (content d) (settled d) bytes v → MayLeave (content d') (settled d') image → (part : List BankStep) × IsLeftBy (clock d' - clock d) steps part × SaysAfter v part image
  stopped_cuts h bytes image v r left =
      let x = h bytes image v (ready bytes v r) left in
      (x.done, left_by (clock d' - clock d) steps x.done x.left, x.has.view)

  pub pass_says : PassMeanwhile steps (content d) (settled d) (clock d) (since d) (since d') → (bytes : List ℕ) (v : View) → IsFoundWith store (content d) (settled d) bytes v → Elapses (clock d) (since d) (since d') (IsAfterFirst steps v)
  pass_says h bytes v r = elapses_more (clock d) (since d) (since d') (taken.IsPassed steps bytes v) (IsAfterFirst steps v) (h bytes v (ready bytes v r)) (λ image p. record { p = p.p; within = p.within; says = p.has.view })

  pub pass_keeps : PassMeanwhile steps (content d) (settled d) (clock d) (since d) (since d') → (bytes : List ℕ) (v : View) → IsFoundWith store (content d) (settled d) bytes v → Elapses (clock d) (since d) (since d') (KeepsPast store.header bytes)
  pass_keeps h bytes v r = elapses_more (clock d) (since d) (since d') (taken.IsPassed steps bytes v) (KeepsPast store.header bytes) (h bytes v (ready bytes v r)) (λ image p. keeps bytes v r image (take p.p steps) p.has)
