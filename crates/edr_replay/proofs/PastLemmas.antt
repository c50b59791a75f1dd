-- What stands past the image, from one phase to the next.
use Rattle.std.proofs.Common.{◌≡◌, ◌∙◌, ◌≤◌, ◌<◌, ◌+◌, sym, ap, subst, ⊎_elim, arith, ℕ, Bool, List, [], ◌∷◌, Option, Some, None}
use Rattle.std.specs.Prelude.{false}
use Rattle.std.proofs.lemmas.Bool.Decides.{nat_tests}
use Rattle.edr_device.specs.Device.{Comes, MayLeave, Stays, is_in}
use Rattle.edr_device.specs.Pieces.{SameBut}
use Rattle.edr_device.specs.Told.{Told}
use Rattle.edr_device.proofs.SettlingLemmas.{quiet_leaves}
use Rattle.edr_image.specs.declared.Header.{Header}
use Rattle.edr_image.specs.Banks.{Store}
use Rattle.edr_image.specs.Image.{View, image_size}
use Rattle.edr_spell.specs.declared.CycleInput.{CycleInput}
use Rattle.edr_run.specs.Cycle.{End, IsCycle, start_stopped, start_counted, whole, cut, Outcome, IsRun, last_count}
use Rattle.edr_cycle.specs.Counter.{IsCountAfterStop, SaysWith}
use Rattle.edr_gates.specs.Found.{Holds, IsFound}
use Rattle.edr_cycle.specs.Past.{KeepsPast}
use Rattle.edr_cycle.proofs.PastLemmas.{past_again, past_same}
use Rattle.edr_replay.specs.Past.{LeavesPast, LeavesPastOf}
use Rattle.edr_replay.proofs.StopLemmas.{leaves_itself}

-- ---- one phase

in_front : (n i : ℕ) → image_size n ≤ i → is_in 32 64 i ≡ false
in_front n i past = grind (arith, nat_tests)

front_past : (h : Header) (bytes image : List ℕ) → SameBut 32 64 bytes image → KeepsPast h bytes image
front_past h bytes image s = record { size = s.size; past = λ i from below. s.same i below (in_front h.banks i from) }

-- a start changes the count alone
pub start_past : (content : Option (List ℕ)) (settled : ℕ → Bool) (content' : Option (List ℕ)) (settled' : ℕ → Bool)
    → ((bytes image : List ℕ) (v : View) → IsFound v content settled bytes → MayLeave content' settled' image → IsCountAfterStop 6 (v.count + 1) bytes v image) → LeavesPast content settled content' settled'
start_past content settled content' settled' counted = record {
  keeps = λ v bytes image found may. ⊎_elim
      (λ (same : SaysWith v.count bytes v image). front_past v.store.header bytes image same.others)
      (λ (more : (5 ≤ 6) × SaysWith (v.count + 1) bytes v image). front_past v.store.header bytes image more.1.others)
      (counted bytes image v found may);
}

-- a device that was left as it was
pub past_none : (content : Option (List ℕ)) (settled : ℕ → Bool) → LeavesPast content settled content settled
past_none content settled = record { keeps = λ v bytes image found may. past_same v.store.header bytes image (quiet_leaves bytes content settled image found.quiet may) }

-- ---- the power goes off

-- what a crash leaves after a power cycle it might have left before
pub comes_leaves : (old new : Option (List ℕ)) (settled settled' : ℕ → Bool) (image : List ℕ) → Told (Comes settled settled') old new → MayLeave new settled' image → MayLeave old settled image
comes_leaves None new settled settled' image told may = tt
comes_leaves (Some a) None settled settled' image told may = absurd told
comes_leaves (Some a) (Some b) settled settled' image told may = record {
  size = may.size ∙ told.0.size;
  same = λ i below there. may.same i (subst (λ n. i < n) (sym told.0.size) below) (told.1 i) ∙ told.0.same i below there;
}

pub stays_leaves : (old new : Option (List ℕ)) (settled settled' : ℕ → Bool) (past since : ℕ → List ℕ → Type 0) (image : List ℕ) → Stays old settled past new settled' since → MayLeave new settled' image → MayLeave old settled image
stays_leaves old new settled settled' past since image stays may = go old (subst (λ (o : Option (List ℕ)). MayLeave o settled' image) stays.same_content may) where
  go : (o : Option (List ℕ)) → MayLeave o settled' image → MayLeave o settled image
  go None may = tt
  go (Some a) may = record { size = may.size; same = λ i below there. may.same i below (stays.same_settled i ∙ there) }

pub past_fewer : (v : View) (content content' content'' : Option (List ℕ)) (settled settled' settled'' : ℕ → Bool) → ((image : List ℕ) → MayLeave content'' settled'' image → MayLeave content' settled' image) → LeavesPastOf v content settled content' settled'
    → LeavesPastOf v content settled content'' settled''
past_fewer v content content' content'' settled settled' settled'' fewer past = λ bytes image found may. past bytes image found (fewer image may)

-- ---- one phase after another

-- the device holds banks under the header that it held
abbrev pub HoldsUnder : Option (List ℕ) → (ℕ → Bool) → Option (List ℕ) → (ℕ → Bool) → Type 0
HoldsUnder content settled content' settled' = (v : Store) (n : ℕ) → Holds content settled v n → (w : Store) × (m : ℕ) × Holds content' settled' w m × (w.header ≡ v.header)

pub past_then : (content content' content'' : Option (List ℕ)) (settled settled' settled'' : ℕ → Bool) → LeavesPast content settled content' settled' → HoldsUnder content settled content' settled' → LeavesPast content' settled' content'' settled''
    → LeavesPast content settled content'' settled''
past_then content content' content'' settled settled' settled'' first holds second = record {
  keeps = λ v bytes image found may.
      let mid = holds v.store v.count (record { bytes = bytes; found = found }) in
      let there = mid.2.found in
      let before = first.keeps v bytes mid.2.bytes found (leaves_itself content' settled' mid.2.bytes mid.2.found.quiet.0) in
      let after = second.keeps (record { store = mid.0; count = mid.1 }) mid.2.bytes image there may in
      past_again v.store.header bytes mid.2.bytes image before (subst (λ (h : Header). KeepsPast h mid.2.bytes image) mid.3 after);
}

-- the commands of a cycle after its start
pub begun_past : (number : ℕ) (store : Store) (content content' content'' : Option (List ℕ)) (settled settled' settled'' : ℕ → Bool) → LeavesPast content settled content' settled'
    → ((v : Store) (n : ℕ) → Holds content settled v n → (n < last_count) × (store ≡ v) × (number ≡ n + 1) × Holds content' settled' v (n + 1))
    → LeavesPastOf (record { store = store; count = number }) content' settled' content'' settled'' → LeavesPast content settled content'' settled''
begun_past number store content content' content'' settled settled' settled'' first begun second = record {
  keeps = λ v bytes image found may.
      let b = begun v.store v.count (record { bytes = bytes; found = found }) in
      let held = b.3 in
      let before = first.keeps v bytes held.bytes found (leaves_itself content' settled' held.bytes held.found.quiet.0) in
      let there : Holds content' settled' store number = subst (λ (k : ℕ). Holds content' settled' store k) (sym b.2) (subst (λ (w : Store). Holds content' settled' w (v.count + 1)) (sym b.1) held) in
      let after = second there.bytes image there.found may in
      let same : there.bytes ≡ held.bytes = same_told content' there.bytes held.bytes there.found.quiet.0 held.found.quiet.0 in
      past_again v.store.header bytes held.bytes image before (subst (λ (w : Store). KeepsPast w.header held.bytes image) b.1 (subst (λ (x : List ℕ). KeepsPast store.header x image) same after));
}
  where
    same_told : (content : Option (List ℕ)) (a b : List ℕ) → content ≡ Some a → content ≡ Some b → a ≡ b
    same_told content a b p q = cc

-- ---- no cycle changes the header

end_header : (c : CycleInput) (v : Store) (n : ℕ) (e : End) → IsCycle c v n e → e.store.header ≡ v.header
end_header c v n e (start_stopped some up is) = ap (λ (x : End). x.store.header) is
end_header c v n e (start_counted some up is) = ap (λ (x : End). x.store.header) is
end_header c v n e (whole run stop is) = ap (λ (x : End). x.store.header) is
end_header c v n e (cut done run stop is) = ap (λ (x : End). x.store.header) is

pub run_header : (cs : List CycleInput) (v : Store) (n : ℕ) (o : Outcome) → IsRun cs v n o → o.store.header ≡ v.header
run_header [] v n o run = ap (λ (x : Outcome). x.store.header) run
run_header (c ∷ cs) v n o run = run_header cs run.1.store run.1.count (record o { reports = run.3 }) run.4 ∙ end_header c v n run.1 run.2
