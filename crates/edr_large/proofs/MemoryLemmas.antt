-- A memory that is new, and a cycle over it.
use Rattle.std.proofs.Common.{arith, ◌≡◌, ◌∙◌, ap, refl, sym, subst, inl, ℕ, ◌+◌, ◌≤◌, ◌<◌, Bool, true, false, Some, List, [], ◌++◌, length, Result, Ok, Err, IfOk, IsOk}
use Rattle.std.specs.Prelude.{MatchResult}
use Rattle.std.specs.List.{Contains}
use Rattle.edr_items.specs.SensorLists.{AreFeeds, SensorLists}
use Rattle.edr_device.specs.Device.{Comes, IsQuiet, StillTells}
use Rattle.edr_device.specs.Faults.{Rose}
use Rattle.edr_device.specs.Memory.{MemoryState, SameChoices, same_choices_again as both, memory_content, memory_image, memory_settled, memory_since, memory_state, new_memory}
use Rattle.edr_device.specs.Numbers.{NoneYet}
use Rattle.edr_device.specs.Told.{Told}
use Rattle.edr_device.specs.declared.mem_nvm.MemNvm.{MemNvm}
use Rattle.edr_device.proofs.MomentLemmas.{moment_settles}
use Rattle.edr_image.specs.declared.Ack.{Ack}
use Rattle.edr_image.specs.Banks.{Store}
use Rattle.edr_image.specs.Image.{view_of}
use Rattle.edr_image.specs.Reports.{Report}
use Rattle.edr_image.proofs.StopLaws.{contains_none}
use Rattle.edr_run.specs.Cycle.{IsCycle, last_count}
use Rattle.edr_cycle.specs.Ends.{MeetsCycle, cycle_with}
use Rattle.edr_gates.specs.Found.{Holds}
use Rattle.edr_replay.proofs.FewCallLemmas.{calls_least}
use Rattle.edr_replay.proofs.RunPhaseLemmas.{runs_whole}
use Rattle.edr_large.specs.declared.runs.TheConstants.{CALLS}
use Rattle.edr_large.specs.Large.{HasRunOn, acks_in}

-- a new memory with this image, of which no call is to fail
abbrev pub is_calm : List ℕ → MemoryState
is_calm image = new_memory image CALLS [] [] 1

pub new_quiet : (m : MemNvm) (image : List ℕ) → memory_state m ≡ is_calm image → IsQuiet (memory_content m) (memory_settled m) image
new_quiet m image is = (
  ap (λ (s : MemoryState). Some s.image) is,
  (moment_settles m.state m.state (length image) refl (ap (λ (s : MemoryState). s.settled) is)).1,
)

pub new_holds : (m : MemNvm) (image : List ℕ) (v : Store) (n : ℕ) → memory_state m ≡ is_calm image → view_of image ≡ Some (record { store = v; count = n }) → Holds (memory_content m) (memory_settled m) v n
new_holds m image v n is says = record { bytes = image; found = record { quiet = new_quiet m image is; view_is = says } }

-- what it tells is its image
pub told_image : (m : MemNvm) (bytes : List ℕ) → memory_content m ≡ Some bytes → bytes ≡ memory_image m
told_image m bytes e = cc

-- what follows of each result follows of this one
pub ok_map : {T E : Type 0} (r : Result T E) (P Q : T → Type 0) → ((x : T) → P x → Q x) → IfOk r P → IfOk r Q
ok_map (Ok x) P Q f p = f x p
ok_map (Err e) P Q f p = p

-- what is said of a result that is none but good
pub of_ok : {T E : Type 0} (r : Result T E) (P Q : Type 0) → IsOk r → MatchResult r (λ _. P) (λ _. Q) → P
of_ok (Ok x) P Q ok p = p
of_ok (Err e) P Q ok p = absurd cc

-- no number is on an empty list
none_yet : (numbers : List ℕ) (n : ℕ) → numbers ≡ [] → NoneYet numbers n
none_yet numbers n none = λ k one within has. contains_none k ⊥ (subst (λ (xs : List ℕ). Contains xs k) none has)

-- before so many calls it doesn't fail
pub none_failed : (old new : MemNvm) (image : List ℕ) (before : ℕ) → memory_state old ≡ is_calm image → SameChoices old new → new.clock ≤ 50000006 → ¬ Rose before new.faults
none_failed old new image before is same low rose =
    let fails : new.fails.items ≡ [] = same.fails ∙ ap (λ (s : MemoryState). s.fails) is in
    let reads : new.read_fails.items ≡ [] = same.read_fails ∙ ap (λ (s : MemoryState). s.read_fails) is in
    let calls : new.calls ≡ CALLS = same.calls ∙ ap (λ (s : MemoryState). s.calls) is in
    let none : new.faults ≡ 0 = new.blameless (none_yet new.fails.items new.clock fails) (none_yet new.read_fails.items new.reads reads) (omega (arith, calls, low)) in
    omega (arith, none, rose)

-- a cycle over a new memory doesn't meet a fault
pub not_failed : (f : SensorLists) (image : List ℕ) (number : ℕ) (store : Store) (failed : Bool) (log : List Ack) (m0 m1 m2 : MemNvm)
    → AreFeeds f → memory_state m0 ≡ is_calm image → SameChoices m0 m1 → SameChoices m1 m2 → m1.clock ≡ m0.clock + 6
    → MeetsCycle memory_content memory_settled memory_since (λ m. m.clock) (λ m. m.last_good) f number store failed log m1 m2
    → (failed ≡ true → Rose m1.faults m2.faults) → failed ≡ false
not_failed f image number store failed log m0 m1 m2 feeds is first second six meets cause = by failed refl
  where
    fails : failed ≡ true → ⊥
    fails broke =
        let upto = meets.calls_up_to broke in
        let least = calls_least f number store feeds in
        let begins : m0.clock ≡ 0 = ap (λ (s : MemoryState). s.clock) is in
        none_failed m0 m2 image m1.faults is (both m0 m1 m2 first second) (omega (arith, upto, least, six, begins)) (cause broke)

    by : (b : Bool) → failed ≡ b → b ≡ false
    by true e = absurd (fails e)
    by false e = refl

-- the cycle ran from what the image says
pub cycle_ran : (f : SensorLists) (image now : List ℕ) (before acks log : List Ack) (number : ℕ) (store : Store) (failed : Bool) (m0 m1 m2 m3 : MemNvm)
    → memory_state m0 ≡ is_calm image
    → ((v : Store) (n : ℕ) → Holds (memory_content m0) (memory_settled m0) v n → (n < last_count) × (store ≡ v) × (number ≡ n + 1) × Holds (memory_content m1) (memory_settled m1) v (n + 1))
    → failed ≡ false → StillTells (memory_content m1) (memory_content m2)
    → MeetsCycle memory_content memory_settled memory_since (λ m. m.clock) (λ m. m.last_good) f number store failed log m1 m2
    → Told (Comes (memory_settled m2) (memory_settled m3)) (memory_content m2) (memory_content m3)
    → acks ≡ before ++ log → now ≡ memory_image m3
    → (v : Store) (n : ℕ) → view_of image ≡ Some (record { store = v; count = n }) → HasRunOn f v n before acks now
cycle_ran f image now before acks log number store failed m0 m1 m2 m3 is begun whole tells meets off noted left v n says =
    let b = begun v n (new_holds m0 image v n is says) in
    let next : number ≡ n + 1 = b.2 in
    let held : Holds (memory_content m1) (memory_settled m1) store number =
    subst (λ (k : ℕ). Holds (memory_content m1) (memory_settled m1) store k) (sym next) (subst (λ (w : Store). Holds (memory_content m1) (memory_settled m1) w (n + 1)) (sym b.1) b.3) in
    let runs = runs_whole f 0 number store log (memory_content m1) (memory_settled m1) (memory_content m2) (memory_settled m2) (memory_content m3) (memory_settled m3) (inl refl) tells off (meets.whole whole) n next held in
    let same : runs.3.bytes ≡ now = told_image m3 runs.3.bytes runs.3.found.quiet.0 ∙ sym left in
    record {
      end = runs.0;
      below = b.0;
      cycle = subst (λ (w : Store). IsCycle (cycle_with 0 f 0) w n runs.0) b.1 runs.1;
      acks_are = noted ∙ ap (λ (r : Report). before ++ acks_in r) (sym runs.2);
      says = subst (λ (bytes : List ℕ). view_of bytes ≡ Some (record { store = runs.0.store; count = runs.0.count })) same runs.3.found.view_is;
    }
