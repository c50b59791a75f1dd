-- Where nothing counts a fault, a trace wants nothing but memory.
use Rattle.std.proofs.Common.{◌≡◌, ◌∙◌, refl, sym, subst, ap, arith, ℕ, ◌+◌, ◌≤◌, List, length, take, Some, None, IfSome}
use Rattle.std.proofs.lemmas.List.{length-take}
use Rattle.edr_device.specs.Faults.{Rose}
use Rattle.edr_image.specs.Banks.{Store}
use Rattle.edr_image.specs.Image.{View}
use Rattle.edr_image.specs.declared.OpenFault.{OpenFault}
use Rattle.edr_image.specs.declared.OpenFault.TheVariants as open_fault
use Rattle.edr_image.specs.Image.{image_refusal}
use Rattle.edr_spell.specs.declared.CycleInput.{CycleInput}
use Rattle.edr_spell.specs.Spell.{Spell, largest_trace}
use Rattle.edr_spell.specs.Fault.{FirstFault as IsFaultOf}
use Rattle.edr_spell.proofs.LawLemmas.{spell-not_fault, spell-one}
use Rattle.edr_run.specs.Cycle.{Outcome, last_count}
use Rattle.edr_cli.specs.declared.fault.Fault.{Fault}
use Rattle.edr_cli.specs.declared.fault.Fault.TheVariants as fault
use Rattle.edr_replay.specs.Replayed.{RanToTheLast}
use Rattle.edr_cli.specs.Reports.{IsImageCause}
use Rattle.edr_cli.specs.Replays.{IsReplayCause}
use Rattle.edr_cli.specs.Runs.{IsSpent}
use Rattle.edr_cli.specs.Outside.{Input, Memory}
use Rattle.edr_gates.specs.Found.{Says}
use Rattle.edr_cli.proofs.ImageLemmas.{same_view, says_refused, told_is}
use Rattle.edr_cli.proofs.RunLaws.{run_count}
use Rattle.edr_cli.proofs.TakingLemmas.{too_many}

length-take-few : (p : ℕ) (cs : List CycleInput) → length (take p cs) ≤ p
length-take-few p cs = let same = length-take p cs in grind (arith, same)

-- with numbers for all cycles none is spent
not_spent : (cs : List CycleInput) (v : Store) (n : ℕ) (o : Outcome) → n + length cs ≤ last_count → RanToTheLast cs v n o → ⊥
not_spent cs v n o room ran =
    let some = run_count (take ran.p cs) v n o ran.run in
    let few : length (take ran.p cs) ≤ ran.p = length-take-few ran.p cs in
    omega (arith, room, some, few, ran.within, ran.full)

spent_none : (bytes image : List ℕ) (new : Memory) (cs : List CycleInput) (v : Store) (n : ℕ) → Spell bytes cs → Says image v n → n + length cs ≤ last_count → IsSpent bytes image new → ⊥
spent_none bytes image new cs v n spelled says room s =
    let same : s.cycles ≡ cs = spell-one bytes s.cycles cs s.spelled.1 spelled in
    let view : s.count ≡ n = ap (λ (x : View). x.count) (same_view _ _ (sym s.says ∙ says)) in
    let room' : s.count + length s.cycles ≤ last_count = subst (λ (m : ℕ). m + length s.cycles ≤ last_count) (sym view) (subst (λ (xs : List CycleInput). n + length xs ≤ last_count) (sym same) room) in
    not_spent s.cycles s.store s.count s.outcome room' s.ran

pub only_memory : (i i' : Input) (old new : Memory) (f : Fault) (bytes image : List ℕ) (cs : List CycleInput) (v : Store) (n : ℕ) → i.left ≡ Some bytes → length bytes ≤ largest_trace → Spell bytes cs
    → old.content ≡ Some image → Says image v n → n + length cs ≤ last_count → ¬ Rose i.faults i'.faults → ¬ Rose old.faults new.faults → IsReplayCause i i' old new f → f ≡ fault.OutOfMemory
only_memory i i' old new (fault.Trace t) bytes image cs v n left within spelled told says room calm quiet cause =
    absurd (spell-not_fault bytes cs t spelled (told_is (λ b. (length b ≤ largest_trace) × IsFaultOf b t) i.left bytes left cause.0.0).1)
only_memory i i' old new fault.Read bytes image cs v n left within spelled told says room calm quiet cause = absurd (calm cause.0)
only_memory i i' old new fault.TooLong bytes image cs v n left within spelled told says room calm quiet cause =
    absurd (let more = too_many largest_trace bytes i.left i'.left left cause.0 in omega (arith, more, within))
only_memory i i' old new fault.Store bytes image cs v n left within spelled told says room calm quiet cause = absurd (quiet cause.1)
only_memory i i' old new (fault.Short size needed) bytes image cs v n left within spelled told says room calm quiet cause =
    absurd (says_refused image v n (open_fault.Short size needed) says (told_is (λ b. image_refusal b ≡ Some (open_fault.Short size needed)) old.content image told cause.1.0.0))
only_memory i i' old new (fault.Header h) bytes image cs v n left within spelled told says room calm quiet cause =
    absurd (says_refused image v n (open_fault.Header h) says (told_is (λ b. image_refusal b ≡ Some (open_fault.Header h)) old.content image told cause.1.0))
only_memory i i' old new fault.Spent bytes image cs v n left within spelled told says room calm quiet cause =
    absurd (spent_none bytes image new cs v n spelled says room (told_is (λ m. IsSpent bytes m new) old.content image told (told_is (λ b. IfSome old.content (λ m. IsSpent b m new)) i.left bytes left cause.0)))
only_memory i i' old new fault.OutOfMemory bytes image cs v n left within spelled told says room calm quiet cause = refl
only_memory i i' old new other bytes image cs v n left within spelled told says room calm quiet cause = absurd cause

refused_none : (image : List ℕ) (e : OpenFault) → image_refusal image ≡ None → image_refusal image ≡ Some e → ⊥
refused_none image e none some = cc

-- nor does a report of an image that isn't refused
pub image_only_memory : (old new : Memory) (f : Fault) (image : List ℕ) → old.content ≡ Some image → image_refusal image ≡ None → ¬ Rose old.faults new.faults → IsImageCause old new f → f ≡ fault.OutOfMemory
image_only_memory old new fault.Store image told none quiet cause = absurd (quiet cause)
image_only_memory old new (fault.Short size needed) image told none quiet cause =
    absurd (refused_none image (open_fault.Short size needed) none (told_is (λ b. image_refusal b ≡ Some (open_fault.Short size needed)) old.content image told cause.0.0))
image_only_memory old new (fault.Header h) image told none quiet cause =
    absurd (refused_none image (open_fault.Header h) none (told_is (λ b. image_refusal b ≡ Some (open_fault.Header h)) old.content image told cause.0))
image_only_memory old new fault.OutOfMemory image told none quiet cause = refl
image_only_memory old new other image told none quiet cause = absurd cause
