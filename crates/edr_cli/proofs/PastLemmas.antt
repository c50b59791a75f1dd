-- What stands past the image, up to a whole call.
use Rattle.std.proofs.Common.{◌≡◌, ◌∙◌, subst, ℕ, Bool, List, Option, Some, None}
use Rattle.edr_device.specs.Device.{IsQuiet, MayLeave}
use Rattle.edr_image.specs.Banks.{Store}
use Rattle.edr_cycle.proofs.PastLemmas.{past_same}
use Rattle.edr_replay.specs.Past.{LeavesPast}
use Rattle.edr_replay.proofs.PastLemmas.{past_fewer}
use Rattle.edr_gates.specs.Found.{IsFound}

-- the bytes are as they were
pub past_looked : (content content' : Option (List ℕ)) (settled settled' : ℕ → Bool) → ((bytes image : List ℕ) → IsQuiet content settled bytes → MayLeave content' settled' image → image ≡ bytes) → LeavesPast content settled content' settled'
past_looked content content' settled settled' stays = record { keeps = λ v bytes image found may. past_same v.store.header bytes image (stays bytes image found.quiet may) }

-- nothing was changed after the call
pub past_stays : (content content' content'' : Option (List ℕ)) (settled settled' settled'' : ℕ → Bool) → content'' ≡ content' → ((i : ℕ) → settled'' i ≡ settled' i) → LeavesPast content settled content' settled' → LeavesPast content settled content'' settled''
past_stays content content' content'' settled settled' settled'' same same_settled past = record {
  keeps = λ v. past_fewer v content content' content'' settled settled' settled'' (λ image may. go content' image (subst (λ (o : Option (List ℕ)). MayLeave o settled'' image) same may)) (past.keeps v);
}
  where
    go : (o : Option (List ℕ)) (image : List ℕ) → MayLeave o settled'' image → MayLeave o settled' image
    go None image may = tt
    go (Some a) image may = record { size = may.size; same = λ i below there. may.same i below (same_settled i ∙ there) }

-- the banks were opened before the call, after a barrier
pub past_opened : (v : Store) (n : ℕ) (content content' content'' : Option (List ℕ)) (settled settled' settled'' : ℕ → Bool) → ((image : List ℕ) → content ≡ Some image → IsFound (record { store = v; count = n }) content' settled' image)
    → LeavesPast content' settled' content'' settled'' → LeavesPast content settled content'' settled''
past_opened v n content content' content'' settled settled' settled'' opened past = record {
  keeps = λ w bytes image found may. past.keeps w bytes image (record { quiet = (opened bytes found.quiet.0).quiet; view_is = found.view_is }) may;
}
