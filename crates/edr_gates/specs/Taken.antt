-- Steps that are taken on a device on which nothing is pending: what is there after them, and after a stop.
use Rattle.std.specs.Prelude.{◌≡◌, ℕ, ◌-◌, ◌≤◌, ◌<◌, Bool, false, Option, Some, None, List, [], ◌∷◌, length, take, slice_get, slice_index, All, Contains, Result, OnOk, OnErr}
use Rattle.edr_record.specs.declared.Record.{Record}
use Rattle.edr_device.specs.Device.{Elapses, IsQuiet, MayLeave, is_in}
use Rattle.edr_device.specs.Lent.{Between, Lent, MakesCalls}
use Rattle.edr_device.specs.declared.device.Nvm.{Ghosts}
use Rattle.edr_image.specs.declared.BankView.{BankView}
use Rattle.edr_image.specs.declared.BankView.TheVariants.{Void, Event}
use Rattle.edr_image.specs.declared.places.TheConstants.{BANK_SIZE}
use Rattle.edr_image.specs.Steps.{BankStep, Erase, Fill, Lock, Done, after, banks_after}
use Rattle.edr_image.specs.Calls.{all_calls, stops}
use Rattle.edr_image.specs.Image.{View, image_after, place_of, view_of, writes_of}
use Rattle.edr_gates.specs.Found.{IsFound}

-- ---- which steps may be taken

-- the bank m holds this
abbrev pub BankHolds : List BankView → ℕ → BankView → Type 0
BankHolds banks m view = (1 ≤ m) × (slice_get banks (m - 1) ≡ Some view)

-- a void bank is filled, and an event is erased, locked where it isn't locked, and done where it has no crash part
abbrev pub MayTake : List BankView → BankStep → Type 0
MayTake banks (Erase m) = (r : Record) × BankHolds banks m (Event r)
MayTake banks (Fill m pre) = BankHolds banks m Void
MayTake banks (Lock m) = (r : Record) × BankHolds banks m (Event r) × (r.locked ≡ false)
MayTake banks (Done m crash) = (r : Record) × BankHolds banks m (Event r) × (r.crash ≡ None)

-- each of the steps may be taken on the banks that those before it leave
abbrev pub MayTakeAll : List BankView → List BankStep → Type 0
MayTakeAll banks [] = Unit {0}
MayTakeAll banks (s ∷ steps) = MayTake banks s × MayTakeAll (banks_after banks s) steps

-- the device is found with this view, and the steps may be taken
pub record IsReady (steps : List BankStep) (content : Option (List ℕ)) (settled : ℕ → Bool) (bytes : List ℕ) (v : View) : Type 0 where
  pub found : IsFound v content settled bytes
  pub may : MayTakeAll v.store.banks steps

-- ---- what an image says of them

-- the bank in which a step is taken
abbrev pub bank_of : BankStep → ℕ
bank_of (Erase m) = m
bank_of (Fill m pre) = m
bank_of (Lock m) = m
bank_of (Done m crash) = m

-- the offset lies in no bank in which one of the steps is taken
abbrev pub IsAside : List BankStep → ℕ → Type 0
IsAside [] i = Unit {0}
IsAside (s ∷ steps) i = (is_in (place_of (bank_of s)) BANK_SIZE i ≡ false) × IsAside steps i

-- the offset lies in no write of the steps
abbrev pub IsUnwritten : List BankStep → ℕ → Type 0
IsUnwritten [] i = Unit {0}
IsUnwritten (s ∷ steps) i = All (λ w. is_in w.at (length w.bytes) i ≡ false) (writes_of s) × IsUnwritten steps i

-- of the steps just these are done, and the bytes aside from the banks of all of them are as they were; so are those in
-- these banks that no step writes
pub record HasDone (steps done : List BankStep) (bytes : List ℕ) (v : View) (image : List ℕ) : Type 0 where
  pub size : length image ≡ length bytes
  pub same : (i : ℕ) → i < length bytes → IsAside steps i → slice_index image i ≡ slice_index bytes i
  pub unwritten : (i : ℕ) → i < length bytes → IsUnwritten steps i → slice_index image i ≡ slice_index bytes i
  pub view : view_of image ≡ Some (record v { store = after v.store done })

-- the image is one of a stop in call r of the steps
pub record IsStopped (steps : List BankStep) (r : ℕ) (bytes : List ℕ) (v : View) (image : List ℕ) : Type 0 where
  pub done : List BankStep
  pub left : Contains (stops r steps) done
  pub has : HasDone steps done bytes v image

-- the first p of the steps are done, for some p
pub record IsPassed (steps : List BankStep) (bytes : List ℕ) (v : View) (image : List ℕ) : Type 0 where
  pub p : ℕ
  pub within : p ≤ length steps
  pub has : HasDone steps (take p steps) bytes v image

-- ---- what is so of a device, where the steps may be taken on it

-- the steps are all done, with their writes and no others, and nothing is pending
abbrev pub AreTaken : List BankStep → Option (List ℕ) → (ℕ → Bool) → Option (List ℕ) → (ℕ → Bool) → Type 0
AreTaken steps content settled content' settled' =
    (bytes : List ℕ) (v : View) → IsReady steps content settled bytes v
    → (now : List ℕ) × IsQuiet content' settled' now × HasDone steps steps bytes v now × (now ≡ image_after bytes steps)

-- each image that a crash may leave is one of a stop in call r; a stop in call 0 is one before the first call
abbrev pub AreStopped : List BankStep → ℕ → Option (List ℕ) → (ℕ → Bool) → Option (List ℕ) → (ℕ → Bool) → Type 0
AreStopped steps r content settled content' settled' =
    (bytes image : List ℕ) (v : View) → IsReady steps content settled bytes v
    → MayLeave content' settled' image → IsStopped steps r bytes v image

-- a crash meanwhile may have left only images of some first steps
abbrev pub PassMeanwhile : List BankStep → Option (List ℕ) → (ℕ → Bool) → ℕ → (ℕ → List ℕ → Type 0) → (ℕ → List ℕ → Type 0) → Type 0
PassMeanwhile steps content settled before past since =
    (bytes : List ℕ) (v : View) → IsReady steps content settled bytes v
    → Elapses before past since (IsPassed steps bytes v)

-- each image that a crash may have left since the moment before is one of some first steps
abbrev pub EachIsPassed : List BankStep → Option (List ℕ) → (ℕ → Bool) → ℕ → (ℕ → List ℕ → Type 0) → Type 0
EachIsPassed steps content settled before since =
    (bytes image : List ℕ) (v : View) → IsReady steps content settled bytes v
    → since before image → IsPassed steps bytes v image

-- the same two of a memory
abbrev pub PassMeanwhileOn : {D : Type 0} → Ghosts D → List BankStep → D → D → Type 0
PassMeanwhileOn g steps old new = PassMeanwhile steps (g.content old) (g.settled old) (g.clock old) (g.since old) (g.since new)

abbrev pub EachIsPassedOn : {D : Type 0} → Ghosts D → List BankStep → D → D → Type 0
EachIsPassedOn g steps old new = EachIsPassed steps (g.content old) (g.settled old) (g.clock old) (g.since new)

-- ---- a call that takes steps

-- Whatever comes of it: the device goes on, and time passes. At Ok the steps are taken; after a fault a crash leaves what a
-- stop in the last call leaves, and a crash meanwhile some first steps.
pub record TakesSteps {T E D : Type 0} (g : Ghosts D) (steps : List BankStep) (old new : D) (result : Result T E) : Type 0 where
  pub lent : Lent g old new result
  pub time : MakesCalls (all_calls steps) g old new result
  pub taken : OnOk result (Between g (AreTaken steps) old new)
  pub stopped : OnErr result (Between g (AreStopped steps (g.clock new - g.clock old)) old new)
  pub any_moment : PassMeanwhileOn g steps old new
  pub each : EachIsPassedOn g steps old new
