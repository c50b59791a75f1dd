-- What a reading of frames has of the bytes that it was given.
use Rattle.std.specs.Prelude.{◌≡◌, ◌≢◌, ◌+◌, ◌≤◌, ◌<◌, ◌*◌, ℕ, Bool, true, false, List, [], ◌++◌, All, length, Option, Result, Err, IfOk}
use Rattle.edr_device.specs.Told.{Told}
use Rattle.edr_device.specs.Faults.{Rose}
use Rattle.edr_device.specs.Transfer.{GivesAll, GivesAtMost}
use Rattle.edr_device.specs.declared.transfer.TakeFault.{TakeFault}
use Rattle.edr_device.specs.declared.transfer.TakeFault.TheVariants.{Failed, TooLong}
use Rattle.edr_spell.specs.Spell.{largest_trace}
use Rattle.edr_fleet.specs.Frames.{BeginWithFrames, FitsFrame, frames}
use Rattle.edr_fleet.specs.Text.{all_events, image_lines}
use Rattle.edr_fleet.specs.declared.filling.Filled.{Filled}
use Rattle.edr_fleet.specs.declared.reading.FleetReading.{FleetReading}
use Rattle.edr_fleet.specs.declared.reading.Front.{Front}

-- the bytes begin with whole frames, of which this is the report, where so many images stand before them
pub record IsFrontOf (before : ℕ) (bytes : List ℕ) (f : Front) : Type 0 where
  pub images : List (List ℕ)
  pub rest : List ℕ
  pub first : BeginWithFrames images rest bytes
  pub lines : f.part.lines.items ≡ image_lines (before + 1) images
  pub events : f.part.events ≡ all_events images
  pub images_are : f.images ≡ length images
  pub end : f.end ≡ length (frames images)
  pub few_images : f.images ≤ f.end
  pub few_events : f.part.events ≤ 16 * f.images

-- these bytes were given: frames that were reported, and what is held
pub record GaveFrames (bytes : List ℕ) (r : FleetReading) : Type 0 where
  pub images : List (List ℕ)
  pub fit : All FitsFrame images
  pub bytes_are : bytes ≡ frames images ++ r.held.items
  pub lines : r.part.lines.items ≡ image_lines 1 images
  pub events : r.part.events ≡ all_events images
  pub images_are : r.images ≡ length images
  pub reported : r.reported ≡ length (frames images)
  pub some_worker : 1 ≤ r.workers
  pub few_images : r.images ≤ r.reported
  pub few_events : r.part.events ≤ 16 * r.images

-- so many bytes may still be given
abbrev pub MayGain : ℕ → FleetReading → Type 0
MayGain n r = (bytes : List ℕ) × GaveFrames bytes r × (length bytes + n ≤ largest_trace + 1)

-- these bytes were given after the others
abbrev pub GainsFrames : List ℕ → FleetReading → FleetReading → Type 0
GainsFrames piece old new = (bytes : List ℕ) → GaveFrames bytes old → GaveFrames (bytes ++ piece) new

-- no more were given
abbrev pub KeepsFrames : FleetReading → FleetReading → Type 0
KeepsFrames old new = (bytes : List ℕ) → GaveFrames bytes old → GaveFrames bytes new

-- these bytes were taken from the front, and where the end was found, none is left
pub record GivesPiece (piece : List ℕ) (is_end : Bool) (left left' : List ℕ) : Type 0 where
  pub given : left ≡ piece ++ left'
  pub end : is_end ≡ true → left' ≡ []

-- it has at most so many bytes. The end is found by asking for one more, and before the end there is one
abbrev pub FitsWithin : ℕ → Filled → Type 0
FitsWithin most f = (f.taken ≤ most) × (f.is_end ≡ true → f.taken < most) × (1 ≤ most → f.is_end ≡ false → 1 ≤ f.taken)

-- the source gave a piece, which was put after what was held
abbrev pub Fills : Filled → List ℕ → List ℕ → Option (List ℕ) → Option (List ℕ) → Type 0
Fills f held held' left left' = (piece : List ℕ) × (held' ≡ held ++ piece) × (f.taken ≡ length piece) × Told (GivesPiece piece f.is_end) left left'

-- it was given to a reading
abbrev pub FillsFrames : Filled → FleetReading → FleetReading → Option (List ℕ) → Option (List ℕ) → Type 0
FillsFrames f old new left left' = (piece : List ℕ) × GainsFrames piece old new × (f.taken ≡ length piece) × Told (GivesPiece piece f.is_end) left left'

-- what came of filling from a source that had these bytes left and counted these faults: with an answer the source gave a portion
-- of at most so many bytes, and this is so of it; without one it gave no more than those, and where it failed its count rose
pub record TakesPortion {A : Type 0} (most : ℕ) (portion : A → Filled) (fills : A → Option (List ℕ) → Option (List ℕ) → Type 0) (left left' : Option (List ℕ)) (faults faults' : ℕ) (result : Result A TakeFault) : Type 0 where
  pub filled : IfOk result (λ x. fills x left left')
  pub within : IfOk result (λ x. FitsWithin most (portion x))
  pub gives : Told (GivesAtMost most) left left'
  pub later : faults ≤ faults'
  pub failed : result ≡ Err Failed → Rose faults faults'
  pub not_too_long : result ≢ Err TooLong

-- the source gave all its bytes, up to the limit, and these were given to the reading
abbrev pub HasAllFrames : ℕ → FleetReading → Option (List ℕ) → Option (List ℕ) → Type 0
HasAllFrames limit r old new = (bytes : List ℕ) × GaveFrames bytes r × (length bytes ≤ limit) × Told (GivesAll bytes) old new
