-- What a clause sees of a fuse, and what a call changes there.
use Rattle.std.specs.Prelude.{◌≡◌, ◌≢◌, ◌⊎◌, ◌+◌, ◌-◌, ◌<◌, ◌≤◌, ◌||◌, if◌then◌else◌, ℕ, Bool, true, false, is_ok, is_err, List, Option, Result, IsErr}
use Rattle.edr_device.specs.Device.{Cycled, MayLeave, Ticks, Unchanged, Wrote}
use Rattle.edr_device.specs.Faults.{HasCause, last_number, next_number}
use Rattle.edr_device.specs.Fuse.{Breaks, FusedSince}
use Rattle.edr_device.specs.declared.device.Nvm.{Ghosts}
use Rattle.edr_device.specs.declared.fused.Fused.{Fused}

-- Its own numbers. `calm` is the count of faults when its clock began; the stop is the changing call of number `armed` after
-- `armed_at`, 0 for none; `cut` is its clock right after the last stop.
pub record FuseState : Type 0 where
  pub ticks : ℕ
  pub last_good : ℕ
  pub faults : ℕ
  pub calm : ℕ
  pub armed : ℕ
  pub armed_at : ℕ
  pub spent : Bool
  pub cut : ℕ
  pub broken : Bool

abbrev pub fuse_state : {D : Type 0} {g : Ghosts D} → Fused D g → FuseState
fuse_state f = record {
  ticks = f.ticks;
  last_good = f.last_good;
  faults = f.faults;
  calm = f.calm;
  armed = f.armed;
  armed_at = f.armed_at;
  spent = f.spent;
  cut = f.cut;
  broken = f.broken;
}

-- ---- what it tells of the device

abbrev pub fused_extent : {D : Type 0} {g : Ghosts D} → Fused D g → ℕ
fused_extent {g = g} f = g.extent f.nvm.now

abbrev pub fused_content : {D : Type 0} {g : Ghosts D} → Fused D g → Option (List ℕ)
fused_content {g = g} f = g.content f.nvm.now

abbrev pub fused_settled : {D : Type 0} {g : Ghosts D} → Fused D g → ℕ → Bool
fused_settled {g = g} f = g.settled f.nvm.now

abbrev pub fused_since : {D : Type 0} {g : Ghosts D} → Fused D g → ℕ → List ℕ → Type 0
fused_since {g = g} f = FusedSince f.spent f.cut (g.clock f.start.value) (g.clock f.nvm.now) (g.clock f.middle.value) (g.since f.nvm.now) (g.since f.middle.value) (MayLeave (g.content f.nvm.now) (g.settled f.nvm.now))

-- nothing of this is changed
abbrev pub FuseStays : {D : Type 0} {g : Ghosts D} → Fused D g → Fused D g → Type 0
FuseStays old new = Unchanged fused_content fused_settled fused_since old new

-- What no call of a device changes: the device inside, the plan and the faults at the beginning. The clock goes on, a stop stays
-- and comes after the moment at which there was none, and what is broken stays so.
pub record FuseGoesOn {D : Type 0} {g : Ghosts D} (old new : Fused D g) : Type 0 where
  pub same_device : new.nvm.ghost_name ≡ old.nvm.ghost_name
  pub inside : g.goes_on old.nvm.now new.nvm.now
  pub armed : new.armed ≡ old.armed
  pub armed_at : new.armed_at ≡ old.armed_at
  pub calm : new.calm ≡ old.calm
  pub later : old.ticks ≤ new.ticks
  pub still_spent : old.spent ≡ true → (new.spent ≡ true) × (new.cut ≡ old.cut)
  pub cut_later : old.spent ≡ false → new.spent ≡ true → old.ticks < new.cut
  pub still_broken : old.broken ≡ true → new.broken ≡ true
  pub breaks : Breaks old.broken new.broken (g.faults old.nvm.now) (g.faults new.nvm.now)

-- ---- before a write or sync: it is refused, it is the stop, or it is passed on

abbrev pub IsRefusing : FuseState → Type 0
IsRefusing s = (s.spent ≡ true) ⊎ (s.ticks ≡ last_number)

-- the next changing call is the planned one
abbrev pub IsDue : FuseState → Type 0
IsDue s = (0 < s.armed) × (s.ticks + 1 ≡ s.armed_at + s.armed)

abbrev pub IsStopping : FuseState → Type 0
IsStopping s = (s.spent ≡ false) × (s.ticks ≢ last_number) × IsDue s

abbrev pub IsPassing : FuseState → Type 0
IsPassing s = (s.spent ≡ false) × (s.ticks ≢ last_number) × ¬ IsDue s

-- ---- after a call

abbrev pub new_fuse : FuseState
new_fuse = record {
  ticks = 0;
  last_good = 0;
  faults = 0;
  calm = 0;
  armed = 0;
  armed_at = 0;
  spent = false;
  cut = 0;
  broken = false;
}

-- the changing call of this number from now on is the stop
abbrev pub armed_for : ℕ → FuseState → FuseState
armed_for changing_calls s = record s { armed = changing_calls; armed_at = s.ticks }

-- the clock begins anew, and a plan that still waits stays
abbrev pub after_lift : FuseState → FuseState
after_lift s = record {
  ticks = 0;
  last_good = 0;
  faults = s.faults;
  calm = s.faults;
  armed = s.armed_at + s.armed - s.ticks;
  armed_at = 0;
  spent = false;
  cut = 0;
  broken = s.broken;
}

-- a read or a power cycle that was passed on, and one that was refused
abbrev pub after_pass : Bool → FuseState → FuseState
after_pass succeeded s = if succeeded then s else record s { faults = next_number s.faults; broken = true }

abbrev pub after_refusal : FuseState → FuseState
after_refusal s = record s { faults = next_number s.faults }

-- the same of a write or sync, which the clock counts
abbrev pub after_change : Bool → FuseState → FuseState
after_change succeeded s =
    if succeeded
    then record s { ticks = s.ticks + 1; last_good = s.ticks + 1 }
    else record s { ticks = s.ticks + 1; faults = next_number s.faults; broken = true }

abbrev pub after_refused_change : FuseState → FuseState
after_refused_change s = record s { ticks = next_number s.ticks; faults = next_number s.faults }

-- the stop
abbrev pub after_stop : Bool → FuseState → FuseState
after_stop broken s = record s { ticks = s.ticks + 1; faults = next_number s.faults; spent = true; cut = s.ticks + 1; broken = broken }

-- ---- what becomes of the device inside

-- a write or sync was passed on, with this result
pub record PassesChange {T E D : Type 0} (g : Ghosts D) (old new : D) (result : Result T E) : Type 0 where
  pub time : Ticks (g.clock old) (g.clock new) (g.last_good old) (g.last_good new) result
  pub cause : HasCause (g.faults old) (g.faults new) result

-- the power was taken away, with this result
pub record CutsPower {T E D : Type 0} (g : Ghosts D) (old new : D) (result : Result T E) : Type 0 where
  pub told : Cycled result (g.content old) (g.settled old) (g.since old) (g.content new) (g.settled new) (g.since new)
  pub clock : g.clock new ≡ g.clock old
  pub good : g.last_good new ≡ g.last_good old
  pub cause : HasCause (g.faults old) (g.faults new) result

-- A stop in a write: the write was passed on, after which the device stood at `middle`, and then the power was taken away. The
-- fuse is broken from then on if it was, or if one of the two failed.
pub record StopsInWrite {T E D : Type 0} (g : Ghosts D) (at : ℕ) (piece : List ℕ) (old middle new : D) (broken broken' : Bool) (result : Result T E) : Type 0 where
  pub fails : IsErr result
  pub written : Result T E
  pub cycled : Result T E
  pub told : Wrote at piece written (g.content old) (g.settled old) (g.content middle) (g.settled middle)
  pub passed : PassesChange g old middle written
  pub power : CutsPower g middle new cycled
  pub marks : broken' ≡ ((broken || is_err written) || is_err cycled)

-- A stop in a sync: nothing was passed on, and the power was taken away.
pub record StopsInSync {T E D : Type 0} (g : Ghosts D) (old new : D) (broken broken' : Bool) (result : Result T E) : Type 0 where
  pub fails : IsErr result
  pub cycled : Result T E
  pub power : CutsPower g old new cycled
  pub marks : broken' ≡ (broken || is_err cycled)

-- ---- what becomes of a fuse and the device inside

-- a read or a power cycle was refused
abbrev pub Refuses : {T E D : Type 0} {g : Ghosts D} → Fused D g → Fused D g → Result T E → Type 0
Refuses old new result = IsErr result × (fuse_state new ≡ after_refusal (fuse_state old)) × (new.nvm.now ≡ old.nvm.now)

-- it was passed on, with this result
abbrev pub Passes : {T E D : Type 0} {g : Ghosts D} → Fused D g → Fused D g → Result T E → Type 0
Passes {g = g} old new result = (fuse_state new ≡ after_pass (is_ok result) (fuse_state old)) × HasCause (g.faults old.nvm.now) (g.faults new.nvm.now) result

-- a write or sync was refused
abbrev pub RefusesChange : {T E D : Type 0} {g : Ghosts D} → Fused D g → Fused D g → Result T E → Type 0
RefusesChange old new result = IsErr result × (fuse_state new ≡ after_refused_change (fuse_state old)) × (new.nvm.now ≡ old.nvm.now)

-- it was passed on, with this result
abbrev pub ForwardsChange : {T E D : Type 0} {g : Ghosts D} → Fused D g → Fused D g → Result T E → Type 0
ForwardsChange {g = g} old new result = (fuse_state new ≡ after_change (is_ok result) (fuse_state old)) × PassesChange g old.nvm.now new.nvm.now result

-- it was the stop
abbrev pub StopsWrite : {T E D : Type 0} {g : Ghosts D} → ℕ → List ℕ → Fused D g → Fused D g → Result T E → Type 0
StopsWrite {g = g} at piece old new result = (fuse_state new ≡ after_stop new.broken (fuse_state old)) × StopsInWrite g at piece old.nvm.now new.middle.value new.nvm.now old.broken new.broken result

abbrev pub StopsSync : {T E D : Type 0} {g : Ghosts D} → Fused D g → Fused D g → Result T E → Type 0
StopsSync {g = g} old new result = (fuse_state new ≡ after_stop new.broken (fuse_state old)) × StopsInSync g old.nvm.now new.nvm.now old.broken new.broken result
