-- What a tick does with the open candidate, and what it issues.
use Rattle.std.specs.Prelude.{◌≡◌, ℕ, ◌+◌, ◌<◌, ◌≤◌, true, ◌||◌, if◌then◌else◌, Option, Some, None, option_map}
use Rattle.edr_record.specs.declared.TheConstants.{EARLIEST_END, RESET}
use Rattle.edr_record.specs.declared.Place.{Place}
use Rattle.edr_record.specs.Parts.{PrePart}
use Rattle.edr_definitions.specs.Selection.{close_of}
use Rattle.edr_definitions.specs.Commands.{place_of}
use Rattle.edr_definitions.specs.Change.{Change}
use Rattle.edr_definitions.specs.OpenCrash.{begin_crash, next_crash, finish_crash}
use Rattle.edr_definitions.specs.Core.{TickIssues, when}
use Rattle.edr_crashpart.specs.Bounds.{IsInRange}
use Rattle.edr_link.specs.Link.{IsPast}
use Rattle.edr_core.specs.declared.candidate.Candidate.{Candidate}
use Rattle.edr_core.specs.declared.candidate.Issued.{Issued}
use Rattle.edr_core.specs.declared.candidate.TickRow.{TickRow}

-- ---- one tick more

-- the samples of a row lie in the range of the acceleration sensors
pub record IsRowInRange (r : TickRow) : Type 0 where
  pub along : IsInRange r.along
  pub across : IsInRange r.across

-- a candidate with that pre part, at its time zero
abbrev pub begun_candidate : PrePart → TickRow → Candidate
begun_candidate pre r = record { pre = pre; crash = begin_crash pre.key.zero r.fired.0; end = pre.key.zero }

-- a candidate with one tick more
abbrev pub grown_candidate : TickRow → Candidate → Candidate
grown_candidate r o = record o { crash = next_crash o.crash r.along r.across r.fired.0 }

-- the open candidate at the next tick, with what stands there: a time zero begins one
abbrev pub grown_or_begun : Change → PrePart → TickRow → Option Candidate → Option Candidate
grown_or_begun change pre r o = if change.zero then Some (begun_candidate pre r) else option_map {T = Candidate} {U = Candidate} (grown_candidate r) o

-- ---- what stands at a tick

-- a confirmation puts in the place, an end is kept
abbrev pub told_candidate : ℕ → Change → Option (Place × ℕ) → Candidate → Candidate
told_candidate t change link o = record {
  pre = if change.confirmed then record o.pre { place = place_of link o.pre.key.zero } else o.pre;
  crash = o.crash;
  end = if change.ended then t else o.end;
}

-- the last event past a tick, by the candidate past it
abbrev pub next_link : Change → Option (Place × ℕ) → Candidate → Option (Place × ℕ)
next_link change link o = if change.confirmed then Some (o.pre.place, o.pre.key.zero) else link

-- a candidate that is dropped or closed is no longer open
abbrev pub candidate_left : Change → Candidate → Option Candidate
candidate_left change o = if change.dropped || change.closed then None else Some o

-- what a tick issues of the candidate past it
abbrev pub issued_of : Change → Candidate → Issued
issued_of change o = record { take = when change.confirmed o.pre; lock = when change.locked o.pre; done = when change.closed (finish_crash o.crash o.end) }

-- nothing is issued
abbrev pub no_issues : Issued
no_issues = record { take = None; lock = None; done = None }

-- ---- past the tick

-- the open candidate, the last event and what is issued past the tick t, where `change` stands there
abbrev pub candidate_after : ℕ → Change → Option (Place × ℕ) → Option Candidate → Option Candidate
candidate_after t change link None = None
candidate_after t change link (Some o) = candidate_left change (told_candidate t change link o)

abbrev pub link_after : ℕ → Change → Option (Place × ℕ) → Option Candidate → Option (Place × ℕ)
link_after t change link None = link
link_after t change link (Some o) = next_link change link (told_candidate t change link o)

abbrev pub issued_after : ℕ → Change → Option (Place × ℕ) → Option Candidate → Issued
issued_after t change link None = no_issues
issued_after t change link (Some o) = issued_of change (told_candidate t change link o)

-- where this stands at a tick, the open candidate and the last event stay as they are, and nothing is issued
abbrev pub PassesBy : Change → Option Candidate → Type 0
PassesBy change o =
    (t : ℕ) (link : Option (Place × ℕ)) → (o ≡ candidate_after t change link o) × (link ≡ link_after t change link o) × (no_issues ≡ issued_after t change link o)

-- the issues in the words of the definitions
abbrev pub issues_in : Issued → TickIssues
issues_in i = record { take = i.take; lock = i.lock; done = i.done }

-- ---- which ticks it can take

-- what stands at the tick t can stand there of the candidate: an event is past the last one, and a close is the one that the end gives
pub record CanBeTold (t : ℕ) (change : Change) (link : Option (Place × ℕ)) (o : Candidate) : Type 0 where
  pub past : change.confirmed ≡ true → IsPast link o.pre.key.zero
  pub end_from : change.closed ≡ true → o.crash.zero + EARLIEST_END ≤ (if change.ended then t else o.end)
  pub end_to : change.closed ≡ true → (if change.ended then t else o.end) ≤ o.crash.zero + RESET
  pub closes : change.closed ≡ true → o.crash.zero + o.crash.elapsed ≡ close_of o.crash.zero (if change.ended then t else o.end)

-- a candidate that takes one more tick
abbrev pub IsShort : Candidate → Type 0
IsShort o = o.crash.elapsed < RESET
