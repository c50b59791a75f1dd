-- What a core keeps and issues at a tick.
use Rattle.std.proofs.Common.{refl, ◌≡◌, ℕ, true, Some, None, Option, [], ◌∷◌}
use Rattle.edr_record.specs.declared.Place.{Place}
use Rattle.edr_record.specs.declared.Place.TheVariants.{First, Second}
use Rattle.edr_record.specs.declared.Profile.TheVariants.{Long}
use Rattle.edr_record.specs.declared.Command.TheVariants.{Take, Lock, Done}
use Rattle.edr_record.specs.Parts.{PrePart, CrashPart}
use Rattle.edr_definitions.specs.Core.{CoreState, no_change, core_after, issues_at, commands_of}

-- a pre part of time zero z in cycle 1, with no sample
abbrev pre : ℕ → Place → PrePart
pre z place = record { key = record { cycle = 1; zero = z }; place = place; profile = Long; speed = []; throttle = []; brake = []; belt = None; lamp = None }

-- that pre part is kept, after this event
abbrev kept : ℕ → Option (Place × ℕ) → CoreState
kept z last = record { frozen = pre z First; ended = 0; linked = last }

-- a time zero that is confirmed and locked at once: Take and Lock of the new pre part, which is the last event from then on
all_at_once : (crash : CrashPart) → commands_of (issues_at (record no_change { zero = true; confirmed = true; locked = true }) (pre 2 First) crash (kept 1 None)) ≡ Take (pre 2 First) ∷ Lock (pre 2 First) ∷ []
all_at_once crash = refl

linked_at_once : (core_after 2 (record no_change { zero = true; confirmed = true; locked = true }) (pre 2 First) (kept 1 None)).linked ≡ Some (First, 2)
linked_at_once = refl

-- a confirmation 3 s after a first event: the second of a pair
second_of_pair : (crash : CrashPart) → commands_of (issues_at (record no_change { confirmed = true }) (pre 1 First) crash (kept 9_000 (Some (First, 6_000)))) ≡ Take (pre 9_000 (Second 3_000)) ∷ []
second_of_pair crash = refl

-- an end is kept, and issues nothing
end_kept : (core_after 22 (record no_change { ended = true }) (pre 1 First) (kept 2 None)).ended ≡ 22
end_kept = refl

end_issues_nothing : (crash : CrashPart) → commands_of (issues_at (record no_change { ended = true }) (pre 1 First) crash (kept 2 None)) ≡ []
end_issues_nothing crash = refl

-- a close issues the crash part
close_done : (crash : CrashPart) → commands_of (issues_at (record no_change { closed = true }) (pre 1 First) crash (kept 2 None)) ≡ Done crash ∷ []
close_done crash = refl
