-- What issued commands do to opened banks, to a log and to the device, one after the other.
use Rattle.std.specs.Prelude.{◌≡◌, ◌≢◌, ◌⊎◌, ◌+◌, ◌-◌, ◌≤◌, ◌<◌, ℕ, Bool, Option, Some, List, [], ◌++◌, map, flat_map, take, zip, length, slice_get, Result, OnOk, OnErr}
use Rattle.edr_record.specs.Parts.{CrashPart, PrePart}
use Rattle.edr_record.specs.declared.Command.{Command}
use Rattle.edr_definitions.specs.Commands.{Issue}
use Rattle.edr_definitions.specs.Core.{commands_of}
use Rattle.edr_device.specs.Device.{Elapses, IsQuiet, MayLeave}
use Rattle.edr_device.specs.Faults.{last_number}
use Rattle.edr_device.specs.Pieces.{Makes}
use Rattle.edr_device.specs.declared.device.Nvm.{Ghosts}
use Rattle.edr_image.specs.declared.Ack.{Ack}
use Rattle.edr_image.specs.Banks.{Store}
use Rattle.edr_image.specs.Calls.{all_calls, IsStop}
use Rattle.edr_image.specs.Image.{View, view_of}
use Rattle.edr_cycle.specs.CycleLogged.{CycleLogged}
use Rattle.edr_image.specs.Steps.{BankStep, State, Reply, after, replies}
use Rattle.edr_banks.specs.Opened.{OpenedBanks, state_of}
use Rattle.edr_banks.specs.Applying.{ended_after, opened_after}
use Rattle.edr_gates.specs.Found.{IsFound}
use Rattle.edr_run.specs.Cycle.{ack_of}
use Rattle.edr_cycle.specs.Past.{KeepsPast}

-- ---- what is issued, and the replies

-- what a tick issues, in its order
abbrev pub in_order : Option PrePart → Option PrePart → Option CrashPart → List Command
in_order take lock done = commands_of (record { take = take; lock = lock; done = done })

-- the commands that are issued
abbrev pub commands_from : List Issue → List Command
commands_from xs = map (λ i. i.command) xs

-- the replies to them, from a state on
abbrev pub replies_from : State → List Issue → List Reply
replies_from s xs = replies s (commands_from xs)

-- their steps
abbrev pub steps_from : State → List Issue → List BankStep
steps_from s xs = flat_map (λ r. r.steps) (replies_from s xs)

-- the commands with their answers
abbrev pub acks_from : State → List Issue → List Ack
acks_from s xs = map (λ p. ack_of p.0 p.1) (zip xs (replies_from s xs))

-- the steps of the first j of them
abbrev pub first_steps : State → List Issue → ℕ → List BankStep
first_steps s xs j = flat_map (λ r. r.steps) (take j (replies_from s xs))

-- ---- banks, log and device

-- the device is found with these banks
abbrev pub IsFoundWith : Store → Option (List ℕ) → (ℕ → Bool) → List ℕ → View → Type 0
IsFoundWith store content settled bytes v = IsFound v content settled bytes × (v.store ≡ store)

-- the image says what the bytes said, after these steps
abbrev pub SaysAfter : View → List BankStep → List ℕ → Type 0
SaysAfter v steps image = view_of image ≡ Some (record v { store = after v.store steps })

-- after the first p of these steps
pub record IsAfterFirst (steps : List BankStep) (v : View) (image : List ℕ) : Type 0 where
  pub p : ℕ
  pub within : p ≤ length steps
  pub says : SaysAfter v (take p steps) image

-- a stop in call k of these steps may leave these done; before the first call none is
abbrev pub IsLeftBy : ℕ → List BankStep → List BankStep → Type 0
IsLeftBy k steps done = ((k ≡ 0) × (done ≡ [])) ⊎ IsStop steps k done

-- command j was the one that failed, after k calls in all
pub record FailsAt (s : State) (xs : List Issue) (k j : ℕ) : Type 0 where
  pub reply : Reply
  pub at : slice_get (replies_from s xs) j ≡ Some reply
  pub past : all_calls (first_steps s xs j) ≤ k
  pub within : k ≤ all_calls (first_steps s xs j) + all_calls reply.steps

-- the steps before command j are done, and some of its own
pub record IsCutInCommand (s : State) (xs : List Issue) (k j : ℕ) (own : List BankStep) (v : View) (image : List ℕ) : Type 0 where
  pub part : List BankStep
  pub left : IsLeftBy (k - all_calls (first_steps s xs j)) own part
  pub says : SaysAfter v (first_steps s xs j ++ part) image

-- The issued commands up to one that failed are applied to the banks, which take no command any more, and are in the log, and a crash
-- leaves their steps done. Unless the clock stands at its last value, the call that failed is one of the failed command's.
pub record StopsAt (b b' : OpenedBanks) (xs : List Issue) (before now : ℕ) (content content' : Option (List ℕ)) (settled settled' : ℕ → Bool) (l l' : CycleLogged) : Type 0 where
  pub j : ℕ
  pub fails : FailsAt (state_of b) xs (now - before) j
  pub made : now ≢ last_number → all_calls (first_steps (state_of b) xs j) < now - before
  pub banks_are : b' ≡ ended_after (opened_after b (first_steps (state_of b) xs j))
  pub log_is : l'.acks ≡ l.acks ++ take j (acks_from (state_of b) xs)
  pub commands_are : l'.commands ≡ l.commands ++ take j (commands_from xs)
  pub cut : (bytes image : List ℕ) (v : View) → IsFoundWith b.store content settled bytes v → MayLeave content' settled' image → IsCutInCommand (state_of b) xs (now - before) j fails.reply.steps v image

-- The issued commands are applied to the banks and logged, one after the other, up to one that fails. The words of the device come
-- first, as functions of it.
pub record Commits {D T E : Type 0} (content : D → Option (List ℕ)) (settled : D → ℕ → Bool) (since : D → ℕ → List ℕ → Type 0) (clock good : D → ℕ) (xs : List Issue) (result : Result T E) (b b' : OpenedBanks) (l l' : CycleLogged) (d d' : D) : Type 0 where
  pub banks_are : OnOk result (b' ≡ opened_after b (steps_from (state_of b) xs))
  pub log_is : OnOk result (l' ≡ record { acks = l.acks ++ acks_from (state_of b) xs; commands = l.commands ++ commands_from xs; spare = l.spare - length xs })
  pub time : Makes (all_calls (steps_from (state_of b) xs)) (clock d) (clock d') (good d) (good d') result
  pub taken : OnOk result ((bytes : List ℕ) (v : View) → IsFoundWith b.store (content d) (settled d) bytes v → (now : List ℕ) × IsQuiet (content d') (settled d') now × SaysAfter v (steps_from (state_of b) xs) now × KeepsPast b.store.header bytes now)
  pub stopped : OnErr result (StopsAt b b' xs (clock d) (clock d') (content d) (content d') (settled d) (settled d') l l')
  pub any_moment : (bytes : List ℕ) (v : View) → IsFoundWith b.store (content d) (settled d) bytes v → Elapses (clock d) (since d) (since d') (IsAfterFirst (steps_from (state_of b) xs) v)
  -- and it leaves what stands past the image
  pub past : (bytes : List ℕ) (v : View) → IsFoundWith b.store (content d) (settled d) bytes v → Elapses (clock d) (since d) (since d') (KeepsPast b.store.header bytes)

-- the same of a memory
abbrev pub CommitsOn : {D T E : Type 0} → Ghosts D → List Issue → Result T E → OpenedBanks → OpenedBanks → CycleLogged → CycleLogged → D → D → Type 0
CommitsOn g xs result b b' l l' d d' = Commits g.content g.settled g.since g.clock g.last_good xs result b b' l l' d d'
