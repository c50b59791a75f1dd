-- A cycle makes few changing calls: the clock of a fuse does not come to its last number.
use Rattle.std.proofs.Common.{◌≡◌, arith, ℕ, ◌+◌, ◌*◌, ◌≤◌, ◌<◌, Bool, true, false, cond, Option, Some, None, List, [], ◌∷◌, ◌++◌, length, map}
use Rattle.std.specs.Prelude.{flat_map}
use Rattle.std.proofs.lemmas.List.{length-map}
use Rattle.std.proofs.lemmas.List.Sums.{sum_by-append}
use Rattle.edr_items.specs.declared.TheConstants.{LATEST_MOMENT}
use Rattle.edr_items.specs.declared.Sensor.TheVariants.{Along}
use Rattle.edr_items.specs.SensorLists.{AreFeeds, SensorLists, horizon_of}
use Rattle.edr_items.proofs.FeedLemmas.{IsFeedAfter-within}
use Rattle.edr_definitions.proofs.MarkLaws.{horizon-least}
use Rattle.edr_device.specs.Faults.{last_number}
use Rattle.edr_record.specs.Parts.{PrePart, CrashPart}
use Rattle.edr_record.specs.declared.Command.{Command}
use Rattle.edr_record.specs.declared.Command.TheVariants as command
use Rattle.edr_definitions.specs.Commands.{Issue}
use Rattle.edr_image.specs.declared.BankView.{BankView}
use Rattle.edr_image.specs.Banks.{Store, bank_at, is_unlocked, lowest_void, least_unlocked, to_overwrite}
use Rattle.edr_image.specs.Calls.{all_calls, calls_of}
use Rattle.edr_image.specs.Steps.{Reply, State, at_rest, done_reply, lock_reply, not_kept, replies, reply_to, state_after, take_reply}
use Rattle.edr_run.specs.Cycle.{issues_in, steps_in}
use Rattle.edr_run.proofs.IssueLemmas.{issues-few}

-- ---- one command makes at most eight

-- Take
take_calls : (pre : PrePart) (empty older : Option ℕ) → all_calls (take_reply pre empty older).steps ≤ 8
take_calls pre (Some m) older = omega arith
take_calls pre None (Some m) = omega arith
take_calls pre None None = omega arith

-- Lock of the held bank, where it is not locked
held_calls : (unlocked : Bool) (r : Reply) → all_calls r.steps ≤ 8 → all_calls (cond unlocked r not_kept).steps ≤ 8
held_calls true r few = few
held_calls false r few = omega arith

-- Lock
lock_calls : (pre : PrePart) (banks : List BankView) (held older : Option ℕ) → all_calls (lock_reply pre banks held older).steps ≤ 8
lock_calls pre banks (Some m) older = held_calls (is_unlocked (bank_at banks m)) _ (omega arith)
lock_calls pre banks None (Some m) = omega arith
lock_calls pre banks None None = omega arith

-- Done
done_calls : (crash : CrashPart) (held : Option ℕ) → all_calls (done_reply crash held).steps ≤ 8
done_calls crash (Some m) = omega arith
done_calls crash None = omega arith

-- any of them
reply_calls : (s : State) (c : Command) → all_calls (reply_to s c).steps ≤ 8
unfolding reply_to
reply_calls s (command.Take pre) = take_calls pre (lowest_void s.store.banks) (to_overwrite s.store.header.choice s.store.banks)
reply_calls s (command.Lock pre) = lock_calls pre s.store.banks s.held (least_unlocked s.store.banks)
reply_calls s (command.Done crash) = done_calls crash s.held

-- ---- all commands

-- several commands, one after the other
replies_calls : (s : State) (cs : List Command) → all_calls (flat_map (λ r. r.steps) (replies s cs)) ≤ 8 * length cs
replies_calls s [] = omega arith
replies_calls s (c ∷ cs) =
    let r = reply_to s c in
    let first = reply_calls s c in
    let rest = replies_calls (state_after s r.steps) cs in
    let both : all_calls (r.steps ++ flat_map (λ r. r.steps) (replies (state_after s r.steps) cs)) ≡ all_calls r.steps + all_calls (flat_map (λ r. r.steps) (replies (state_after s r.steps) cs)) =
    sum_by-append calls_of r.steps (flat_map (λ r. r.steps) (replies (state_after s r.steps) cs)) in
    omega (arith, first, rest, both)

-- a cycle's horizon is within a day
pub horizon_low : (f : SensorLists) → AreFeeds f → horizon_of f ≤ LATEST_MOMENT
horizon_low f feeds =
    let low = IsFeedAfter-within Along 0 f.along (omega arith) (feeds Along) in
    let least = horizon-least f Along in
    omega (arith, low, least)

-- the calls of all commands of a cycle: eight for each of the three commands that an event has at most
pub calls_least : (f : SensorLists) (n : ℕ) (v : Store) → AreFeeds f → all_calls (steps_in f n v) ≤ 50000000
unfolding steps_in
calls_least f n v feeds =
    let all = replies_calls (at_rest v) (map (λ (i : Issue). i.command) (issues_in f n)) in
    let same = length-map (issues_in f n) (λ (i : Issue). i.command) in
    let few = issues-few f n (horizon_of f) in
    let low = horizon_low f feeds in
    omega (arith, all, same, few, low)

-- the clock does not come to its last number
pub calls_few : (f : SensorLists) (n : ℕ) (v : Store) → AreFeeds f → all_calls (steps_in f n v) < last_number
calls_few f n v feeds = let least = calls_least f n v feeds in omega (arith, least)
