-- What a log tells of the banks: an event whose Lock was answered with a bank is locked there from then on.
use Rattle.std.proofs.Common.{◌≡◌, inl, inr, refl, ap, sym, subst, ◌∙◌, arith, ℕ, zero, suc, ◌+◌, ◌-◌, ◌<◌, ◌≤◌, min, Option, Some, None, List, [], ◌∷◌, ◌++◌, length, map, take, length-append}
use Rattle.std.specs.Prelude.{flat_map, zip, slice_get}
use Rattle.std.proofs.Math.Seq.{take-length}
use Rattle.std.proofs.lemmas.List.{length-take}
use Rattle.edr_items.specs.SensorLists.{SensorLists}
use Rattle.edr_record.specs.Parts.{PrePart, CrashPart}
use Rattle.edr_record.specs.declared.Command.{Command}
use Rattle.edr_record.specs.declared.Command.TheVariants as command
use Rattle.edr_definitions.specs.Commands.{Issue}
use Rattle.edr_image.specs.declared.Ack.{Ack}
use Rattle.edr_image.specs.declared.Kind.TheVariants as kind
use Rattle.edr_image.specs.declared.Applied.TheVariants as applied
use Rattle.edr_image.specs.Banks.{Store}
use Rattle.edr_image.specs.Steps.{BankStep, Reply, after}
use Rattle.edr_image.specs.Calls.{IsStop, count_acknowledged}
use Rattle.edr_image.specs.Answered.{IsAnswered, IsLockedIn, IsLockedWith}
use Rattle.edr_image.proofs.StopLaws.{stop-prefix, stops-has, acknowledged-done}
use Rattle.edr_image.proofs.LockLaws.{AreOwn-any, lock-stays, done-follows}
use Rattle.edr_spell.specs.declared.CycleInput.{CycleInput}
use Rattle.edr_image.specs.Reports.{Report, StartStopped, Ran}
use Rattle.edr_run.specs.Cycle.{End, IsCycle, start_stopped, start_counted, whole, cut, kind_of, ack_of, issues_in, replies_in, steps_in, acks_in, acks_before, Outcome, IsRun}
use Rattle.edr_run.specs.Own.{IsPreOfCycle, ArePartsOf}
use Rattle.edr_run.specs.Logged.{IsLogged, NoTakeBetween}
use Rattle.edr_run.proofs.OwnLaws.{issues-own}
use Rattle.edr_run.proofs.OrderLaws.{run-locked}
use Rattle.edr_run.proofs.NextLaws.{issues-lock_next, issues-done_next}
use Rattle.std.proofs.lemmas.Bool.{cases_lt}

-- ---- lists

map_get : {X Y : Type 0} (f : X → Y) (xs : List X) (j : ℕ) (x : X) → slice_get xs j ≡ Some x → slice_get (map f xs) j ≡ Some (f x)
map_get f [] j x h = cc
map_get f (y ∷ xs) zero x h = let e : y ≡ x = cc in ap (λ z. Some (f z)) e
map_get f (y ∷ xs) (suc j) x h = map_get f xs j x h

mapped_get : {X Y : Type 0} (f : X → Y) (xs : List X) (j : ℕ) (y : Y) → slice_get (map f xs) j ≡ Some y → (x : X) × (slice_get xs j ≡ Some x) × (f x ≡ y)
mapped_get f [] j y h = cc
mapped_get f (x ∷ xs) zero y h = (x, refl, let e : f x ≡ y = cc in e)
mapped_get f (x ∷ xs) (suc j) y h = mapped_get f xs j y h

zipped_get : {X Y : Type 0} (xs : List X) (ys : List Y) (j : ℕ) (p : X × Y) → slice_get (zip xs ys) j ≡ Some p → (slice_get xs j ≡ Some p.0) × (slice_get ys j ≡ Some p.1)
zipped_get [] ys j p h = cc
zipped_get (x ∷ xs) [] j p h = cc
zipped_get {X = X} {Y = Y} (x ∷ xs) (y ∷ ys) zero p h =
    let q : X × Y = (x, y) in let e : q ≡ p = cc in (ap (λ (z : X × Y). Some z.0) e, ap (λ (z : X × Y). Some z.1) e)
zipped_get (x ∷ xs) (y ∷ ys) (suc j) p h = zipped_get xs ys j p h

taken_get : {X : Type 0} (a : ℕ) (xs : List X) (j : ℕ) (x : X) → slice_get (take a xs) j ≡ Some x → (j < a) × (slice_get xs j ≡ Some x)
taken_get zero xs j x h = cc
taken_get (suc a) [] j x h = cc
taken_get (suc a) (y ∷ xs) zero x h = (omega arith, h)
taken_get (suc a) (y ∷ xs) (suc j) x h = let rest = taken_get a xs j x h in (omega (arith, rest.0), rest.1)

-- the steps of fewer commands are fewer
steps_up : (rs : List Reply) (a b : ℕ) → a ≤ b → length (flat_map (λ r. r.steps) (take a rs)) ≤ length (flat_map (λ r. r.steps) (take b rs))
steps_up rs zero b up = omega arith
steps_up rs (suc a) zero up = absurd (omega (arith, up))
steps_up [] (suc a) (suc b) up = omega arith
steps_up (r ∷ rs) (suc a) (suc b) up =
    let rest = steps_up rs a b (omega (arith, up)) in
    let first = length-append r.steps (flat_map (λ r. r.steps) (take a rs)) in
    let second = length-append r.steps (flat_map (λ r. r.steps) (take b rs)) in omega (arith, rest, first, second)

steps_within : (rs : List Reply) (a : ℕ) → length (flat_map (λ r. r.steps) (take a rs)) ≤ length (flat_map (λ r. r.steps) rs)
steps_within [] zero = omega arith
steps_within [] (suc a) = omega arith
steps_within (r ∷ rs) zero = omega arith
steps_within (r ∷ rs) (suc a) =
    let rest = steps_within rs a in
    let first = length-append r.steps (flat_map (λ r. r.steps) (take a rs)) in
    let second = length-append r.steps (flat_map (λ r. r.steps) rs) in omega (arith, rest, first, second)

-- ---- a log of a cycle

-- what is acknowledged in place j
logged_parts : (f : SensorLists) (n : ℕ) (v : Store) (j : ℕ) (a : Ack) → slice_get (acks_in f n v) j ≡ Some a → (i : Issue) × (r : Reply) × (slice_get (issues_in f n) j ≡ Some i) × (slice_get (replies_in f n v) j ≡ Some r) × (ack_of i r ≡ a)
unfolding acks_in
logged_parts f n v j a h =
    let mapped = mapped_get (λ p. ack_of p.0 p.1) (zip (issues_in f n) (replies_in f n v)) j a h in
    let both = zipped_get (issues_in f n) (replies_in f n v) j mapped.0 mapped.1 in
    (mapped.0.0, mapped.0.1, both.0, both.1, mapped.2)

lock_command : (c : Command) → kind_of c ≡ kind.Lock → (pre : PrePart) × (c ≡ command.Lock pre)
lock_command (command.Take pre) e = cc
lock_command (command.Lock pre) e = (pre, refl)
lock_command (command.Done crash) e = cc

done_command : (c : Command) → kind_of c ≡ kind.Done → (crash : CrashPart) × (c ≡ command.Done crash)
done_command (command.Take pre) e = cc
done_command (command.Lock pre) e = cc
done_command (command.Done crash) e = (crash, refl)

-- the commands that a cycle issues
abbrev commands_in : SensorLists → ℕ → List Command
commands_in f n = map (λ i. i.command) (issues_in f n)

-- a Lock that is acknowledged with a bank in place j, once its steps are done
lock_logged : (f : SensorLists) (n : ℕ) (v : Store) (j p m : ℕ) (a : Ack) → slice_get (acks_in f n v) j ≡ Some a → a.kind ≡ kind.Lock → a.applied ≡ applied.Locked m → length (flat_map (λ r. r.steps) (take (suc j) (replies_in f n v))) ≤ p → (pre : PrePart) × IsLogged f n j (command.Lock pre) × IsLockedIn (after v (take p (steps_in f n v))).banks m pre
unfolding steps_in
lock_logged f n v j p m a h lock bank_is enough =
    let parts = logged_parts f n v j a h in
    let same_kind : kind_of parts.0.command ≡ kind.Lock = ap (λ (x : Ack). x.kind) parts.4 ∙ lock in
    let is = lock_command parts.0.command same_kind in
    let at : slice_get (commands_in f n) j ≡ Some (command.Lock is.0) = map_get (λ (i : Issue). i.command) (issues_in f n) j parts.0 parts.2 ∙ ap (λ (c : Command). Some c) is.1 in
    let answered : IsAnswered (commands_in f n) (replies_in f n v) j (command.Lock is.0) (applied.Locked m) =
    record { reply = parts.1; command = at; replied = parts.3; answer_is = ap (λ (x : Ack). x.applied) parts.4 ∙ bank_is } in
    (is.0, record { issue = parts.0; at = parts.2; is = is.1 }, lock-stays v (commands_in f n) j p m is.0 (AreOwn-any (IsPreOfCycle f n) (ArePartsOf f n) None (commands_in f n) (issues-own f n)) answered enough)

-- and the Done that is acknowledged next
done_logged : (f : SensorLists) (n : ℕ) (v : Store) (j p m : ℕ) (a b : Ack) → slice_get (acks_in f n v) j ≡ Some a → a.kind ≡ kind.Lock → a.applied ≡ applied.Locked m → slice_get (acks_in f n v) (suc j) ≡ Some b → b.kind ≡ kind.Done → length (flat_map (λ r. r.steps) (take (suc (suc j)) (replies_in f n v))) ≤ p →
    (pre : PrePart) × (crash : CrashPart) × IsLogged f n j (command.Lock pre) × IsLogged f n (suc j) (command.Done crash) × IsLockedWith (after v (take p (steps_in f n v))).banks m pre crash
unfolding steps_in
done_logged f n v j p m a b h lock bank_is next done enough =
    let parts = logged_parts f n v j a h in
    let is = lock_command parts.0.command (ap (λ (x : Ack). x.kind) parts.4 ∙ lock) in
    let at : slice_get (commands_in f n) j ≡ Some (command.Lock is.0) = map_get (λ (i : Issue). i.command) (issues_in f n) j parts.0 parts.2 ∙ ap (λ (c : Command). Some c) is.1 in
    let more = logged_parts f n v (suc j) b next in
    let ends = done_command more.0.command (ap (λ (x : Ack). x.kind) more.4 ∙ done) in
    let follows : slice_get (commands_in f n) (suc j) ≡ Some (command.Done ends.0) = map_get (λ (i : Issue). i.command) (issues_in f n) (suc j) more.0 more.2 ∙ ap (λ (c : Command). Some c) ends.1 in
    let answered : IsAnswered (commands_in f n) (replies_in f n v) j (command.Lock is.0) (applied.Locked m) =
    record { reply = parts.1; command = at; replied = parts.3; answer_is = ap (λ (x : Ack). x.applied) parts.4 ∙ bank_is } in (
      is.0,
      ends.0,
      record { issue = parts.0; at = parts.2; is = is.1 },
      record { issue = more.0; at = more.2; is = ends.1 },
      done-follows v (commands_in f n) j p m is.0 ends.0 (AreOwn-any (IsPreOfCycle f n) (ArePartsOf f n) None (commands_in f n) (issues-own f n)) answered follows enough,
    )

-- ---- at the end of a cycle

-- a cycle that has a log took its first steps, those of the commands in the log among them
abbrev TookSteps : SensorLists → ℕ → Store → Store → List Ack → Type 0
TookSteps f n v end log =
    (p : ℕ) × (end ≡ after v (take p (steps_in f n v)))
    × ((j : ℕ) (a : Ack) → slice_get log j ≡ Some a → (slice_get (acks_in f n v) j ≡ Some a) × (length (flat_map (λ r. r.steps) (take (suc j) (replies_in f n v))) ≤ p))

ran_number : (m n : ℕ) (s t : Option ℕ) (l k : List Ack) → Ran m s l ≡ Ran n t k → m ≡ n
ran_number m n s t l k e = cc

ran_log : (m n : ℕ) (s t : Option ℕ) (l k : List Ack) → Ran m s l ≡ Ran n t k → l ≡ k
ran_log m n s t l k e = cc

not_stopped : (j n : ℕ) (t : Option ℕ) (k : List Ack) (P : Type 0) → StartStopped j ≡ Ran n t k → P
not_stopped j n t k P e = cc

whole_took : (f : SensorLists) (n : ℕ) (v : Store) → TookSteps f n v (after v (steps_in f n v)) (acks_in f n v)
unfolding steps_in
whole_took f n v =
    (length (steps_in f n v), ap (λ steps. after v steps) (sym (take-length (steps_in f n v))), λ j a h. (h, steps_within (replies_in f n v) (suc j)))

cut_took : (f : SensorLists) (n k : ℕ) (v : Store) (done : List BankStep) → IsStop (steps_in f n v) k done → TookSteps f n v (after v done) (acks_before f n v k)
unfolding steps_in acks_before
cut_took f n k v done stop =
    let prefix = stop-prefix (steps_in f n v) done k stop in
    let acked = acknowledged-done (replies_in f n v) k done (stops-has (steps_in f n v) k done stop) in (
      prefix.0,
      ap (λ steps. after v steps) prefix.1,
      λ j a h.
          let taken = taken_get (count_acknowledged k (replies_in f n v)) (acks_in f n v) j a h in
          let fewer = steps_up (replies_in f n v) (suc j) (count_acknowledged k (replies_in f n v)) (omega (arith, taken.0)) in
          let whole = length-append (flat_map (λ r. r.steps) (take (count_acknowledged k (replies_in f n v)) (replies_in f n v))) acked.0 in
          let long : length done ≡ length (flat_map (λ r. r.steps) (take (count_acknowledged k (replies_in f n v)) (replies_in f n v)) ++ acked.0) = ap length acked.1 in
          let short : length done ≡ min prefix.0 (length (steps_in f n v)) = ap length prefix.1 ∙ length-take prefix.0 (steps_in f n v) in
          (taken.1, omega (arith, fewer, whole, long, short)),
    )

cycle_took : (c : CycleInput) (v : Store) (n number : ℕ) (stop : Option ℕ) (log : List Ack) (e : End) → IsCycle c v n e → e.report ≡ Ran number stop log → TookSteps c.feeds number v e.store log
cycle_took c v n number stop log e (start_stopped some up same) told = not_stopped c.start_stop number stop log _ (sym (ap (λ (x : End). x.report) same) ∙ told)
cycle_took c v n number stop log e (start_counted from up same) told = not_stopped c.start_stop number stop log _ (sym (ap (λ (x : End). x.report) same) ∙ told)
cycle_took c v n number stop log e (whole run reached same) told =
    let f = c.feeds in
    let reports : Ran (n + 1) None (acks_in f (n + 1) v) ≡ Ran number stop log = sym (ap (λ (x : End). x.report) same) ∙ told in
    let num = ran_number (n + 1) number None stop (acks_in f (n + 1) v) log reports in
    let logs = ran_log (n + 1) number None stop (acks_in f (n + 1) v) log reports in
    let store : after v (steps_in f (n + 1) v) ≡ e.store = sym (ap (λ (x : End). x.store) same) in
    subst (λ k. TookSteps f k v e.store log) num (subst (λ l. TookSteps f (n + 1) v e.store l) logs (subst (λ s. TookSteps f (n + 1) v s (acks_in f (n + 1) v)) store (whole_took f (n + 1) v)))
cycle_took c v n number stop log e (cut done run stopped same) told =
    let f = c.feeds in
    let k = c.stop in
    let reports : Ran (n + 1) (Some k) (acks_before f (n + 1) v k) ≡ Ran number stop log = sym (ap (λ (x : End). x.report) same) ∙ told in
    let num = ran_number (n + 1) number (Some k) stop (acks_before f (n + 1) v k) log reports in
    let logs = ran_log (n + 1) number (Some k) stop (acks_before f (n + 1) v k) log reports in
    let store : after v done ≡ e.store = sym (ap (λ (x : End). x.store) same) in
    subst (λ j. TookSteps f j v e.store log) num (subst (λ l. TookSteps f (n + 1) v e.store l) logs (subst (λ s. TookSteps f (n + 1) v s (acks_before f (n + 1) v k)) store (cut_took f (n + 1) k v done stopped)))

cycle_locks : (c : CycleInput) (v : Store) (n number j m : ℕ) (stop : Option ℕ) (log : List Ack) (a : Ack) (e : End) → IsCycle c v n e → e.report ≡ Ran number stop log → slice_get log j ≡ Some a → a.kind ≡ kind.Lock → a.applied ≡ applied.Locked m → (pre : PrePart) × IsLogged c.feeds number j (command.Lock pre) × IsLockedIn e.store.banks m pre
cycle_locks c v n number j m stop log a e cycle told at lock bank_is =
    let took = cycle_took c v n number stop log e cycle told in
    let here = took.2 j a at in
    let locked = lock_logged c.feeds number v j took.0 m a here.0 lock bank_is here.1 in
    (locked.0, locked.1, subst (λ (s : Store). IsLockedIn s.banks m locked.0) (sym took.1) locked.2)

cycle_done : (c : CycleInput) (v : Store) (n number j m : ℕ) (stop : Option ℕ) (log : List Ack) (a b : Ack) (e : End) → IsCycle c v n e → e.report ≡ Ran number stop log → slice_get log j ≡ Some a → a.kind ≡ kind.Lock → a.applied ≡ applied.Locked m → slice_get log (suc j) ≡ Some b → b.kind ≡ kind.Done → (pre : PrePart) × (crash : CrashPart) × IsLogged c.feeds number j (command.Lock pre) × IsLogged c.feeds number (suc j) (command.Done crash) × IsLockedWith e.store.banks m pre crash
cycle_done c v n number j m stop log a b e cycle told at lock bank_is next done =
    let took = cycle_took c v n number stop log e cycle told in
    let here = took.2 j a at in
    let there = took.2 (suc j) b next in
    let ended = done_logged c.feeds number v j took.0 m a b here.0 lock bank_is there.0 done there.1 in
    (ended.0, ended.1, ended.2, ended.3, subst (λ (s : Store). IsLockedWith s.banks m ended.0 ended.1) (sym took.1) ended.4)

-- ---- at the end of a run

some_cycle : (c d : CycleInput) → Some c ≡ Some d → c ≡ d
some_cycle c d e = cc

some_report : (r t : Report) → Some r ≡ Some t → r ≡ t
some_report r t e = cc

locked_to_end : (cs : List CycleInput) (v : Store) (n m : ℕ) (o : Outcome) (pre : PrePart) → IsRun cs v n o → IsLockedIn v.banks m pre → IsLockedIn o.store.banks m pre
locked_to_end cs v n m o pre run (r, at, locked, same) = (r, run-locked cs v n (m - 1) o r run at locked, locked, same)

with_crash_to_end : (cs : List CycleInput) (v : Store) (n m : ℕ) (o : Outcome) (pre : PrePart) (crash : CrashPart) → IsRun cs v n o → IsLockedWith v.banks m pre crash → IsLockedWith o.store.banks m pre crash
with_crash_to_end cs v n m o pre crash run (r, at, locked, same, part) = (r, run-locked cs v n (m - 1) o r run at locked, locked, same, part)

-- an event whose Lock stands in a log of a run with bank m is locked in bank m at its end
pub run-locks : (cs : List CycleInput) (v : Store) (n k number j m : ℕ) (c : CycleInput) (stop : Option ℕ) (log : List Ack) (a : Ack) (o : Outcome) → IsRun cs v n o → slice_get cs k ≡ Some c → slice_get o.reports k ≡ Some (Ran number stop log) → slice_get log j ≡ Some a → a.kind ≡ kind.Lock → a.applied ≡ applied.Locked m → (pre : PrePart) × IsLogged c.feeds number j (command.Lock pre) × IsLockedIn o.store.banks m pre
run-locks [] v n k number j m c stop log a o run which told at lock bank_is = cc
run-locks (d ∷ cs) v n zero number j m c stop log a o run which told at lock bank_is =
    let e = run.1 in
    let report : e.report ≡ Ran number stop log = some_report e.report (Ran number stop log) (subst (λ rs. slice_get rs 0 ≡ Some (Ran number stop log)) run.5 told) in
    let cycle : IsCycle c v n e = subst (λ (x : CycleInput). IsCycle x v n e) (some_cycle d c which) run.2 in
    let locked = cycle_locks c v n number j m stop log a e cycle report at lock bank_is in
    (locked.0, locked.1, locked_to_end cs e.store e.count m (record o { reports = run.3 }) locked.0 run.4 locked.2)
run-locks (d ∷ cs) v n (suc k) number j m c stop log a o run which told at lock bank_is =
    let e = run.1 in
    let later : slice_get run.3 k ≡ Some (Ran number stop log) = subst (λ rs. slice_get rs (suc k) ≡ Some (Ran number stop log)) run.5 told in
    run-locks cs e.store e.count k number j m c stop log a (record o { reports = run.3 }) run.4 which later at lock bank_is

-- and where the next command in that log is a Done, it has the crash part of that Done
pub run-done : (cs : List CycleInput) (v : Store) (n k number j m : ℕ) (c : CycleInput) (stop : Option ℕ) (log : List Ack) (a b : Ack) (o : Outcome) → IsRun cs v n o → slice_get cs k ≡ Some c → slice_get o.reports k ≡ Some (Ran number stop log) → slice_get log j ≡ Some a → a.kind ≡ kind.Lock → a.applied ≡ applied.Locked m → slice_get log (suc j) ≡ Some b → b.kind ≡ kind.Done → (pre : PrePart) × (crash : CrashPart) × IsLogged c.feeds number j (command.Lock pre) × IsLogged c.feeds number (suc j) (command.Done crash) × IsLockedWith o.store.banks m pre crash
run-done [] v n k number j m c stop log a b o run which told at lock bank_is next done = cc
run-done (d ∷ cs) v n zero number j m c stop log a b o run which told at lock bank_is next done =
    let e = run.1 in
    let report : e.report ≡ Ran number stop log = some_report e.report (Ran number stop log) (subst (λ rs. slice_get rs 0 ≡ Some (Ran number stop log)) run.5 told) in
    let cycle : IsCycle c v n e = subst (λ (x : CycleInput). IsCycle x v n e) (some_cycle d c which) run.2 in
    let ended = cycle_done c v n number j m stop log a b e cycle report at lock bank_is next done in
    (ended.0, ended.1, ended.2, ended.3, with_crash_to_end cs e.store e.count m (record o { reports = run.3 }) ended.0 ended.1 run.4 ended.4)
run-done (d ∷ cs) v n (suc k) number j m c stop log a b o run which told at lock bank_is next done =
    let e = run.1 in
    let later : slice_get run.3 k ≡ Some (Ran number stop log) = subst (λ rs. slice_get rs (suc k) ≡ Some (Ran number stop log)) run.5 told in
    run-done cs e.store e.count k number j m c stop log a b (record o { reports = run.3 }) run.4 which later at lock bank_is next done

-- ---- a Done before another Take is the next

get_lower : {X : Type 0} (xs : List X) (l i : ℕ) (b : X) → slice_get xs l ≡ Some b → i ≤ l → (x : X) × (slice_get xs i ≡ Some x)
get_lower [] l i b h low = cc
get_lower (y ∷ xs) l zero b h low = (y, refl)
get_lower (y ∷ xs) zero (suc i) b h low = absurd (omega (arith, low))
get_lower (y ∷ xs) (suc l) (suc i) b h low = get_lower xs l i b h (omega (arith, low))

-- the command of an acknowledgement
ack_command : (f : SensorLists) (n : ℕ) (v : Store) (j : ℕ) (a : Ack) → slice_get (acks_in f n v) j ≡ Some a → (c : Command) × (slice_get (commands_in f n) j ≡ Some c) × (kind_of c ≡ a.kind)
ack_command f n v j a h =
    let parts = logged_parts f n v j a h in
    (parts.0.command, map_get (λ (i : Issue). i.command) (issues_in f n) j parts.0 parts.2, ap (λ (x : Ack). x.kind) parts.4)

-- after a Lock in a log stands a Done, and after a Done a Take
after_lock_done : (f : SensorLists) (n : ℕ) (v : Store) (j : ℕ) (a b : Ack) → slice_get (acks_in f n v) j ≡ Some a → a.kind ≡ kind.Lock → slice_get (acks_in f n v) (suc j) ≡ Some b → b.kind ≡ kind.Done
after_lock_done f n v j a b h lock next =
    let here = ack_command f n v j a h in
    let there = ack_command f n v (suc j) b next in
    let is = lock_command here.0 (here.2 ∙ lock) in
    let done = issues-lock_next f n j is.0 there.0 (here.1 ∙ ap (λ (c : Command). Some c) is.1) there.1 in
    sym there.2 ∙ ap kind_of done.1

after_done_take : (f : SensorLists) (n : ℕ) (v : Store) (j : ℕ) (a b : Ack) → slice_get (acks_in f n v) j ≡ Some a → a.kind ≡ kind.Done → slice_get (acks_in f n v) (suc j) ≡ Some b → b.kind ≡ kind.Take
after_done_take f n v j a b h done next =
    let here = ack_command f n v j a h in
    let there = ack_command f n v (suc j) b next in
    let is = done_command here.0 (here.2 ∙ done) in
    let take_it = issues-done_next f n j is.0 there.0 (here.1 ∙ ap (λ (c : Command). Some c) is.1) there.1 in
    sym there.2 ∙ ap kind_of take_it.1

same_ack : (a b : Ack) → Some a ≡ Some b → a ≡ b
same_ack a b e = cc

done_next_in : (f : SensorLists) (n : ℕ) (v : Store) (log : List Ack) (j l : ℕ) (a b : Ack) → ((i : ℕ) (x : Ack) → slice_get log i ≡ Some x → slice_get (acks_in f n v) i ≡ Some x) → slice_get log j ≡ Some a → a.kind ≡ kind.Lock → slice_get log l ≡ Some b → b.kind ≡ kind.Done → j < l → NoTakeBetween log j l → l ≡ suc j
done_next_in f n v log j l a b all at lock there done later none = elim (cases_lt (suc j) l) [
  | inl past ↦
      let x = get_lower log l (suc j) b there (omega (arith, past)) in
      let y = get_lower log l (suc (suc j)) b there (omega (arith, past)) in
      let first = after_lock_done f n v j a x.0 (all j a at) lock (all (suc j) x.0 x.1) in
      let second = after_done_take f n v (suc j) x.0 y.0 (all (suc j) x.0 x.1) first (all (suc (suc j)) y.0 y.1) in
      absurd (elim (cases_lt (suc (suc j)) l) [
        | inl between ↦ none (suc (suc j)) y.0 (omega arith) between y.1 second
        | inr ends ↦
            let place : suc (suc j) ≡ l = omega (arith, past, ends) in
            let same : y.0 ≡ b = same_ack y.0 b (sym y.1 ∙ subst (λ k. slice_get log k ≡ Some b) (sym place) there) in
            let k : kind.Take ≡ kind.Done = sym second ∙ ap (λ (z : Ack). z.kind) same ∙ done in cc
      ])
  | inr near ↦ omega (arith, later, near)
]

run_next : (cs : List CycleInput) (v : Store) (n k number j l : ℕ) (c : CycleInput) (stop : Option ℕ) (log : List Ack) (a b : Ack) (o : Outcome) → IsRun cs v n o → slice_get cs k ≡ Some c → slice_get o.reports k ≡ Some (Ran number stop log) → slice_get log j ≡ Some a → a.kind ≡ kind.Lock → slice_get log l ≡ Some b → b.kind ≡ kind.Done → j < l → NoTakeBetween log j l → l ≡ suc j
run_next [] v n k number j l c stop log a b o run which told at lock there done later none = cc
run_next (d ∷ cs) v n zero number j l c stop log a b o run which told at lock there done later none =
    let e = run.1 in
    let report : e.report ≡ Ran number stop log = some_report e.report (Ran number stop log) (subst (λ rs. slice_get rs 0 ≡ Some (Ran number stop log)) run.5 told) in
    let cycle : IsCycle c v n e = subst (λ (x : CycleInput). IsCycle x v n e) (some_cycle d c which) run.2 in
    let took = cycle_took c v n number stop log e cycle report in
    done_next_in c.feeds number v log j l a b (λ i x h. (took.2 i x h).0) at lock there done later none
run_next (d ∷ cs) v n (suc k) number j l c stop log a b o run which told at lock there done later none =
    let e = run.1 in
    let report : slice_get run.3 k ≡ Some (Ran number stop log) = subst (λ rs. slice_get rs (suc k) ≡ Some (Ran number stop log)) run.5 told in
    run_next cs e.store e.count k number j l c stop log a b (record o { reports = run.3 }) run.4 which report at lock there done later none

-- where a Done follows in that log before another Take, the event has the crash part of that Done
pub run-done_later : (cs : List CycleInput) (v : Store) (n k number j l m : ℕ) (c : CycleInput) (stop : Option ℕ) (log : List Ack) (a b : Ack) (o : Outcome) → IsRun cs v n o → slice_get cs k ≡ Some c → slice_get o.reports k ≡ Some (Ran number stop log) → slice_get log j ≡ Some a → a.kind ≡ kind.Lock → a.applied ≡ applied.Locked m → slice_get log l ≡ Some b → b.kind ≡ kind.Done → j < l → NoTakeBetween log j l → (pre : PrePart) × (crash : CrashPart) × IsLogged c.feeds number j (command.Lock pre) × IsLogged c.feeds number l (command.Done crash) × IsLockedWith o.store.banks m pre crash
run-done_later cs v n k number j l m c stop log a b o run which told at lock bank_is there done later none =
    let next = run_next cs v n k number j l c stop log a b o run which told at lock there done later none in
    let here : slice_get log (suc j) ≡ Some b = subst (λ i. slice_get log i ≡ Some b) next there in
    let found = run-done cs v n k number j m c stop log a b o run which told at lock bank_is here done in
    (found.0, found.1, found.2, subst (λ i. IsLogged c.feeds number i (command.Done found.1)) (sym next) found.3, found.4)
