-- What one cycle does with the banks and the count, what it reports, and runs of several cycles.
use Rattle.std.specs.Prelude.{◌≡◌, ℕ, ◌+◌, ◌<◌, ◌≤◌, ◌⊎◌, ◌||◌, nat_eq, nat_lt, nat_le, if◌then◌else◌, Some, None, List, [], ◌∷◌, ◌++◌, map, flat_map, fold, take, zip}
use Rattle.edr_items.specs.SensorLists.{SensorLists, horizon_of}
use Rattle.edr_record.specs.declared.Command.{Command}
use Rattle.edr_record.specs.declared.Command.TheVariants as command
use Rattle.edr_definitions.specs.Commands.{Issue, issues}
use Rattle.edr_image.specs.declared.Kind.{Kind}
use Rattle.edr_image.specs.declared.Kind.TheVariants.{Take, Lock, Done}
use Rattle.edr_image.specs.declared.Ack.{Ack}
use Rattle.edr_image.specs.Reports.{Report, StartStopped, Ran}
use Rattle.edr_image.specs.Banks.{Store}
use Rattle.edr_image.specs.Steps.{BankStep, Reply, replies, at_rest, after}
use Rattle.edr_image.specs.Calls.{all_calls, stops, IsStop, count_acknowledged}
use Rattle.edr_spell.specs.declared.CycleInput.{CycleInput}

-- ---- what is issued, and the replies

abbrev pub kind_of : Command → Kind
kind_of (command.Take pre) = Take
kind_of (command.Lock pre) = Lock
kind_of (command.Done crash) = Done

abbrev pub ack_of : Issue → Reply → Ack
ack_of i r = record { tick = i.tick; kind = kind_of i.command; applied = r.answer }

-- what the cycle with the number n issues, up to its horizon
abbrev pub issues_in : SensorLists → ℕ → List Issue
issues_in f n = issues f n (horizon_of f)

-- how the banks reply to these commands, from v on
abbrev pub replies_in : SensorLists → ℕ → Store → List Reply
replies_in f n v = replies (at_rest v) (map (λ i. i.command) (issues_in f n))

-- all steps of the cycle
unfoldable pub steps_in : SensorLists → ℕ → Store → List BankStep
steps_in f n v = flat_map (λ r. r.steps) (replies_in f n v)

-- all its commands with their answers
unfoldable pub acks_in : SensorLists → ℕ → Store → List Ack
acks_in f n v = map (λ p. ack_of p.0 p.1) (zip (issues_in f n) (replies_in f n v))

-- those before the one in which call k falls
unfoldable pub acks_before : SensorLists → ℕ → Store → ℕ → List Ack
acks_before f n v k = take (count_acknowledged k (replies_in f n v)) (acks_in f n v)

-- ---- the ends of a cycle

-- what a cycle comes to: its report, the banks and the count
pub record End : Type 0 where
  pub report : Report
  pub store : Store
  pub count : ℕ

-- the start was stopped in call j, and the count is n
abbrev pub start_end : ℕ → Store → ℕ → End
start_end j v n = record { report = StartStopped j; store = v; count = n }

-- the cycle with the number n took all its steps
abbrev pub whole_end : SensorLists → Store → ℕ → End
whole_end f v n = record { report = Ran n None (acks_in f n v); store = after v (steps_in f n v); count = n }

-- it was stopped in call k and took these steps
abbrev pub cut_end : SensorLists → Store → ℕ → ℕ → List BankStep → End
cut_end f v n k done = record { report = Ran n (Some k) (acks_before f n v k); store = after v done; count = n }

-- a cycle over the banks v with the count n may come to this end
pub data IsCycle (c : CycleInput) (v : Store) (n : ℕ) (e : End) : Type 0 where
  -- a stop in a call of the start leaves the count, and from call 5 on may leave one more
  start_stopped : 1 ≤ c.start_stop → c.start_stop ≤ 6 → e ≡ start_end c.start_stop v n → IsCycle c v n e
  start_counted : 5 ≤ c.start_stop → c.start_stop ≤ 6 → e ≡ start_end c.start_stop v (n + 1) → IsCycle c v n e
  -- no stop, or one past the last call
  whole : c.start_stop ≡ 0 → (c.stop ≡ 0) ⊎ (all_calls (steps_in c.feeds (n + 1) v) < c.stop) → e ≡ whole_end c.feeds v (n + 1) → IsCycle c v n e
  -- a stop in a call of a step
  cut : (done : List BankStep) → c.start_stop ≡ 0 → IsStop (steps_in c.feeds (n + 1) v) c.stop done → e ≡ cut_end c.feeds v (n + 1) c.stop done → IsCycle c v n e

-- ---- the ends as a list

-- the ends of the cycle with the number n whose commands are stopped in call k, or not
unfoldable pub run_ends : SensorLists → ℕ → Store → ℕ → List End
run_ends f k v n =
    if nat_eq k 0 || nat_lt (all_calls (steps_in f n v)) k then whole_end f v n ∷ []
    else map (cut_end f v n k) (stops k (steps_in f n v))

-- the ends of a cycle whose start is stopped in call j
abbrev pub start_ends : ℕ → Store → ℕ → List End
start_ends j v n =
    if nat_le j 4 then start_end j v n ∷ []
    else if nat_le j 6 then start_end j v n ∷ start_end j v (n + 1) ∷ []
    else []

-- the same as a list: the ends to which the cycle may come, the one with fewer steps or the lower count first
unfoldable pub ends : CycleInput → Store → ℕ → List End
ends c v n = if nat_eq c.start_stop 0 then run_ends c.feeds c.stop v (n + 1) else start_ends c.start_stop v n

-- ---- runs of several cycles

-- the last number that a cycle can have
abbrev pub last_count : ℕ
last_count = 4_294_967_295

-- what a run comes to: the reports of its cycles in order, the banks and the count
pub record Outcome : Type 0 where
  pub reports : List Report
  pub store : Store
  pub count : ℕ

-- a run over these cycles, from the banks v and the count n on, may come to this outcome
abbrev pub IsRun : List CycleInput → Store → ℕ → Outcome → Type 0
IsRun [] v n o = o ≡ record { reports = []; store = v; count = n }
IsRun (c ∷ cs) v n o =
    (n < last_count) × (e : End) × IsCycle c v n e × (rest : List Report) × IsRun cs e.store e.count (record o { reports = rest }) × (o.reports ≡ e.report ∷ rest)

-- what one more cycle makes of an outcome
abbrev pub one_more : CycleInput → Outcome → List Outcome
one_more c o =
    if nat_lt o.count last_count then map (λ e. record { reports = o.reports ++ e.report ∷ []; store = e.store; count = e.count }) (ends c o.store o.count)
    else []

-- all outcomes of a run over these cycles, in order
abbrev pub outcomes : List CycleInput → Store → ℕ → List Outcome
outcomes cs v n = fold (λ os c. flat_map (one_more c) os) (record { reports = []; store = v; count = n } ∷ []) cs
