-- What a run comes to that ends early: between two cycles, or by a stop inside one that needn't be planned.
use Rattle.std.specs.Prelude.{◌≡◌, ℕ, ◌+◌, ◌<◌, ◌≤◌, ◌⊎◌, Some, List, length, slice_get, take}
use Rattle.edr_record.specs.declared.Record.{Record}
use Rattle.edr_image.specs.declared.BankView.{BankView}
use Rattle.edr_image.specs.declared.BankView.TheVariants as bank
use Rattle.edr_image.specs.Banks.{Store}
use Rattle.edr_image.specs.Steps.{BankStep}
use Rattle.edr_image.specs.Calls.{IsStop}
use Rattle.edr_spell.specs.declared.CycleInput.{CycleInput}
use Rattle.edr_run.specs.Cycle.{End, Outcome, IsCycle, IsRun, cut_end, last_count, start_end, steps_in}
use Rattle.edr_run.specs.Own.{IsRecordOf}

-- a stop in a call of the start of the cycle, or in a call of its commands, came to this end
pub data IsStopIn (c : CycleInput) (v : Store) (n : ℕ) (e : End) : Type 0 where
  in_start : (j : ℕ) → 1 ≤ j → j ≤ 6 → e ≡ start_end j v n → IsStopIn c v n e
  in_start_counted : (j : ℕ) → 5 ≤ j → j ≤ 6 → e ≡ start_end j v (n + 1) → IsStopIn c v n e
  in_commands : (k : ℕ) (done : List BankStep) → IsStop (steps_in c.feeds (n + 1) v) k done → e ≡ cut_end c.feeds v (n + 1) k done → IsStopIn c v n e

-- what is left of a cycle that ended early: what was there, an end of it, or what a stop in it leaves
pub data IsLeftOfCycle (c : CycleInput) (v : Store) (n : ℕ) (w : Store) (m : ℕ) : Type 0 where
  untouched : w ≡ v → m ≡ n → IsLeftOfCycle c v n w m
  ended : (e : End) → n < last_count → IsCycle c v n e → w ≡ e.store → m ≡ e.count → IsLeftOfCycle c v n w m
  stopped : (e : End) → n < last_count → IsStopIn c v n e → w ≡ e.store → m ≡ e.count → IsLeftOfCycle c v n w m

-- the first p of the cycles ran to this outcome
pub record RanFirst (cs : List CycleInput) (v : Store) (n p : ℕ) (o : Outcome) : Type 0 where
  pub within : p ≤ length cs
  pub run : IsRun (take p cs) v n o

-- banks and a count to which some first cycles came, or these and a stop in the next one
pub data IsReached (cs : List CycleInput) (v : Store) (n : ℕ) (w : Store) (m : ℕ) : Type 0 where
  between : (p : ℕ) (o : Outcome) → RanFirst cs v n p o → w ≡ o.store → m ≡ o.count → IsReached cs v n w m
  inside : (p : ℕ) (o : Outcome) (c : CycleInput) (e : End) → RanFirst cs v n p o → slice_get cs p ≡ Some c → o.count < last_count → IsStopIn c o.store o.count e → w ≡ e.store → m ≡ e.count → IsReached cs v n w m

-- the event stands in that bank
abbrev pub StandsAt : ℕ → Record → List BankView → Type 0
StandsAt i r banks = slice_get banks i ≡ Some (bank.Event r)

-- an event up to the count n stood in its bank at first; one above it is an event of one of the cycles
abbrev pub IsOfCycles : List CycleInput → List BankView → ℕ → ℕ → Record → Type 0
IsOfCycles cs first n i r =
    ((r.pre.key.cycle ≤ n) × StandsAt i r first)
    ⊎ ((n < r.pre.key.cycle) × (k : ℕ) × (c : CycleInput) × (slice_get cs k ≡ Some c) × IsRecordOf c.feeds r.pre.key.cycle r)

-- banks and a count to which some first cycles came; or these, and a start of the next one that was stopped in call 6 and did move
-- the count
pub data IsCutShort (cs : List CycleInput) (v : Store) (n : ℕ) (w : Store) (m : ℕ) : Type 0 where
  between : (p : ℕ) (o : Outcome) → RanFirst cs v n p o → w ≡ o.store → m ≡ o.count → IsCutShort cs v n w m
  counted : (p : ℕ) (o : Outcome) (e : End) → RanFirst cs v n p o → p < length cs → o.count < last_count → e ≡ start_end 6 o.store (o.count + 1) → w ≡ e.store → m ≡ e.count → IsCutShort cs v n w m
