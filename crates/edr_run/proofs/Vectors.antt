-- Small cycles, reports and traces that are computed.
use Rattle.std.proofs.Common.{◌≡◌, refl, ℕ, pos, Bool, false, Some, None, List, [], ◌∷◌, map}
use Rattle.std.specs.Prelude.{is_some}
use Rattle.edr_items.specs.declared.Item.{Item}
use Rattle.edr_items.specs.SensorLists.{SensorLists, no_items}
use Rattle.edr_definitions.specs.Ticks.{first_tick, greatest}
use Rattle.edr_definitions.specs.Signals.{sample_at}
use Rattle.edr_definitions.specs.Windows.{delta_v, largest_change, swing}
use Rattle.edr_definitions.specs.Selection.{is_triggered, is_time_zero, is_end, end_of, candidate_at, chain_from}
use Rattle.edr_definitions.specs.Commands.{commands, issues_of}
use Rattle.edr_image.specs.declared.Choice.TheVariants.{Keep}
use Rattle.edr_image.specs.declared.BankView.{BankView}
use Rattle.edr_image.specs.declared.BankView.TheVariants.{Void, Event, Damaged}
use Rattle.edr_image.specs.declared.Applied.TheVariants as applied
use Rattle.edr_image.specs.declared.Kind.TheVariants as kind
use Rattle.edr_image.specs.Banks.{Store, events, lowest_void, least_unlocked}
use Rattle.edr_image.specs.Steps.{reply_to}
use Rattle.edr_image.specs.Calls.{stops, count_acknowledged}
use Rattle.edr_spell.specs.declared.CycleInput.{CycleInput}
use Rattle.edr_image.specs.Reports.{Report, StartStopped, Ran}
use Rattle.edr_run.specs.Cycle.{ends, run_ends, steps_in, acks_in, acks_before, outcomes}
use Rattle.edr_run.specs.Live.{live_lines_of}

abbrev fresh : Store
fresh = record { header = record { banks = 2; choice = Keep }; banks = Void ∷ Void ∷ [] }

-- the bank holds an event with a crash part
abbrev is_done : BankView → Bool
is_done Void = false
is_done (Event r) = is_some r.crash
is_done (Damaged o x l) = false

-- ---- cycles

-- a cycle whose sensors give nothing
abbrev empty : ℕ → ℕ → CycleInput
empty j k = record { start_stop = j; feeds = no_items; stop = k }

empty-ends : ends (empty 0 0) fresh 0 ≡ record { report = Ran 1 None []; store = fresh; count = 1 } ∷ []
unfolding ends run_ends steps_in acks_in chain_from
empty-ends = refl

-- a stop in call 3 of the start, and one in call 5
start_3-ends : ends (empty 3 0) fresh 0 ≡ record { report = StartStopped 3; store = fresh; count = 0 } ∷ []
unfolding ends
start_3-ends = refl

start_5-ends : ends (empty 5 0) fresh 0 ≡ record { report = StartStopped 5; store = fresh; count = 0 } ∷ record { report = StartStopped 5; store = fresh; count = 1 } ∷ []
unfolding ends
start_5-ends = refl

-- the case `cut_in_start`: the second cycle has number 1 or 2
cut_in_start : map (λ o. o.reports) (outcomes (empty 5 0 ∷ empty 0 0 ∷ []) fresh 0) ≡ (StartStopped 5 ∷ Ran 1 None [] ∷ []) ∷ (StartStopped 5 ∷ Ran 2 None [] ∷ []) ∷ []
unfolding ends run_ends steps_in acks_in chain_from
cut_in_start = refl

-- a restraint fires at tick 2, and all sensors were silent up to tick 60
abbrev silent : List Item
silent = record { moment = 60; value = None } ∷ []

abbrev deployment : SensorLists
deployment = record {
  along = silent;
  across = silent;
  speed = silent;
  throttle = silent;
  brake = silent;
  belt = silent;
  lamp = silent;
  restraint = record { moment = 2; value = Some (pos 1) } ∷ silent;
}

-- it is taken and locked at once, and done when the windows after it are over
deployment-report : map (λ e. e.report) (ends (record { start_stop = 0; feeds = deployment; stop = 0 }) fresh 6) ≡
    Ran 7 None (record { tick = 2; kind = kind.Take; applied = applied.Kept 1 } ∷ record { tick = 2; kind = kind.Lock; applied = applied.Locked 1 } ∷ record { tick = 52; kind = kind.Done; applied = applied.Done 1 } ∷ []) ∷ []
unfolding ends run_ends steps_in acks_in issues_of chain_from candidate_at end_of is_end is_time_zero is_triggered first_tick swing largest_change greatest delta_v sample_at reply_to lowest_void least_unlocked events
deployment-report = refl

-- a stop in call 7, in the Done: its Take and its Lock were acknowledged, and the record has no crash part
deployment-cut : map {B = Report × List Bool} (λ e. (e.report, map is_done e.store.banks)) (ends (record { start_stop = 0; feeds = deployment; stop = 7 }) fresh 6) ≡
    (Ran 7 (Some 7) (record { tick = 2; kind = kind.Take; applied = applied.Kept 1 } ∷ record { tick = 2; kind = kind.Lock; applied = applied.Locked 1 } ∷ []), false ∷ false ∷ []) ∷ []
unfolding ends run_ends steps_in acks_in acks_before count_acknowledged stops issues_of chain_from candidate_at end_of is_end is_time_zero is_triggered first_tick swing largest_change greatest delta_v sample_at reply_to lowest_void least_unlocked events
deployment-cut = refl

-- ---- live lines

-- in place 3 of a run: of a cycle without commands, of the deployment, and of one whose Done is cut off
empty-line : map (λ e. live_lines_of 3 no_items fresh e.report) (ends (empty 0 0) fresh 0) ≡ (record { cycle = 3; commands = 0; events = 0 } ∷ []) ∷ []
unfolding ends run_ends steps_in acks_in chain_from
empty-line = refl

deployment-line : map (λ e. live_lines_of 3 deployment fresh e.report) (ends (record { start_stop = 0; feeds = deployment; stop = 0 }) fresh 6) ≡ (record { cycle = 3; commands = 3; events = 1 } ∷ []) ∷ []
unfolding ends run_ends steps_in acks_in commands issues_of chain_from candidate_at end_of is_end is_time_zero is_triggered first_tick swing largest_change greatest delta_v sample_at reply_to lowest_void least_unlocked events
deployment-line = refl

deployment_cut-line : map (λ e. live_lines_of 3 deployment fresh e.report) (ends (record { start_stop = 0; feeds = deployment; stop = 7 }) fresh 6) ≡ (record { cycle = 3; commands = 2; events = 1 } ∷ []) ∷ []
unfolding ends run_ends steps_in acks_in acks_before count_acknowledged stops commands issues_of chain_from candidate_at end_of is_end is_time_zero is_triggered first_tick swing largest_change greatest delta_v sample_at reply_to lowest_void least_unlocked events
deployment_cut-line = refl

-- a start that was stopped has none
start_5-line : live_lines_of 3 no_items fresh (StartStopped 5) ≡ []
start_5-line = refl
