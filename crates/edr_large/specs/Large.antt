-- The run of a generated trace, each cycle to its end.
use Rattle.std.specs.Prelude.{◌≡◌, ◌<◌, ℕ, Some, List, [], ◌++◌, length, map, flat_map, replicate}
use Rattle.edr_items.specs.SensorLists.{SensorLists}
use Rattle.edr_image.specs.declared.places.TheConstants.{MOST_BANKS}
use Rattle.edr_image.specs.declared.Ack.{Ack}
use Rattle.edr_image.specs.declared.BankView.TheVariants.{Void}
use Rattle.edr_image.specs.declared.Choice.TheVariants.{Overwrite}
use Rattle.edr_image.specs.Banks.{Store, retrieved_banks}
use Rattle.edr_image.specs.Image.{view_of}
use Rattle.edr_image.specs.Reports.{Report, Ran, StartStopped}
use Rattle.edr_spell.specs.declared.CycleInput.{CycleInput}
use Rattle.edr_spell.specs.Spell.{Spell}
use Rattle.edr_run.specs.Cycle.{End, IsCycle, IsRun, Outcome, last_count}
use Rattle.edr_gen.specs.Traces.{generated_cycles, generated_rows, generated_trace}
use Rattle.edr_large.specs.declared.counts.Counts.{Counts}
use Rattle.edr_large.specs.Counts.{counts_of, counts_text}

-- the most banks of an image, all void, of which a new event may overwrite an older one
abbrev pub new_store : Store
new_store = record { header = record { banks = MOST_BANKS; choice = Overwrite }; banks = replicate MOST_BANKS Void }

-- the cycle with its commands not stopped
abbrev pub unstopped_cycle : CycleInput → CycleInput
unstopped_cycle c = record c { stop = 0 }

-- the commands that a cycle acknowledged
abbrev pub acks_in : Report → List Ack
acks_in (StartStopped j) = []
acks_in (Ran n stop log) = log

-- and those of all cycles
abbrev pub all_acks : List Report → List Ack
all_acks reports = flat_map acks_in reports

-- The counts are those of a run over the cycles that the bytes of the trace spell, none of them stopped, from 16 void banks and the count 0.
pub record IsCounted (number cycles : ℕ) (counts : Counts) : Type 0 where
  pub spelled : List CycleInput
  pub outcome : Outcome
  pub spells : Spell (generated_trace number cycles) spelled
  pub run : IsRun (map unstopped_cycle spelled) new_store 0 outcome
  pub counts_are : counts ≡ counts_of (length spelled) (length (generated_rows number cycles)) (all_acks outcome.reports) (retrieved_banks outcome.store.banks)

-- the text is the lines of these counts
abbrev pub AreLinesOf : ℕ → ℕ → List ℕ → Type 0
AreLinesOf number cycles text = (counts : Counts) × IsCounted number cycles counts × (text ≡ counts_text counts)

-- ---- on the way

-- these cycles ran: these commands were acknowledged, and the image says what they came to
pub record HasRunInMemory (cs : List CycleInput) (acks : List Ack) (image : List ℕ) : Type 0 where
  pub outcome : Outcome
  pub run : IsRun (map unstopped_cycle cs) new_store 0 outcome
  pub acks_are : acks ≡ all_acks outcome.reports
  pub says : view_of image ≡ Some (record { store = outcome.store; count = outcome.count })

-- all cycles of the number ran, and these are their rows
abbrev pub HasCounted : ℕ → ℕ → ℕ → List Ack → List ℕ → Type 0
HasCounted number cycles rows acks image = (rows ≡ length (generated_rows number cycles)) × HasRunInMemory (generated_cycles number cycles) acks image

-- a cycle with these feeds ran from the banks v and the count n on
pub record HasRunOn (f : SensorLists) (v : Store) (n : ℕ) (before acks : List Ack) (image : List ℕ) : Type 0 where
  pub end : End
  pub below : n < last_count
  pub cycle : IsCycle (record { start_stop = 0; feeds = f; stop = 0 }) v n end
  pub acks_are : acks ≡ before ++ acks_in end.report
  pub says : view_of image ≡ Some (record { store = end.store; count = end.count })

-- of what the image says this is so
abbrev pub OfImage : List ℕ → (Store → ℕ → Type 0) → Type 0
OfImage image says = (v : Store) (n : ℕ) → view_of image ≡ Some (record { store = v; count = n }) → says v n

-- a cycle with these feeds ran over an image
abbrev pub HasRunOver : SensorLists → List ℕ → List Ack → List Ack → List ℕ → Type 0
HasRunOver f image before acks now = OfImage image (λ v n. HasRunOn f v n before acks now)
