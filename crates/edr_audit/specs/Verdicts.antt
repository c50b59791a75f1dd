-- What the auditor answers: whether an image and a report come from an earlier image and a trace, and the first difference if not.
use Rattle.std.specs.Prelude.{◌≡◌, ◌≢◌, ℕ, ◌<◌, ◌≤◌, nat_lt, nat_le, ◌||◌, Bool, Some, None, List, ◌∷◌, ◌++◌, count_by, Contains}
use Rattle.edr_image.specs.Image.{View, view_of}
use Rattle.edr_spell.specs.declared.CycleInput.{CycleInput}
use Rattle.edr_spell.specs.declared.TraceFault.{TraceFault}
use Rattle.edr_spell.specs.Spell.{Spell}
use Rattle.edr_spell.specs.Fault.{FirstFault}
use Rattle.edr_run.specs.Cycle.{Outcome, outcomes}
use Rattle.edr_report.specs.Report.{report_text}
use Rattle.edr_audit.specs.declared.Difference.{Difference}
use Rattle.edr_audit.specs.declared.Difference.TheVariants.{Before, Trace, Stops, After, Run, Report}
use Rattle.edr_audit.specs.declared.Verdict.{Verdict}
use Rattle.edr_audit.specs.declared.Verdict.TheVariants.{Agrees, Differs}
use Rattle.edr_audit.specs.declared.TheConstants.{MOST_STOPS}
use Rattle.edr_audit.specs.Compared.{first_difference}

-- ---- how many ends there may be

-- the cycle has `on,5,`, `on,6,` or a `cut,k,` with k above 0
abbrev pub may_fork : CycleInput → Bool
may_fork c = nat_le 5 c.start_stop || nat_lt 0 c.stop

-- how many of the cycles have
abbrev pub stops_in : List CycleInput → ℕ
stops_in cycles = count_by may_fork cycles

-- ---- what is audited

-- the outcome has the header, banks and count of the view
pub record HasView (w : View) (o : Outcome) : Type 0 where
  pub store : o.store ≡ w.store
  pub count : o.count ≡ w.count

-- the report of an outcome with this view
abbrev pub text_with : View → Outcome → List ℕ
text_with w o = report_text o.reports w.store w.count

-- the image before says a view, and the trace spells cycles of which few may fork
pub record CanBeAudited (before trace : List ℕ) (from : View) (cycles : List CycleInput) : Type 0 where
  pub says : view_of before ≡ Some from
  pub spelled : Spell trace cycles
  pub few : stops_in cycles ≤ MOST_STOPS

-- and the image after says one too
pub record IsAudited (before trace after : List ℕ) (from : View) (cycles : List CycleInput) (to : View) : Type 0 where
  pub begins : CanBeAudited before trace from cycles
  pub says : view_of after ≡ Some to

-- a member of Outcomes has the view
pub record IsMember (from : View) (cycles : List CycleInput) (to : View) (o : Outcome) : Type 0 where
  pub listed : Contains (outcomes cycles from.store from.count) o
  pub view : HasView to o

-- the first member that has it
pub record IsFirstMember (from : View) (cycles : List CycleInput) (to : View) (o : Outcome) : Type 0 where
  pub front : List Outcome
  pub rest : List Outcome
  pub listed : outcomes cycles from.store from.count ≡ front ++ o ∷ rest
  pub view : HasView to o
  pub others : (p : Outcome) → Contains front p → HasView to p → ⊥

-- ---- the verdicts

-- some member of Outcomes has the view of the image after, and the report is its text
pub record Agree (before trace after report : List ℕ) : Type 0 where
  pub from : View
  pub cycles : List CycleInput
  pub to : View
  pub outcome : Outcome
  pub audited : IsAudited before trace after from cycles to
  pub member : IsMember from cycles to outcome
  pub text : report ≡ text_with to outcome

-- the trace has its first fault in this row
pub record FailsIn (before trace : List ℕ) (row : ℕ) : Type 0 where
  pub from : View
  pub fault : TraceFault
  pub says : view_of before ≡ Some from
  pub first : FirstFault trace (record { row = row; fault = fault })

-- too many of its cycles may fork
pub record Forks (before trace : List ℕ) (found : ℕ) : Type 0 where
  pub from : View
  pub cycles : List CycleInput
  pub says : view_of before ≡ Some from
  pub spelled : Spell trace cycles
  pub count : found ≡ stops_in cycles
  pub many : MOST_STOPS < found

-- the image after says nothing
pub record SaysNothing (before trace after : List ℕ) : Type 0 where
  pub from : View
  pub cycles : List CycleInput
  pub begins : CanBeAudited before trace from cycles
  pub nothing : view_of after ≡ None

-- no member has its view
pub record HasNoMember (before trace after : List ℕ) : Type 0 where
  pub from : View
  pub cycles : List CycleInput
  pub to : View
  pub audited : IsAudited before trace after from cycles to
  pub none : (o : Outcome) → IsMember from cycles to o → ⊥

-- some have, and the report is the text of none of these; it differs from that of the first of them at this offset first
pub record DiffersAt (before trace after report : List ℕ) (offset : ℕ) : Type 0 where
  pub from : View
  pub cycles : List CycleInput
  pub to : View
  pub outcome : Outcome
  pub audited : IsAudited before trace after from cycles to
  pub member : IsFirstMember from cycles to outcome
  pub none : (o : Outcome) → IsMember from cycles to o → report ≢ text_with to o
  pub differs : first_difference report (text_with to outcome) ≡ Some offset

abbrev pub IsDifference : List ℕ → List ℕ → List ℕ → List ℕ → Difference → Type 0
IsDifference before trace after report Before = view_of before ≡ None
IsDifference before trace after report (Trace row) = FailsIn before trace row
IsDifference before trace after report (Stops found) = Forks before trace found
IsDifference before trace after report After = SaysNothing before trace after
IsDifference before trace after report Run = HasNoMember before trace after
IsDifference before trace after report (Report offset) = DiffersAt before trace after report offset

abbrev pub IsVerdict : List ℕ → List ℕ → List ℕ → List ℕ → Verdict → Type 0
IsVerdict before trace after report Agrees = Agree before trace after report
IsVerdict before trace after report (Differs d) = IsDifference before trace after report d
