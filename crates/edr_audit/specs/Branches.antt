-- What is kept of the members of Outcomes: banks, a count, and how far the text of the reports so far is that of the report.
use Rattle.std.specs.Prelude.{ℕ, ◌+◌, nat_eq, nat_lt, nat_le, if◌then◌else◌, Option, Some, None, List, [], ◌∷◌, ◌++◌, map, fold, filter, flat_map, codes, decimal}
use Rattle.std.specs.List.{enumerate_from}
use Rattle.edr_items.specs.SensorLists.{SensorLists}
use Rattle.edr_record.specs.Parts.{PrePart}
use Rattle.edr_record.specs.declared.Command.{Command}
use Rattle.edr_record.specs.declared.Command.TheVariants.{Take, Lock, Done}
use Rattle.edr_definitions.specs.Commands.{Issue}
use Rattle.edr_image.specs.declared.BankView.{BankView}
use Rattle.edr_image.specs.declared.Header.{Header}
use Rattle.edr_image.specs.Banks.{Store}
use Rattle.edr_image.specs.Steps.{reply_to}
use Rattle.edr_spell.specs.declared.CycleInput.{CycleInput}
use Rattle.edr_run.specs.Cycle.{End, Outcome, ack_of, ends, issues_in, last_count, start_ends}
use Rattle.edr_report.specs.Lines.{Line, line, text_line, text_of}
use Rattle.edr_report.specs.Report.{ack_line, cycle_lines, run_lines}
use Rattle.edr_report.specs.Words.{cycle_words, stop_words}
use Rattle.edr_audit.specs.declared.compared.Compared.{Compared}
use Rattle.edr_audit.specs.declared.compared.Compared.TheVariants.{Same}
use Rattle.edr_audit.specs.Compared.{compare}
use Rattle.edr_audit.specs.Walk.{WalkState, state_in, walk_command}

-- ---- branches

pub record BranchState : Type 0 where
  pub banks : List BankView
  pub count : ℕ
  pub text : Compared

-- what is kept of an outcome
abbrev pub branch_of : List ℕ → Outcome → BranchState
branch_of report o = record { banks = o.store.banks; count = o.count; text = compare report (Same 0) (text_of (run_lines 1 o.reports)) }

-- what becomes of a branch by an end of the cycle in this place of the run
abbrev pub branch_after : List ℕ → ℕ → BranchState → End → BranchState
branch_after report place b e = record { banks = e.store.banks; count = e.count; text = compare report b.text (text_of (cycle_lines place e.report)) }

-- the banks of a branch with their header
abbrev pub store_in : Header → BranchState → Store
store_in h b = record { header = h; banks = b.banks }

-- what becomes of a branch by that cycle
abbrev pub branches_after : List ℕ → Header → ℕ → CycleInput → BranchState → List BranchState
branches_after report h place c b =
    if nat_lt b.count last_count then map (branch_after report place b) (ends c (store_in h b) b.count) else []

-- and of branches by the cycles from that place on
abbrev pub all_branches : List ℕ → Header → ℕ → List CycleInput → List BranchState → List BranchState
all_branches report h place cs bs = fold (λ bs c. flat_map (branches_after report h c.0 c.1) bs) bs (enumerate_from place cs)

-- ---- a branch that takes the commands of a cycle

-- the cycle's number; the walk; and the texts so far, as they are if the cycle takes all its steps, and if its stop is reached
pub record WalkerState : Type 0 where
  pub number : ℕ
  pub walk : WalkState
  pub off : Compared
  pub cut : Compared

-- with one more line
abbrev pub compare_line : List ℕ → Compared → Line → Compared
compare_line report c l = compare report c (text_line l)

-- the same where no stop was reached
abbrev pub compare_unless : List (List BankView) → List ℕ → Compared → Line → Compared
compare_unless [] report c l = compare_line report c l
compare_unless (e ∷ es) report c l = c

-- with this walk past an issue
abbrev pub walker_with : List ℕ → Line → WalkerState → WalkState → WalkerState
walker_with report l w walk = record {
  number = w.number;
  walk = walk;
  off = compare_unless walk.ends report w.off l;
  cut = compare_unless walk.ends report w.cut l;
}

-- the line of an issue's acknowledgement
abbrev pub line_after : Header → ℕ → WalkState → Issue → Line
line_after h place walk i = ack_line place (ack_of i (reply_to (state_in h walk) i.command))

-- past an issue
abbrev pub walker_past : List ℕ → Header → ℕ → WalkerState → Issue → WalkerState
walker_past report h place w i = walker_with report (line_after h place w.walk i) w (walk_command h w.walk i.command)

-- a pre part, and a command, of the cycle with this number
abbrev pub numbered_pre : ℕ → PrePart → PrePart
numbered_pre n p = record p { key = record p.key { cycle = n } }

abbrev pub numbered_command : ℕ → Command → Command
numbered_command n (Take pre) = Take (numbered_pre n pre)
numbered_command n (Lock pre) = Lock (numbered_pre n pre)
numbered_command n (Done crash) = Done crash

abbrev pub numbered : ℕ → Issue → Issue
numbered n i = record { tick = i.tick; command = numbered_command n i.command }

-- past an issue that carries the number of another cycle
abbrev pub walker_next : List ℕ → Header → ℕ → WalkerState → Issue → WalkerState
walker_next report h place w i = walker_past report h place w (numbered w.number i)

-- the first line of a cycle that ran
abbrev pub head_line : ℕ → ℕ → Option ℕ → Line
head_line place n stop = line 0 (cycle_words place) (codes "number " ++ decimal n ++ codes ", " ++ stop_words stop)

abbrev pub planned : ℕ → Option ℕ
planned k = if nat_eq k 0 then None else Some k

-- at the start of the commands of a cycle with the stop k
abbrev pub walker_of : List ℕ → ℕ → ℕ → BranchState → WalkerState
walker_of report place k b = record {
  number = b.count + 1;
  walk = record { banks = b.banks; held = None; left = planned k; ends = [] };
  off = compare_line report b.text (head_line place (b.count + 1) None);
  cut = compare_line report b.text (head_line place (b.count + 1) (Some k));
}

abbrev pub branch_with : ℕ → Compared → List BankView → BranchState
branch_with n text banks = record { banks = banks; count = n; text = text }

-- what it comes to
abbrev pub ends_of_walk : WalkerState → List (List BankView) → List BranchState
ends_of_walk w [] = branch_with w.number w.off w.walk.banks ∷ []
ends_of_walk w (e ∷ es) = map (branch_with w.number w.cut) (e ∷ es)

abbrev pub walked : WalkerState → List BranchState
walked w = ends_of_walk w w.walk.ends

-- past all issues of a cycle, which carry the number 1
abbrev pub walker_through : List ℕ → Header → ℕ → SensorLists → WalkerState → WalkerState
walker_through report h place f w = fold (walker_next report h place) w (issues_in f 1)

-- walkers past those of issues that are issued by the tick t
abbrev pub all_past : List ℕ → Header → ℕ → ℕ → List Issue → List WalkerState → List WalkerState
all_past report h place t is ws = map (λ w. fold (walker_next report h place) w (filter (λ i. nat_le i.tick t) is)) ws

-- the walker of a branch, if it has a number left
abbrev pub walkers_of : List ℕ → ℕ → ℕ → BranchState → List WalkerState
walkers_of report place k b = if nat_lt b.count last_count then walker_of report place k b ∷ [] else []

-- what becomes of a branch by a start that is stopped in this call
abbrev pub stopped_branches : List ℕ → Header → ℕ → ℕ → BranchState → List BranchState
stopped_branches report h place j b =
    if nat_lt b.count last_count then map (branch_after report place b) (start_ends j (store_in h b) b.count) else []
