-- What becomes of walkers and branches where a text is told.
use Rattle.std.specs.Prelude.{◌≡◌, ℕ, List, Vec, flat_map, map}
use Rattle.std.specs.declared.alloc.Global.{Global}
use Rattle.edr_items.specs.SensorLists.{SensorLists}
use Rattle.edr_record.specs.declared.Command.{Command}
use Rattle.edr_definitions.specs.Commands.{Issue}
use Rattle.edr_spell.specs.declared.CycleInput.{CycleInput}
use Rattle.edr_audit.specs.declared.events.CycleIssues.{CycleIssues}
use Rattle.edr_audit.specs.declared.walker.Telling.{Telling}
use Rattle.edr_audit.specs.Branches.{BranchState, WalkerState, all_past, branches_after, stopped_branches, walker_next, walker_past, walker_through, walkers_of}

-- a command that is issued at this tick
abbrev pub issue_at : ℕ → Command → Issue
issue_at tick command = record { tick = tick; command = command }

-- ---- walkers

-- past an issue of its own cycle
abbrev pub past_own : Telling → WalkerState → Issue → WalkerState
past_own t w i = walker_past t.report.now t.header t.place w i

-- past an issue that carries the number of another cycle
abbrev pub past_any : Telling → WalkerState → Issue → WalkerState
past_any t w i = walker_next t.report.now t.header t.place w i

-- all of them took those of these issues that are issued by the cycle's horizon
abbrev pub ArePast : List Issue → CycleIssues → Vec WalkerState Global → Vec WalkerState Global → Type 0
ArePast is c old new = new.items ≡ all_past c.telling.report.now c.telling.header c.telling.place c.horizon is old.items

-- all of them past the issues of a cycle
abbrev pub walkers_through : Telling → SensorLists → List WalkerState → List WalkerState
walkers_through t f ws = map (walker_through t.report.now t.header t.place f) ws

-- ---- branches

-- the walkers at the start of a cycle's commands
abbrev pub walkers_at_start : Telling → ℕ → List BranchState → List WalkerState
walkers_at_start t stop bs = flat_map (walkers_of t.report.now t.place stop) bs

-- past a cycle
abbrev pub branches_past : Telling → CycleInput → List BranchState → List BranchState
branches_past t c bs = flat_map (branches_after t.report.now t.header t.place c) bs

-- one past a start that is stopped in this call, and all of them
abbrev pub stopped_in : Telling → ℕ → BranchState → List BranchState
stopped_in t call b = stopped_branches t.report.now t.header t.place call b

abbrev pub all_stopped_in : Telling → ℕ → List BranchState → List BranchState
all_stopped_in t call bs = flat_map (stopped_branches t.report.now t.header t.place call) bs
