-- Which words name which job.
use Rattle.std.specs.Prelude.{ℕ, ◌≤◌, nat_le, ◌&&◌, if◌then◌else◌, Option, Some, None, option_map, option_and_then, List, [], ◌∷◌, bytes_eq, codes}
use Rattle.std.specs.List.{list_all}
use Rattle.edr_text.specs.Numbers.{within_u64, natural_in}
use Rattle.edr_image.specs.declared.Choice.{Choice}
use Rattle.edr_image.specs.declared.Choice.TheVariants.{Keep, Overwrite}
use Rattle.edr_image.specs.declared.places.TheConstants.{FEWEST_BANKS, MOST_BANKS}
use Rattle.edr_words.specs.declared.Form.{Form}
use Rattle.edr_words.specs.declared.Form.TheVariants.{Text, Table}
use Rattle.edr_words.specs.declared.jobs.Job.{Job}
use Rattle.edr_words.specs.declared.jobs.Job.TheVariants.{Format, Replay, Report, Drive, DriveLive, Generate, Large, Migrate, Dialog, Fleet, Audit}
use Rattle.edr_words.specs.Arguments.{PlainText, at_most_one, is_plain, one_or_two, two}

-- ---- what a word stands for

-- a form
unfoldable pub form_in : PlainText → Option Form
form_in word =
    if bytes_eq word (codes "text") then Some Text
    else if bytes_eq word (codes "csv") then Some Table
    else None

-- a choice
unfoldable pub choice_in : PlainText → Option Choice
choice_in word =
    if bytes_eq word (codes "keep") then Some Keep
    else if bytes_eq word (codes "overwrite") then Some Overwrite
    else None

-- a number from `least` to `most`
abbrev pub bounded_number : ℕ → ℕ → Option ℕ → Option ℕ
bounded_number least most None = None
bounded_number least most (Some n) = if nat_le least n && nat_le n most then Some n else None

unfoldable pub within : ℕ → ℕ → PlainText → Option ℕ
within least most word = bounded_number least most (natural_in word)

-- the number of a trace, which is below 2 ^ 64
unfoldable pub number_in : PlainText → Option ℕ
number_in word = option_and_then within_u64 (natural_in word)

-- ---- the arguments of the words

-- B C
abbrev pub format_with : Option ℕ → Option Choice → Option Job
format_with None choice = None
format_with (Some banks) None = None
format_with (Some banks) (Some choice) = Some (Format (record { banks = banks; choice = choice }))

abbrev pub format_job : Option (PlainText × PlainText) → Option Job
format_job None = None
format_job (Some p) = format_with (within FEWEST_BANKS MOST_BANKS p.0) (choice_in p.1)

-- [F]: without it the form is the text
abbrev pub form_of : Option (Option PlainText) → Option Form
form_of None = None
form_of (Some None) = Some Text
form_of (Some (Some word)) = form_in word

abbrev pub replay_job : Option (Option PlainText) → Option Job
replay_job form = option_map (λ f. Replay f) (form_of form)

abbrev pub report_job : Option (Option PlainText) → Option Job
report_job form = option_map (λ f. Report f) (form_of form)

-- the word after W: `live` is no form
unfoldable pub drive_as : ℕ → PlainText → Option Job
drive_as workers word =
    if bytes_eq word (codes "live") then Some (DriveLive workers)
    else option_map (λ f. Drive workers f) (form_in word)

-- W [F] and W live: there are 1 to 8 workers
abbrev pub drive_with : Option ℕ → Option PlainText → Option Job
drive_with None word = None
drive_with (Some workers) None = Some (Drive workers Text)
drive_with (Some workers) (Some word) = drive_as workers word

abbrev pub drive_job : Option (PlainText × Option PlainText) → Option Job
drive_job None = None
drive_job (Some p) = drive_with (within 1 8 p.0) p.1

-- N M: a number, and 1 to 60 cycles
abbrev pub both : Option ℕ → Option ℕ → Option (ℕ × ℕ)
both None cycles = None
both (Some number) None = None
both (Some number) (Some cycles) = Some (number, cycles)

abbrev pub trace_of : Option (PlainText × PlainText) → Option (ℕ × ℕ)
trace_of None = None
trace_of (Some p) = both (number_in p.0) (within 1 60 p.1)

abbrev pub generate_job : Option (PlainText × PlainText) → Option Job
generate_job arguments = option_map (λ t. Generate t.0 t.1) (trace_of arguments)

abbrev pub large_job : Option (PlainText × PlainText) → Option Job
large_job arguments = option_map (λ t. Large t.0 t.1) (trace_of arguments)

-- no argument, for this job
abbrev pub bare_job : Job → List PlainText → Option Job
bare_job job [] = Some job
bare_job job (argument ∷ more) = None

-- W
abbrev pub fleet_job : Option (Option PlainText) → Option Job
fleet_job None = None
fleet_job (Some None) = None
fleet_job (Some (Some workers)) = option_map (λ w. Fleet w) (within 1 8 workers)

-- ---- the table of words

abbrev pub job_after : PlainText → List PlainText → Option Job
job_after word arguments =
    if bytes_eq word (codes "format") then format_job (two arguments)
    else if bytes_eq word (codes "replay") then replay_job (at_most_one arguments)
    else if bytes_eq word (codes "report") then report_job (at_most_one arguments)
    else if bytes_eq word (codes "drive") then drive_job (one_or_two arguments)
    else if bytes_eq word (codes "generate") then generate_job (two arguments)
    else if bytes_eq word (codes "large") then large_job (two arguments)
    else if bytes_eq word (codes "migrate") then bare_job Migrate arguments
    else if bytes_eq word (codes "dialog") then bare_job Dialog arguments
    else if bytes_eq word (codes "fleet") then fleet_job (at_most_one arguments)
    else if bytes_eq word (codes "audit") then bare_job Audit arguments
    else None

-- the job that a list of words names, if it names one; a word that begins with `-` is in no line of the table
abbrev pub job_of : List PlainText → Option Job
job_of [] = None
job_of (word ∷ arguments) = if list_all is_plain arguments then job_after word arguments else None

-- the numbers of a job lie in their bounds
abbrev pub IsWithin : Job → Type 0
IsWithin (Format header) = (FEWEST_BANKS ≤ header.banks) × (header.banks ≤ MOST_BANKS)
IsWithin (Replay form) = Unit {0}
IsWithin (Report form) = Unit {0}
IsWithin (Drive workers form) = (1 ≤ workers) × (workers ≤ 8)
IsWithin (DriveLive workers) = (1 ≤ workers) × (workers ≤ 8)
IsWithin (Generate number cycles) = (1 ≤ cycles) × (cycles ≤ 60)
IsWithin (Large number cycles) = (1 ≤ cycles) × (cycles ≤ 60)
IsWithin Migrate = Unit {0}
IsWithin Dialog = Unit {0}
IsWithin (Fleet workers) = (1 ≤ workers) × (workers ≤ 8)
IsWithin Audit = Unit {0}
