-- Laws of runs with live lines.
use Rattle.std.proofs.Common.{◌≡◌, ◌∙◌, ℕ, ◌+◌, List, [], ◌∷◌, ◌++◌, ap, sym, length, map, refl, take}
use Rattle.std.specs.Prelude.{flat_map}
use Rattle.edr_items.specs.SensorLists.{SensorLists}
use Rattle.edr_definitions.specs.Commands.{Issue, commands}
use Rattle.edr_image.specs.Banks.{Store}
use Rattle.edr_image.specs.Reports.{Report, StartStopped, Ran}
use Rattle.edr_image.specs.Steps.{Reply, at_rest}
use Rattle.edr_spell.specs.declared.CycleInput.{CycleInput}
use Rattle.edr_run.specs.declared.live.LiveLine.{LiveLine}
use Rattle.edr_run.specs.Cycle.{IsRun, Outcome, issues_in, replies_in}
use Rattle.edr_run.specs.Schedule.{steps_of_first}
use Rattle.edr_run.proofs.ReplyLemmas.{first_replies}
use Rattle.edr_run.specs.Live.{IsLiveRun, live_lines_of, logs_told}

pub live-run-is : (i : ℕ) (cs : List CycleInput) (v : Store) (n : ℕ) (o : Outcome) (lines : List LiveLine) → IsLiveRun i cs v n o lines → IsRun cs v n o
live-run-is i [] v n o lines run = run.0
live-run-is i (c ∷ cs) v n o lines run =
    (run.0, run.1, run.2, run.3, live-run-is (i + 1) cs run.1.store run.1.count (record o { reports = run.3 }) run.4 run.5, run.6)

pub live-run-has : (i : ℕ) (cs : List CycleInput) (v : Store) (n : ℕ) (o : Outcome) → IsRun cs v n o → (lines : List LiveLine) × IsLiveRun i cs v n o lines
live-run-has i [] v n o run = ([], (run, refl))
live-run-has i (c ∷ cs) v n o run =
    let more = live-run-has (i + 1) cs run.1.store run.1.count (record o { reports = run.3 }) run.4 in
    (live_lines_of i c.feeds v run.1.report ++ more.0, (run.0, run.1, run.2, run.3, more.0, more.1, run.5, refl))

abbrev told : LiveLine → ℕ × ℕ
told l = (l.cycle, l.commands)

-- those of one cycle, and then those of the others
told_first : (i : ℕ) (f : SensorLists) (v : Store) (r : Report) (rs : List Report) (more : List LiveLine) → map told more ≡ logs_told (i + 1) rs → map told (live_lines_of i f v r ++ more) ≡ logs_told i (r ∷ rs)
told_first i f v (StartStopped j) rs more h = h
told_first i f v (Ran n stop log) rs more h = ap (λ (t : List (ℕ × ℕ)). (i, length log) ∷ t) h

pub live-lines-tell : (i : ℕ) (cs : List CycleInput) (v : Store) (n : ℕ) (o : Outcome) (lines : List LiveLine) → IsLiveRun i cs v n o lines → map told lines ≡ logs_told i o.reports
live-lines-tell i [] v n o lines run = ap (map told) run.1 ∙ sym (ap (λ (x : Outcome). logs_told i x.reports) run.0)
live-lines-tell i (c ∷ cs) v n o lines run =
    let more = live-lines-tell (i + 1) cs run.1.store run.1.count (record o { reports = run.3 }) run.4 run.5 in
    ap (map told) run.7 ∙ told_first i c.feeds v run.1.report run.3 run.4 more ∙ ap (logs_told i) (sym run.6)

-- the steps of the first replies are those of the first commands
pub steps-of-first : (f : SensorLists) (n : ℕ) (v : Store) (p : ℕ) → flat_map (λ (r : Reply). r.steps) (take p (replies_in f n v)) ≡ steps_of_first f n v p
unfolding commands
steps-of-first f n v p = ap (flat_map (λ (r : Reply). r.steps)) (first_replies (at_rest v) (map (λ (i : Issue). i.command) (issues_in f n)) p)
