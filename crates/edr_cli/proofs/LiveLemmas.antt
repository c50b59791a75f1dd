-- What the parts of a run by threads with live lines say of the whole.
use Rattle.std.proofs.Common.{◌≡◌, ◌∙◌, refl, sym, ap, inl, ℕ, ◌++◌, List, map, Option, Some, None, IfSome}
use Rattle.edr_image.specs.declared.log.CycleReport.{CycleReport}
use Rattle.edr_image.specs.Banks.{Store}
use Rattle.edr_image.specs.Image.{View}
use Rattle.edr_image.specs.Reports.{report_of}
use Rattle.edr_spell.specs.declared.CycleInput.{CycleInput}
use Rattle.edr_run.specs.declared.live.LiveLine.{LiveLine}
use Rattle.edr_run.specs.Cycle.{Outcome, IsRun}
use Rattle.edr_run.specs.Live.{IsLiveRun}
use Rattle.edr_run.proofs.LiveLaws.{live-run-is}
use Rattle.edr_run.proofs.LoggedLaws.{run-locks, run-done_later}
use Rattle.edr_run.proofs.OrderLaws.{run-kept, run-locked}
use Rattle.edr_run.proofs.OwnLaws.{run-own}
use Rattle.edr_words.specs.declared.Form.TheVariants.{Text}
use Rattle.edr_replay.specs.Live.{HasRunLive}
use Rattle.edr_replay.specs.Replayed.{HasRun}
use Rattle.edr_gates.specs.Found.{Holds, IsFound, Says}
use Rattle.edr_cli.specs.declared.fault.Fault.TheVariants as fault
use Rattle.edr_cli.specs.Lives.{LiveRunIs, ReportsLive, TheLiveRun, live_text}
use Rattle.edr_cli.specs.Outside.{Input, Memory}
use Rattle.edr_cli.specs.Reports.{report_in}
use Rattle.edr_cli.specs.Runs.{IsTraceOf}
use Rattle.edr_cli.specs.Steps.{IsDrivenCause, ReportsHeld}
use Rattle.edr_cli.proofs.ImageLemmas.{same_view}
use Rattle.edr_cli.proofs.ReplayLemmas.{Settled, same_report, short_all}

-- a run with live lines is a run
pub without_lines : (cs : List CycleInput) (old new : Memory) (reports : List CycleReport) (lines : List LiveLine)
    → HasRunLive cs old.content old.settled new.content new.settled reports lines → HasRun cs old.content old.settled new.content new.settled reports
unfolding HasRunLive HasRun
without_lines cs old new reports lines run = λ v n holds. let r = run v n holds in (r.0, live-run-is 1 cs v n r.0 lines r.1, r.2, r.3)

-- the banks that are opened after the run are those that it came to
pub live_reports : (cs : List CycleInput) (old mid new : Memory) (reports : List CycleReport) (lines : List LiveLine) (report text : List ℕ)
    → HasRunLive cs old.content old.settled mid.content mid.settled reports lines → new.content ≡ mid.content → ((i : ℕ) → new.settled i ≡ mid.settled i)
    → ReportsHeld Text (map report_of reports) mid report → text ≡ report ++ live_text lines → ReportsLive cs old new text
unfolding HasRunLive
live_reports cs old mid new reports lines report text run same settled told is = λ v n holds.
    let r = run v n holds in
    let o : Outcome = r.0 in
    let h : Holds mid.content mid.settled o.store o.count = r.3 in
    let there : Holds new.content new.settled o.store o.count = record {
      bytes = h.bytes;
      found = record { quiet = (same ∙ h.found.quiet.0, λ i. settled i ∙ h.found.quiet.1 i); view_is = h.found.view_is };
    } in
    let view = same_view _ _ (sym (told.2 h.bytes h.found.quiet.0) ∙ h.found.view_is) in
    let whole : report ≡ report_in Text o.reports o.store o.count =
    told.3 ∙ same_report Text reports o told.0 told.1 (sym r.2) (ap (λ (x : View). x.store) view) (ap (λ (x : View). x.count) view) in
    (o, lines, r.1, there, is ∙ ap (λ (t : List ℕ). t ++ live_text lines) whole)

-- the lines found no memory
pub lines_short : (cs : List CycleInput) (old mid new : Memory) (reports : List CycleReport) (lines : List LiveLine)
    → HasRunLive cs old.content old.settled mid.content mid.settled reports lines → new.content ≡ mid.content → ((i : ℕ) → new.settled i ≡ mid.settled i) → IsDrivenCause cs old new fault.OutOfMemory
lines_short cs old mid new reports lines run same settled = inl (short_all cs old mid new reports (without_lines cs old mid reports lines run) same settled)

-- the run with all that holds of it, and its lines
the_live_run : (bytes image : List ℕ) (new : Memory) (text : List ℕ) (cs : List CycleInput) (v : Store) (n : ℕ) (o : Outcome) (lines : List LiveLine)
    → IsTraceOf cs bytes → Says image v n → IsLiveRun 1 cs v n o lines → Holds new.content new.settled o.store o.count → text ≡ report_in Text o.reports o.store o.count ++ live_text lines
    → TheLiveRun bytes image new text
the_live_run bytes image new text cs v n o lines spelled says live held output =
    let run : IsRun cs v n o = live-run-is 1 cs v n o lines live in
    record {
      report = report_in Text o.reports o.store o.count;
      whole = record {
        cycles = cs;
        store = v;
        count = n;
        outcome = o;
        spelled = spelled;
        says = says;
        run = run;
        held = held;
        output = refl;
        own_window = λ kept. (run-kept cs v n o kept run, λ i e there. run-own cs v n i o e kept run there);
        leaves_locked = λ i e there locked. run-locked cs v n i o e run there locked;
        keeps_locked = λ k j m a. run-locks cs v n k a.number j m a.cycle a.stop a.log a.ack o run a.ran a.told a.stands a.is_lock a.is_locked;
        keeps_done = λ k j l m a done stands is_done later none. run-done_later cs v n k a.number j l m a.cycle a.stop a.log a.ack done o run a.ran a.told a.stands a.is_lock a.is_locked stands is_done later none;
      };
      lines = lines;
      live = live;
      output = output;
    }

-- the report of the run of what the source gave
pub live_replayed : (i : Input) (old mid new : Memory) (cs : List CycleInput) (v : Store) (n : ℕ) (text : List ℕ)
    → IfSome i.left (IsTraceOf cs) → Settled old mid v n → ReportsLive cs mid new text → LiveRunIs i old new text
live_replayed i old mid new cs v n text spelled settled reports = go i.left old.content spelled (λ image told. settled image told)
  where
    go : (left content : Option (List ℕ)) → IfSome left (IsTraceOf cs) → ((image : List ℕ) → content ≡ Some image → IsFound (record { store = v; count = n }) mid.content mid.settled image)
        → IfSome left (λ bytes. IfSome content (λ image. TheLiveRun bytes image new text))
    go None content spelled settled = tt
    go (Some bytes) None spelled settled = tt
    go (Some bytes) (Some image) spelled settled =
        let s = settled image refl in
        let held : Holds mid.content mid.settled v n = record { bytes = image; found = s } in
        let r = reports v n held in
        the_live_run bytes image new text cs v n r.0 r.1 spelled s.view_is r.2 r.3 r.4
