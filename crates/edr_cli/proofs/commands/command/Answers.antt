use Rattle.std.proofs.Common.{◌≡◌, rules, inl, refl, ℕ}
use Rattle.edr_gen.specs.Traces.{generated_trace}
use Rattle.edr_image.specs.declared.Header.{Header}
use Rattle.edr_large.specs.Large.{AreLinesOf}
use Rattle.edr_words.specs.declared.Form.{Form}
use Rattle.edr_cli.specs.declared.fault.Fault.TheVariants as fault
use Rattle.edr_cli.specs.Texts.{IsNumberCause, MakesText, AreGenerateWords, AreLargeWords}
use Rattle.edr_cli.specs.Replays.{IsReplayCause, AreReplayWords}
use Rattle.edr_cli.specs.Words.{IsUsageCause}
use Rattle.edr_cli.specs.Formats.{Formats, AreFormatWords}
use Rattle.edr_cli.specs.Runs.{Runs, RunIs}
use Rattle.edr_cli.specs.Reports.{ShowsReport, AreReportWords}
use Rattle.edr_cli.proofs.DispatchLemmas.{as_format, as_generate, as_large, as_replay, as_report}
use Rattle.edr_cli.proofs.EndingLemmas.{ends_text, served_text, tells_fault, tells_fault_part}
use Rattle.edr_cli.proofs.AuditedLemmas.{audits_short}
use Rattle.edr_cli.proofs.OutcomeLemmas.{formats_short, makes_short, migrates_short, runs_short, shows_short, talks_short}
use Rattle.edr_cli.proofs.commands.command.Goals as goal

-- ---- memory ran out before the words were read

pub returns-in-Err-clause-usage : goal.returns-in-Err-clause-usage
returns-in-Err-clause-usage g c = λ other fine. tells_fault g.K.Sink IsUsageCause fault.OutOfMemory c.tell.result c.args.sink.now c.tell.new.sink tt c.tell.ensures.gains fine

pub returns-in-Err-clause-usage_part : goal.returns-in-Err-clause-usage_part
returns-in-Err-clause-usage_part g c = λ other failed. tells_fault_part g.K.Sink IsUsageCause fault.OutOfMemory c.tell.result c.args.sink.now c.tell.new.sink tt c.tell.ensures.gains failed

pub returns-in-Err-clause-replay : goal.returns-in-Err-clause-replay
returns-in-Err-clause-replay g c = λ form asked. runs_short g.S.Source g.K.Sink g.N.Nvm IsReplayCause (RunIs form) c.tell.result c.args.source.now c.args.sink.now c.tell.new.sink c.args.nvm.now (inl refl) c.tell.ensures.gains

pub returns-in-Err-clause-report : goal.returns-in-Err-clause-report
returns-in-Err-clause-report g c = λ form asked. shows_short g.K.Sink g.N.Nvm form c.tell.result c.args.sink.now c.tell.new.sink c.args.nvm.now c.tell.ensures.gains

pub returns-in-Err-clause-format : goal.returns-in-Err-clause-format
returns-in-Err-clause-format g c = λ h asked. formats_short g.K.Sink g.N.Nvm h c.tell.result c.args.sink.now c.tell.new.sink c.args.nvm.now c.tell.ensures.gains

pub returns-in-Err-clause-migrate : goal.returns-in-Err-clause-migrate
returns-in-Err-clause-migrate g c = λ asked. migrates_short g.S.Source g.K.Sink g.N.Nvm c.tell.result c.args.source.now c.args.sink.now c.tell.new.sink c.args.nvm.now c.tell.ensures.gains

pub returns-in-Err-clause-dialog : goal.returns-in-Err-clause-dialog
returns-in-Err-clause-dialog g c = λ asked. talks_short g.S.Source g.K.Sink g.N.Nvm c.tell.result c.args.source.now c.args.sink.now c.tell.new.sink c.args.nvm.now c.tell.ensures.gains

pub returns-in-Err-clause-audit : goal.returns-in-Err-clause-audit
returns-in-Err-clause-audit g c = λ asked. audits_short g.S.Source g.K.Sink g.N.Nvm c.tell.result c.args.source.now c.args.sink.now c.tell.new.sink c.args.nvm.now c.tell.ensures.gains

pub returns-in-Err-clause-generate : goal.returns-in-Err-clause-generate
returns-in-Err-clause-generate g c = λ number cycles asked. makes_short g.K.Sink (λ text. text ≡ generated_trace number cycles) c.tell.result c.args.sink.now c.tell.new.sink c.tell.ensures.gains

pub returns-in-Err-clause-large : goal.returns-in-Err-clause-large
returns-in-Err-clause-large g c = λ number cycles asked. makes_short g.K.Sink (AreLinesOf number cycles) c.tell.result c.args.sink.now c.tell.new.sink c.tell.ensures.gains

-- ---- each word

pub returns-in-Some-Replay-clause-replay : goal.returns-in-Some-Replay-clause-replay
returns-in-Some-Replay-clause-replay g c = λ form asked.
    let f = c.in-Some-Replay.form in
    let is : AreReplayWords f c.args.words.now = search rules in
    as_replay (λ (x : Form). Runs g.S.Source g.K.Sink g.N.Nvm IsReplayCause (RunIs x) c.serve_replay.result c.args.source.now c.serve_replay.new.source c.args.sink.now c.serve_replay.new.sink c.args.nvm.now c.serve_replay.new.nvm) c.args.words.now f form is c.serve_replay.ensures.runs asked

pub returns-in-Some-Report-clause-report : goal.returns-in-Some-Report-clause-report
returns-in-Some-Report-clause-report g c = λ form asked.
    let f = c.in-Some-Report.form in
    let is : AreReportWords f c.args.words.now = search rules in
    as_report (λ (x : Form). ShowsReport g.K.Sink g.N.Nvm x c.serve_report.result c.args.sink.now c.serve_report.new.sink c.args.nvm.now c.serve_report.new.nvm) c.args.words.now f form is c.serve_report.ensures.shows asked

pub returns-in-Some-Format-clause-format : goal.returns-in-Some-Format-clause-format
returns-in-Some-Format-clause-format g c = λ h asked.
    let f = c.in-Some-Format.header in
    let is : AreFormatWords f c.args.words.now = search rules in
    as_format (λ (x : Header). Formats g.K.Sink g.N.Nvm x c.serve_format.result c.args.sink.now c.serve_format.new.sink c.args.nvm.now c.serve_format.new.nvm) c.args.words.now f h is c.serve_format.ensures.formats asked

pub returns-in-Some-Generate-clause-generate : goal.returns-in-Some-Generate-clause-generate
returns-in-Some-Generate-clause-generate g c = λ number cycles asked.
    let n = c.in-Some-Generate.number in
    let k = c.in-Some-Generate.cycles in
    let is : AreGenerateWords n k c.args.words.now = search rules in
    let made : MakesText g.K.Sink (λ text. text ≡ generated_trace n k) c.serve_generate.result c.args.sink.now c.serve_generate.new.sink = record {
      ends = ends_text g.K.Sink (λ text. text ≡ generated_trace n k) IsNumberCause (generated_trace n k) c.serve_generate.result c.args.sink.now c.serve_generate.new.sink refl c.serve_generate.ensures.gains;
      complete = λ quiet. served_text g.K.Sink (generated_trace n k) c.serve_generate.result c.args.sink.now c.serve_generate.new.sink c.serve_generate.ensures.gains quiet;
    } in
    as_generate (λ (x y : ℕ). MakesText g.K.Sink (λ text. text ≡ generated_trace x y) c.serve_generate.result c.args.sink.now c.serve_generate.new.sink) c.args.words.now n number k cycles is made asked

pub returns-in-Some-Large-clause-large : goal.returns-in-Some-Large-clause-large
returns-in-Some-Large-clause-large g c = λ number cycles asked.
    let n = c.in-Some-Large.number in
    let k = c.in-Some-Large.cycles in
    let is : AreLargeWords n k c.args.words.now = search rules in
    as_large (λ (x y : ℕ). MakesText g.K.Sink (AreLinesOf x y) c.serve_large.result c.args.sink.now c.serve_large.new.sink) c.args.words.now n number k cycles is c.serve_large.ensures.makes asked

-- ---- other words

pub returns-in-Some-Drive-clause-usage : goal.returns-in-Some-Drive-clause-usage
returns-in-Some-Drive-clause-usage g c = λ other fine. tells_fault g.K.Sink IsUsageCause fault.Usage c.tell-in-Some-Drive.result c.args.sink.now c.tell-in-Some-Drive.new.sink tt c.tell-in-Some-Drive.ensures.gains fine

pub returns-in-Some-Drive-clause-usage_part : goal.returns-in-Some-Drive-clause-usage_part
returns-in-Some-Drive-clause-usage_part g c = λ other failed. tells_fault_part g.K.Sink IsUsageCause fault.Usage c.tell-in-Some-Drive.result c.args.sink.now c.tell-in-Some-Drive.new.sink tt c.tell-in-Some-Drive.ensures.gains failed
