-- What the parts of a replay say of the whole.
use Rattle.std.proofs.Common.{◌≡◌, ◌∙◌, refl, sym, subst, ap, inl, inr, arith, ℕ, ◌≤◌, List, [], length, take, map, Option, Some, None, IfSome}
use Rattle.std.proofs.lemmas.List.{take_all}
use Rattle.edr_device.specs.Device.{IsQuiet, MayLeave, StillTells}
use Rattle.edr_device.specs.Faults.{Rose}
use Rattle.edr_device.proofs.SettlingLemmas.{quiet_leaves}
use Rattle.edr_image.specs.declared.OpenFault.{OpenFault}
use Rattle.edr_image.specs.declared.OpenFault.TheVariants as open_fault
use Rattle.edr_image.specs.declared.log.CycleReport.{CycleReport}
use Rattle.edr_image.specs.Banks.{Store}
use Rattle.edr_image.specs.Image.{View, image_refusal, view_of}
use Rattle.edr_image.specs.Reports.{report_of}
use Rattle.edr_spell.specs.declared.CycleInput.{CycleInput}
use Rattle.edr_run.specs.Cycle.{Outcome, IsRun}
use Rattle.edr_cycle.specs.declared.started.StartFault.{StartFault}
use Rattle.edr_cycle.specs.declared.started.StartFault.TheVariants as start
use Rattle.edr_cycle.specs.Starts.{IsDeviceFault}
use Rattle.edr_cli.specs.declared.fault.Fault.{Fault}
use Rattle.edr_cli.specs.declared.fault.Fault.TheVariants as fault
use Rattle.edr_words.specs.declared.Form.{Form}
use Rattle.edr_replay.specs.Reached.{RanFirst, between}
use Rattle.edr_replay.specs.Replayed.{HasRun, EndsShort, EndsSpent, IsShortOf, IsTrulyRefused, IsTrulyShort, LeavesReached}
use Rattle.edr_gates.specs.Found.{Holds, IsFound}
use Rattle.edr_cli.specs.Runs.{GaveTrace, IsSpent, LeavesRun, RanSome, ReachesByTrace, IsTraceOf, RunIs, TheRun}
use Rattle.edr_cli.specs.Reports.{IsImageCause, IsImageRefused, report_in}
use Rattle.edr_cli.specs.Replays.{IsReplayCause}
use Rattle.edr_cli.specs.Outside.{Input, IsAtEnd, Memory}
use Rattle.edr_cli.specs.Faults.{fault_of_start}
use Rattle.edr_cli.specs.Steps.{HeldNone, IsRunCause, Reports, ReportsHeld}
use Rattle.edr_cli.proofs.ImageLemmas.{same_view, says_refused, told_is}
use Rattle.edr_cli.proofs.RunLaws.{the_run}

-- ---- the run of cycles, and the banks after it

-- the run's fault is that of a call
pub start_cause : (cs : List CycleInput) (old new : Memory) (e : StartFault) → (IsDeviceFault e → Rose old.faults new.faults) → IsTrulyRefused old.content old.settled e
    → IsTrulyShort old.size e → EndsSpent cs old.content old.settled new.content new.settled e → LeavesReached cs old.content old.settled new.content new.settled → EndsShort cs old.content old.settled new.content new.settled e
    → IsRunCause cs old new (fault_of_start e)
unfolding IsTrulyRefused IsTrulyShort EndsSpent EndsShort
start_cause cs old new (start.Open (open_fault.Short size needed)) rose refused sizes spent left short = (refused (λ e. cc, λ e. cc), sizes size needed refl)
start_cause cs old new (start.Open (open_fault.Header h)) rose refused sizes spent left short = refused (λ e. cc, λ e. cc)
start_cause cs old new (start.Open open_fault.StoreFault) rose refused sizes spent left short = (rose refl, left)
start_cause cs old new (start.Open open_fault.OutOfMemory) rose refused sizes spent left short = short refl
start_cause cs old new start.Spent rose refused sizes spent left short = spent refl
start_cause cs old new start.StoreFault rose refused sizes spent left short = (rose tt, left)
start_cause cs old new start.OutOfMemory rose refused sizes spent left short = short tt

pub same_report : (form : Form) (reports : List CycleReport) (o : Outcome) (v : Store) (n : ℕ) → map report_of reports ≡ o.reports → v ≡ o.store → n ≡ o.count → report_in form (map report_of reports) v n ≡ report_in form o.reports o.store o.count
same_report form reports o v n a b c = cc

-- the banks that are opened after the run are those that it came to
pub run_reports : (form : Form) (cs : List CycleInput) (old mid new : Memory) (reports : List CycleReport) (text : List ℕ)
    → HasRun cs old.content old.settled mid.content mid.settled reports → new.content ≡ mid.content → ((i : ℕ) → new.settled i ≡ mid.settled i)
    → ReportsHeld form (map report_of reports) mid text → Reports form cs old new text
unfolding HasRun
run_reports form cs old mid new reports text run same settled told = λ v n holds.
    let r = run v n holds in
    let o : Outcome = r.0 in
    let h : Holds mid.content mid.settled o.store o.count = r.3 in
    let there : Holds new.content new.settled o.store o.count = record {
      bytes = h.bytes;
      found = record { quiet = (same ∙ h.found.quiet.0, λ i. settled i ∙ h.found.quiet.1 i); view_is = h.found.view_is };
    } in
    let view = same_view _ _ (sym (told.2 h.bytes h.found.quiet.0) ∙ h.found.view_is) in
    (o, r.1, there, told.3 ∙ same_report form reports o told.0 told.1 (sym r.2) (ap (λ (x : View). x.store) view) (ap (λ (x : View). x.count) view))

-- a device that held banks and a count before the run has an image after it that isn't refused
not_refused : (old mid : Memory) (cs : List CycleInput) (reports : List CycleReport) (e : OpenFault)
    → HasRun cs old.content old.settled mid.content mid.settled reports → IfSome mid.content (λ image. image_refusal image ≡ Some e) → HeldNone old
unfolding HasRun
not_refused old mid cs reports e run refused = λ v n holds.
    let r = run v n holds in
    let h : Holds mid.content mid.settled r.0.store r.0.count = r.3 in
    says_refused h.bytes r.0.store r.0.count e h.found.view_is (told_is (λ image. image_refusal image ≡ Some e) mid.content h.bytes h.found.quiet.0 refused)

-- all cycles ran, and nothing was changed after them
all_ran : (cs : List CycleInput) (old mid new : Memory) (reports : List CycleReport) → HasRun cs old.content old.settled mid.content mid.settled reports → new.content ≡ mid.content → ((i : ℕ) → new.settled i ≡ mid.settled i)
    → (v : Store) (n : ℕ) → Holds old.content old.settled v n → (o : Outcome) × RanFirst cs v n (length cs) o × Holds new.content new.settled o.store o.count
unfolding HasRun
all_ran cs old mid new reports run same settled = λ v n h.
    let r = run v n h in
    let all : take (length cs) cs ≡ cs = take_all (length cs) cs (omega arith) in
    let held : Holds mid.content mid.settled r.0.store r.0.count = r.3 in (
      r.0,
      record { within = omega arith; run = subst (λ (xs : List CycleInput). IsRun xs v n r.0) (sym all) r.1 },
      record { bytes = held.bytes; found = record { quiet = (same ∙ held.found.quiet.0, λ i. settled i ∙ held.found.quiet.1 i); view_is = held.found.view_is } },
    )

leaves_all : (cs : List CycleInput) (old mid new : Memory) (reports : List CycleReport) → HasRun cs old.content old.settled mid.content mid.settled reports → new.content ≡ mid.content → ((i : ℕ) → new.settled i ≡ mid.settled i)
    → LeavesReached cs old.content old.settled new.content new.settled
unfolding LeavesReached
leaves_all cs old mid new reports run same settled = λ v n h image may.
    let r = all_ran cs old mid new reports run same settled v n h in
    let held : Holds new.content new.settled r.0.store r.0.count = r.2 in
    let is = quiet_leaves held.bytes new.content new.settled image held.found.quiet may in
    (record { store = r.0.store; count = r.0.count }, ap view_of is ∙ held.found.view_is, between (length cs) r.0 r.1 refl refl)

pub short_all : (cs : List CycleInput) (old mid new : Memory) (reports : List CycleReport) → HasRun cs old.content old.settled mid.content mid.settled reports → new.content ≡ mid.content → ((i : ℕ) → new.settled i ≡ mid.settled i)
    → IsRunCause cs old new fault.OutOfMemory
short_all cs old mid new reports run same settled = λ v n h. let r = all_ran cs old mid new reports run same settled v n h in (length cs, r.0, r.1, r.2)

same_size : (a b size needed : ℕ) → b ≡ a → IsShortOf b size needed → IsShortOf a size needed
same_size a b size needed same short = subst (λ (n : ℕ). IsShortOf n size needed) same short

-- why the banks were not opened after the run
pub report_cause : (cs : List CycleInput) (old mid new : Memory) (reports : List CycleReport) (f : Fault)
    → HasRun cs old.content old.settled mid.content mid.settled reports → new.content ≡ mid.content → ((i : ℕ) → new.settled i ≡ mid.settled i) → mid.size ≡ old.size → old.faults ≤ mid.faults → IsImageCause mid new f → IsRunCause cs old new f
report_cause cs old mid new reports fault.Store run same settled long later cause = (rose_later old.faults mid.faults new.faults later cause, leaves_all cs old mid new reports run same settled)
  where
    rose_later : (a b c : ℕ) → a ≤ b → Rose b c → Rose a c
    rose_later a b c le rose = grind (arith, le, rose)
report_cause cs old mid new reports (fault.Short size needed) run same settled long later cause = (not_refused old mid cs reports (open_fault.Short size needed) run cause.0.0, same_size old.size mid.size size needed long cause.1)
report_cause cs old mid new reports (fault.Header h) run same settled long later cause = not_refused old mid cs reports (open_fault.Header h) run cause.0
report_cause cs old mid new reports fault.OutOfMemory run same settled long later cause = short_all cs old mid new reports run same settled
report_cause cs old mid new reports other run same settled long later cause = absurd cause

-- ---- the whole

-- what the barrier and the look at the image say of the device
abbrev pub Settled : Memory → Memory → Store → ℕ → Type 0
Settled old mid v n = (image : List ℕ) → old.content ≡ Some image → IsFound (record { store = v; count = n }) mid.content mid.settled image

-- the report of the run of what the source gave
pub replayed : (form : Form) (i : Input) (old mid new : Memory) (cs : List CycleInput) (v : Store) (n : ℕ) (text : List ℕ)
    → IfSome i.left (IsTraceOf cs) → Settled old mid v n → Reports form cs mid new text → RunIs form i old new text
replayed form i old mid new cs v n text spelled settled reports = go i.left old.content spelled (λ image told. settled image told)
  where
    go : (left content : Option (List ℕ)) → IfSome left (IsTraceOf cs) → ((image : List ℕ) → content ≡ Some image → IsFound (record { store = v; count = n }) mid.content mid.settled image)
        → IfSome left (λ bytes. IfSome content (λ image. TheRun form bytes image new text))
    go None content spelled settled = tt
    go (Some bytes) None spelled settled = tt
    go (Some bytes) (Some image) spelled settled =
        let s = settled image refl in
        let held : Holds mid.content mid.settled v n = record { bytes = image; found = s } in
        let r = reports v n held in
        the_run form bytes image new text cs v n r.0 spelled s.view_is r.1 r.2 r.3

gave : (i i' : Input) (cs : List CycleInput) → IfSome i.left (IsTraceOf cs) → IsAtEnd i'.left → GaveTrace i i'
gave i i' cs spelled end = (go i.left spelled, end) where
  go : (left : Option (List ℕ)) → IfSome left (IsTraceOf cs) → IfSome left (λ bytes. (cycles : List CycleInput) × IsTraceOf cycles bytes)
  go None spelled = tt
  go (Some bytes) spelled = (cs, spelled)

-- the image was not opened
pub look_cause : (i i' : Input) (old new : Memory) (cs : List CycleInput) (f : Fault) → IfSome i.left (IsTraceOf cs) → IsAtEnd i'.left → ((bytes image : List ℕ) → IsQuiet old.content old.settled bytes → MayLeave new.content new.settled image → image ≡ bytes) → LeavesRun i old new
    → IsImageCause old new f → IsReplayCause i i' old new f
look_cause i i' old new cs fault.Store spelled end stays left cause = (gave i i' cs spelled end, cause, left)
look_cause i i' old new cs (fault.Short size needed) spelled end stays left cause = (gave i i' cs spelled end, cause)
look_cause i i' old new cs (fault.Header h) spelled end stays left cause = (gave i i' cs spelled end, cause)
look_cause i i' old new cs fault.OutOfMemory spelled end stays left cause = inl cause
look_cause i i' old new cs other spelled end stays left cause = absurd cause

-- after a look that passed no image is refused, so the device tells none
none_refused : (old mid new : Memory) (v : Store) (n : ℕ) (e : OpenFault) → Settled old mid v n → StillTells old.content new.content → HeldNone mid → IsImageRefused e old new
none_refused old mid new v n e settled tells none = go old.content new.content tells (λ image told. settled image told)
  where
    go : (content content' : Option (List ℕ)) → StillTells content content' → ((image : List ℕ) → content ≡ Some image → IsFound (record { store = v; count = n }) mid.content mid.settled image)
        → IfSome content (λ image. image_refusal image ≡ Some e) × (content' ≡ content)
    go None None tells settled = (tt, refl)
    go None (Some b) tells settled = absurd tells
    go (Some image) content' tells settled =
        let s = settled image refl in
        let held : Holds mid.content mid.settled v n = record { bytes = image; found = s } in
        absurd (none v n held)

some_view : (o : Option View) (v : View) → o ≡ None → o ≡ Some v → ⊥
some_view o v a b = cc

if_spelled : (left : Option (List ℕ)) (cs : List CycleInput) (P : List ℕ → Type 0) → ((trace : List ℕ) → IsTraceOf cs trace → P trace) → IfSome left (IsTraceOf cs) → IfSome left P
if_spelled None cs P make spelled = tt
if_spelled (Some trace) cs P make spelled = make trace spelled

-- what a fault in the run leaves of the device
leaves_run : (i : Input) (old mid new : Memory) (cs : List CycleInput) (v : Store) (n : ℕ) → IfSome i.left (IsTraceOf cs) → Settled old mid v n → LeavesReached cs mid.content mid.settled new.content new.settled → LeavesRun i old new
unfolding LeavesReached
leaves_run i old mid new cs v n spelled settled left = λ bytes image quiet may.
    let s = settled bytes quiet.0 in
    let held : Holds mid.content mid.settled v n = record { bytes = bytes; found = s } in
    let r = left v n held image may in (
      (λ none. absurd (some_view (view_of bytes) (record { store = v; count = n }) none s.view_is)),
      (λ w says. let same : ◌≡◌ {A = View} (record { store = v; count = n }) w = same_view _ _ (sym s.view_is ∙ says) in
          subst (λ (x : View). IfSome i.left (λ trace. ReachesByTrace trace x image)) same
          (if_spelled i.left cs (λ trace. ReachesByTrace trace (record { store = v; count = n }) image) (λ trace is. record { cycles = cs; spelled = is.1; view = r.0; view_is = r.1; reached = r.2 }) spelled)),
    )

-- before the run nothing was changed
pub leaves_none : (i : Input) (old new : Memory) (cs : List CycleInput) → IfSome i.left (IsTraceOf cs) → ((bytes image : List ℕ) → IsQuiet old.content old.settled bytes → MayLeave new.content new.settled image → image ≡ bytes) → LeavesRun i old new
leaves_none i old new cs spelled stays = λ bytes image quiet may.
    let same = stays bytes image quiet may in (
      (λ none. same),
      (λ w says. if_spelled i.left cs (λ trace. ReachesByTrace trace w image)
          (λ trace is. record { cycles = cs; spelled = is.1; view = w; view_is = ap view_of same ∙ says; reached = between 0 (record { reports = []; store = w.store; count = w.count }) (record { within = omega arith; run = refl }) refl refl }) spelled),
    )

-- the cycles were not run to the end, or not reported
pub run_replay : (i i' : Input) (old mid new : Memory) (cs : List CycleInput) (v : Store) (n : ℕ) (f : Fault) → IfSome i.left (IsTraceOf cs) → IsAtEnd i'.left → Settled old mid v n
    → StillTells old.content new.content → mid.size ≡ old.size → old.faults ≤ mid.faults → IsRunCause cs mid new f → IsReplayCause i i' old new f
run_replay i i' old mid new cs v n fault.Store spelled end settled tells size later cause = (gave i i' cs spelled end, rose_later old.faults mid.faults new.faults later cause.0, leaves_run i old mid new cs v n spelled settled cause.1)
  where
    rose_later : (a b c : ℕ) → a ≤ b → Rose b c → Rose a c
    rose_later a b c le rose = grind (arith, le, rose)
run_replay i i' old mid new cs v n (fault.Short size needed) spelled end settled tells same later cause =
    (gave i i' cs spelled end, (none_refused old mid new v n (open_fault.Short size needed) settled tells cause.0, same_size old.size mid.size size needed same cause.1))
run_replay i i' old mid new cs v n (fault.Header h) spelled end settled tells size later cause =
    (gave i i' cs spelled end, none_refused old mid new v n (open_fault.Header h) settled tells cause)
run_replay i i' old mid new cs v n fault.Spent spelled end settled tells size later cause = (go i.left old.content spelled (λ image told. settled image told), end)
  where
    go : (left content : Option (List ℕ)) → IfSome left (IsTraceOf cs) → ((image : List ℕ) → content ≡ Some image → IsFound (record { store = v; count = n }) mid.content mid.settled image)
        → IfSome left (λ bytes. IfSome content (λ image. IsSpent bytes image new))
    go None content spelled settled = tt
    go (Some bytes) None spelled settled = tt
    go (Some bytes) (Some image) spelled settled =
        let s = settled image refl in
        let held : Holds mid.content mid.settled v n = record { bytes = image; found = s } in
        let r = cause v n held in
        record { cycles = cs; store = v; count = n; outcome = r.0; spelled = spelled; says = s.view_is; ran = r.1; held = r.2 }
run_replay i i' old mid new cs v n fault.OutOfMemory spelled end settled tells size later cause = inr (go i.left old.content spelled (λ image told. settled image told))
  where
    go : (left content : Option (List ℕ)) → IfSome left (IsTraceOf cs) → ((image : List ℕ) → content ≡ Some image → IsFound (record { store = v; count = n }) mid.content mid.settled image)
        → IfSome left (λ bytes. IfSome content (λ image. RanSome bytes image new))
    go None content spelled settled = tt
    go (Some bytes) None spelled settled = tt
    go (Some bytes) (Some image) spelled settled =
        let s = settled image refl in
        let held : Holds mid.content mid.settled v n = record { bytes = image; found = s } in
        let r = cause v n held in
        record { cycles = cs; store = v; count = n; p = r.0; outcome = r.1; spelled = spelled; says = s.view_is; ran = r.2; held = r.3 }
run_replay i i' old mid new cs v n other spelled end settled tells size later cause = absurd cause
