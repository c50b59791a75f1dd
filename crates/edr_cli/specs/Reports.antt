-- `report`: what an image says, and the report of it.
use Rattle.std.specs.Prelude.{◌≡◌, ℕ, Some, None, List, [], IfSome}
use Rattle.edr_device.specs.declared.device.Nvm as device
use Rattle.edr_device.specs.declared.stream.Sink as sink
use Rattle.edr_device.specs.Faults.{Rose}
use Rattle.edr_image.specs.declared.OpenFault.TheVariants as open_fault
use Rattle.edr_image.specs.declared.OpenFault.{OpenFault}
use Rattle.edr_image.specs.Banks.{Store}
use Rattle.edr_image.specs.Image.{image_refusal}
use Rattle.edr_image.specs.Reports.{Report}
use Rattle.edr_words.specs.declared.Form.TheVariants.{Text, Table}
use Rattle.edr_words.specs.declared.Form.{Form}
use Rattle.edr_words.specs.declared.jobs.Job.TheVariants as job
use Rattle.edr_words.specs.Jobs.{job_of}
use Rattle.edr_report.specs.Report.{report_text, report_table}
use Rattle.edr_gates.specs.Found.{IsFound}
use Rattle.edr_replay.specs.Replayed.{IsShortOf}
use Rattle.edr_cli.specs.declared.fault.Fault.TheVariants as fault
use Rattle.edr_cli.specs.declared.fault.Fault.{Fault}
use Rattle.edr_cli.specs.declared.status.Status.{Status}
use Rattle.edr_cli.specs.Crashes.{KeepsBytes}
use Rattle.edr_cli.specs.Endings.{Ends, IsServed}
use Rattle.edr_cli.specs.Outside.{Memory, NoFault, OfMemory}

-- they ask for the report of what the image holds, in this form
abbrev pub AreReportWords : Form → List (List ℕ) → Type 0
AreReportWords form words = job_of words ≡ Some (job.Report form)

-- the bytes of the report of these cycles, banks and count
abbrev pub report_in : Form → List Report → Store → ℕ → List ℕ
report_in Text reports v n = report_text reports v n
report_in Table reports v n = report_table reports v n

-- the bytes that the device told say banks and a count, of which this is the report, and the device is found with them
pub record IsReported (form : Form) (image : List ℕ) (new : Memory) (text : List ℕ) : Type 0 where
  pub store : Store
  pub count : ℕ
  pub found : IsFound (record { store = store; count = count }) new.content new.settled image
  pub text_is : text ≡ report_in form [] store count

-- the same where the device tells its bytes
abbrev pub ReportIs : Form → Memory → Memory → List ℕ → Type 0
ReportIs form old new text = IfSome old.content (λ image. IsReported form image new text)

-- the image is refused for this reason, and the bytes stay
abbrev pub IsImageRefused : OpenFault → Memory → Memory → Type 0
IsImageRefused e old new = IfSome old.content (λ image. image_refusal image ≡ Some e) × (new.content ≡ old.content)

-- why there is no report of an image; the size of a short one is the device's, also where it tells no bytes
abbrev pub IsImageCause : Memory → Memory → Fault → Type 0
IsImageCause old new fault.Store = Rose old.faults new.faults
IsImageCause old new (fault.Short size needed) = IsImageRefused (open_fault.Short size needed) old new × IsShortOf old.size size needed
IsImageCause old new (fault.Header h) = IsImageRefused (open_fault.Header h) old new
IsImageCause old new fault.OutOfMemory = new.content ≡ old.content
IsImageCause old new other = ⊥

-- the report of what the device holds
pub record ShowsReport {K D : Type 0} (k : sink.Ghosts K) (d : device.Ghosts D) (form : Form) (status : Status)
    (sink sink' : K) (nvm nvm' : D) : Type 0 where
  pub ends : Ends k (OfMemory d (ReportIs form) nvm nvm') (OfMemory d IsImageCause nvm nvm') status sink sink'
  -- where nothing was pending, a crash at the end leaves the bytes as they were, whatever the status
  pub stays : KeepsBytes d nvm nvm'
  -- where nothing counts a fault, an image that isn't refused is reported
  pub complete : (image : List ℕ) → d.content nvm ≡ Some image → image_refusal image ≡ None
      → NoFault d.faults nvm nvm' → NoFault k.faults sink sink' → IsServed status

-- `report` shows it
abbrev pub ServesReport : {K D : Type 0} → sink.Ghosts K → device.Ghosts D → List (List ℕ) → Status → K → K → D → D → Type 0
ServesReport k d words status sink sink' nvm nvm' =
    (form : Form) → AreReportWords form words → ShowsReport k d form status sink sink' nvm nvm'
