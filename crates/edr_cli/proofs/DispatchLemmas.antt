-- Words ask for one thing.
use Rattle.std.proofs.Common.{◌≡◌, ◌∙◌, sym, subst, ℕ, List, Option, Some}
use Rattle.edr_image.specs.declared.Header.{Header}
use Rattle.edr_words.specs.declared.Form.{Form}
use Rattle.edr_words.specs.declared.jobs.Job.{Job}
use Rattle.edr_words.specs.declared.jobs.Job.TheVariants.{Drive, Format, Generate, Large, Replay, Report}
use Rattle.edr_cli.specs.Drives.{AreDrive}
use Rattle.edr_cli.specs.Formats.{AreFormatWords}
use Rattle.edr_cli.specs.Texts.{AreGenerateWords, AreLargeWords}
use Rattle.edr_cli.specs.Replays.{AreReplayWords}
use Rattle.edr_cli.specs.Reports.{AreReportWords}

-- what holds of what they ask for holds of each that they ask for
pub as_replay : (P : Form → Type 0) (words : List (List ℕ)) (f h : Form) → AreReplayWords f words → P f → AreReplayWords h words → P h
as_replay P words f h a p b = subst P (go f h (sym a ∙ b)) p where
  go : (f h : Form) → ◌≡◌ {A = Option Job} (Some (Replay f)) (Some (Replay h)) → f ≡ h
  go f h e = cc

pub as_report : (P : Form → Type 0) (words : List (List ℕ)) (f h : Form) → AreReportWords f words → P f → AreReportWords h words → P h
as_report P words f h a p b = subst P (go f h (sym a ∙ b)) p where
  go : (f h : Form) → ◌≡◌ {A = Option Job} (Some (Report f)) (Some (Report h)) → f ≡ h
  go f h e = cc

pub as_format : (P : Header → Type 0) (words : List (List ℕ)) (f h : Header) → AreFormatWords f words → P f → AreFormatWords h words → P h
as_format P words f h a p b = subst P (go f h (sym a ∙ b)) p where
  go : (f h : Header) → ◌≡◌ {A = Option Job} (Some (Format f)) (Some (Format h)) → f ≡ h
  go f h e = cc

pub as_drive : (P : Form → Type 0) (words : List (List ℕ)) (f h : Form) (v w : ℕ) → AreDrive f v words → P f → AreDrive h w words → P h
as_drive P words f h v w a p b = subst P (go f h v w (sym a ∙ b)) p where
  go : (f h : Form) (v w : ℕ) → ◌≡◌ {A = Option Job} (Some (Drive v f)) (Some (Drive w h)) → f ≡ h
  go f h v w e = cc

pub as_generate : (P : ℕ → ℕ → Type 0) (words : List (List ℕ)) (n m k l : ℕ) → AreGenerateWords n k words → P n k → AreGenerateWords m l words → P m l
as_generate P words n m k l a p b = let is = go n m k l (sym a ∙ b) in subst (λ x. P m x) is.1 (subst (λ x. P x k) is.0 p) where
  go : (n m k l : ℕ) → ◌≡◌ {A = Option Job} (Some (Generate n k)) (Some (Generate m l)) → (n ≡ m) × (k ≡ l)
  go n m k l e = (cc, cc)

pub as_large : (P : ℕ → ℕ → Type 0) (words : List (List ℕ)) (n m k l : ℕ) → AreLargeWords n k words → P n k → AreLargeWords m l words → P m l
as_large P words n m k l a p b = let is = go n m k l (sym a ∙ b) in subst (λ x. P m x) is.1 (subst (λ x. P x k) is.0 p) where
  go : (n m k l : ℕ) → ◌≡◌ {A = Option Job} (Some (Large n k)) (Some (Large m l)) → (n ≡ m) × (k ≡ l)
  go n m k l e = (cc, cc)
