-- What each word comes to where memory ran out before the words were read.
use Rattle.std.proofs.Common.{refl, inl, inr, ℕ, List}
use Rattle.edr_device.specs.declared.device.Nvm as device
use Rattle.edr_device.specs.declared.stream.Sink as sink
use Rattle.edr_device.specs.declared.stream.Source as stream
use Rattle.edr_device.proofs.SettlingLemmas.{quiet_leaves}
use Rattle.edr_image.specs.declared.Header.{Header}
use Rattle.edr_banks.specs.Formatting.{LacksMagic}
use Rattle.edr_replay.proofs.PastLemmas.{past_none}
use Rattle.edr_words.specs.declared.Form.{Form}
use Rattle.edr_cli.specs.declared.fault.Fault.{Fault}
use Rattle.edr_cli.specs.declared.fault.Fault.TheVariants as fault
use Rattle.edr_cli.specs.declared.status.Status.{Status}
use Rattle.edr_cli.specs.declared.status.Status.TheVariants as status
use Rattle.edr_cli.specs.Dialogs.{Talks}
use Rattle.edr_cli.specs.Endings.{Gains, IsServed}
use Rattle.edr_cli.specs.Faults.{fault_line}
use Rattle.edr_cli.specs.Fleets.{TellsFleet}
use Rattle.edr_cli.specs.Migrations.{IsPartlyTaken, Migrates}
use Rattle.edr_cli.specs.Formats.{Formats}
use Rattle.edr_cli.specs.Texts.{MakesText}
use Rattle.edr_cli.specs.Runs.{Runs}
use Rattle.edr_cli.specs.Reports.{ShowsReport}
use Rattle.edr_cli.specs.Outside.{Input, Memory, input, memory}
use Rattle.edr_cli.proofs.EndingLemmas.{ends_fault, not_ok, served_fault}
use Rattle.edr_cli.proofs.ImageLemmas.{if_each, still_there}

-- the line of the fault was written, whole or in part
abbrev pub Short : {K : Type 0} → sink.Ghosts K → Status → K → K → Type 0
Short k s old new = Gains k (fault_line fault.OutOfMemory) status.OutOfMemory s old new

pub runs_short : {S K D : Type 0} (s : stream.Ghosts S) (k : sink.Ghosts K) (d : device.Ghosts D) (C : Input → Input → Memory → Memory → Fault → Type 0) (IsText : Input → Memory → Memory → List ℕ → Type 0) (end : Status)
    (source : S) (old new : K) (nvm : D) → C (input s source) (input s source) (memory d nvm) (memory d nvm) fault.OutOfMemory → Short k end old new
    → Runs s k d C IsText end source source old new nvm nvm
runs_short s k d C IsText end source old new nvm cause g = record {
  at_end = λ ok. absurd (not_ok fault.OutOfMemory end ok g.answers);
  ends = ends_fault k _ _ fault.OutOfMemory end old new cause g;
  past = past_none (d.content nvm) (d.settled nvm);
  complete = λ can calm quiet_device quiet. served_fault k fault.OutOfMemory end old new refl g quiet;
}

pub shows_short : {K D : Type 0} (k : sink.Ghosts K) (d : device.Ghosts D) (form : Form) (end : Status) (old new : K) (nvm : D) → Short k end old new → ShowsReport k d form end old new nvm nvm
shows_short k d form end old new nvm g = record {
  ends = ends_fault k _ _ fault.OutOfMemory end old new refl g;
  stays = λ bytes image quiet left. quiet_leaves bytes _ _ image quiet left;
  complete = λ image told none quiet_device quiet. served_fault k fault.OutOfMemory end old new refl g quiet;
}

pub formats_short : {K D : Type 0} (k : sink.Ghosts K) (d : device.Ghosts D) (h : Header) (end : Status) (old new : K) (nvm : D) → Short k end old new → Formats k d h end old new nvm nvm
formats_short k d h end old new nvm g = record {
  ends = ends_fault k _ _ fault.OutOfMemory end old new refl g;
  crash = λ bytes image quiet left. still_there h bytes image (quiet_leaves bytes _ _ image quiet left);
  stays = λ bytes image quiet has left. quiet_leaves bytes _ _ image quiet left;
  complete = λ quiet_device quiet room. if_each (λ bytes. LacksMagic bytes → IsServed end) (d.content nvm) (λ bytes told lacks. served_fault k fault.OutOfMemory end old new refl g quiet);
}

pub migrates_short : {S K D : Type 0} (s : stream.Ghosts S) (k : sink.Ghosts K) (d : device.Ghosts D) (end : Status) (source : S) (old new : K) (nvm : D)
    → Short k end old new → Migrates s k d end source source old new nvm nvm
migrates_short s k d end source old new nvm g = record {
  at_end = λ ok. absurd (not_ok fault.OutOfMemory end ok g.answers);
  ends = ends_fault k _ _ fault.OutOfMemory end old new refl g;
  crash = λ bytes image quiet left. if_each (λ old. IsPartlyTaken old bytes image) (s.left source) (λ old told. inl (quiet_leaves bytes _ _ image quiet left));
  stays = λ bytes image quiet has left. quiet_leaves bytes _ _ image quiet left;
  complete = λ can calm quiet_device quiet. served_fault k fault.OutOfMemory end old new refl g quiet;
}

pub makes_short : {K : Type 0} (k : sink.Ghosts K) (P : List ℕ → Type 0) (end : Status) (old new : K) → Short k end old new → MakesText k P end old new
makes_short k P end old new g = record {
  ends = ends_fault k P _ fault.OutOfMemory end old new refl g;
  complete = λ quiet. served_fault k fault.OutOfMemory end old new refl g quiet;
}

pub talks_short : {S K D : Type 0} (s : stream.Ghosts S) (k : sink.Ghosts K) (d : device.Ghosts D) (end : Status) (source : S) (old new : K) (nvm : D)
    → Short k end old new → Talks s k d end source source old new nvm nvm
talks_short s k d end source old new nvm g = record {
  text = fault_line fault.OutOfMemory;
  text_is = inr (record { fault = fault.OutOfMemory; cause = refl; end_is = g.answers; text_is = refl; untaken = refl });
  whole = λ fine. (g.whole fine).1;
  part = λ failed. (g.part failed).0;
  stays = λ bytes image quiet left. quiet_leaves bytes _ _ image quiet left;
  keeps = λ quiet_device. refl;
  complete = λ image bytes told none left few well calm quiet_device quiet. served_fault k fault.OutOfMemory end old new refl g quiet;
}

pub fleet_short : {S K : Type 0} (s : stream.Ghosts S) (k : sink.Ghosts K) (end : Status) (source : S) (old new : K) → Short k end old new → TellsFleet s k end source source old new
fleet_short s k end source old new g = record {
  at_end = λ ok. absurd (not_ok fault.OutOfMemory end ok g.answers);
  ends = ends_fault k _ _ fault.OutOfMemory end old new tt g;
  complete = λ told calm quiet. served_fault k fault.OutOfMemory end old new refl g quiet;
}
