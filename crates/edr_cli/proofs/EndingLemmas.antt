-- How the status of a write tells what the sink gained.
use Rattle.std.proofs.Common.{◌≡◌, ◌≢◌, ◌⊎◌, ◌∙◌, arith, sym, ap, inl, inr, ℕ, List, Result, Ok, Err, IfOk, IfErr, OnOk}
use Rattle.edr_device.specs.declared.stream.Sink as sink
use Rattle.edr_cli.specs.declared.fault.Fault.{Fault}
use Rattle.edr_cli.specs.declared.fault.Fault.TheVariants as fault
use Rattle.edr_cli.specs.declared.status.Status.{Status}
use Rattle.edr_cli.specs.declared.status.Status.TheVariants as status
use Rattle.edr_cli.specs.Endings.{Ends, Gains, IsServed, TellsFault, TellsFaultPart}
use Rattle.edr_cli.specs.Faults.{fault_line, status_of}
use Rattle.edr_cli.specs.Outside.{NoFault}

ok_fails : status.Ok ≡ status.WriteFault → ⊥
ok_fails e = cc

-- no fault has the status Ok
no_ok : (f : Fault) → status_of f ≡ status.Ok → ⊥
no_ok f e = grind arith

pub not_ok : (f : Fault) (s : Status) → s ≡ status.Ok → (s ≡ status_of f) ⊎ (s ≡ status.WriteFault) → ⊥
not_ok f s ok (inl is) = no_ok f (sym is ∙ ok)
not_ok f s ok (inr failed) = ok_fails (sym ok ∙ failed)

-- the line of a fault was written, whole or in part
pub tells_fault : {K : Type 0} (k : sink.Ghosts K) (C : Fault → Type 0) (f : Fault) (s : Status) (old new : K) → C f
    → Gains k (fault_line f) (status_of f) s old new → s ≢ status.WriteFault → TellsFault C s (k.content old) (k.content new)
tells_fault k C f s old new cause g fine = (f, cause, sym (g.whole fine).0, (g.whole fine).1)

pub tells_fault_part : {K : Type 0} (k : sink.Ghosts K) (C : Fault → Type 0) (f : Fault) (s : Status) (old new : K) → C f
    → Gains k (fault_line f) (status_of f) s old new → s ≡ status.WriteFault → TellsFaultPart C (k.content old) (k.content new)
tells_fault_part k C f s old new cause g failed = (f, cause, (g.part failed).0)

-- a call that has a text to tell
pub ends_text : {K : Type 0} (k : sink.Ghosts K) (P : List ℕ → Type 0) (C : Fault → Type 0) (text : List ℕ) (s : Status) (old new : K) → P text
    → Gains k text status.Ok s old new → Ends k P C s old new
ends_text k P C text s old new is g = record {
  text = λ ok. (text, is, (g.whole (λ failed. ok_fails (sym ok ∙ failed))).1);
  other = λ other fine. absurd (other (g.whole fine).0);
  part = λ failed. inl (text, is, (g.part failed).0);
}

-- a call that has a fault to tell
pub ends_fault : {K : Type 0} (k : sink.Ghosts K) (P : List ℕ → Type 0) (C : Fault → Type 0) (f : Fault) (s : Status) (old new : K) → C f
    → Gains k (fault_line f) (status_of f) s old new → Ends k P C s old new
ends_fault k P C f s old new cause g = record {
  text = λ ok. absurd (not_ok f s ok g.answers);
  other = λ other fine. tells_fault k C f s old new cause g fine;
  part = λ failed. inr (tells_fault_part k C f s old new cause g failed);
}

-- a call that has one of them
pub ends : {K T : Type 0} (k : sink.Ghosts K) (r : Result T Fault) (text : T → List ℕ) (P : List ℕ → Type 0) (C : Fault → Type 0) (s : Status) (old new : K)
    → IfOk r (λ v. P (text v)) → IfErr r C → IfOk r (λ v. Gains k (text v) status.Ok s old new) → IfErr r (λ f. Gains k (fault_line f) (status_of f) s old new) → Ends k P C s old new
ends k (Ok v) text P C s old new is cause g h = ends_text k P C (text v) s old new is g
ends k (Err f) text P C s old new is cause g h = ends_fault k P C f s old new cause h

-- with Ok it had a text
pub when_ok : {K T : Type 0} (k : sink.Ghosts K) (r : Result T Fault) (Q : Type 0) (s : Status) (old new : K)
    → OnOk r Q → IfErr r (λ f. Gains k (fault_line f) (status_of f) s old new) → s ≡ status.Ok → Q
when_ok k (Ok v) Q s old new q h ok = q
when_ok k (Err f) Q s old new q h ok = absurd (not_ok f s ok h.answers)

-- a write that fails is counted
pub answered : (A R : Type 0) (s t : Status) → (s ≡ t) ⊎ (s ≡ status.WriteFault) → (s ≡ status.WriteFault → A × R) → ¬ R → s ≡ t
answered A R s t (inl is) part quiet = is
answered A R s t (inr failed) part quiet = absurd (quiet (part failed).1)

pub served_text : {K : Type 0} (k : sink.Ghosts K) (text : List ℕ) (s : Status) (old new : K) → Gains k text status.Ok s old new → NoFault k.faults old new → IsServed s
served_text k text s old new g quiet = inl (answered _ _ s status.Ok g.answers g.part quiet)

pub served_fault : {K : Type 0} (k : sink.Ghosts K) (f : Fault) (s : Status) (old new : K) → f ≡ fault.OutOfMemory
    → Gains k (fault_line f) (status_of f) s old new → NoFault k.faults old new → IsServed s
served_fault k f s old new short g quiet = inr (answered _ _ s (status_of f) g.answers g.part quiet ∙ ap status_of short)

-- a call that wants nothing but memory
pub served : {K T : Type 0} (k : sink.Ghosts K) (r : Result T Fault) (text : T → List ℕ) (s : Status) (old new : K) → IfErr r (λ f. f ≡ fault.OutOfMemory)
    → IfOk r (λ v. Gains k (text v) status.Ok s old new) → IfErr r (λ f. Gains k (fault_line f) (status_of f) s old new) → NoFault k.faults old new → IsServed s
served k (Ok v) text s old new short g h quiet = served_text k (text v) s old new g quiet
served k (Err f) text s old new short g h quiet = served_fault k f s old new short h quiet
