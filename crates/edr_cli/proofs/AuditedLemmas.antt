-- How an audit ends, and what is known of its pieces.
use Rattle.std.proofs.Common.{◌≡◌, ◌≢◌, ◌⊎◌, ◌∙◌, inl, inr, refl, sym, subst, ap, arith, ℕ, ◌≤◌, List, length, take, Option, Some, None, IfSome}
use Rattle.edr_device.specs.Faults.{Rose}
use Rattle.edr_device.specs.declared.device.Nvm as device
use Rattle.edr_device.specs.declared.stream.Sink as sink
use Rattle.edr_device.specs.declared.stream.Source as stream
use Rattle.edr_device.proofs.SettlingLemmas.{quiet_leaves}
use Rattle.edr_image.specs.Image.{View, view_of}
use Rattle.edr_spell.specs.declared.CycleInput.{CycleInput}
use Rattle.edr_spell.specs.Spell.{largest_trace}
use Rattle.edr_audit.specs.declared.Difference.TheVariants.{Before, Trace, Stops, After, Run, Report}
use Rattle.edr_audit.specs.declared.Verdict.{Verdict}
use Rattle.edr_audit.specs.declared.Verdict.TheVariants.{Agrees, Differs}
use Rattle.edr_audit.specs.Verdicts.{IsAudited, IsVerdict}
use Rattle.edr_audit.proofs.FirstBytesLemmas.{first-bytes}
use Rattle.edr_cli.specs.declared.audit.Audited.{Audited}
use Rattle.edr_cli.specs.declared.audit.Audited.TheVariants.{Lengths, Judged}
use Rattle.edr_cli.specs.declared.fault.Fault.{Fault}
use Rattle.edr_cli.specs.declared.fault.Fault.TheVariants as fault
use Rattle.edr_cli.specs.declared.status.Status.{Status}
use Rattle.edr_cli.specs.declared.status.Status.TheVariants as status
use Rattle.edr_cli.specs.Audits.{Audits, IsAudit, IsAuditCause, IsMadeAudit, audited_line, audited_status}
use Rattle.edr_cli.specs.Crashes.{KeepsBytes}
use Rattle.edr_cli.specs.Endings.{Gains}
use Rattle.edr_cli.specs.Faults.{fault_line, status_of}
use Rattle.edr_cli.specs.Outside.{Input, IsAtEnd, Memory, NoFault, input, memory}
use Rattle.edr_cli.proofs.EndingLemmas.{answered, tells_fault, tells_fault_part}
use Rattle.edr_cli.proofs.TakingLemmas.{too_many}

-- ---- a verdict on the first bytes of an image is one on the image

viewed : (before trace a b : List ℕ) (from : View) (cycles : List CycleInput) (to : View) → view_of a ≡ view_of b → IsAudited before trace a from cycles to → IsAudited before trace b from cycles to
viewed before trace a b from cycles to same audited = record { begins = audited.begins; says = sym same ∙ audited.says }

same_verdict : (before trace a b report : List ℕ) (v : Verdict) → view_of a ≡ view_of b → IsVerdict before trace a report v → IsVerdict before trace b report v
same_verdict before trace a b report Agrees same is = record {
  from = is.from;
  cycles = is.cycles;
  to = is.to;
  outcome = is.outcome;
  audited = viewed before trace a b is.from is.cycles is.to same is.audited;
  member = is.member;
  text = is.text;
}
same_verdict before trace a b report (Differs Before) same is = is
same_verdict before trace a b report (Differs (Trace row)) same is = is
same_verdict before trace a b report (Differs (Stops found)) same is = is
same_verdict before trace a b report (Differs After) same is = record { from = is.from; cycles = is.cycles; begins = is.begins; nothing = sym same ∙ is.nothing }
same_verdict before trace a b report (Differs Run) same is = record {
  from = is.from;
  cycles = is.cycles;
  to = is.to;
  audited = viewed before trace a b is.from is.cycles is.to same is.audited;
  none = is.none;
}
same_verdict before trace a b report (Differs (Report offset)) same is = record {
  from = is.from;
  cycles = is.cycles;
  to = is.to;
  outcome = is.outcome;
  audited = viewed before trace a b is.from is.cycles is.to same is.audited;
  member = is.member;
  none = is.none;
  differs = is.differs;
}

pub verdict_on_first : (before trace after report : List ℕ) (content : Option (List ℕ)) (v : Verdict) → IfSome content (λ image. after ≡ take 16480 image)
    → IsVerdict before trace after report v → IfSome content (λ image. IsVerdict before trace image report v)
verdict_on_first before trace after report None v first is = tt
verdict_on_first before trace after report (Some image) v first is = same_verdict before trace after image report v (ap view_of first ∙ first-bytes image) is

-- ---- which statuses say that an audit was made

fails_none : IsMadeAudit status.WriteFault → ⊥
fails_none (inl e) = cc
fails_none (inr e) = cc

no_failure : (end : Status) → IsMadeAudit end → end ≢ status.WriteFault
no_failure end made failed = fails_none (subst IsMadeAudit failed made)

is_made : (a : Audited) → IsMadeAudit (audited_status a)
is_made Lengths = inr refl
is_made (Judged Agrees) = inl refl
is_made (Judged (Differs d)) = inr refl

pub no_write_fault : (a : Audited) → audited_status a ≢ status.WriteFault
no_write_fault a = no_failure (audited_status a) (is_made a)

neither : (end : Status) → end ≢ status.Ok → end ≢ status.Audit → IsMadeAudit end → ⊥
neither end not_ok not_audit (inl ok) = not_ok ok
neither end not_ok not_audit (inr audit) = not_audit audit

-- no fault has such a status
no_ok : (f : Fault) → status_of f ≡ status.Ok → ⊥
no_ok f e = grind arith

no_audit : (f : Fault) → status_of f ≡ status.Audit → ⊥
no_audit f e = grind arith

fault_made : (f : Fault) (end : Status) → IsMadeAudit end → (end ≡ status_of f) ⊎ (end ≡ status.WriteFault) → ⊥
fault_made f end (inl ok) (inl is) = no_ok f (sym is ∙ ok)
fault_made f end (inr audit) (inl is) = no_audit f (sym is ∙ audit)
fault_made f end made (inr failed) = no_failure end made failed

-- ---- how a call ends

-- where nothing counts a fault, nothing but memory is wanted
audit_only_memory : (i i' : Input) (old new : Memory) (f : Fault) (bytes : List ℕ) → i.left ≡ Some bytes → length bytes ≤ largest_trace
    → ¬ Rose i.faults i'.faults → ¬ Rose old.faults new.faults → IsAuditCause i i' old new f → f ≡ fault.OutOfMemory
audit_only_memory i i' old new fault.Read bytes left few calm quiet cause = absurd (calm cause.0)
audit_only_memory i i' old new fault.TooLong bytes left few calm quiet cause = absurd (let more = too_many largest_trace bytes i.left i'.left left cause.0 in omega (arith, more, few))
audit_only_memory i i' old new fault.Store bytes left few calm quiet cause = absurd (quiet cause.1)
audit_only_memory i i' old new fault.OutOfMemory bytes left few calm quiet cause = refl
audit_only_memory i i' old new other bytes left few calm quiet cause = absurd cause

-- it tells what is said
pub audits_said : {S K D : Type 0} (s : stream.Ghosts S) (k : sink.Ghosts K) (d : device.Ghosts D) (end : Status) (a : Audited) (source source' : S) (sink sink' : K) (nvm nvm' : D)
    → IsAtEnd (s.left source') → IsAudit (input s source) (memory d nvm) (memory d nvm') a → KeepsBytes d nvm nvm' → (NoFault d.faults nvm nvm' → d.content nvm' ≡ d.content nvm)
    → Gains k (audited_line a) (audited_status a) end sink sink' → Audits s k d end source source' sink sink' nvm nvm'
audits_said s k d end a source source' sink sink' nvm nvm' at_end says stays keeps g = record {
  at_end = λ made. at_end;
  whole = λ made. (a, says, (g.whole (no_failure end made)).0, (g.whole (no_failure end made)).1);
  other = λ not_ok not_audit fine. absurd (neither end not_ok not_audit (subst IsMadeAudit (sym (g.whole fine).0) (is_made a)));
  part = λ failed. inl (a, says, (g.part failed).0);
  stays = stays;
  keeps = keeps;
  complete = λ bytes left few calm quiet_device quiet. inl (subst IsMadeAudit (sym (answered _ _ end (audited_status a) g.answers g.part quiet)) (is_made a));
}

-- or a fault
pub audits_fault : {S K D : Type 0} (s : stream.Ghosts S) (k : sink.Ghosts K) (d : device.Ghosts D) (end : Status) (f : Fault) (source source' : S) (sink sink' : K) (nvm nvm' : D)
    → IsAuditCause (input s source) (input s source') (memory d nvm) (memory d nvm') f → KeepsBytes d nvm nvm' → (NoFault d.faults nvm nvm' → d.content nvm' ≡ d.content nvm)
    → Gains k (fault_line f) (status_of f) end sink sink' → Audits s k d end source source' sink sink' nvm nvm'
audits_fault s k d end f source source' sink sink' nvm nvm' cause stays keeps g = record {
  at_end = λ made. absurd (fault_made f end made g.answers);
  whole = λ made. absurd (fault_made f end made g.answers);
  other = λ not_ok not_audit fine. tells_fault k (IsAuditCause (input s source) (input s source') (memory d nvm) (memory d nvm')) f end sink sink' cause g fine;
  part = λ failed. inr (tells_fault_part k (IsAuditCause (input s source) (input s source') (memory d nvm) (memory d nvm')) f end sink sink' cause g failed);
  stays = stays;
  keeps = keeps;
  complete = λ bytes left few calm quiet_device quiet.
      inr (answered _ _ end (status_of f) g.answers g.part quiet ∙ ap status_of (audit_only_memory (input s source) (input s source') (memory d nvm) (memory d nvm') f bytes left few calm quiet_device cause));
}

-- memory ran out before the words were read
pub audits_short : {S K D : Type 0} (s : stream.Ghosts S) (k : sink.Ghosts K) (d : device.Ghosts D) (end : Status) (source : S) (old new : K) (nvm : D)
    → Gains k (fault_line fault.OutOfMemory) status.OutOfMemory end old new → Audits s k d end source source old new nvm nvm
audits_short s k d end source old new nvm g =
    audits_fault s k d end fault.OutOfMemory source source old new nvm nvm refl (λ bytes image quiet left. quiet_leaves bytes _ _ image quiet left) (λ quiet. refl) g
