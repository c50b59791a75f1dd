use Rattle.edr_cli.proofs.AuditedLemmas.{audits_fault, audits_said}
use Rattle.edr_cli.proofs.audit.serve_audit.Goals as goal

pub returns-in-Ok-clause-audits : goal.returns-in-Ok-clause-audits
returns-in-Ok-clause-audits g c =
    audits_said g.S.Source g.K.Sink g.N.Nvm c.write.result c.in-Ok.audited c.args.source.now c.audit_source.new.source c.args.sink.now c.write.new.sink c.args.nvm.now c.audit_source.new.nvm
    c.in-Ok.ensures.end c.in-Ok.ensures.says c.audit_source.ensures.stays c.audit_source.ensures.keeps
    (rw (c.as_bytes.ensures, c.line.ensures, c.status.ensures) at c.write.ensures.gains)

pub returns-in-Err-clause-audits : goal.returns-in-Err-clause-audits
returns-in-Err-clause-audits g c =
    audits_fault g.S.Source g.K.Sink g.N.Nvm c.tell.result c.in-Err.fault c.args.source.now c.audit_source.new.source c.args.sink.now c.tell.new.sink c.args.nvm.now c.audit_source.new.nvm
    c.in-Err.ensures.cause c.audit_source.ensures.stays c.audit_source.ensures.keeps c.tell.ensures.gains
