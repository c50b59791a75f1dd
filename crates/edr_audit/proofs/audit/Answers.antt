use Rattle.edr_audit.proofs.AuditLemmas.{only_one}
use Rattle.edr_audit.proofs.audit.Goals as goal

pub returns-clause-only : goal.returns-clause-only
returns-clause-only c = λ v is. only_one c.args.before.now c.args.trace.now c.args.after.now c.args.report.now c.verdict_on.result c.verdict_on.ensures v is
