use Rattle.edr_codec.proofs.CrashLemmas.{crash_at-is}
use Rattle.edr_codec.proofs.crash.read_crash_by.Goals as goal

pub crash_from-requires-clause-bounds : goal.crash_from-requires-clause-bounds
crash_from-requires-clause-bounds c = crash_at-is c.args.form.now c.args.bytes.now c.in_ok-check_crash.ensures.whole
