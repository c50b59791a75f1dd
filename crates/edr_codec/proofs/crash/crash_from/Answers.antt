use Rattle.std.proofs.Common.{sym, subst}
use Rattle.edr_record.specs.Bounds.{IsCrash}
use Rattle.edr_record.specs.Parts.{CrashPart}
use Rattle.edr_codec.proofs.CrashLemmas.{crash_at-parts}
use Rattle.edr_codec.proofs.crash.crash_from.Goals as goal

pub invariant_of-result : goal.invariant_of-result
invariant_of-result c =
    subst (λ (p : CrashPart). IsCrash p)
    (sym (crash_at-parts c.args.bytes.now c.read_at.result c.read_all.result c.read_all-2.result c.extreme_from.result c.extreme_from-2.result c.read_at-2.result c.read_at-3.result c.read_at-4.result c.read_all-3.result
    c.read_at.ensures c.read_all.ensures c.read_all-2.ensures c.extreme_from.ensures c.extreme_from-2.ensures c.read_at-2.ensures c.read_at-3.ensures c.read_at-4.ensures c.read_all-3.ensures))
    c.requires.bounds

pub returns : goal.returns
returns c =
    crash_at-parts c.args.bytes.now c.read_at.result c.read_all.result c.read_all-2.result c.extreme_from.result c.extreme_from-2.result c.read_at-2.result c.read_at-3.result c.read_at-4.result c.read_all-3.result
    c.read_at.ensures c.read_all.ensures c.read_all-2.ensures c.extreme_from.ensures c.extreme_from-2.ensures c.read_at-2.ensures c.read_at-3.ensures c.read_at-4.ensures c.read_all-3.ensures
