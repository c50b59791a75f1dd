use Rattle.std.proofs.Common.{ap}
use Rattle.edr_record.specs.Parts.{CrashPart}
use Rattle.edr_audit.proofs.SameLemmas.{moved, crash_told}
use Rattle.edr_audit.proofs.same.is_same_crash.Goals as goal

pub returns : goal.returns
returns c =
    crash_told c.args.a.now c.args.b.now _ _ _ _ _ _ _ _ _
    (moved _ _ _ _ _ (ap (λ (v : CrashPart). v.end) c.a.view_is) (ap (λ (v : CrashPart). v.end) c.b.view_is) c.is_same_number.ensures)
    (moved _ _ _ _ _ (ap (λ (v : CrashPart). v.along) c.a.view_is) (ap (λ (v : CrashPart). v.along) c.b.view_is) c.are_same_points.ensures)
    (moved _ _ _ _ _ (ap (λ (v : CrashPart). v.across) c.a.view_is) (ap (λ (v : CrashPart). v.across) c.b.view_is) c.are_same_points-2.ensures)
    (moved _ _ _ _ _ (ap (λ (v : CrashPart). v.max_along) c.a.view_is) (ap (λ (v : CrashPart). v.max_along) c.b.view_is) c.is_same_extreme.ensures)
    (moved _ _ _ _ _ (ap (λ (v : CrashPart). v.max_across) c.a.view_is) (ap (λ (v : CrashPart). v.max_across) c.b.view_is) c.is_same_extreme-2.ensures)
    (moved _ _ _ _ _ (ap (λ (v : CrashPart). v.result_at) c.a.view_is) (ap (λ (v : CrashPart). v.result_at) c.b.view_is) c.is_same_number-2.ensures)
    (moved _ _ _ _ _ (ap (λ (v : CrashPart). v.missing_along) c.a.view_is) (ap (λ (v : CrashPart). v.missing_along) c.b.view_is) c.is_same_number-3.ensures)
    (moved _ _ _ _ _ (ap (λ (v : CrashPart). v.missing_across) c.a.view_is) (ap (λ (v : CrashPart). v.missing_across) c.b.view_is) c.is_same_number-4.ensures)
    (moved _ _ _ _ _ (ap (λ (v : CrashPart). v.fired) c.a.view_is) (ap (λ (v : CrashPart). v.fired) c.b.view_is) c.are_same_numbers.ensures)
