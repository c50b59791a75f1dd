use Rattle.std.proofs.Common.{◌≡◌, max, rules}
use Rattle.edr_record.specs.Bounds.{window_from_end}
use Rattle.edr_codec.proofs.CrashLemmas.{crash_table-fields}
use Rattle.edr_codec.proofs.crash.crash_rows.Goals as goal

pub returns-clause-fields : goal.returns-clause-fields
returns-clause-fields c =
    let last : c.max-last.result ≡ max c.args.end (window_from_end c.args.end) = search rules in
    let window : c.from-window.result ≡ window_from_end c.args.end = search rules in
    rw (c.of.ensures, c.of-first.ensures, c.either-changes.ensures, c.of-past.ensures, c.either-change.ensures, c.of-time.ensures, c.of-2.ensures, c.either.ensures, c.of-3.ensures, c.point_count-count.ensures, last, window, c.from-2.ensures, c.from-3.ensures)
    (crash_table-fields c.args.form.now c.args.end)
