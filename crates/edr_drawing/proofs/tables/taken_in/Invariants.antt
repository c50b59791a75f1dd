use Rattle.std.proofs.Common.{◌≡◌, ◌+◌, ◌≤◌, drop, map, min}
use Rattle.edr_image.specs.Reports.{report_of}
use Rattle.edr_drawing.specs.{declared.tables.TheConstants.MOST_TAKEN, Tables.taken_in}
use Rattle.edr_drawing.proofs.tables.taken_in.Given as goal

-- what is left gives the rest
abbrev pub invariant-loop-report : goal.invariant-loop-report
invariant-loop-report l =
    (min (l.count + taken_in (map report_of (drop l.report-index l.run))) MOST_TAKEN ≡ min (taken_in (map report_of l.run)) MOST_TAKEN)
    × (l.count ≤ MOST_TAKEN)
