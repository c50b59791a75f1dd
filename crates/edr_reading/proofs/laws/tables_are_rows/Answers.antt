use Rattle.edr_report.specs.Report.{report_lines}
use Rattle.edr_reading.proofs.TableLemmas.{table-read}
use Rattle.edr_reading.proofs.laws.tables_are_rows.Goals as goal

pub returns : goal.returns
returns c reports found n = table-read (report_lines reports found n)
