use Rattle.edr_reading.proofs.FaultLemmas.{fault-is-none}
use Rattle.edr_reading.proofs.laws.a_fault_is_of_no_report.Goals as goal

pub returns : goal.returns
returns c records row f h = fault-is-none records row f h
