use Rattle.edr_cli.proofs.fault.push_trace_fault.Goals as goal

pub returns-in-Number-clause-bytes : goal.returns-in-Number-clause-bytes
returns-in-Number-clause-bytes c = rw c.in-Number.is (rw c.from.ensures at c.push_number-in-Number.ensures.bytes)
