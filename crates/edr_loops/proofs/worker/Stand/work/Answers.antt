use Rattle.std.proofs.Common.{◌∙◌, sym}
use Rattle.edr_loops.specs.declared.worker.Stand.{Stand}
use Rattle.edr_loops.proofs.WorkerLemmas.{ended-done, ended-gate, ended-stopped}
use Rattle.edr_loops.proofs.worker.Stand.work.Goals.{then-status-via-then-status, then-status-via-else-status+then-is, then-status-via-else-status+else-is+then-is_done}
use Rattle.edr_loops.proofs.worker.Stand.work.Goals as goal

pub returns-then-status-clause-ends : goal.returns-then-status-clause-ends
returns-then-status-clause-ends g c =
    let f = c.args.feeds.now in
    let stand : Stand = record { senders = record { fast = c.round-fast.new.self; slow = c.round-slow.new.self }; watch = c.read-status.new.self } in
    elim c.then-status.branch [
      | then-status-via-then-status w ↦ ended-stopped f stand _ c.read-status.ensures.seen w.if-status.true
      | then-status-via-else-status+then-is w ↦ ended-gate f stand _ c.read-status.ensures.seen (sym w.is.ensures ∙ w.if-is.true)
      | then-status-via-else-status+else-is+then-is_done w ↦
          ended-done f stand _ _ c.read-status.ensures.seen c.horizon-horizon.ensures
          (c.round-fast.ensures.over (w.is_done.ensures.over w.if-is_done.true)) (w.is_done.ensures.slow w.if-is_done.true)
    ]
