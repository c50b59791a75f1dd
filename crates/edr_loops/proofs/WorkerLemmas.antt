-- When a worker's loop has ended, by the status that it read.
use Rattle.std.proofs.Common.{arith, ◌≡◌, ◌⊎◌, ◌≤◌, ℕ, nat_eq, sym, subst, inl, inr, true}
use Rattle.edr_items.specs.SensorLists.{SensorLists, horizon_of}
use Rattle.edr_board.specs.declared.status.BoardStatus.{BoardStatus}
use Rattle.edr_board.specs.Seats.{status_seen}
use Rattle.edr_loops.specs.declared.worker.Stand.{Stand}
use Rattle.edr_loops.specs.Workers.{HaveNoneLeft, WorkerHasEnded, has_no_sender}

pub ended-stopped : (f : SensorLists) (s : Stand) (status : BoardStatus) → status_seen s.watch ≡ status → status.stopped ≡ true → WorkerHasEnded f s
ended-stopped f s status read stopped = inl (subst (λ (b : BoardStatus). b.stopped ≡ true) (sym read) stopped)

same_number : (n m : ℕ) → nat_eq n m ≡ true → n ≡ m
same_number n m same = grind arith

pub ended-gate : (f : SensorLists) (s : Stand) (status : BoardStatus) → status_seen s.watch ≡ status → nat_eq status.gate 2 ≡ true → WorkerHasEnded f s
ended-gate f s status read gate = inr (inl (subst (λ (b : BoardStatus). b.gate ≡ 2) (sym read) (same_number status.gate 2 gate)))

pub ended-done : (f : SensorLists) (s : Stand) (status : BoardStatus) (horizon : ℕ) → status_seen s.watch ≡ status → horizon ≡ horizon_of f → HaveNoneLeft f s.senders.fast
    → (has_no_sender s.senders.slow ≡ true) ⊎ (horizon ≤ status.closed) → WorkerHasEnded f s
ended-done f s status horizon read is none (inl empty) = inr (inr (none, inl empty))
ended-done f s status horizon read is none (inr closed) =
    inr (inr (none, inr (subst (λ (b : BoardStatus). horizon_of f ≤ b.closed) (sym read) (subst (λ h. h ≤ status.closed) is closed))))
