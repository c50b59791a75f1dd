-- What a thread promises at its start.
use Rattle.std.specs.Prelude.{◌≡◌, ℕ}
use Rattle.std.specs.Arc.{arc_value}
use Rattle.edr_items.specs.SensorLists.{SensorLists}
use Rattle.edr_loops.specs.declared.per_fast_sensor.PerFastSensor.{PerFastSensor}
use Rattle.edr_loops.specs.declared.recorder.Desk.{Desk}
use Rattle.edr_loops.specs.declared.threads.RecorderPromise.{RecorderPromise}
use Rattle.edr_loops.specs.declared.threads.WorkerPromise.{WorkerPromise}
use Rattle.edr_loops.specs.declared.worker.Stand.{Stand}

-- it is the promise of a worker at this stand, over these feeds
abbrev pub IsWorkerOf : SensorLists → Stand → WorkerPromise → Type 0
IsWorkerOf f stand p = (p.before.value ≡ stand) × (arc_value p.feeds.value ≡ f)

-- it is the promise of a recorder at this desk, up to the horizon and these last moments
abbrev pub IsRecorderOf : ℕ → PerFastSensor ℕ → Desk → RecorderPromise → Type 0
IsRecorderOf horizon ends desk p = (p.before.value ≡ desk) × (p.horizon ≡ horizon) × (p.ends ≡ ends)
