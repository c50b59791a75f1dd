-- What a reading stands for.
use Rattle.std.specs.Prelude.{ℕ, ◌+◌, ◌≤◌, List, [], ◌++◌, length}
use Rattle.edr_trace.specs.declared.ReadRefused.{ReadRefused}
use Rattle.edr_trace.specs.declared.reading.TraceReading.{TraceReading}
use Rattle.edr_trace.specs.declared.reading.Way.{Way}
use Rattle.edr_trace.specs.declared.reading.Way.TheVariants as way
use Rattle.edr_trace.specs.declared.steps.HowFar.{HowFar}
use Rattle.edr_trace.specs.declared.steps.Trace.{Trace}
use Rattle.edr_trace.specs.SoFar.{IsLeft}
use Rattle.edr_trace.specs.Told.{TellsRefusal}

-- so much of the bytes was read, and what is left of them is this, whatever follows
abbrev pub AreReadBut : List ℕ → List ℕ → Trace → HowFar → Type 0
AreReadBut left bytes trace at = (at.rows + length left ≤ length bytes)
    × ((more : List ℕ) → IsLeft (bytes ++ more) (left ++ more) trace at)

-- the same by the way in which what follows is read
abbrev pub AreReadBy : Way → List ℕ → Trace → HowFar → Type 0
AreReadBy way.Rows bytes trace at = AreReadBut [] bytes trace at
AreReadBy (way.Csv left) bytes trace at = AreReadBut left bytes trace at
AreReadBy (way.Refused e) bytes trace at = (more : List ℕ) → TellsRefusal (bytes ++ more) e

-- these bytes were given to the reading, and it took them
pub record Given (bytes : List ℕ) (r : TraceReading) : Type 0 where
  pub are_read : AreReadBy r.way bytes r.trace r.progress

-- the reading took these bytes more
abbrev pub TakesBytes : List ℕ → TraceReading → TraceReading → Type 0
TakesBytes bytes old new = (before : List ℕ) → Given before old → Given (before ++ bytes) new

-- a refusal of these bytes tells of the trace's fault, whatever follows
abbrev pub TellsOfMore : List ℕ → TraceReading → ReadRefused → Type 0
TellsOfMore bytes r e = (before more : List ℕ) → Given before r → TellsRefusal ((before ++ bytes) ++ more) e
