-- What a reading stands for once more bytes were given to it.
use Rattle.std.proofs.Common.{arith, ◌≡◌, ◌∙◌, sym, ap, subst, ℕ, ◌+◌, ◌≤◌, List, [], ◌++◌, length, length-append, append_assoc, take, ◌-◌}
use Rattle.std.proofs.lemmas.List.{take_all, take_at}
use Rattle.edr_trace.specs.declared.ReadRefused.{ReadRefused}
use Rattle.edr_trace.specs.declared.reading.Way.{Way}
use Rattle.edr_trace.specs.declared.steps.HowFar.{HowFar}
use Rattle.edr_trace.specs.declared.steps.Trace.{Trace}
use Rattle.edr_trace.specs.SoFar.{IsLeft}
use Rattle.edr_trace.specs.Told.{TellsRefusal}
use Rattle.edr_trace.specs.Given.{AreReadBut, AreReadBy}

-- the way is this one
pub by-way : (w v : Way) (bytes : List ℕ) (trace : Trace) (at : HowFar) → w ≡ v → AreReadBy w bytes trace at → AreReadBy v bytes trace at
by-way w v bytes trace at same h = subst (λ (x : Way). AreReadBy x bytes trace at) same h

-- all bytes are taken
pub all-taken : (before bytes : List ℕ) (w : Way) (trace : Trace) (at : HowFar) → AreReadBy w (before ++ bytes) trace at → AreReadBy w (before ++ take (length bytes) bytes) trace at
all-taken before bytes w trace at h = subst (λ (x : List ℕ). AreReadBy w (before ++ x) trace at) (sym (take_all (length bytes) bytes (omega arith))) h

-- of the bytes, those that are left are not taken
pub front-taken : (bytes front left : List ℕ) → bytes ≡ front ++ left → take (length bytes - length left) bytes ≡ front
front-taken bytes front left parts =
    let n = length bytes - length left in
    let whole = ap length parts ∙ length-append front left in
    ap (take n) parts ∙ take_at front left n (omega (arith, whole))

-- a fault stays the same, whatever follows
pub told-still : (before piece : List ℕ) (e : ReadRefused) → ((more : List ℕ) → TellsRefusal (before ++ more) e) → (more : List ℕ) → TellsRefusal ((before ++ piece) ++ more) e
told-still before piece e h more = subst (λ (x : List ℕ). TellsRefusal x e) (sym (append_assoc before piece more)) (h (piece ++ more))

-- what a call of take_lines says of the bytes in front
abbrev pub Takes : List ℕ → Trace → HowFar → Trace → HowFar → Type 0
Takes front old at new at' = (whole more : List ℕ) → IsLeft whole (front ++ more) old at → IsLeft whole more new at'

-- the rows in front were taken
pub rows-taken : (before bytes front left : List ℕ) (old new : Trace) (at at' : HowFar) → AreReadBut [] before old at → bytes ≡ front ++ left → at'.rows + length left ≤ at.rows + length bytes → Takes front old at new at'
    → AreReadBut [] (before ++ front) new at'
rows-taken before bytes front left old new at at' h parts count takes =
    let long = length-append before front in
    let whole = ap length parts ∙ length-append front left in (
      omega (arith, long, whole, count, h.0),
      λ more. subst (λ (x : List ℕ). IsLeft x more new at') (sym (append_assoc before front more)) (takes (before ++ (front ++ more)) more (h.1 (front ++ more))),
    )

-- bytes are kept after those that are left
pub bytes-kept : (before left piece : List ℕ) (trace : Trace) (at : HowFar) → AreReadBut left before trace at → AreReadBut (left ++ piece) (before ++ piece) trace at
bytes-kept before left piece trace at h =
    let long = length-append before piece in
    let kept = length-append left piece in (
      omega (arith, long, kept, h.0),
      λ more. subst (λ (x : List ℕ). IsLeft x ((left ++ piece) ++ more) trace at) (sym (append_assoc before piece more))
          (subst (λ (x : List ℕ). IsLeft (before ++ (piece ++ more)) x trace at) (sym (append_assoc left piece more)) (h.1 (piece ++ more))),
    )

-- the rows in front were taken, and what is left is kept
pub rest-kept : (before bytes front left : List ℕ) (old new : Trace) (at at' : HowFar) → AreReadBut [] before old at → bytes ≡ front ++ left → at'.rows + length left ≤ at.rows + length bytes → Takes front old at new at'
    → AreReadBut left (before ++ bytes) new at'
rest-kept before bytes front left old new at at' h parts count takes =
    subst (λ (x : List ℕ). AreReadBut left x new at') (append_assoc before front left ∙ ap (λ (x : List ℕ). before ++ x) (sym parts))
    (bytes-kept (before ++ front) [] left new at' (rows-taken before bytes front left old new at at' h parts count takes))

-- a fault in these bytes is one of all, whatever follows
pub told-after : (before bytes : List ℕ) (trace : Trace) (at : HowFar) (e : ReadRefused) → AreReadBut [] before trace at
    → ((whole more : List ℕ) → IsLeft whole (bytes ++ more) trace at → TellsRefusal whole e)
    → (more : List ℕ) → TellsRefusal ((before ++ bytes) ++ more) e
told-after before bytes trace at e h told more = subst (λ (x : List ℕ). TellsRefusal x e) (sym (append_assoc before bytes more)) (told (before ++ (bytes ++ more)) more (h.1 (bytes ++ more)))
