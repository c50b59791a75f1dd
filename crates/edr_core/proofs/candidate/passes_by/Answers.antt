use Rattle.std.proofs.Common.{◌∙◌, sym}
use Rattle.std.proofs.lemmas.Bool.{false≢true}
use Rattle.edr_detect.specs.Stages.{told_of}
use Rattle.edr_core.proofs.CandidateLemmas.{TellsNothing, told-none}
use Rattle.edr_core.proofs.candidate.passes_by.Goals as goal
use Rattle.edr_core.proofs.candidate.passes_by.Goals.{then-change-via-then-change, then-change-via-else-change+then-change-2, then-change-via-else-change+else-change-2+then-change-3, then-change-via-else-change+else-change-2+else-change-3+then-change-4, then-change-via-else-change+else-change-2+else-change-3+else-change-4+then-change-5}

pub returns-then-change : goal.returns-then-change
returns-then-change c = told-none c.is_none.result (told_of c.args.change) c.args.candidate.now c.is_none.ensures tells
  where
    tells : ¬ TellsNothing (told_of c.args.change)
    tells q = elim c.then-change.branch [
      | then-change-via-then-change w ↦ false≢true (sym q.confirmed ∙ w.if-change.true)
      | then-change-via-else-change+then-change-2 w ↦ false≢true (sym q.locked ∙ w.if-change-2.true)
      | then-change-via-else-change+else-change-2+then-change-3 w ↦ false≢true (sym q.ended ∙ w.if-change-3.true)
      | then-change-via-else-change+else-change-2+else-change-3+then-change-4 w ↦ false≢true (sym q.dropped ∙ w.if-change-4.true)
      | then-change-via-else-change+else-change-2+else-change-3+else-change-4+then-change-5 w ↦ false≢true (sym q.closed ∙ w.if-change-5.true)
    ]
