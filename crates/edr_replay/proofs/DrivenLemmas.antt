-- The loop over cycles that threads run.
use Rattle.std.proofs.Common.{◌<◌, ◌+◌, ◌≡◌, ℕ, Bool, List, [], ◌∷◌, ◌++◌, length, length-append, take, Option, refl, ⊎_elim, arith}
use Rattle.edr_image.specs.declared.log.CycleReport.{CycleReport}
use Rattle.edr_spell.specs.declared.CycleInput.{CycleInput}
use Rattle.edr_run.specs.Cycle.{last_count, start_end}
use Rattle.edr_cycle.specs.declared.started.StartFault.{StartFault}
use Rattle.edr_gates.specs.Found.{Holds}
use Rattle.edr_replay.specs.Reached.{between, counted}
use Rattle.edr_replay.specs.Replayed.{EndsCutShort, HasRun, LeftOrCounted, WantLeaves}
use Rattle.edr_replay.proofs.LeavingLemmas.{none_first}

pub cut_short_none : (cs : List CycleInput) (content : Option (List ℕ)) (settled : ℕ → Bool) (e : StartFault) → EndsCutShort cs content settled content settled e
unfolding EndsCutShort
cut_short_none cs content settled e = λ memory v n h. (v, n, between 0 (record { reports = []; store = v; count = n }) (none_first cs v n) refl refl, h)

pub cut_short_more : (cs : List CycleInput) (k : ℕ) (content : Option (List ℕ)) (settled : ℕ → Bool) (content' : Option (List ℕ)) (settled' : ℕ → Bool) (content'' : Option (List ℕ)) (settled'' : ℕ → Bool) (reports : List CycleReport) (e : StartFault)
    → HasRun (take k cs) content settled content' settled' reports → k < length cs → WantLeaves LeftOrCounted content' settled' content'' settled'' e → EndsCutShort cs content settled content'' settled'' e
unfolding HasRun WantLeaves EndsCutShort
cut_short_more cs k content settled content' settled' content'' settled'' reports e has below left = λ memory v n h.
    let r = has v n h in
    let o = r.0 in
    ⊎_elim
    (λ (same : Holds content'' settled'' o.store o.count). (o.store, o.count, between k o (record { within = omega (arith, below); run = r.1 }) refl refl, same))
    (λ (more : (o.count < last_count) × Holds content'' settled'' o.store (o.count + 1)).
    (o.store, o.count + 1, counted k o (start_end 6 o.store (o.count + 1)) (record { within = omega (arith, below); run = r.1 }) below more.0 refl refl refl, more.1))
    (left memory o.store o.count r.3)

-- one more cycle was given
pub one_more : (given : List CycleInput) (c : CycleInput) → length given + 1 ≡ length (given ++ c ∷ [])
one_more given c = grind (arith, length-append)
