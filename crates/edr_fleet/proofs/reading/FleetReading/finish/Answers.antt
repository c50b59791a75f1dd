use Rattle.std.proofs.Common.{◌≡◌, ℕ, [], subst, arith, rules}
use Rattle.std.proofs.lemmas.List.{nil_from_length}
use Rattle.edr_fleet.specs.Frames.{EndsInFrameAt}
use Rattle.edr_fleet.proofs.FrameLemmas.{never_both}
use Rattle.edr_fleet.proofs.ReadingLemmas.{few_reported, gave_cut, gave_whole}
use Rattle.edr_fleet.proofs.reading.FleetReading.finish.Goals as goal

pub overflow_cast-result : goal.overflow_cast-result
overflow_cast-result g c =
    let bytes = c.requires.few.0 in
    let gave = (c.in_ok-report_held.ensures {u = tt}).given bytes c.requires.few.1 in
    omega (arith, few_reported bytes c.report_held.new.self gave, c.requires.few.2)

pub returns-then-not-is_empty : goal.returns-then-not-is_empty
returns-then-not-is_empty g c =
    let r = c.report_held.new.self in
    let held = c.in_ok-report_held.ensures {u = tt} in
    let some : r.held.items ≡ [] → ⊥ = search rules in
    λ bytes gave.
    let ends = gave_cut bytes r (held.given bytes gave) held.cut some in
    record {
      text = tt;
      whole = λ images are. absurd (never_both images r.reported bytes are ends);
      cut = λ offset is.
          let same : r.reported ≡ offset = search rules in
          subst (λ (n : ℕ). EndsInFrameAt n bytes) same ends;
    }

pub returns : goal.returns
returns g c =
    let r = c.report_held.new.self in
    let held = c.in_ok-report_held.ensures {u = tt} in
    let none : r.held.items ≡ [] = nil_from_length r.held.items (grind arith) in
    λ bytes gave. record {
      text = gave_whole bytes _ r (held.given bytes gave) none (c.in_ok-with_totals.ensures {u = tt});
      whole = λ images are. tt;
      cut = tt;
    }
