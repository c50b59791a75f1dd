use Rattle.std.proofs.Common.{arith, refl, ap, sym, subst, ◌≡◌, ◌+◌, [], ◌∷◌, ◌++◌, List, length, FitsSigned, w32, rules, false}
use Rattle.std.proofs.lemmas.Int.{to_z-of_z}
use Rattle.std.proofs.lemmas.Bool.{not-true}
use Rattle.edr_definitions.specs.Change.{tick_change}
use Rattle.edr_detect.specs.Detected.{DetectState, DetectStandsFor}
use Rattle.edr_detect.specs.Rows.{SignalRow, signals_of_rows}
use Rattle.edr_detect.specs.Stages.{nothing, told_of, phase_of}
use Rattle.edr_detect.proofs.RowLemmas.{tick-stands, tick-still, never-rests}
use Rattle.edr_detect.proofs.detector.Detect.full_tick.Goals as goal

pub returns-then-not-tests : goal.returns-then-not-tests
returns-then-not-tests c =
    let r : SignalRow = record { along = c.args.along; across = c.args.across; fired = c.args.fired } in
    let still : DetectState = record { tick = c.self.inside.tick + 1; stage = c.self.inside.stage; windows = c.push.new.self; rests = c.are_at_rest-self-inside.result } in
    let rest = c.are_at_rest-self-inside.ensures in
    let along_fits : FitsSigned w32 c.args.along = search rules in
    let across_fits : FitsSigned w32 c.args.across = search rules in
    let push = simp (to_z-of_z w32 c.args.along along_fits, to_z-of_z w32 c.args.across across_fits) at c.push.ensures.stands in
    let both : (rows : List SignalRow) → DetectStandsFor c.args.self.now rows → DetectStandsFor still (rows ++ r ∷ []) × (told_of nothing ≡ tick_change (signals_of_rows (rows ++ r ∷ [])) (length rows + 1)) =
    λ rows h. tick-still rows r (record { tick = c.self.inside.tick; stage = c.self.inside.stage; windows = c.self.inside.windows; rests = c.self.inside.rests })
    (c.self.inside.tick + 1) c.push.new.self c.are_at_rest-self-inside.result
    (subst (λ (d : DetectState). DetectStandsFor d rows) (sym c.self.view_is) h) refl (c.is_searching.ensures.0 c.if-is_searching.true)
    push rest.nothing c.tests-tests.result (not-true c.tests-tests.result.zero c.if-not-tests.true) (λ m b before next after fires w. c.tests-tests.ensures m b w (omega arith) fires)
    rest.still in
    record {
      stands = λ rows h. (both rows h).0;
      answer = λ rows h. (both rows h).1;
      tick = ap (λ (d : DetectState). d.tick + 1) c.self.view_is;
    }

pub invariant_of-self-2 : goal.invariant_of-self-2
invariant_of-self-2 c = record {
  pushed = c.restart.ensures.pushed (c.self.inside.tick + 1) (c.push.ensures.pushed c.self.inside.tick c.self.invariant.pushed);
  still = λ told. absurd (never-rests told);
}

pub returns : goal.returns
returns c =
    let r : SignalRow = record { along = c.args.along; across = c.args.across; fired = c.args.fired } in
    let after : DetectState = record { tick = c.self.inside.tick + 1; stage = c.next-self-inside.result; windows = c.restart.new.self; rests = false } in
    let along_fits : FitsSigned w32 c.args.along = search rules in
    let across_fits : FitsSigned w32 c.args.across = search rules in
    let push = simp (to_z-of_z w32 c.args.along along_fits, to_z-of_z w32 c.args.across across_fits) at c.push.ensures.stands in
    let both : (rows : List SignalRow) → DetectStandsFor c.args.self.now rows → DetectStandsFor after (rows ++ r ∷ []) × (told_of c.change_at-change.result ≡ tick_change (signals_of_rows (rows ++ r ∷ [])) (length rows + 1)) =
    λ rows h. tick-stands rows r (record { tick = c.self.inside.tick; stage = c.self.inside.stage; windows = c.self.inside.windows; rests = c.self.inside.rests }) after
    (c.self.inside.tick + 1) c.tests-tests.result c.change_at-change.result c.push.new.self
    (subst (λ (d : DetectState). DetectStandsFor d rows) (sym c.self.view_is) h) refl refl
    push (λ m b before next after since here side fires old w. c.tests-tests.ensures m b w (omega arith) fires) c.next-self-inside.ensures c.change_at-change.ensures
    (λ m b k stay w. c.restart.ensures.stands m b (phase_of c.self.inside.stage) (phase_of c.next-self-inside.result) k stay w) (λ m b before next past since here side old w told. absurd (never-rests told)) in
    record {
      stands = λ rows h. (both rows h).0;
      answer = λ rows h. (both rows h).1;
      tick = ap (λ (d : DetectState). d.tick + 1) c.self.view_is;
    }
