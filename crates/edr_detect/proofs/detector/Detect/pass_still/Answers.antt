use Rattle.std.proofs.Common.{refl, ap, sym, subst, ◌≡◌, ◌+◌, [], ◌∷◌, ◌++◌, List, length, IsTrue}
use Rattle.edr_definitions.specs.Change.{tick_change}
use Rattle.edr_detect.specs.Detected.{DetectState, DetectStandsFor}
use Rattle.edr_detect.specs.Rows.{SignalRow, still_row, signals_of_rows}
use Rattle.edr_detect.specs.Stages.{nothing, told_of, phase_of}
use Rattle.edr_detect.proofs.RowLemmas.{at-rest, tick-quiet}
use Rattle.edr_detect.proofs.detector.Detect.pass_still.Goals as goal

pub invariant_of-self : goal.invariant_of-self
invariant_of-self c = record { pushed = c.rest.ensures.pushed c.self.inside.tick c.self.invariant.pushed; still = λ _. c.rest.ensures.still }

pub returns : goal.returns
returns c =
    let before : DetectState = record { tick = c.self.inside.tick; stage = c.self.inside.stage; windows = c.self.inside.windows; rests = c.self.inside.rests } in
    let after : DetectState = record { tick = c.self.inside.tick + 1; stage = c.self.inside.stage; windows = c.rest.new.self; rests = c.self.inside.rests } in
    let rests = subst (λ (d : DetectState). IsTrue d.rests) (sym c.self.view_is) c.requires.rests in
    let both : (rows : List SignalRow) → DetectStandsFor c.args.self.now rows → DetectStandsFor after (rows ++ still_row ∷ []) × (told_of nothing ≡ tick_change (signals_of_rows (rows ++ still_row ∷ [])) (length rows + 1)) =
    λ rows stands.
    let h : DetectStandsFor before rows = subst (λ (d : DetectState). DetectStandsFor d rows) (sym c.self.view_is) stands in
    let rest = at-rest before rows h rests in
    tick-quiet rows still_row before (c.self.inside.tick + 1) c.rest.new.self c.self.inside.rests h refl rest.0
    (λ m b t next past since start here side old. c.rest.ensures.stands rest.1 (phase_of c.self.inside.stage) (c.self.inside.tick + 1) m b t next past since start here side old)
    (λ _. c.rest.ensures.nothing rest.1)
    refl refl refl rests in
    record {
      stands = λ rows h. (both rows h).0;
      answer = λ rows h. (both rows h).1;
      tick = ap (λ (d : DetectState). d.tick + 1) c.self.view_is;
    }
