use Rattle.std.proofs.Common.{sym, ◌≡◌, ◌∙◌, false}
use Rattle.edr_detect.specs.Stages.{phase_of, is_event}
use Rattle.edr_detect.proofs.WindowLemmas.{locks-is}
use Rattle.edr_detect.proofs.windows.Windows.tests.Goals as goal

pub returns-then-is_event : goal.returns-then-is_event
returns-then-is_event c = λ m b h past fires. record {
  zero = λ none. let e = c.is_event.ensures in let f = c.if-is_event.true in cc;
  trigger = λ none. let e = c.is_event.ensures in let f = c.if-is_event.true in cc;
  locks = locks-is c.locks-locks.result c.args.fired.0 (m.fired c.args.t) fires c.locks-locks.ensures;
  ends = λ z k l is. c.end_stands-ends.ensures m b (phase_of c.args.stage) h z k l is;
}

pub returns : goal.returns
returns c = λ m b h past fires.
    let none : is_event (phase_of c.args.stage) ≡ false = sym c.is_event.ensures ∙ c.if-is_event.false in
    let triggered = c.triggers-triggered.ensures m b c.args.t (h.swings none) fires in
    record {
      zero = λ _. c.begins.ensures m b c.args.t (h.swings none) past triggered;
      trigger = λ _. triggered;
      locks = locks-is c.locks-locks.result c.args.fired.0 (m.fired c.args.t) fires c.locks-locks.ensures;
      ends = λ z k l is. c.end_stands-ends.ensures m b (phase_of c.args.stage) h z k l is;
    }
