use Rattle.std.proofs.Common.{arith, refl}
use Rattle.edr_loops.proofs.LaterLemmas.{going-on, later-by}
use Rattle.edr_loops.proofs.CloseLemmas.{adds-here, ask-closed, ask-later, ask-near, ask-reached, settled-not, settles, stands-ask, stands-closed, stands-waits}
use Rattle.edr_loops.proofs.recorder.Desk.close_next.Goals as goal

pub ask-requires-clause-closed : goal.ask-requires-clause-closed
ask-requires-clause-closed c = let s = c.requires.stands.2 in ask-closed _ _ c.in-Ask.zero c.args.self.now s (c.in-Ask.ensures.answer s.history s.told.core_is)

pub ask-requires-clause-later : goal.ask-requires-clause-later
ask-requires-clause-later c = let s = c.requires.stands.2 in ask-later _ _ c.in-Ask.zero c.args.self.now s (c.in-Ask.ensures.answer s.history s.told.core_is)

pub ask-requires-clause-reached : goal.ask-requires-clause-reached
ask-requires-clause-reached c = let s = c.requires.stands.2 in ask-reached _ _ c.in-Ask.zero c.args.self.now s (c.in-Ask.ensures.answer s.history s.told.core_is)

pub ask-requires-clause-near : goal.ask-requires-clause-near
ask-requires-clause-near c = let s = c.requires.stands.2 in ask-near _ _ c.in-Ask.zero c.args.self.now s (c.in-Ask.ensures.answer s.history s.told.core_is)

pub settle-requires-clause-open : goal.settle-requires-clause-open
settle-requires-clause-open c = settles _ _ c.args.self.now c.requires.stands.2

pub settle-requires-clause-none : goal.settle-requires-clause-none
settle-requires-clause-none c = settled-not _ _ c.args.self.now c.requires.stands.2

pub returns-in-Waiting : goal.returns-in-Waiting
returns-in-Waiting c =
    going-on _ c.args.self.now _ c.requires.stands
    (later-by _ c.args.self.now _ refl refl refl refl refl refl (λ n e low s. stands-waits n e c.args.self.now c.close.new.self s (c.in-Waiting.ensures.stands s.history s.told.core_is))) (refl, refl)

pub returns-in-Parts : goal.returns-in-Parts
returns-in-Parts c =
    going-on _ c.args.self.now _ c.requires.stands
    (later-by _ c.args.self.now _ refl refl refl refl refl refl (λ n e low s. stands-waits n e c.args.self.now c.close.new.self s (c.in-Parts.ensures.stands s.history s.told.core_is))) (refl, refl)

pub returns-in-Ask : goal.returns-in-Ask
returns-in-Ask c =
    going-on _ c.args.self.now _ c.requires.stands
    (later-by _ c.args.self.now _ refl refl refl c.ask.ensures.freeze refl refl
    (λ n e low s. stands-ask n e c.in-Ask.zero c.args.self.now s (c.in-Ask.ensures.answer s.history s.told.core_is) c.close.new.self c.ask.new.self (c.in-Ask.ensures.stands s.history s.told.core_is) c.ask.ensures.granted c.ask.ensures.asked c.ask.ensures.marks)) (refl, refl)

pub returns-in-Closed : goal.returns-in-Closed
returns-in-Closed c =
    going-on _ c.args.self.now _ c.requires.stands
    (later-by _ c.args.self.now _ refl refl refl c.settle.ensures.settled.freeze refl refl
    (λ n e low s.
    let h = s.history in
    let closed = s.told.core_is.closed_is in
    stands-closed n e c.args.self.now c.close.new.self c.settle.new.asker c.hold_issued.new.held c.settle.new.asking _ s (c.in-Closed.ensures.stands h s.told.core_is) (omega (arith, low, closed)) c.settle.ensures.settled c.settle.ensures.asking c.requires.none c.hold_issued.ensures
    (λ slots are. adds-here n e c.in-Closed.tick c.in-Closed.issues c.close.new.issued c.args.self.now slots s are c.in-Closed.ensures.commands c.in-Closed.ensures.ticks))) (refl, refl)
