use Rattle.edr_cycle.proofs.AnswerLemmas.{kept-near, kept-range, kept-stands, puts}
use Rattle.edr_cycle.proofs.remaining.put.Goals as goal

pub part-requires-clause-range : goal.part-requires-clause-range
part-requires-clause-range c =
    let r = c.requires.asked in
    let a = c.fill.ensures.asked r.0 r.1 r.2 r.3 in
    kept-range r.0 r.1 a.0 c.fill.new.core c.fill.new.rest c.args.zero c.args.sensor c.requires.slow a.1

pub part-requires-clause-near : goal.part-requires-clause-near
part-requires-clause-near c =
    let r = c.requires.asked in
    let a = c.fill.ensures.asked r.0 r.1 r.2 r.3 in
    kept-near r.0 r.1 a.0 c.fill.new.core c.fill.new.rest c.args.zero c.args.sensor c.requires.slow a.1

pub returns-clause-taken : goal.returns-clause-taken
returns-clause-taken c = λ f n h asked.
    let a = c.fill.ensures.asked f n h asked in
    let z = c.args.zero in
    let s = c.args.sensor in
    puts f n a.0 c.fill.new.core c.fill.new.rest z s c.requires.slow a.1 h c.part-2.new.self c.part.result c.part-2.result a.2
    (c.part.ensures.definition (a.1.stands.remains.rests s).done (kept-stands f n a.0 c.fill.new.core c.fill.new.rest z s c.requires.slow a.1))
    (c.fill.ensures.past f n h asked) c.part-2.ensures.ok c.part-2.ensures.err c.part-2.ensures.why
