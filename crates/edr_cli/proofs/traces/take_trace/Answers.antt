use Rattle.std.proofs.Common.{arith, ◌≡◌, ◌∙◌, sym, ap, subst, ℕ, ◌+◌, ◌-◌, ◌≤◌, List, [], ◌++◌, length, take, length-append, length-take-le, vec_len}
use Rattle.edr_device.specs.Told.{Told}
use Rattle.edr_device.specs.Transfer.{Carries, GivesAll}
use Rattle.edr_device.proofs.TransferLemmas.{Gives, gives_at_most}
use Rattle.edr_cli.proofs.TakingLemmas.{all_most, gives_end, gives_more, gives_most, gives_none, gives_too_many, restored}
use Rattle.edr_cli.proofs.traces.take_trace.Given.{Over}
use Rattle.edr_cli.proofs.traces.take_trace.Goals as goal
use Rattle.edr_cli.proofs.traces.take_trace.Goals.{After-truncate}

-- the bytes that were taken, with those that are kept
taken-len : (before items : List ℕ) (kept : ℕ) → kept ≤ length items → length (before ++ take kept items) ≡ length before + kept
taken-len before items kept within = let all = length-append before (take kept items) in let part = length-take-le kept items within in omega (arith, all, part)

pub loop-taken-init : goal.loop-taken-init
loop-taken-init g c =
    let S = g.S.Source in
    record {
      before = [];
      given = c.new-reading.ensures;
      count = omega arith;
      within = omega arith;
      kept = omega arith;
      buffer = c.in_ok-buffer.ensures.len;
      gives = gives_none (S.left c.args.source.now);
      later = omega arith;
    }

pub returns-in_err-n-clause-most : goal.returns-in_err-n-clause-most
returns-in_err-n-clause-most g c =
    let S = g.S.Source in
    let l = c.loop-taken in
    let inv = l.invariant in
    let long = taken-len inv.before l.buffer.items l.kept (omega (arith, inv.kept, inv.buffer, l.buffer.ok.0)) in
    gives_at_most c.min-most.result (c.args.limit + 1) (inv.before ++ take l.kept l.buffer.items) (S.left c.args.source.now) (S.left l.source) (S.left c.take_after.new.source)
    (omega (arith, long, inv.count, inv.within, c.min-most.ensures)) inv.gives c.in_err-n.ensures.err

-- no more bytes came
all-given : (g : Over) (c : After-truncate g) → Told (GivesAll (c.loop-taken.invariant.before ++ c.truncate.new.self.items)) (g.S.Source.left c.args.source.now) (g.S.Source.left c.take_after.new.source)
all-given g c =
    let S = g.S.Source in
    let l = c.loop-taken in
    let inv = l.invariant in
    let n = c.in_ok-n.n in
    let buffer = c.take_after.new.buffer in
    let zero = c.if-n-eq0.true in
    let same = c.deref_mut.ensures.value in
    let long : length buffer ≡ l.buffer.len = omega (arith, c.take_after.auto.buffer, ap length same, l.buffer.ok.0) in
    let old = length-take-le l.kept l.buffer.items (omega (arith, inv.kept, inv.buffer, l.buffer.ok.0)) in
    let new = length-take-le (l.kept + n) buffer (omega (arith, inv.kept, inv.buffer, long, zero)) in
    let left : take (l.kept + n) buffer ≡ c.truncate.new.self.items =
    ap (λ (k : ℕ). take k buffer) (omega (arith, zero)) ∙ sym (c.truncate.ensures.items ∙ ap (take l.kept) (restored l.buffer.len buffer l.buffer.items long)) in
    let came = subst (λ (x : List ℕ). Told (Carries n (take l.kept x) (take (l.kept + n) buffer)) (S.left l.source) (S.left c.take_after.new.source)) same c.in_ok-n.ensures.carries in
    subst (λ (x : List ℕ). Told (GivesAll (inv.before ++ x)) (S.left c.args.source.now) (S.left c.take_after.new.source)) left
    (gives_end n inv.before (take l.kept l.buffer.items) (take (l.kept + n) buffer) (S.left c.args.source.now) (S.left l.source) (S.left c.take_after.new.source) zero (omega (arith, old, new)) inv.gives came)

few-given : (g : Over) (c : After-truncate g) → length c.loop-taken.invariant.before + vec_len c.truncate.new.self ≤ c.args.limit
few-given g c =
    let inv = c.loop-taken.invariant in
    omega (arith, inv.count, c.loop-taken-test.true, c.truncate.ensures.len)

pub returns-then-n-eq0-clause-all : goal.returns-then-n-eq0-clause-all
returns-then-n-eq0-clause-all g c = (c.loop-taken.invariant.before, c.loop-taken.invariant.given, few-given g (goal.at.returns-then-n-eq0-clause-all g c).After-truncate, all-given g (goal.at.returns-then-n-eq0-clause-all g c).After-truncate)

pub returns-then-n-eq0-clause-most : goal.returns-then-n-eq0-clause-most
returns-then-n-eq0-clause-most g c =
    let S = g.S.Source in
    let before = c.loop-taken.invariant.before in
    let left = c.truncate.new.self in
    let here = (goal.at.returns-then-n-eq0-clause-most g c).After-truncate in
    let long = length-append before left.items in
    all_most (c.args.limit + 1) (before ++ left.items) (S.left c.args.source.now) (S.left c.take_after.new.source) (omega (arith, long, few-given g here, left.ok.0)) (all-given g here)

pub loop-taken-preserved : goal.loop-taken-preserved
loop-taken-preserved g c =
    let S = g.S.Source in
    let l = c.loop-taken in
    let inv = l.invariant in
    let n = c.in_ok-n.n in
    let end = l.kept + n in
    let kept = c.keep_left-kept.result in
    let buffer = c.take_after.new.buffer in
    let lent = c.deref_mut-in-loop-taken.result.now in
    let back = c.keep_left-kept.new.buffer in
    let same = c.deref_mut.ensures.value in
    let long : length buffer ≡ l.buffer.len = omega (arith, c.take_after.auto.buffer, ap length same, l.buffer.ok.0) in
    let again : lent ≡ buffer = c.deref_mut-in-loop-taken.ensures.value ∙ restored l.buffer.len buffer l.buffer.items long in
    let still : length back ≡ l.buffer.len = omega (arith, c.keep_left-kept.auto.buffer, ap length again, long) in
    let came = subst (λ (x : List ℕ). Told (Carries n (take l.kept x) (take end buffer)) (S.left l.source) (S.left c.take_after.new.source)) same c.in_ok-n.ensures.carries in
    let front = take (end - kept) lent in
    let more = length-take-le (end - kept) lent (omega (arith, inv.kept, inv.buffer, c.in_ok-n.ensures.within, c.min-most.ensures, long, ap length again)) in
    let whole = length-append inv.before front in
    let gives = gives_more n inv.before (take l.kept l.buffer.items) (take end buffer) front (take kept back) (S.left c.args.source.now) (S.left l.source) (S.left c.take_after.new.source)
    (c.keep_left-kept.ensures.moved ∙ ap (take end) again) inv.gives came in
    record {
      before = inv.before ++ front;
      given = c.keep_left-kept.ensures.given inv.before inv.given;
      count = omega (arith, inv.count, whole, more, c.keep_left-kept.ensures.left);
      within = omega (arith, c.in_ok-n.ensures.within, c.min-most.ensures);
      kept = c.keep_left-kept.ensures.few;
      buffer = inv.buffer;
      gives = subst (λ (x : List ℕ). Told (Gives ((inv.before ++ front) ++ take kept x)) (S.left c.args.source.now) (S.left c.take_after.new.source)) (sym (restored l.buffer.len back _ still)) gives;
      later = omega (arith, inv.later, c.in_ok-n.ensures.later);
    }

pub returns-clause-too_long : goal.returns-clause-too_long
returns-clause-too_long g c = λ _.
    let S = g.S.Source in
    let l = c.loop-taken in
    let inv = l.invariant in
    let long = taken-len inv.before l.buffer.items l.kept (omega (arith, inv.kept, inv.buffer, l.buffer.ok.0)) in
    gives_too_many c.args.limit (inv.before ++ take l.kept l.buffer.items) (S.left c.args.source.now) (S.left l.source) (omega (arith, long, inv.count, inv.within, c.loop-taken-test.false)) inv.gives

pub returns-clause-most : goal.returns-clause-most
returns-clause-most g c =
    let S = g.S.Source in
    let l = c.loop-taken in
    let inv = l.invariant in
    let long = taken-len inv.before l.buffer.items l.kept (omega (arith, inv.kept, inv.buffer, l.buffer.ok.0)) in
    gives_most (c.args.limit + 1) (inv.before ++ take l.kept l.buffer.items) (S.left c.args.source.now) (S.left l.source) (omega (arith, long, inv.count, inv.within)) inv.gives
