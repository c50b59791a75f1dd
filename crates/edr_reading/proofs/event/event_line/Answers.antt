use mathlib.Core.Bool.{beq}
use Rattle.std.proofs.{Common.{rules, ◌≡◌, ◌∙◌, sym, ap, Bool, true, false}, lemmas.Option.same_Some}
use Rattle.edr_record.specs.Complete.{is_complete}
use Rattle.edr_reading.specs.Reading.{event_of}
use Rattle.edr_reading.proofs.EventLemmas.{before-agrees, before-here, after-agrees, after-earlier, complete-same}
use Rattle.edr_reading.proofs.event.event_line.Goals as goal

not-itself : (b : Bool) → beq b b ≡ false → ⊥
not-itself true e = cc
not-itself false e = cc

pub returns-in_ok-pre-in-Before : goal.returns-in_ok-pre-in-Before
returns-in_ok-pre-in-Before c =
    let old = c.args.event.now.record in
    let now = c.in_ok-pre-in-Before in
    rw c.in-Before.is (record {
      bounds = search rules;
      shows = search rules;
      earlier = search rules;
      whole = λ f is a e. before-agrees c.in-Before.line c.args.event.now.bank old.pre now.pre old.locked now.locked old.crash f a (λ b. now.ensures.whole (f.1.pre, f.1.locked) is.record_bounds.pre b e);
    })

pub returns-in_ok-crash-in-After : goal.returns-in_ok-crash-in-After
returns-in_ok-crash-in-After c =
    let old = c.args.event.now.record in
    let now = c.in_ok-crash-in-After in
    rw c.in-After.is (record {
      bounds = search rules;
      shows = search rules;
      earlier = after-earlier c.in-After.line c.args.block c.args.event.now.bank old.pre old.locked old.crash now.crash c.requires.record_bounds.crash now.ensures.bounds now.ensures.earlier;
      whole = λ f is a e. after-agrees c.in-After.line c.args.event.now.bank old.pre old.locked old.crash now.crash f a (λ b. now.ensures.whole f.1.crash is.record_bounds.crash b e);
    })

pub returns-in_err-pre-in-Before : goal.returns-in_err-pre-in-Before
returns-in_err-pre-in-Before c =
    rw (c.from_residual-in_err-pre-in-Before.ensures, c.in-Before.is) (record {
      bounds = tt;
      shows = tt;
      earlier = tt;
      whole = λ f is a e. c.in_err-pre-in-Before.ensures.whole (f.1.pre, f.1.locked) is.record_bounds.pre (before-here c.in-Before.line c.args.event.now.record.pre f.1.pre a.before) e;
    })

pub returns-else-complete : goal.returns-else-complete
returns-else-complete c =
    rw c.in-Complete.is (record {
      bounds = tt;
      shows = tt;
      earlier = tt;
      whole = λ f is a e.
          let shown = c.in_ok-complete-in-Complete.ensures.whole (is_complete f.1) tt e in
          let s : c.in_ok-complete-in-Complete.complete ≡ c.complete.result = same_Some _ _ shown ∙ sym (c.complete.ensures ∙ complete-same (event_of c.args.event.now) f a) in
          not-itself c.complete.result (ap (λ (b : Bool). beq b c.complete.result) (sym s) ∙ c.if-complete.false);
    })
