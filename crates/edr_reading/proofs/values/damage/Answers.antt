use Rattle.std.proofs.Common.{arith, refl, None, ◌∙◌, sym, ap, ℕ, List, ◌++◌, codes, decimal}
use Rattle.edr_report.specs.Words.{yes_no}
use Rattle.edr_reading.proofs.ValueLemmas.{byte_words, damage-is, damaged-read, lock_words}
use Rattle.edr_reading.proofs.values.damage.Goals as goal

pub returns-in_err-offset : goal.returns-in_err-offset
returns-in_err-offset c = rw c.from_residual.ensures (record {
  read = tt;
  whole = damaged-read c.args.bytes.now None (λ o x l a b is. absurd (c.in_err-offset.ensures.whole o (byte_words x l) (omega arith, a) refl is));
})

pub returns-in_err-found : goal.returns-in_err-found
returns-in_err-found c = rw c.from_residual-in_err-found.ensures (record {
  read = tt;
  whole = damaged-read c.args.bytes.now None (λ o x l a b is.
      let w = c.in_ok-offset.ensures.whole o (byte_words x l) (omega arith, a) refl is in
      absurd (c.in_err-found.ensures.whole x (lock_words l) (omega arith, b) refl w.1));
})

pub returns-in_err-after : goal.returns-in_err-after
returns-in_err-after c = rw c.from_residual-in_err-after.ensures (record {
  read = tt;
  whole = damaged-read c.args.bytes.now None (λ o x l a b is.
      let w = c.in_ok-offset.ensures.whole o (byte_words x l) (omega arith, a) refl is in
      let v = c.in_ok-found.ensures.whole x (lock_words l) (omega arith, b) refl w.1 in
      absurd (c.in_err-after.ensures.whole (yes_no l) v.1));
})

pub returns-in_err-locked : goal.returns-in_err-locked
returns-in_err-locked c = rw c.from_residual-in_err-locked.ensures (record {
  read = tt;
  whole = damaged-read c.args.bytes.now None (λ o x l a b is.
      let w = c.in_ok-offset.ensures.whole o (byte_words x l) (omega arith, a) refl is in
      let v = c.in_ok-found.ensures.whole x (lock_words l) (omega arith, b) refl w.1 in
      let u = c.in_ok-after.ensures.whole (yes_no l) v.1 in
      let z = c.in_err-locked.ensures.whole l tt u in
      cc);
})

pub returns : goal.returns
returns c = record {
  read = (
    c.in_ok-offset.ensures.read.0
        ∙ ap (λ (r : List ℕ). codes "damaged at " ++ (decimal c.in_ok-offset.offset ++ r))
        (c.in_ok-found.ensures.read.0 ∙ ap (λ (r : List ℕ). codes " found " ++ (decimal c.in_ok-found.found ++ r)) (c.in_ok-after.ensures.read ∙ ap (λ (r : List ℕ). codes " locked " ++ r) c.in_ok-locked.ensures.read.0))
        ∙ sym (damage-is c.in_ok-offset.offset c.in_ok-found.found c.in_ok-locked.locked),
    (c.in_ok-offset.ensures.read.1.1, c.in_ok-found.ensures.read.1.1),
  );
  whole = damaged-read c.args.bytes.now _ (λ o x l a b is.
      let w = c.in_ok-offset.ensures.whole o (byte_words x l) (omega arith, a) refl is in
      let v = c.in_ok-found.ensures.whole x (lock_words l) (omega arith, b) refl w.1 in
      let u = c.in_ok-after.ensures.whole (yes_no l) v.1 in
      let z = c.in_ok-locked.ensures.whole l tt u in
      cc);
}
