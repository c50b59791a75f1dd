use Rattle.std.proofs.{Common.{arith, ◌≡◌, ◌∙◌, sym, ap, ◌<◌, ℕ, List, ◌++◌, length, get_or}, lemmas.List.Elements.All-get_or}
use Rattle.edr_reading.proofs.SlotLemmas.{all-same, taken-more, left-one, are-more, ends-more, same-more, some-in, read-all, none-left}
use Rattle.edr_reading.proofs.values.read_slots.Goals as goal

pub returns-in_err-after : goal.returns-in_err-after
returns-in_err-after g c =
    let at = c.loop-i in
    let words = g.S.SlotRead.words in
    rw c.from_residual.ensures (record {
      long = at.auto.slots;
      read = tt;
      whole = λ xs long is.
          let h : at.i < length xs = omega (arith, long, c.loop-i-test.true) in
          absurd (c.in_err-after.ensures.whole _ (left-one words xs at.rest.now c.space_at.result.now at.i (some-in xs at.i h) h (at.invariant.whole xs long is).1 c.space_at.ensures));
    })

pub returns-in_err-slot : goal.returns-in_err-slot
returns-in_err-slot g c =
    let at = c.loop-i in
    let words = g.S.SlotRead.words in
    rw c.from_residual-in_err-slot.ensures (record {
      long = at.auto.slots;
      read = tt;
      whole = λ xs long is.
          let h : at.i < length xs = omega (arith, long, c.loop-i-test.true) in
          let d = some-in xs at.i h in
          let left = c.in_ok-after.ensures.whole _ (left-one words xs at.rest.now c.space_at.result.now at.i d h (at.invariant.whole xs long is).1 c.space_at.ensures) in
          absurd (c.in_err-slot.ensures.whole (get_or xs at.i d) _ (All-get_or g.S.SlotRead.is_slot xs at.i d h is.1) (ends-more at.i _) left);
    })

pub loop-i-preserved : goal.loop-i-preserved
loop-i-preserved g c =
    let at = c.loop-i in
    let words = g.S.SlotRead.words in
    let slot = c.in_ok-slot.slot in
    let inside : at.i < length at.slots = omega (arith, at.auto.slots, c.loop-i-test.true) in
    let read = c.in_ok-slot.ensures.read in
    let here = c.in_ok-after.ensures.read ∙ ap (λ (rest : List ℕ). c.space_at.result.now ++ rest) read.0 in
    record {
      read = taken-more words c.args.bytes.now at.rest.now c.in_ok-slot.more.now c.space_at.result.now at.slots at.i slot inside at.invariant.read c.space_at.ensures here;
      slots = are-more g.S.SlotRead.is_slot at.slots at.i slot inside at.invariant.slots read.1;
      whole = λ xs long is.
          let h : at.i < length xs = omega (arith, long, c.loop-i-test.true) in
          let w = at.invariant.whole xs long is in
          let left = c.in_ok-after.ensures.whole _ (left-one words xs at.rest.now c.space_at.result.now at.i slot h w.1 c.space_at.ensures) in
          let n = c.in_ok-slot.ensures.whole (get_or xs at.i slot) _ (All-get_or g.S.SlotRead.is_slot xs at.i slot h is.1) (ends-more at.i _) left in
          (same-more at.slots xs at.i slot slot inside h w.0 n.0, n.1);
    }

pub returns-then-is_empty : goal.returns-then-is_empty
returns-then-is_empty g c =
    let at = c.loop-i in
    let all : at.i ≡ length at.slots = omega (arith, at.auto.slots, at.auto.i-end, c.loop-i-test.false) in
    record {
      long = at.auto.slots;
      read = read-all g.S.SlotRead.words g.S.SlotRead.is_slot c.args.bytes.now at.rest.now at.slots at.i all (none-left at.rest.now (sym c.is_empty.ensures ∙ c.if-is_empty.true)) at.invariant.read at.invariant.slots;
      whole = λ xs long is. (all-same g.S.SlotRead.words at.rest.now at.slots xs at.i all (omega (arith, long, at.auto.slots)) (at.invariant.whole xs long is)).1;
    }

pub returns-else-is_empty : goal.returns-else-is_empty
returns-else-is_empty g c =
    let at = c.loop-i in
    let all : at.i ≡ length at.slots = omega (arith, at.auto.slots, at.auto.i-end, c.loop-i-test.false) in
    record {
      long = at.auto.slots;
      read = tt;
      whole = λ xs long is.
          let s = (all-same g.S.SlotRead.words at.rest.now at.slots xs at.i all (omega (arith, long, at.auto.slots)) (at.invariant.whole xs long is)).0 in
          cc;
    }
