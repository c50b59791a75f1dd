use Rattle.std.proofs.Common.{arith, refl, ap, sym, subst, ◌≡◌, ◌∙◌, ℕ, List}
use Rattle.edr_items.specs.declared.Item.{Item}
use Rattle.edr_items.specs.declared.Sensor.TheVariants.{Along, Across}
use Rattle.edr_items.specs.SensorLists.{items_of}
use Rattle.edr_merge.specs.Still.{still_item}
use Rattle.edr_core.specs.Still.{next_tick}
use Rattle.edr_cycle.specs.Rest.{StillComesFirst}
use Rattle.edr_cycle.proofs.StillLemmas.{closes-early, still-fewer, takes-still}
use Rattle.edr_cycle.proofs.cycle_run.pass_next.Goals as goal
use Rattle.edr_cycle.proofs.cycle_run.pass_next.Goals.{then-not-is_still-via-then-not-is_still, then-not-is_still-via-else-not-is_still+then-not-is_still-2}

pub returns-then-not-is_still-clause-answer : goal.returns-then-not-is_still-clause-answer
returns-then-not-is_still-clause-answer c = λ n p is. (
  λ no. absurd cc,
  λ can.
      let closed = c.closed.ensures n p is in
      let early = closes-early _ n p is in
      let add = c.saturating_add-tick.ensures in
      let tick : next_tick p ≡ c.saturating_add-tick.result = omega (arith, closed, early, add) in
      elim c.then-not-is_still.branch [
        | then-not-is_still-via-then-not-is_still w ↦
            sym w.if-not-is_still.true ∙ c.is_still.ensures.1 (subst (λ (t : ℕ). StillComesFirst t (items_of Along c.args.left.now)) tick can.along)
        | then-not-is_still-via-else-not-is_still+then-not-is_still-2 w ↦
            sym w.if-not-is_still-2.true ∙ w.is_still-else-not-is_still.ensures.1 (subst (λ (t : ℕ). StillComesFirst t (items_of Across c.args.left.now)) tick can.across)
      ],
)

pub returns-then-not-pass_still-clause-answer : goal.returns-then-not-pass_still-clause-answer
returns-then-not-pass_still-clause-answer c = λ n p is. (
  λ no. absurd cc,
  λ can. sym c.if-not-pass_still.true ∙ (c.pass_still.ensures.answer n p is).1 can.passes,
)

pub returns-clause-answer : goal.returns-clause-answer
returns-clause-answer c = λ n p is. (
  λ _.
      let closed = c.closed.ensures n p is in
      let early = closes-early _ n p is in
      let add = c.saturating_add-tick.ensures in
      let tick : c.saturating_add-tick.result ≡ next_tick p = omega (arith, closed, early, add) in
      record {
        along = subst (λ (t : ℕ). StillComesFirst t (items_of Along c.args.left.now)) tick (c.is_still.ensures.0 c.if-not-is_still.false);
        across = subst (λ (t : ℕ). StillComesFirst t (items_of Across c.args.left.now)) tick (c.is_still-else-not-is_still.ensures.0 c.if-not-is_still-2.false);
        passes = (c.pass_still.ensures.answer n p is).0 c.if-not-pass_still.false;
      },
  λ _. refl,
)

pub returns-clause-passes : goal.returns-clause-passes
returns-clause-passes c = λ yes n p is.
    let can = (returns-clause-answer c n p is).0 yes in
    record {
      middle = c.next.new.self;
      along = takes-still c.next.result (items_of Along c.args.left.now) (items_of Along c.next.new.self) (next_tick p) can.along c.next.ensures.item;
      along_others = c.next.ensures.others;
      across = takes-still c.next-2.result (items_of Across c.next.new.self) (items_of Across c.next-2.new.self) (next_tick p)
          (subst (λ (xs : List Item). StillComesFirst (next_tick p) xs) (sym (ap (items_of Across) c.next.ensures.others)) can.across) c.next-2.ensures.item;
      across_others = c.next-2.ensures.others;
      passes = c.pass_still.ensures.passes c.if-not-pass_still.false n p is;
    }

pub returns-clause-fewer : goal.returns-clause-fewer
returns-clause-fewer c = λ _.
    let t = c.saturating_add-tick.result in
    let along = takes-still c.next.result (items_of Along c.args.left.now) (items_of Along c.next.new.self) t (c.is_still.ensures.0 c.if-not-is_still.false) c.next.ensures.item in
    let across = takes-still c.next-2.result (items_of Across c.next.new.self) (items_of Across c.next-2.new.self) t
    (subst (λ (xs : List Item). StillComesFirst t xs) (sym (ap (items_of Across) c.next.ensures.others)) (c.is_still-else-not-is_still.ensures.0 c.if-not-is_still-2.false)) c.next-2.ensures.item in
    let less = still-fewer c.args.left.now c.next.new.self c.next-2.new.self (still_item t) (still_item t) along c.next.ensures.others across c.next-2.ensures.others in
    omega (arith, less)
