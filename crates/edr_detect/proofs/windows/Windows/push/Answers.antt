use Rattle.std.proofs.Common.{arith, sym, ◌≡◌, ◌∙◌, false, FitsSigned, w32, rules}
use Rattle.std.proofs.lemmas.Int.{ints, to_z-of_z}
use Rattle.edr_detect.specs.Stages.{phase_of, is_event}
use Rattle.edr_detect.proofs.windows.Windows.push.Goals as goal

pub returns-then-is_event-clause-stands : goal.returns-then-is_event-clause-stands
returns-then-is_event-clause-stands c = λ m b before next after_past since_past rest along across h. record {
  swings = λ none. let e = c.is_event.ensures in let f = c.if-is_event.true in cc;
  latest_along = c.push.ensures m.along before next rest.along (omega (arith, ints, along)) h.latest_along;
  latest_across = c.push-2.ensures m.across before next rest.across (omega (arith, ints, across)) h.latest_across;
}

pub returns-clause-stands : goal.returns-clause-stands
returns-clause-stands c = λ m b before next after_past since_past rest along across h.
    let none : is_event (phase_of c.args.stage) ≡ false = sym c.is_event.ensures ∙ c.if-is_event.false in
    let w = h.swings none in
    let along_fits : FitsSigned w32 c.args.along = search rules in
    let across_fits : FitsSigned w32 c.args.across = search rules in
    record {
      swings = λ _. c.push_swings.ensures.stands m b before c.args.t next after_past since_past (along ∙ sym (to_z-of_z w32 c.args.along along_fits)) (across ∙ sym (to_z-of_z w32 c.args.across across_fits))
          (record { zero_along = w.zero_along; zero_across = w.zero_across; trigger_along = w.trigger_along; trigger_across = w.trigger_across });
      latest_along = rw c.push_swings.ensures.latest_along (c.push.ensures m.along before next rest.along (omega (arith, ints, along)) h.latest_along);
      latest_across = rw c.push_swings.ensures.latest_across (c.push-2.ensures m.across before next rest.across (omega (arith, ints, across)) h.latest_across);
    }
