use Rattle.std.proofs.Common.{rules, arith, refl, ap, ◌≡◌, ◌∙◌, ◌-◌, ℕ, Some}
use Rattle.std.proofs.lemmas.Result.{err_from_is_err_and}
use Rattle.edr_image.specs.Image.{View}
use Rattle.edr_cycle.proofs.cycle_start.prepare.Goals as goal

pub returns-in_err-banks-clause-finds : goal.returns-in_err-banks-clause-finds
returns-in_err-banks-clause-finds g c =
    let e = c.in_err-banks.ensures in record {
      ticks = search rules;
      found = search rules;
      number = search rules;
      fits = search rules;
      refused = search rules;
      short = search rules;
      sizes = search rules;
      spent = search rules;
      fault = search rules;
    }

pub returns-in_default-clause-finds : goal.returns-in_default-clause-finds
returns-in_default-clause-finds g c =
    let full = rw c.in_default.is at c.checked_add.ensures in record {
      ticks = tt;
      found = tt;
      number = tt;
      fits = tt;
      refused = search rules;
      short = search rules;
      sizes = search rules;
      spent = λ opened bytes told. (_, c.in_ok-banks.ensures.view bytes told, omega (arith, full), ((λ e. omega (arith, full)), (λ e. refl)));
      fault = search rules;
    }

pub returns-in_err-core-clause-finds : goal.returns-in_err-core-clause-finds
returns-in_err-core-clause-finds g c =
    let p = err_from_is_err_and c.from_residual-in_err-core.result c.from_residual-in_err-core.ensures.1 in
    let room = rw c.in-Some.is at c.checked_add.ensures in record {
      ticks = search rules;
      found = search rules;
      number = search rules;
      fits = search rules;
      refused = search rules;
      short = search rules;
      sizes = search rules;
      spent = rw (p.1, p.2) (λ opened bytes told.
          (_, c.in_ok-banks.ensures.view bytes told, omega (arith, room), ((λ e. absurd cc), (λ e. absurd (omega (arith, room, e))))));
      fault = search rules;
    }

pub returns-clause-finds : goal.returns-clause-finds
returns-clause-finds g c =
    let room = rw c.in-Some.is at c.checked_add.ensures in
    let back : c.in_ok-banks.banks.count ≡ c.in-Some.number - 1 = omega (arith, room) in record {
      ticks = search rules;
      found = λ bytes told. c.in_ok-banks.ensures.view bytes told ∙ ap (λ (n : ℕ). let v : View = record { store = c.in_ok-banks.banks.store; count = n } in Some v) back;
      number = search rules;
      fits = search rules;
      refused = tt;
      short = search rules;
      sizes = tt;
      spent = tt;
      fault = tt;
    }
