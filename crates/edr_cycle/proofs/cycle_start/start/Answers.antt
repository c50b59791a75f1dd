use Rattle.std.proofs.Common.{rules, arith, ap, sym, ◌∙◌}
use Rattle.std.proofs.lemmas.Result.{err_from_is_err_and}
use Rattle.edr_image.specs.Image.{View, view_of}
use Rattle.edr_cycle.proofs.FirstByteLemmas.{found_stays}
use Rattle.edr_cycle.proofs.StartLemmas.{made_found, number_next, six_err, six_ok, some_view, starts_counted, starts_early}
use Rattle.edr_cycle.proofs.cycle_start.start.Goals as goal

pub returns-in_err-started : goal.returns-in_err-started
returns-in_err-started g c =
    let N = g.N.Nvm in
    let e = c.in_err-started.ensures in
    let f = e.finds in record {
      lent = search rules;
      finds = record {
        ticks = search rules;
        found = search rules;
        number = search rules;
        fits = search rules;
        refused = search rules;
        short = search rules;
        sizes = search rules;
        spent = search rules;
        fault = search rules;
      };
      made = search rules;
      early = search rules;
      cycle = starts_early N.content N.settled N.since N.clock N.last_good g.met.N.Nvm.only_now c.args.nvm.now c.prepare.new.nvm c.from_residual.result c.from_residual.ensures.0 e.read.stays e.read.clock;
    }

pub returns-in_err-count_cycle : goal.returns-in_err-count_cycle
returns-in_err-count_cycle g c =
    let N = g.N.Nvm in
    let s = c.in_ok-started.started in
    let q = c.in_ok-started.ensures.finds in
    let d = c.prepare.new.nvm in
    let e = c.count_cycle.new.nvm in
    let p = err_from_is_err_and c.from_residual-in_err-count_cycle.result c.from_residual-in_err-count_cycle.ensures.1 in
    let again = g.met.N.Nvm.goes_on_again in
    let low = q.number.0 in
    let high = q.number.1 in record {
      lent = record { size = search rules; device = search (rules, again); tells = search rules; later = omega (arith, c.prepare.ensures.read.later, c.count_cycle.ensures.lent.cause.later) };
      finds = record {
        ticks = search rules;
        found = search rules;
        number = search rules;
        fits = search rules;
        refused = rw (p.1, p.2) (λ o e refusal bytes told. absurd cc);
        short = search rules;
        sizes = rw (p.1, p.2) (λ size needed e. absurd cc);
        spent = rw (p.1, p.2) (λ opened bytes told. (_, q.found bytes told, omega (arith, high), ((λ e. absurd cc), (λ e. absurd (omega (arith, low, high, e))))));
        fault = search rules;
      };
      made = search rules;
      early = search rules;
      cycle = rw p.1 (starts_counted N.content N.settled N.since N.clock N.last_good g.met.N.Nvm.only_now c.args.nvm.now e _ c.number.result d c.prepare.ensures.read.stays c.prepare.ensures.read.clock
          (λ bytes v told says. c.number.ensures ∙ number_next s.banks.store s.number v (view_of bytes) q.number.0 says (q.found bytes told))
          (six_err (N.clock d) (N.clock e) (N.last_good e) _ _ c.in_err-count_cycle.ensures.time) c.in_err-count_cycle.ensures.stopped c.count_cycle.ensures.any_moment);
    }

pub returns : goal.returns
returns g c =
    let N = g.N.Nvm in
    let s = c.in_ok-started.started in
    let p = c.in_ok-started.ensures.finds in
    let d = c.args.nvm.now in
    let m = c.prepare.new.nvm in
    let e = c.count_cycle.new.nvm in
    let called = c.number.ensures in
    let again = g.met.N.Nvm.goes_on_again in record {
      lent = record { size = search rules; device = search (rules, again); tells = search rules; later = omega (arith, c.prepare.ensures.read.later, c.count_cycle.ensures.lent.cause.later) };
      finds = record {
        ticks = p.ticks;
        found = p.found;
        number = p.number;
        fits = p.fits;
        refused = tt;
        short = p.short;
        sizes = tt;
        spent = tt;
        fault = tt;
      };
      made = λ bytes v found.
          let still = found_stays v (N.content d) (N.content m) (N.settled d) (N.settled m) (N.since d) (N.since m) bytes c.prepare.ensures.read.stays found in
          let next = number_next s.banks.store s.number v (view_of bytes) p.number.0 found.view_is (p.found bytes found.quiet.0) in
          let made = c.in_ok-count_cycle.ensures.made bytes v still (omega (arith, called, next)) in
          let store = ap (λ (w : View). w.store) (some_view (sym found.view_is ∙ p.found bytes found.quiet.0)) in
          let both = made_found s.banks.store s.number c.number.result v bytes made.0 (N.content e) (N.settled e) called next store made.1 made.2 in
          (made.0, both.0, both.1);
      early = tt;
      cycle = starts_counted N.content N.settled N.since N.clock N.last_good g.met.N.Nvm.only_now d e _ c.number.result m c.prepare.ensures.read.stays c.prepare.ensures.read.clock
          (λ bytes v told says. called ∙ number_next s.banks.store s.number v (view_of bytes) p.number.0 says (p.found bytes told))
          (six_ok (N.clock m) (N.clock e) (N.last_good e) _ s c.in_ok-count_cycle.ensures.time) tt c.count_cycle.ensures.any_moment;
    }
