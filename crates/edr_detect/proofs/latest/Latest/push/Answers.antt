use Rattle.std.proofs.Common.{arith, refl, ap, sym, subst, ◌∙◌, ◌≡◌, ◌+◌, ◌%◌, ℕ, pos, get_or, set, w32, ◌+ℤ◌, ◌-ℤ◌}
use Rattle.std.proofs.lemmas.Int.{to_z-of_z}
use Rattle.edr_definitions.specs.Windows.{change_at}
use Rattle.edr_detect.specs.Latest.{LatestStandsFor}
use Rattle.edr_detect.proofs.LatestLemmas.{push-fits, latest-put, latest-step}
use Rattle.edr_detect.proofs.latest.Latest.push.Goals as goal

pub overflow_sub-self : goal.overflow_sub-self
overflow_sub-self c =
    let fits = push-fits c.args.self.now.values c.args.self.now.sum c.args.change (c.args.t % 20) c.args.self.now.sum_is (omega arith) c.requires in
    rw (to_z-of_z w32 _ fits.sum_fits, to_z-of_z w32 _ fits.old_fits) fits.less_fits

pub overflow_add-self : goal.overflow_add-self
overflow_add-self c =
    let fits = push-fits c.args.self.now.values c.args.self.now.sum c.args.change (c.args.t % 20) c.args.self.now.sum_is (omega arith) c.requires in
    rw (to_z-of_z w32 _ fits.sum_fits, to_z-of_z w32 _ fits.old_fits, to_z-of_z w32 _ fits.less_fits, to_z-of_z w32 _ fits.change_fits) fits.more_fits

pub invariant_of-self : goal.invariant_of-self
invariant_of-self c =
    let sum = c.args.self.now.sum in
    let values = c.args.self.now.values in
    let fits = push-fits values sum c.args.change (c.args.t % 20) c.args.self.now.sum_is (omega arith) c.requires in
    rw (to_z-of_z w32 _ fits.sum_fits, to_z-of_z w32 _ fits.old_fits, to_z-of_z w32 _ fits.less_fits, to_z-of_z w32 _ fits.change_fits, to_z-of_z w32 _ fits.more_fits) (record {
      sum_is = latest-put values sum c.args.self.now.sum_is (c.args.t % 20) c.args.change (sum -ℤ get_or values (c.args.t % 20) (pos 0) +ℤ c.args.change) (omega arith) c.requires refl;
    })

pub returns : goal.returns
returns c = λ axis before e start now h.
    let sum = c.args.self.now.sum in
    let values = c.args.self.now.values in
    let fits = push-fits values sum c.args.change (c.args.t % 20) c.args.self.now.sum_is (omega arith) c.requires in
    let now_next : change_at axis (before + 1) ≡ c.args.change = ap (change_at axis) (sym e) ∙ now in
    let step = latest-step axis before values sum c.args.change c.args.self.now.sum_is.long h start now_next in
    let here = subst (λ (t : ℕ). LatestStandsFor axis t (set values (t % 20) c.args.change) (sum -ℤ get_or values (t % 20) (pos 0) +ℤ c.args.change)) (sym e) step in
    rw (to_z-of_z w32 _ fits.sum_fits, to_z-of_z w32 _ fits.old_fits, to_z-of_z w32 _ fits.less_fits, to_z-of_z w32 _ fits.change_fits, to_z-of_z w32 _ fits.more_fits) here
