use Rattle.std.proofs.Common.{arith, ap, sym, unsigned_abs, FitsSigned, w64, rules}
use Rattle.std.proofs.lemmas.Int.{to_z-of_z}
use Rattle.edr_window.specs.Changes.{changes}
use Rattle.edr_detect.proofs.WindowLemmas.{swing-none, swing-greatest, swing-least}
use Rattle.edr_detect.proofs.windows.largest.Goals as goal

pub returns-in_default : goal.returns-in_default
returns-in_default g c = λ axis from t h. sym (swing-none axis g.row.K from t (c.in_default.ensures (changes axis from t) h))

pub returns-then-unsigned_abs : goal.returns-then-unsigned_abs
returns-then-unsigned_abs g c = λ axis from t h.
    let low = c.in-Some.ensures (changes axis from t) h in
    let high = c.in-Some-greatest.ensures (changes axis from t) h in
    let fits_low : FitsSigned w64 c.in-Some.least = search rules in
    let fits_high : FitsSigned w64 c.in-Some-greatest.greatest = search rules in
    let e = to_z-of_z w64 c.in-Some.least fits_low in
    let f = to_z-of_z w64 c.in-Some-greatest.greatest fits_high in
    rw (to_z-of_z w64 c.in-Some-greatest.greatest fits_high) (swing-greatest axis g.row.K from t c.in-Some.least c.in-Some-greatest.greatest (omega (arith, ap unsigned_abs e, ap unsigned_abs f, c.unsigned_abs.ensures.value, c.unsigned_abs-2.ensures.value)) low high)

pub returns-else-unsigned_abs : goal.returns-else-unsigned_abs
returns-else-unsigned_abs g c = λ axis from t h.
    let low = c.in-Some.ensures (changes axis from t) h in
    let high = c.in-Some-greatest.ensures (changes axis from t) h in
    let fits_low : FitsSigned w64 c.in-Some.least = search rules in
    let fits_high : FitsSigned w64 c.in-Some-greatest.greatest = search rules in
    let e = to_z-of_z w64 c.in-Some.least fits_low in
    let f = to_z-of_z w64 c.in-Some-greatest.greatest fits_high in
    rw (to_z-of_z w64 c.in-Some.least fits_low) (swing-least axis g.row.K from t c.in-Some.least c.in-Some-greatest.greatest (omega (arith, ap unsigned_abs e, ap unsigned_abs f, c.unsigned_abs.ensures.value, c.unsigned_abs-2.ensures.value)) low high)
