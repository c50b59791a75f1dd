use Rattle.std.proofs.Common.{◌≡◌, ◌∙◌, ◌+◌, ◌++◌, ◌∷◌, [], List, ℕ, None, Result, Ok, Err, IsOk, false, ap, subst, sym, take, get_or}
use Rattle.std.proofs.lemmas.List.{take_more}
use Rattle.std.specs.Result.{is_err}
use Rattle.edr_items.specs.declared.Item.{Item}
use Rattle.edr_items.specs.Item.{mark_from, refusal_of}
use Rattle.edr_seats.specs.Accepted.{AreAccepted}
use Rattle.edr_seats.proofs.MarkLemmas.{accepted-push, mark_from-append}
use Rattle.edr_seats.proofs.accepted.count_accepted.Goals as goal

no-error : {T E : Type 0} (r : Result T E) → is_err r ≡ false → IsOk r
no-error (Ok x) none = search
no-error (Err e) none = absurd (cc)

pub loop-k-preserved : goal.loop-k-preserved
loop-k-preserved c =
    let k = c.loop-k.k in
    let x : Item = get_or c.args.items.now k (record { moment = 0; value = None }) in
    let before = take k c.args.items.now in
    let more : take (k + 1) c.args.items.now ≡ before ++ x ∷ [] = take_more c.args.items.now k (record { moment = 0; value = None }) c.loop-k-test.true in
    let next : refusal_of c.args.sensor (mark_from c.args.before before) x ≡ None =
    subst (λ (m : ℕ). refusal_of c.args.sensor m x ≡ None) c.loop-k.invariant.1 (c.check.ensures.accepted.0 (no-error c.check.result (sym c.is_err.ensures.value ∙ c.if-is_err.false))) in (
      subst (λ (xs : List Item). AreAccepted c.args.sensor c.args.before xs) (sym more) (accepted-push c.args.sensor c.args.before before x c.loop-k.invariant.0 next),
      sym (ap (mark_from c.args.before) more ∙ mark_from-append c.args.before before (x ∷ [])),
    )
