use Rattle.std.proofs.Common.{◌≡◌, ◌∙◌, ◌+◌, ◌++◌, ℕ, List, Result, ap₂, subst, arith, rules, length, take-append-drop}
use Rattle.std.specs.Prelude.{IfOk}
use Rattle.std.specs.Borrow.{Bor}
use Rattle.std.specs.declared.alloc.AllocError.{AllocError}
use Rattle.edr_fleet.specs.declared.parts.FleetPart.{FleetPart}
use Rattle.edr_fleet.specs.Parts.{HasShare, IsShareOf}
use Rattle.edr_fleet.proofs.ShareLemmas.{both_shares}
use Rattle.edr_fleet.proofs.beside.report_beside.Goals as goal

pub returns-clause-part : goal.returns-clause-part
returns-clause-part g c =
    let before = c.args.before in
    let images : List (Bor (List ℕ)) = c.args.images.now in
    let many = c.others_of-others.result in
    let theirs : List (Bor (List ℕ)) = c.split_at.result.0.now in
    let own : List (Bor (List ℕ)) = c.split_at.result.1.now in
    let a : Result FleetPart AllocError = c.join_mut-part.result.0 in
    let b : Result FleetPart AllocError = c.join_mut-part.result.1.part in
    let cut : theirs ++ own ≡ images = ap₂ (λ (xs ys : List (Bor (List ℕ))). xs ++ ys) c.split_at.ensures.front c.split_at.ensures.back ∙ take-append-drop many images in
    let long : many ≡ length theirs = omega (arith, c.split_at.ensures.front_len) in
    let theirs_told : IfOk a (HasShare theirs before) = search rules in
    let own_told : IfOk b (HasShare own (before + many)) = search rules in
    let share_b : IsShareOf own (before + length theirs) b = subst (λ (n : ℕ). IsShareOf own (before + n) b) long own_told in
    subst (λ (some : List (Bor (List ℕ))). IfOk c.joined.result (HasShare some before)) cut
    (both_shares before theirs own a b c.joined.result theirs_told share_b c.joined.ensures.all c.joined.ensures.lines c.joined.ensures.events)
