use Rattle.std.proofs.Common.{◌≡◌, ◌+◌, ◌*◌, ◌/◌, ◌%◌, ◌<◌, ◌≤◌, min, ℕ, List, Result, Err, length, get_or, subst, arith}
use Rattle.std.specs.Borrow.{Bor}
use Rattle.std.specs.Fork.{slice_chunk}
use Rattle.std.specs.declared.alloc.AllocError.{AllocError}
use Rattle.std.proofs.Math.Nat.{div-le_self}
use Rattle.edr_fleet.specs.declared.parts.FleetPart.{FleetPart}
use Rattle.edr_fleet.specs.Parts.{IsShareOf}
use Rattle.edr_fleet.proofs.ShareLemmas.{enough_shares, few_events, joined_share}
use Rattle.edr_fleet.proofs.threads.part_by.Given.{Over}
use Rattle.edr_fleet.proofs.threads.part_by.Goals as goal
use Rattle.edr_fleet.proofs.threads.part_by.Goals.{After-deref}

-- each part is the report of its share
shares : (g : Over) (c : After-deref g) (n : ℕ) (d : Result FleetPart AllocError) → n < length c.in_ok-parts.parts.items
    → IsShareOf (slice_chunk c.args.images.now c.share_of.result n) (c.args.before + n * c.share_of.result) (get_or c.in_ok-parts.parts.items n d)
shares g c n d within =
    let each = (c.in_ok-parts.ensures {u = tt}).each n d within in
    subst (λ (some : List (Bor (List ℕ))). IsShareOf some (c.args.before + n * c.share_of.result) (get_or c.in_ok-parts.parts.items n d)) each.1.argument_is.value each.1.call

many_shares : (g : Over) (c : After-deref g)
    → length c.in_ok-parts.parts.items ≡ length c.args.images.now / c.share_of.result + min 1 (length c.args.images.now % c.share_of.result)
many_shares g c = omega (arith, (c.in_ok-parts.ensures {u = tt}).len, c.in_ok-parts.parts.ok.0)

-- there are far fewer events than a sum has room for
pub joined-requires : goal.joined-requires
joined-requires g c =
    let images = c.args.images.now in
    let size = c.share_of.result in
    let rs = c.in_ok-parts.parts.items in
    let here = (goal.at.joined-requires g c).After-deref in
    let few : length images ≤ 67_108_865 = omega (arith, c.requires.few) in
    let sum = few_events c.args.before size images rs 67_108_865 few (shares g here) in
    let most : length rs ≤ length images + 1 = omega (arith, many_shares g here, div-le_self (length images) size) in
    rw c.deref.ensures.value (omega (arith, sum, most, few))

pub returns : goal.returns
returns g c =
    let images = c.args.images.now in
    let size = c.share_of.result in
    let rs = c.in_ok-parts.parts.items in
    let here = (goal.at.returns g c).After-deref in
    let none : Result FleetPart AllocError = Err (record {}) in
    let each = (c.in_ok-parts.ensures {u = tt}).each in
    let within : (n : ℕ) → n < length rs → n * size ≤ length images =
    λ n l. let is = (each n none l).1.argument_is in omega (arith, is.in_bounds) in
    let enough : length images ≤ length rs * size = enough_shares (length images) size (length rs) c.share_of.ensures.some (many_shares g here) in
    let joined = rw c.deref.ensures.value at c.joined.ensures in
    joined_share c.args.before size images rs c.joined.result within (shares g here) enough joined.all joined.lines joined.events
