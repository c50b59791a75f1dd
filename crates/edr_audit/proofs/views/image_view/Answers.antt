-- What was read is what the image says.
use Rattle.std.proofs.Common.{◌<◌, ◌≤◌, arith, length, subst}
use Rattle.edr_image.specs.declared.forms.TheConstants.{VERSION_2}
use Rattle.edr_banks.proofs.HeaderByteLemmas.{header_within}
use Rattle.edr_audit.proofs.SaidLemmas.{said_refused, said_short, said_too_short, said_whole}
use Rattle.edr_audit.proofs.views.image_view.Goals as goal

pub returns-then-bytes-lt-FRONT_SIZE : goal.returns-then-bytes-lt-FRONT_SIZE
returns-then-bytes-lt-FRONT_SIZE c = said_short c.args.bytes.now c.if-bytes-lt-FRONT_SIZE.true

pub returns-in_default : goal.returns-in_default
returns-in_default c = said_refused c.front_of-first.result c.args.bytes.now _ c.front_of-first.ensures c.if-bytes-lt-FRONT_SIZE.false c.in_default.ensures.refused

pub returns-then-bytes-image_size : goal.returns-then-bytes-image_size
returns-then-bytes-image_size c =
    said_too_short c.front_of-first.result c.args.bytes.now c.in-Ok.header c.front_of-first.ensures c.if-bytes-lt-FRONT_SIZE.false c.in-Ok.ensures.accepted c.in-Ok.ensures.read
    (subst (λ n. length c.args.bytes.now < n) c.image_size.ensures c.if-bytes-image_size.true)

pub banks_in-requires-clause-few : goal.banks_in-requires-clause-few
banks_in-requires-clause-few c = (header_within VERSION_2 c.front_of-first.result c.in-Ok.header c.in-Ok.ensures.accepted c.in-Ok.ensures.read).1

pub invariant_of-result : goal.invariant_of-result
invariant_of-result c =
    let few = (header_within VERSION_2 c.front_of-first.result c.in-Ok.header c.in-Ok.ensures.accepted c.in-Ok.ensures.read).1 in
    let all = c.in_ok-banks.ensures.all in
    omega (arith, few, all)

pub returns : goal.returns
returns c =
    said_whole c.front_of-first.result c.args.bytes.now c.in-Ok.header c.in_ok-banks.banks.items c.read_count.result c.front_of-first.ensures c.if-bytes-lt-FRONT_SIZE.false c.in-Ok.ensures.accepted c.in-Ok.ensures.read
    (subst (λ n. n ≤ length c.args.bytes.now) c.image_size.ensures c.if-bytes-image_size.false) c.in_ok-banks.ensures.views c.read_count.ensures
