use Rattle.std.proofs.Common.{arith, ap, sym, subst, ◌≡◌, ◌-◌, ◌∙◌, ℕ, length}
use Rattle.edr_cycle.proofs.AnsweredLemmas.{map_err, map_ok}
use Rattle.edr_cycle.proofs.FirstByteLemmas.{found_stays, next_found, slot_within, stays_elapse}
use Rattle.edr_image.specs.Image.{place_of_slot}
use Rattle.edr_cycle.specs.Counter.{IsCountAfterStop}
use Rattle.edr_cycle.proofs.counter.count_cycle.Goals as goal

pub place_of_slot-slot-requires : goal.place_of_slot-slot-requires
place_of_slot-slot-requires g c = let small = slot_within c.read.new.into in omega (arith, small)

pub is_open-opened-requires : goal.is_open-opened-requires
is_open-opened-requires g c = let small = slot_within c.read.new.into in omega (arith, small)

pub count_up-requires : goal.count_up-requires
count_up-requires g c = let small = slot_within c.read.new.into in omega (arith, small)

pub returns-clause-made : goal.returns-clause-made
returns-clause-made g c =
    let N = g.N.Nvm in
    let d = c.args.nvm.now in
    let e = c.read.new.self in
    let size : length c.read.new.into ≡ 96 = omega arith in
    let place = c.place_of_slot-slot.ensures ∙ ap place_of_slot c.older_slot.ensures in
    map_ok c.count_up.result c.count_up.ensures.made (λ made bytes v found more.
    let still = found_stays v (N.content d) (N.content e) (N.settled d) (N.settled e) (N.since d) (N.since e) bytes c.read.ensures.stays found in
    made bytes v still (next_found c.read.new.into c.place_of_slot-slot.result c.args.number _ v (N.content d) (N.settled d) bytes size c.in_ok-read.ensures.bytes place (sym c.is_open-opened.ensures) found more))

pub returns-clause-stopped : goal.returns-clause-stopped
returns-clause-stopped g c =
    let N = g.N.Nvm in
    let d = c.args.nvm.now in
    let e = c.read.new.self in
    let size : length c.read.new.into ≡ 96 = omega arith in
    let place = c.place_of_slot-slot.ensures ∙ ap place_of_slot c.older_slot.ensures in
    map_err c.count_up.result c.count_up.ensures.stopped (λ stopped bytes image v found more left.
    let still = found_stays v (N.content d) (N.content e) (N.settled d) (N.settled e) (N.since d) (N.since e) bytes c.read.ensures.stays found in
    subst (λ (t : ℕ). IsCountAfterStop (N.clock c.count_up.new.nvm - t) c.args.number bytes v image) c.read.ensures.clock
    (stopped bytes image v still (next_found c.read.new.into c.place_of_slot-slot.result c.args.number _ v (N.content d) (N.settled d) bytes size c.in_ok-read.ensures.bytes place (sym c.is_open-opened.ensures) found more) left))

pub returns-clause-any_moment : goal.returns-clause-any_moment
returns-clause-any_moment g c = λ bytes v found more.
    let N = g.N.Nvm in
    let d = c.args.nvm.now in
    let e = c.read.new.self in
    let size : length c.read.new.into ≡ 96 = omega arith in
    let place = c.place_of_slot-slot.ensures ∙ ap place_of_slot c.older_slot.ensures in
    let still = found_stays v (N.content d) (N.content e) (N.settled d) (N.settled e) (N.since d) (N.since e) bytes c.read.ensures.stays found in
    stays_elapse (N.content d) (N.content e) (N.settled d) (N.settled e) (N.since d) (N.since e) (N.since c.count_up.new.nvm) (N.clock d) (N.clock e) (IsCountAfterStop 6 c.args.number bytes v) c.read.ensures.stays c.read.ensures.clock
    (c.count_up.ensures.any_moment bytes v still (next_found c.read.new.into c.place_of_slot-slot.result c.args.number _ v (N.content d) (N.settled d) bytes size c.in_ok-read.ensures.bytes place (sym c.is_open-opened.ensures) found more))
