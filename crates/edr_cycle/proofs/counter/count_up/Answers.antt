use Rattle.std.proofs.Common.{◌≤◌, ◌+◌, ◌-◌, ◌∷◌, [], List, ℕ, subst, sym, arith}
use Rattle.edr_device.specs.Device.{MayLeave}
use Rattle.edr_device.specs.Pieces.{IsGatedStop, SameBut, put_at}
use Rattle.edr_device.proofs.SettlingLemmas.{elapses_again, elapses_more, on_err}
use Rattle.edr_image.specs.Image.{View}
use Rattle.edr_cycle.specs.Counter.{IsCountAfterStop, IsNextSlot}
use Rattle.edr_gates.specs.Found.{IsFound}
use Rattle.edr_cycle.proofs.SlotLemmas.{close_at, open_after, open_made}
use Rattle.edr_cycle.proofs.FrontLemmas.{fits_next, says_counted, says_later, says_made}
use Rattle.edr_cycle.proofs.AnsweredLemmas.{map_err, map_ok}
use Rattle.edr_cycle.proofs.counter.count_up.Goals as goal

pub returns-in_err-write_settled-clause-stopped : goal.returns-in_err-write_settled-clause-stopped
returns-in_err-write_settled-clause-stopped g c =
    let D = g.N.Nvm in
    let nvm = c.args.nvm.now in
    let mid = c.write_settled.new.nvm in
    let f : (bytes image : List ℕ) (v : View) → IsFound v (D.content nvm) (D.settled nvm) bytes → IsNextSlot c.args.slot c.args.is_open c.args.next bytes v → MayLeave (D.content mid) (D.settled mid) image
    → IsCountAfterStop (D.clock mid - D.clock nvm) c.args.next bytes v image =
    λ bytes image v found h left.
    let fits = fits_next c.args.slot c.args.is_open c.args.next bytes v h in
    says_counted c.args.slot c.args.is_open (D.clock mid - D.clock nvm) c.args.next bytes image v h fits
    (close_at c.args.slot fits.other c.args.is_open c.args.next (D.clock mid - D.clock nvm) c.closing_write-closing.result.at bytes image (subst (λ (n : ℕ). c.args.slot + 32 ≤ n) (sym (g.met.N.Nvm.told_size nvm bytes found.quiet.0)) c.requires) fits.older c.closing_write-closing.ensures.at
    (c.in_err-write_settled.ensures.stopped bytes image found.quiet left).0) in
    on_err c.from_residual.result f

pub returns-in_err-write_settled-clause-any_moment : goal.returns-in_err-write_settled-clause-any_moment
returns-in_err-write_settled-clause-any_moment g c = λ bytes v found h.
    let D = g.N.Nvm in
    let nvm = c.args.nvm.now in
    let mid = c.write_settled.new.nvm in
    let fits = fits_next c.args.slot c.args.is_open c.args.next bytes v h in
    elapses_more (D.clock nvm) (D.since nvm) (D.since mid) (SameBut c.closing_write-closing.result.at 1 bytes) (IsCountAfterStop 6 c.args.next bytes v) (c.write_settled.ensures.any_moment bytes found.quiet)
    (λ image s. says_counted c.args.slot c.args.is_open 6 c.args.next bytes image v h fits
    (close_at c.args.slot fits.other c.args.is_open c.args.next 6 c.closing_write-closing.result.at bytes image (subst (λ (n : ℕ). c.args.slot + 32 ≤ n) (sym (g.met.N.Nvm.told_size nvm bytes found.quiet.0)) c.requires) fits.older c.closing_write-closing.ensures.at s))

pub returns-clause-stopped : goal.returns-clause-stopped
returns-clause-stopped g c =
    let D = g.N.Nvm in
    let nvm = c.args.nvm.now in
    let closed = rw c.closing_write-closing.ensures.byte at c.in_ok-write_settled.ensures.done in
    let gated = rw (c.count_writes-count.ensures.at, c.count_writes-count.ensures.gate) at c.write_gated.ensures.stopped in
    let mid = c.write_settled.new.nvm in
    let end = c.write_gated.new.nvm in
    let two = c.in_ok-write_settled.ensures.time.ok in
    let later = c.write_gated.ensures.time.later in
    map_err c.write_gated.result gated (λ stopped bytes image v found h left.
    let fits = fits_next c.args.slot c.args.is_open c.args.next bytes v h in
    says_counted c.args.slot c.args.is_open (D.clock end - D.clock nvm) c.args.next bytes image v h fits
    (open_after c.args.slot fits.other c.args.is_open c.count_writes-count.result.piece c.args.next (D.clock end - D.clock nvm) (D.clock end - D.clock mid) c.closing_write-closing.result.at bytes image
    (subst (λ (n : ℕ). c.args.slot + 32 ≤ n) (sym (g.met.N.Nvm.told_size nvm bytes found.quiet.0)) c.requires) fits.older (omega arith) c.count_writes-count.ensures.number (omega arith) c.closing_write-closing.ensures.at
    (stopped (put_at c.closing_write-closing.result.at (0 ∷ []) bytes) image (closed bytes found.quiet) left)))

pub returns-clause-any_moment : goal.returns-clause-any_moment
returns-clause-any_moment g c = λ bytes v found h.
    let D = g.N.Nvm in
    let nvm = c.args.nvm.now in
    let closed = rw c.closing_write-closing.ensures.byte at c.in_ok-write_settled.ensures.done in
    let gated = rw (c.count_writes-count.ensures.at, c.count_writes-count.ensures.gate) at c.write_gated.ensures.any_moment in
    let mid = c.write_settled.new.nvm in
    let fits = fits_next c.args.slot c.args.is_open c.args.next bytes v h in
    let long = subst (λ (n : ℕ). c.args.slot + 32 ≤ n) (sym (g.met.N.Nvm.told_size nvm bytes found.quiet.0)) c.requires in
    elapses_again (D.clock nvm) (D.clock mid) (D.since nvm) (D.since mid) (D.since c.write_gated.new.nvm) (SameBut c.closing_write-closing.result.at 1 bytes)
    (IsGatedStop 3 (c.args.slot + 4) c.count_writes-count.result.piece c.args.slot (put_at c.closing_write-closing.result.at (0 ∷ []) bytes)) (IsCountAfterStop 6 c.args.next bytes v)
    (c.write_settled.ensures.any_moment bytes found.quiet) (gated (put_at c.closing_write-closing.result.at (0 ∷ []) bytes) (closed bytes found.quiet)) c.write_settled.ensures.time.later
    (λ image s. says_counted c.args.slot c.args.is_open 6 c.args.next bytes image v h fits (close_at c.args.slot fits.other c.args.is_open c.args.next 6 c.closing_write-closing.result.at bytes image long fits.older c.closing_write-closing.ensures.at s))
    (λ image s. says_later c.args.slot c.args.is_open c.args.next bytes image v h fits
    (open_after c.args.slot fits.other c.args.is_open c.count_writes-count.result.piece c.args.next 5 3 c.closing_write-closing.result.at bytes image long fits.older (omega arith) c.count_writes-count.ensures.number (omega arith) c.closing_write-closing.ensures.at s))

pub returns-clause-made : goal.returns-clause-made
returns-clause-made g c =
    let nvm = c.args.nvm.now in
    let closed = rw c.closing_write-closing.ensures.byte at c.in_ok-write_settled.ensures.done in
    let gated = rw (c.count_writes-count.ensures.at, c.count_writes-count.ensures.gate) at c.write_gated.ensures.done in
    map_ok c.write_gated.result gated (λ done bytes v found h.
    let fits = fits_next c.args.slot c.args.is_open c.args.next bytes v h in
    let made = open_made c.args.slot fits.other c.args.is_open c.count_writes-count.result.piece c.args.next c.closing_write-closing.result.at bytes (subst (λ (n : ℕ). c.args.slot + 32 ≤ n) (sym (g.met.N.Nvm.told_size nvm bytes found.quiet.0)) c.requires) fits.older (omega arith) c.count_writes-count.ensures.number c.closing_write-closing.ensures.at in
    (_, done (put_at c.closing_write-closing.result.at (0 ∷ []) bytes) (closed bytes found.quiet), says_made c.args.slot c.args.is_open c.args.next bytes _ v h fits made.0 made.1))
