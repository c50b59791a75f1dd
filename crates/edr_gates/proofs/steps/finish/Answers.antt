use Rattle.std.proofs.Common.{ℕ, List, ◌+◌, ◌-◌, ◌∷◌, [], refl}
use Rattle.edr_device.specs.Pieces.{IsGatedStop, put_at}
use Rattle.edr_image.specs.Image.{place_of}
use Rattle.edr_image.specs.Steps.{Done}
use Rattle.edr_gates.proofs.PartsBackLemmas.{ending_back}
use Rattle.edr_gates.proofs.StepListLemmas.{each_passed}
use Rattle.edr_gates.proofs.StepImageLemmas.{done_before, done_image, done_whole}
use Rattle.edr_gates.proofs.WriteLemmas.{done_writes, gated_either, gated_stop, step_passes, step_stopped, step_taken}
use Rattle.edr_gates.proofs.steps.finish.Goals as goal

pub returns : goal.returns
returns g c =
    let D = g.N.Nvm in
    let m = c.args.bank in
    let part = c.args.crash.now in
    let piece = c.done_writes-ending.result.piece in
    let nvm = c.args.nvm.now in
    let end = c.write_gated.new.nvm in
    let e = c.write_gated.ensures in
    let is = ending_back piece part c.done_writes-ending.ensures.piece c.done_writes-ending.ensures.within in
    let done = rw (c.done_writes-ending.ensures.at, c.done_writes-ending.ensures.gate) at e.done in
    let stopped = rw (c.done_writes-ending.ensures.at, c.done_writes-ending.ensures.gate) at e.stopped in
    let moments = rw (c.done_writes-ending.ensures.at, c.done_writes-ending.ensures.gate) at e.any_moment in
    let passed = step_passes (Done m part) (D.content nvm) (D.settled nvm) (D.clock nvm) (D.since nvm) (D.since end) (IsGatedStop 3 (place_of m + 864) piece (place_of m + 2))
    (λ bytes image v view may. gated_either (Done m part) 3 (place_of m + 864) (place_of m + 2) piece bytes image v (done_before m part piece bytes image v view may is) (done_image m part piece bytes image v view may is)) moments in
    record {
      lent = e.lent;
      time = e.time;
      taken = step_taken c.write_gated.result (Done m part) (D.content nvm) (D.content end) (D.settled nvm) (D.settled end)
          (λ (bytes : List ℕ). put_at (place_of m + 2) (165 ∷ []) (put_at (place_of m + 864) piece bytes)) (λ bytes v view may. done_whole m part piece bytes v view may is) (λ bytes. done_writes m part piece bytes c.done_writes-ending.ensures.piece) done;
      stopped = step_stopped c.write_gated.result (Done m part) (D.clock nvm) (D.clock end) (D.content nvm) (D.content end) (D.settled nvm) (D.settled end) (IsGatedStop (D.clock end - D.clock nvm) (place_of m + 864) piece (place_of m + 2))
          (λ bytes image v view may. gated_stop (Done m part) (D.clock end - D.clock nvm) (place_of m + 864) (place_of m + 2) piece bytes image v refl (done_before m part piece bytes image v view may is) (done_image m part piece bytes image v view may is))
          e.time.few stopped;
      any_moment = passed;
      each = each_passed (Done m part ∷ []) (D.content nvm) (D.settled nvm) (D.clock nvm) (D.since nvm) (D.since end) (g.met.N.Nvm.only_now nvm) passed;
    }
