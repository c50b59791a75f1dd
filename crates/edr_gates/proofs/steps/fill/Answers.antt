use Rattle.std.proofs.Common.{ℕ, List, ◌+◌, ◌-◌, ◌∷◌, [], refl}
use Rattle.edr_device.specs.Pieces.{IsGatedStop, put_at}
use Rattle.edr_image.specs.Image.{place_of}
use Rattle.edr_image.specs.Steps.{Fill}
use Rattle.edr_gates.proofs.PartsBackLemmas.{filling_back}
use Rattle.edr_gates.proofs.StepListLemmas.{each_passed}
use Rattle.edr_gates.proofs.StepImageLemmas.{fill_before, fill_image, fill_whole}
use Rattle.edr_gates.proofs.WriteLemmas.{fill_writes, gated_either, gated_stop, step_passes, step_stopped, step_taken}
use Rattle.edr_gates.proofs.steps.fill.Goals as goal

pub returns : goal.returns
returns g c =
    let D = g.N.Nvm in
    let m = c.args.bank in
    let part = c.args.pre.now in
    let piece = c.fill_writes-filling.result.piece in
    let nvm = c.args.nvm.now in
    let end = c.write_gated.new.nvm in
    let e = c.write_gated.ensures in
    let is = filling_back piece part c.fill_writes-filling.ensures.piece c.fill_writes-filling.ensures.within in
    let done = rw (c.fill_writes-filling.ensures.at, c.fill_writes-filling.ensures.gate) at e.done in
    let stopped = rw (c.fill_writes-filling.ensures.at, c.fill_writes-filling.ensures.gate) at e.stopped in
    let moments = rw (c.fill_writes-filling.ensures.at, c.fill_writes-filling.ensures.gate) at e.any_moment in
    let passed = step_passes (Fill m part) (D.content nvm) (D.settled nvm) (D.clock nvm) (D.since nvm) (D.since end) (IsGatedStop 3 (place_of m + 1) piece (place_of m))
    (λ bytes image v view may. gated_either (Fill m part) 3 (place_of m + 1) (place_of m) piece bytes image v (fill_before m part piece bytes image v view may is) (fill_image m part piece bytes image v view may is)) moments in
    record {
      lent = e.lent;
      time = e.time;
      taken = step_taken c.write_gated.result (Fill m part) (D.content nvm) (D.content end) (D.settled nvm) (D.settled end)
          (λ (bytes : List ℕ). put_at (place_of m) (165 ∷ []) (put_at (place_of m + 1) piece bytes)) (λ bytes v view may. fill_whole m part piece bytes v view may is) (λ bytes. fill_writes m part piece bytes c.fill_writes-filling.ensures.piece) done;
      stopped = step_stopped c.write_gated.result (Fill m part) (D.clock nvm) (D.clock end) (D.content nvm) (D.content end) (D.settled nvm) (D.settled end) (IsGatedStop (D.clock end - D.clock nvm) (place_of m + 1) piece (place_of m))
          (λ bytes image v view may. gated_stop (Fill m part) (D.clock end - D.clock nvm) (place_of m + 1) (place_of m) piece bytes image v refl (fill_before m part piece bytes image v view may is) (fill_image m part piece bytes image v view may is))
          e.time.few stopped;
      any_moment = passed;
      each = each_passed (Fill m part ∷ []) (D.content nvm) (D.settled nvm) (D.clock nvm) (D.since nvm) (D.since end) (g.met.N.Nvm.only_now nvm) passed;
    }
