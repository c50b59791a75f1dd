use Rattle.std.proofs.Common.{◌∷◌, [], refl}
use Rattle.edr_device.specs.Pieces.{SameBut, put_at}
use Rattle.edr_image.specs.Image.{place_of}
use Rattle.edr_image.specs.Steps.{Erase}
use Rattle.edr_gates.proofs.StepListLemmas.{each_passed}
use Rattle.edr_gates.proofs.StepImageLemmas.{erase_image, erase_whole}
use Rattle.edr_gates.proofs.WriteLemmas.{OnceLeaves, erase_writes, once_stop, step_passes, step_stopped, step_taken}
use Rattle.edr_gates.proofs.steps.erase.Goals as goal

pub returns : goal.returns
returns g c =
    let D = g.N.Nvm in
    let m = c.args.bank in
    let nvm = c.args.nvm.now in
    let end = c.write_settled.new.nvm in
    let e = c.write_settled.ensures in
    let done = rw (c.erase_write-erasing.ensures.at, c.erase_write-erasing.ensures.byte) at e.done in
    let stopped = rw c.erase_write-erasing.ensures.at at e.stopped in
    let moments = rw c.erase_write-erasing.ensures.at at e.any_moment in
    let passed = step_passes (Erase m) (D.content nvm) (D.settled nvm) (D.clock nvm) (D.since nvm) (D.since end) (SameBut (place_of m) 1) (erase_image m) moments in
    record {
      lent = e.lent;
      time = e.time;
      taken = step_taken c.write_settled.result (Erase m) (D.content nvm) (D.content end) (D.settled nvm) (D.settled end) (put_at (place_of m) (0 ∷ [])) (erase_whole m) (erase_writes m) done;
      stopped = step_stopped c.write_settled.result (Erase m) (D.clock nvm) (D.clock end) (D.content nvm) (D.content end) (D.settled nvm) (D.settled end) (OnceLeaves (D.clock nvm) (D.clock end) (place_of m) 1)
          (λ bytes image v view may. once_stop (Erase m) (D.clock nvm) (D.clock end) (place_of m) 1 bytes image v refl e.time.later view (erase_image m bytes image v view may)) e.time.few stopped;
      any_moment = passed;
      each = each_passed (Erase m ∷ []) (D.content nvm) (D.settled nvm) (D.clock nvm) (D.since nvm) (D.since end) (g.met.N.Nvm.only_now nvm) passed;
    }
