use Rattle.std.proofs.Common.{◌≡◌, ◌≤◌, List, ℕ}
use Rattle.edr_device.specs.Device.{Elapses, StillTells}
use Rattle.edr_image.specs.Image.{image_size}
use Rattle.edr_banks.specs.Laying.{IsBare, IsUnmarked, Laid}
use Rattle.edr_banks.proofs.overlay.lay_image.Given as goal

-- the banks so far stand
abbrev pub invariant-loop-k : goal.invariant-loop-k
invariant-loop-k g l =
    let D = g.N.Nvm in
    let full = image_size (g.I.Image.bank_count l.fn.image) in
    record {
      size : D.extent l.nvm ≡ D.extent l.fn.nvm;
      faults : D.faults l.fn.nvm ≤ D.faults l.nvm;
      device : D.goes_on l.fn.nvm l.nvm;
      tells : StillTells (D.content l.fn.nvm) (D.content l.nvm);
      later : D.clock l.fn.nvm ≤ D.clock l.nvm;
      laid : (bytes : List ℕ) → IsBare (D.content l.fn.nvm) (D.settled l.fn.nvm) bytes → Laid full (g.I.Image.bytes l.fn.image) (image_size l.k) bytes (D.content l.nvm) (D.settled l.nvm);
      moments : (bytes : List ℕ) → IsBare (D.content l.fn.nvm) (D.settled l.fn.nvm) bytes → Elapses (D.clock l.fn.nvm) (D.since l.fn.nvm) (D.since l.nvm) (IsUnmarked full bytes);
    }
