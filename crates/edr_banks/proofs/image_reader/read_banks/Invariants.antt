use Rattle.std.proofs.Common.{◌≡◌, ◌≤◌, Some, List, ℕ, length, vec_capacity}
use Rattle.edr_device.specs.Device.{Stays}
use Rattle.edr_image.specs.Image.{banks_of}
use Rattle.edr_banks.proofs.image_reader.read_banks.Given as goal

-- the banks so far were read, and nothing was changed
abbrev pub invariant-loop-k : goal.invariant-loop-k
invariant-loop-k g l = let D = g.N.Nvm in record {
  views : (bytes : List ℕ) → D.content l.fn.nvm ≡ Some bytes → l.banks.items ≡ banks_of l.k bytes;
  all : length l.banks.items ≡ l.k;
  room : vec_capacity l.banks ≡ l.fn.count;
  faults : D.faults l.fn.nvm ≤ D.faults l.nvm;
  size : D.extent l.nvm ≡ D.extent l.fn.nvm;
  device : D.goes_on l.fn.nvm l.nvm;
  stays : Stays (D.content l.fn.nvm) (D.settled l.fn.nvm) (D.since l.fn.nvm) (D.content l.nvm) (D.settled l.nvm) (D.since l.nvm);
  clock : D.clock l.nvm ≡ D.clock l.fn.nvm;
  good : D.last_good l.nvm ≡ D.last_good l.fn.nvm;
}
