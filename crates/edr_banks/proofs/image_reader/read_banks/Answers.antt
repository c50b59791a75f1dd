-- One bank more was read, and nothing was changed.
use Rattle.std.proofs.Common.{◌∙◌, ap, arith, ℕ}
use Rattle.std.proofs.lemmas.Grind.{common_steps}
use Rattle.edr_banks.specs.Opening.{bank_in}
use Rattle.edr_banks.proofs.HeaderByteLemmas.{banks_more, stays_again}
use Rattle.edr_banks.proofs.image_reader.read_banks.Goals as goal

pub loop-k-preserved : goal.loop-k-preserved
loop-k-preserved g c =
    let D = g.N.Nvm in
    let start = c.args.nvm.now in
    let mid = c.loop-k.nvm in
    let end = c.read_bank.new.nvm in
    record {
      views = λ bytes told.
          banks_more c.loop-k.k bytes c.loop-k.banks.items c.push_reserved.new.self.items c.in-Ok-read_bank.view (c.loop-k.invariant.views bytes told)
          (c.in-Ok-read_bank.ensures.view bytes (c.loop-k.invariant.stays.same_content ∙ told) ∙ ap (λ (m : ℕ). bank_in m bytes) c.from_index.ensures) c.push_reserved.ensures.items;
      all = grind (arith, common_steps);
      room = c.push_reserved.ensures.capacity ∙ c.loop-k.invariant.room;
      faults = omega (arith, c.loop-k.invariant.faults, c.read_bank.ensures.cause.later);
      size = c.read_bank.ensures.read.size ∙ c.loop-k.invariant.size;
      device = g.met.N.Nvm.goes_on_again start mid end c.loop-k.invariant.device c.read_bank.ensures.read.device;
      stays = stays_again (D.content start) (D.content mid) (D.content end) (D.settled start) (D.settled mid) (D.settled end) (D.since start) (D.since mid) (D.since end) c.loop-k.invariant.stays c.read_bank.ensures.read.stays;
      clock = c.read_bank.ensures.read.clock ∙ c.loop-k.invariant.clock;
      good = c.read_bank.ensures.read.good ∙ c.loop-k.invariant.good;
    }
