use Rattle.std.proofs.Common.{◌∙◌, sym, ap, ⊎_elim, inl, inr, length, drop}
use Rattle.edr_device.specs.Past.{HadLeft, MayBeLeft, settled_at}
use Rattle.edr_device.proofs.MomentLemmas.{moment_comes_back, comes_less, cycle_stays}
use Rattle.edr_device.proofs.mem_nvm.MemNvmNvm.power_cycle.Goals as goal

pub copy_from_slice-requires : goal.copy_from_slice-requires
copy_from_slice-requires c =
    let comes = moment_comes_back c.args.self.now _ c.come_back.new.self _ c.deref.ensures.value c.come_back.ensures.image c.come_back.ensures.settled in
    sym c.deref.ensures.len ∙ ap length c.deref.ensures.value ∙ c.args.self.now.stored_size ∙ sym comes.0.size ∙ sym (ap length c.deref-2.ensures.value)

pub invariant_of-self-2-clause-covered : goal.invariant_of-self-2-clause-covered
invariant_of-self-2-clause-covered c =
    let m = c.args.self.now in
    let comes = moment_comes_back m _ c.come_back.new.self _ c.deref.ensures.value c.come_back.ensures.image c.come_back.ensures.settled in
    λ k d image is e left. m.covered k d image is e (comes_less (settled_at m.state) (settled_at c.come_back.new.self) m.state.image.items c.come_back.new.self.image.items image comes left)

pub returns-clause-no_more : goal.returns-clause-no_more
returns-clause-no_more c =
    let m = c.args.self.now in
    let comes = moment_comes_back m _ c.come_back.new.self _ c.deref.ensures.value c.come_back.ensures.image c.come_back.ensures.settled in
    λ t image le left. ⊎_elim
    (λ (here : MayBeLeft c.come_back.new.self image). inl (comes_less (settled_at m.state) (settled_at c.come_back.new.self) m.state.image.items c.come_back.new.self.image.items image comes here))
    (λ (had : HadLeft (drop t m.past.items) image). inr had)
    left

pub returns-clause-past_stays : goal.returns-clause-past_stays
returns-clause-past_stays c =
    let m = c.args.self.now in
    λ t image below left. inr (cycle_stays m.past.items m.state m.last_good t image m.good_kept m.covered below left)

pub returns-clause-told : goal.returns-clause-told
returns-clause-told c = moment_comes_back c.args.self.now _ c.come_back.new.self _ c.deref.ensures.value c.come_back.ensures.image c.come_back.ensures.settled
