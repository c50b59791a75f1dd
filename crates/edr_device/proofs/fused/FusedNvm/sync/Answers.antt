use Rattle.std.proofs.Common.{◌+◌, ℕ, List, inl, refl, rules}
use Rattle.std.proofs.Math.Nat.{le_refl}
use Rattle.edr_device.specs.Device.{MayLeave}
use Rattle.edr_device.specs.Faults.{last_number}
use Rattle.edr_device.specs.FuseState.{fused_since}
use Rattle.edr_device.proofs.StopLemmas.{all_leaves, cycled_keeps, nothing_keeps, snapshot_elapses, stop_elapses}
use Rattle.edr_device.proofs.fused.FusedNvm.sync.Goals as goal

pub returns-then-is_due-clause-stops : goal.returns-then-is_due-clause-stops
returns-then-is_due-clause-stops g c = λ stopping. (
  search rules,
  record {
    fails = search rules;
    cycled = c.power_cycle-cut.result;
    power = search rules;
    marks = search rules;
  },
)

pub returns-then-is_due-clause-told : goal.returns-then-is_due-clause-told
returns-then-is_due-clause-told g c =
    let D = g.N.Nvm in
    let nvm = c.args.self.now.nvm.now in
    let end = c.power_cycle-cut.new.self in
    cycled_keeps 0 0 c.power_cycle-cut.result (D.content nvm) (D.content nvm) (D.content end) (D.settled nvm) (D.settled nvm) (D.settled end) (D.since nvm) (D.since end) (nothing_keeps (D.content nvm) (D.settled nvm)) c.power_cycle-cut.ensures.told

pub returns-then-is_due-clause-crash : goal.returns-then-is_due-clause-crash
returns-then-is_due-clause-crash g c =
    let D = g.N.Nvm in
    let f = c.args.self.now in
    let nvm = f.nvm.now in
    let end = c.power_cycle-cut.new.self in
    let during : List ℕ → Type 0 = MayLeave (D.content nvm) (D.settled nvm) in
    let leaves : List ℕ → Type 0 = MayLeave (D.content end) (D.settled end) in
    let start = D.clock f.start.value in
    let kept =
    cycled_keeps 0 0 c.power_cycle-cut.result (D.content nvm) (D.content nvm) (D.content end) (D.settled nvm) (D.settled nvm) (D.settled end) (D.since nvm) (D.since end) (nothing_keeps (D.content nvm) (D.settled nvm)) c.power_cycle-cut.ensures.told in
    snapshot_elapses D.clock D.since nvm c.of.result.value start (D.clock end) f.ticks (fused_since f) (D.since end) leaves during c.of.ensures
    (stop_elapses f.spent f.cut (f.ticks + 1) f.ticks start last_number (D.clock nvm) (D.clock nvm) (D.clock f.middle.value) (D.clock end) (D.since nvm) (D.since f.middle.value) (D.since nvm) (D.since end)
    (MayLeave (D.content nvm) (D.settled nvm)) leaves during c.if-self.false refl (f.exact c.if-self.false) (le_refl (D.clock nvm)) (g.met.N.Nvm.clock_fits nvm)
    (record { nothing_else = λ t image le left. inl left; past_stays = λ t image le left. left })
    (λ image left. all_leaves (D.content nvm) (D.content end) (D.settled nvm) (D.settled end) image kept left))
