use Rattle.std.proofs.Common.{◌+◌, ◌≤◌, ℕ, List, length, refl, rules, subst, sym}
use Rattle.edr_device.specs.Device.{MayLeave, outside}
use Rattle.edr_device.specs.Faults.{last_number}
use Rattle.edr_device.specs.FuseState.{fused_since}
use Rattle.edr_device.proofs.StopLemmas.{cycled_keeps, kept_leaves, snapshot_elapses, stop_elapses, wrote_keeps}
use Rattle.edr_device.proofs.fused.FusedNvm.write.Goals as goal

pub returns-then-is_due-clause-stops : goal.returns-then-is_due-clause-stops
returns-then-is_due-clause-stops g c = λ stopping. (
  search rules,
  record {
    fails = search rules;
    written = c.write-written.result;
    cycled = c.power_cycle-cycled.result;
    told = search rules;
    passed = search rules;
    power = search rules;
    marks = search rules;
  },
)

pub returns-then-is_due-clause-told : goal.returns-then-is_due-clause-told
returns-then-is_due-clause-told g c =
    let D = g.N.Nvm in
    let nvm = c.args.self.now.nvm.now in
    let mid = c.write-written.new.self in
    let end = c.power_cycle-cycled.new.self in
    let piece = c.args.bytes.now in
    cycled_keeps c.args.at (length piece) c.power_cycle-cycled.result (D.content nvm) (D.content mid) (D.content end) (D.settled nvm) (D.settled mid) (D.settled end) (D.since mid) (D.since end)
    (wrote_keeps c.args.at piece c.write-written.result (D.content nvm) (D.content mid) (D.settled nvm) (D.settled mid)
    (λ bytes told. subst (λ (n : ℕ). c.args.at + length piece ≤ n) (sym (g.met.N.Nvm.told_size nvm bytes told)) c.requires.range)
    c.write-written.ensures.told)
    c.power_cycle-cycled.ensures.told

pub returns-then-is_due-clause-crash : goal.returns-then-is_due-clause-crash
returns-then-is_due-clause-crash g c =
    let D = g.N.Nvm in
    let f = c.args.self.now in
    let nvm = f.nvm.now in
    let mid = c.write-written.new.self in
    let end = c.power_cycle-cycled.new.self in
    let piece = c.args.bytes.now in
    let during : List ℕ → Type 0 = MayLeave (D.content nvm) (outside c.args.at (length piece) (D.settled nvm)) in
    let leaves : List ℕ → Type 0 = MayLeave (D.content end) (D.settled end) in
    let start = D.clock f.start.value in
    let kept =
    cycled_keeps c.args.at (length piece) c.power_cycle-cycled.result (D.content nvm) (D.content mid) (D.content end) (D.settled nvm) (D.settled mid) (D.settled end) (D.since mid) (D.since end)
    (wrote_keeps c.args.at piece c.write-written.result (D.content nvm) (D.content mid) (D.settled nvm) (D.settled mid)
    (λ bytes told. subst (λ (n : ℕ). c.args.at + length piece ≤ n) (sym (g.met.N.Nvm.told_size nvm bytes told)) c.requires.range)
    c.write-written.ensures.told)
    c.power_cycle-cycled.ensures.told in
    snapshot_elapses D.clock D.since mid c.of.result.value start (D.clock end) f.ticks (fused_since f) (D.since end) leaves during c.of.ensures
    (stop_elapses f.spent f.cut (f.ticks + 1) f.ticks start last_number (D.clock nvm) (D.clock mid) (D.clock f.middle.value) (D.clock end) (D.since nvm) (D.since f.middle.value) (D.since mid) (D.since end)
    (MayLeave (D.content nvm) (D.settled nvm)) leaves during c.if-self.false refl (f.exact c.if-self.false) c.write-written.ensures.time.later (g.met.N.Nvm.clock_fits mid) c.write-written.ensures.crash
    (λ image left. kept_leaves c.args.at (length piece) (D.content nvm) (D.content end) (D.settled nvm) (D.settled end) image kept left))
