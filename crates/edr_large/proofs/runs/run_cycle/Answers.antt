use Rattle.std.proofs.Common.{rules, ◌≡◌, ◌∙◌, ◌++◌, ap, ℕ, List, Some, length}
use Rattle.edr_device.specs.Device.{Comes, Stays}
use Rattle.edr_device.specs.Memory.{MemoryState, memory_content, memory_image, memory_settled, memory_since}
use Rattle.edr_device.specs.Told.{Told}
use Rattle.edr_image.specs.Banks.{Store}
use Rattle.edr_image.specs.Image.{view_of}
use Rattle.edr_replay.proofs.StartPhaseLemmas.{begins_started}
use Rattle.edr_large.specs.Large.{HasRunOn}
use Rattle.edr_large.proofs.MemoryLemmas.{cycle_ran, not_failed, of_ok, ok_map}
use Rattle.edr_large.proofs.runs.run_cycle.Goals as goal

pub returns-clause-size : goal.returns-clause-size
returns-clause-size c =
    let m3 = c.power_cycle-off.new.self in
    ok_map c.image_of.result (λ now. now.items ≡ memory_image m3) (λ now. length now.items ≡ length c.args.image.items)
    (λ now left. ap (λ (xs : List ℕ). length xs) left ∙ c.power_cycle-off.ensures.size ∙ c.run_alone-end.ensures.lent.size ∙ c.in-Ok.ensures.lent.size ∙ ap (λ (s : MemoryState). length s.image) c.in_ok-memory.ensures) c.image_of.ensures

pub returns-clause-ran : goal.returns-clause-ran
returns-clause-ran c =
    let f = c.args.feeds.now in
    let bytes = c.args.image.items in
    let before = c.args.acks.now.items in
    let after = c.extend_from_slice.new.self.items in
    let m0 = c.in_ok-memory.memory in
    let m1 = c.start.new.nvm in
    let m2 = c.run_alone-end.new.nvm in
    let m3 = c.power_cycle-off.new.self in
    let is = c.in_ok-memory.ensures in
    let s = c.in-Ok.ensures in
    let run = c.run_alone-end.ensures in
    let number = c.in-Ok.started.number in
    let store = c.in-Ok.started.banks.store in
    let log = c.run_alone-end.result.log.acks in
    let failed = c.run_alone-end.result.failed in
    let begun = begins_started store number (memory_content m0) (memory_settled m0) (memory_content m1) (memory_settled m1) s.finds.number.0 s.finds.number.1 s.finds.found s.made in
    let whole = not_failed f bytes number store failed log m0 m1 m2 c.requires.feeds is s.lent.device run.lent.device s.cycle.time.ok.0 run.cycle run.cause in
    let off = of_ok c.power_cycle-off.result (Told (Comes (memory_settled m2) (memory_settled m3)) (memory_content m2) (memory_content m3))
    (Stays (memory_content m2) (memory_settled m2) (memory_since m2) (memory_content m3) (memory_settled m3) (memory_since m3)) c.power_cycle-off.ensures.succeeds c.power_cycle-off.ensures.told in
    let noted : after ≡ before ++ log = search rules in
    ok_map c.image_of.result (λ now. now.items ≡ memory_image m3)
    (λ now. (v : Store) (n : ℕ) → view_of bytes ≡ Some (record { store = v; count = n }) → HasRunOn f v n before after now.items)
    (λ now left. cycle_ran f bytes now.items before after log number store failed m0 m1 m2 m3 is begun whole run.lent.tells run.cycle off noted left) c.image_of.ensures
