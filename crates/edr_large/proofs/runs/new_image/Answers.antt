use Rattle.std.proofs.Common.{rules, ◌≡◌, ◌∙◌, ap, sym, subst, ℕ, List, Some, length}
use Rattle.edr_device.specs.Memory.{MemoryState, memory_image}
use Rattle.edr_image.specs.Image.{View, view_of}
use Rattle.edr_image.specs.declared.places.TheConstants.{LARGEST_IMAGE}
use Rattle.edr_large.specs.Large.{new_store}
use Rattle.edr_large.proofs.MemoryLemmas.{new_quiet, ok_map, told_image}
use Rattle.edr_large.proofs.runs.new_image.Goals as goal

pub returns-in-Ok-clause-size : goal.returns-in-Ok-clause-size
returns-in-Ok-clause-size c =
    let m1 = c.format.new.nvm in
    let long : length c.in_ok-vec.field-0.items ≡ LARGEST_IMAGE = search rules in
    ok_map c.image_of.result (λ image. image.items ≡ memory_image m1) (λ image. length image.items ≡ LARGEST_IMAGE)
    (λ image left. ap (λ (xs : List ℕ). length xs) left ∙ c.in-Ok.ensures.laid.lent.size ∙ ap (λ (s : MemoryState). length s.image) c.in_ok-memory.ensures ∙ long) c.image_of.ensures

pub returns-in-Ok-clause-says : goal.returns-in-Ok-clause-says
returns-in-Ok-clause-says c =
    let m1 = c.format.new.nvm in
    let v : View = record { store = new_store; count = 0 } in
    let blank = c.in_ok-vec.field-0.items in
    let done = c.in-Ok.ensures.laid.done blank (new_quiet c.in_ok-memory.memory blank c.in_ok-memory.ensures) in
    ok_map c.image_of.result (λ image. image.items ≡ memory_image m1) (λ image. view_of image.items ≡ Some v)
    (λ image left. subst (λ (xs : List ℕ). view_of xs ≡ Some v) (told_image m1 done.0 done.1.0 ∙ sym left) done.2.view) c.image_of.ensures
