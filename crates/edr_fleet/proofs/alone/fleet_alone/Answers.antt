use Rattle.std.proofs.Common.{◌≡◌, ◌∙◌, ◌-◌, ℕ, [], ap, arith, length, length-append, map, refl, subst, rules}
use Rattle.edr_fleet.specs.Frames.{EndsInFrameAt, frames}
use Rattle.edr_fleet.proofs.FrameLemmas.{are_cut, never_both}
use Rattle.edr_fleet.proofs.alone.fleet_alone.Goals as goal

pub returns-then-not-is_empty : goal.returns-then-not-is_empty
returns-then-not-is_empty c =
    let bytes = c.args.bytes.now in
    let rest = c.in_ok-images.field-0.rest.now in
    let before = frames (map (λ i. i.now) c.in_ok-images.field-0.images.items) in
    let first = (c.in_ok-images.ensures {u = tt}).first in
    let some : rest ≡ [] → ⊥ = search rules in
    let ends = are_cut _ rest bytes (length before) first some refl in
    let at : length before ≡ length bytes - length rest = omega (arith, ap length first.bytes_are, length-append before rest) in
    record {
      text = tt;
      whole = λ images are. absurd (never_both images _ bytes are ends);
      cut = λ offset is.
          let same : length bytes - length rest ≡ offset = search rules in
          subst (λ (n : ℕ). EndsInFrameAt n bytes) (at ∙ same) ends;
    }
