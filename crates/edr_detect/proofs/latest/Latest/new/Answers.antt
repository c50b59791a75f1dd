use Rattle.std.proofs.Common.{arith, ap, sym, ◌∙◌, ◌≡◌, ◌-◌, ◌%◌, pos}
use Rattle.std.proofs.lemmas.List.{get_or-replicate}
use Rattle.edr_definitions.specs.Windows.{change_at}
use Rattle.edr_definitions.proofs.WindowLaws.{delta_v-none}
use Rattle.edr_detect.proofs.latest.Latest.new.Goals as goal

pub returns : goal.returns
returns c = λ axis start. record {
  at = λ u le near. get_or-replicate 20 (u % 20) (pos 0) (pos 0) (omega arith) ∙ sym (ap (change_at axis) (let e : u ≡ 0 = omega arith in e) ∙ start);
  unfilled = λ i later lt. get_or-replicate 20 i (pos 0) (pos 0) lt;
  sum_is = sym (delta_v-none axis (0 - 20) 0 (omega arith));
}
