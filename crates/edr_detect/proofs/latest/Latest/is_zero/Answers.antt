use Rattle.std.proofs.Common.{ap, ◌≡◌, ◌∙◌, ℤ, pos, List, get_or, replicate}
use Rattle.std.proofs.lemmas.List.{get_or-replicate}
use Rattle.std.proofs.lemmas.Bool.Decides.{Decides-int_eq}
use Rattle.std.proofs.lemmas.Slice.Eq.{slice_eq-Decides}
use Rattle.edr_detect.proofs.latest.Latest.is_zero.Goals as goal

pub returns : goal.returns
returns c = λ told i lt.
    let values = c.args.self.now.values in
    let same : values ≡ replicate 20 (pos 0) = (slice_eq-Decides Decides-int_eq values (replicate 20 (pos 0)) c.eq.result c.eq.ensures).0 told in
    ap (λ (xs : List ℤ). get_or xs i (pos 0)) same ∙ get_or-replicate 20 i (pos 0) (pos 0) lt
