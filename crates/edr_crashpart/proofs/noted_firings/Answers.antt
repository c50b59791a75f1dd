use Rattle.std.proofs.Common.{subst, ℕ, ◌≡◌, arith}
use Rattle.edr_crashpart.proofs.FiringLemmas.{AreNoted, AreNoted-all}
use Rattle.edr_crashpart.proofs.noted_firings.Goals as goal

pub returns : goal.returns
returns c =
    let end : c.loop-bit.bit ≡ 8 = omega arith in
    AreNoted-all c.args.firsts c.loop-bit.noted c.args.fired.0 c.args.at (subst (λ (k : ℕ). AreNoted c.args.firsts c.args.fired.0 c.args.at k c.loop-bit.noted) end c.loop-bit.invariant)
