use Rattle.std.proofs.Common.{rules, ◌≡◌, length}
use Rattle.edr_crashpart.proofs.FiringLemmas.{none-noted}
use Rattle.edr_crashpart.proofs.with_firings.Goals as goal

pub returns-then-fired-eq0 : goal.returns-then-fired-eq0
returns-then-fired-eq0 c =
    let long : length c.args.firsts ≡ 8 = search rules in
    none-noted c.args.firsts c.args.fired.0 c.args.at long c.if-fired-eq0.true
