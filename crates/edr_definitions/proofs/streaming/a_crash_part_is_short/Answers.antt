use Rattle.std.proofs.Common.{refl, ◌≡◌, ℕ, Option}
use Rattle.edr_definitions.specs.Search.{Phase, Searching, Open}
use Rattle.edr_definitions.specs.Streaming.{WhereOpen, IsOpenShortly}
use Rattle.edr_definitions.proofs.KeepLaws.{core-open}
use Rattle.edr_definitions.proofs.CoreLaws.{core-closes}
use Rattle.edr_definitions.proofs.streaming.a_crash_part_is_short.Goals as goal

where-open : (P : ℕ → Type 0) (phase : Phase) → ((z : ℕ) (c l e : Option ℕ) → phase ≡ Open z c l e → P z) → WhereOpen phase P
where-open P Searching h = tt
where-open P (Open z c l e) h = h z c l e refl

pub returns-clause-open : goal.returns-clause-open
returns-clause-open c = λ core h.
    where-open (IsOpenShortly core) core.search.phase (λ z a l e is.
    let open_is = core-open core.lists core.cycle core.tick core.search core.state z a l e h is in
    record { zero_is = open_is.0; begun = open_is.1; short = open_is.2 })

pub returns-clause-close : goal.returns-clause-close
returns-clause-close c = λ core x h closed.
    let close_is = core-closes core.lists core.cycle core.tick core.search core.state x.begun x.change h x.told closed in
    record { ends = (close_is.0, close_is.1); closes = close_is.2 }
