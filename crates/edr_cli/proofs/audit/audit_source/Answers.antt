use Rattle.std.proofs.Common.{arith, subst, ◌+◌, ◌≤◌, ℕ, List, length}
use Rattle.std.proofs.lemmas.Result.{err_from_is_err_and}
use Rattle.edr_spell.specs.Spell.{largest_trace}
use Rattle.edr_audit.specs.Verdicts.{IsVerdict}
use Rattle.edr_cli.specs.Audits.{ArePieces, JudgesPieces}
use Rattle.edr_cli.proofs.AuditedLemmas.{verdict_on_first}
use Rattle.edr_cli.proofs.MigrationLemmas.{gave_all, of_given}
use Rattle.edr_cli.proofs.TakingLemmas.{all_most}
use Rattle.edr_cli.proofs.audit.audit_source.Goals as goal

pub returns-in_err-after-clause-takes : goal.returns-in_err-after-clause-takes
returns-in_err-after-clause-takes g c =
    let few : length c.in_ok-bytes.bytes.items ≤ largest_trace + 1 = omega (arith, c.in_ok-bytes.ensures.within, c.in_ok-bytes.bytes.ok.0) in
    all_most (largest_trace + 1) c.in_ok-bytes.bytes.items (g.S.Source.left c.args.source.now) (g.S.Source.left c.take_all.new.source) few c.in_ok-bytes.ensures.all

pub returns-in_err-verdict-clause-takes : goal.returns-in_err-verdict-clause-takes
returns-in_err-verdict-clause-takes g c =
    let few : length c.in_ok-bytes.bytes.items ≤ largest_trace + 1 = omega (arith, c.in_ok-bytes.ensures.within, c.in_ok-bytes.bytes.ok.0) in
    all_most (largest_trace + 1) c.in_ok-bytes.bytes.items (g.S.Source.left c.args.source.now) (g.S.Source.left c.take_all.new.source) few c.in_ok-bytes.ensures.all

pub returns-clause-takes : goal.returns-clause-takes
returns-clause-takes g c =
    let few : length c.in_ok-bytes.bytes.items ≤ largest_trace + 1 = omega (arith, c.in_ok-bytes.ensures.within, c.in_ok-bytes.bytes.ok.0) in
    all_most (largest_trace + 1) c.in_ok-bytes.bytes.items (g.S.Source.left c.args.source.now) (g.S.Source.left c.take_all.new.source) few c.in_ok-bytes.ensures.all

pub returns-in_err-verdict-clause-cause : goal.returns-in_err-verdict-clause-cause
returns-in_err-verdict-clause-cause g c =
    let p = err_from_is_err_and c.from_residual-in_err-verdict.result c.from_residual-in_err-verdict.ensures.1 in
    rw (p.1, p.2) c.in_ok-after.ensures.told

pub returns-clause-says : goal.returns-clause-says
returns-clause-says g c =
    let left = g.S.Source.left in
    let content = g.N.Nvm.content c.args.nvm.now in
    let items = c.in_ok-bytes.bytes.items in
    let v = c.in_ok-verdict.verdict in
    let p = c.in-Some.pieces in
    let few : length items ≤ largest_trace = omega (arith, c.in_ok-bytes.ensures.within, c.in_ok-bytes.bytes.ok.0) in
    let gave = gave_all items (left c.args.source.now) (left c.take_all.new.source) c.in_ok-bytes.ensures.all in
    of_given (λ (bytes : List ℕ). (length bytes ≤ largest_trace) × JudgesPieces bytes content v) (left c.args.source.now) items gave.0 (
      few,
      record {
        before = p.before.now;
        trace = p.trace.now;
        report = p.report.now;
        pieces = subst (λ (bytes : List ℕ). ArePieces bytes p.before.now p.trace.now p.report.now) c.deref.ensures.value c.in-Some.ensures.some;
        verdict = verdict_on_first p.before.now p.trace.now c.in_ok-after.after.items p.report.now content v c.in_ok-after.ensures.bytes
            (subst (λ (after : List ℕ). IsVerdict p.before.now p.trace.now after p.report.now v) c.deref-2.ensures.value c.in_ok-verdict.ensures.says);
      },
    )
