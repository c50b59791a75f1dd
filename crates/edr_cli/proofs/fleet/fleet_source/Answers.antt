use Rattle.std.proofs.Common.{◌≡◌, ◌≤◌, ◌∙◌, ap, sym, subst, ℕ, List, length, Option, Some, None, Err, refl}
use Rattle.std.specs.Prelude.{IfSome}
use Rattle.std.proofs.lemmas.Result.{err_from_is_err_and}
use Rattle.edr_device.specs.Told.{Told}
use Rattle.edr_device.specs.Transfer.{GivesAll}
use Rattle.edr_spell.specs.Spell.{largest_trace}
use Rattle.edr_fleet.specs.declared.frames.FleetRefused.{FleetRefused}
use Rattle.edr_fleet.specs.declared.frames.FleetRefused.TheVariants as refused
use Rattle.edr_fleet.specs.Answers.{IsReportOf}
use Rattle.edr_fleet.specs.Frames.{AreFramesOf}
use Rattle.edr_fleet.specs.Text.{IsFleetText}
use Rattle.edr_cli.specs.declared.fault.Fault.{Fault}
use Rattle.edr_cli.specs.Faults.{fault_of_fleet}
use Rattle.edr_cli.specs.Fleets.{IsFleetCause, IsTruncatedAt}
use Rattle.edr_cli.specs.Outside.{Input, IsAtEnd, input}
use Rattle.edr_cli.proofs.fleet.fleet_source.Goals as goal

-- the bytes that were given are those that the source told
given_all : (bytes told : List ℕ) (x y : Option (List ℕ)) → x ≡ Some told → Told (GivesAll bytes) x y → told ≡ bytes
given_all bytes told x y is t = by y (subst (λ (o : Option (List ℕ)). Told (GivesAll bytes) o y) is t) where
  by : (y : Option (List ℕ)) → Told (GivesAll bytes) (Some told) y → told ≡ bytes
  by (Some b) t = t.0
  by None t = absurd t

-- what is so of the bytes that were given is so of those that the source told, of which none is left
told_so : (P : List ℕ → Type 0) (bytes : List ℕ) (x y : Option (List ℕ)) → Told (GivesAll bytes) x y → P bytes → IfSome x P × IsAtEnd y
told_so P bytes None None t so = (tt, tt)
told_so P bytes (Some told) (Some rest) t so = (subst P (sym t.0) so, t.1)
told_so P bytes None (Some rest) t so = absurd t
told_so P bytes (Some told) None t so = absurd t

-- a refusal has its cause
told_cause : (bytes : List ℕ) (i i' : Input) (e : FleetRefused) → Told (GivesAll bytes) i.left i'.left → length bytes ≤ largest_trace → IsReportOf bytes (Err e) → IsFleetCause i i' (fault_of_fleet e)
told_cause bytes i i' refused.OutOfMemory t few is = tt
told_cause bytes i i' (refused.Truncated offset) t few is = told_so (IsTruncatedAt offset) bytes i.left i'.left t (few, is.cut offset refl)

pub returns-in_err-finish-clause-cause : goal.returns-in_err-finish-clause-cause
returns-in_err-finish-clause-cause g c =
    let i = input g.S.Source c.args.source.now in
    let i' = input g.S.Source c.read_frames.new.source in
    let all = c.in_ok-frames.ensures.all in
    let cause = told_cause all.0 i i' c.in_err-finish.field-0.0 all.3 all.2 (c.in_err-finish.ensures all.0 all.1) in
    let p = err_from_is_err_and c.from_residual-in_err-finish.result c.from_residual-in_err-finish.ensures.1 in
    rw p.1 (subst (λ (f : Fault). IsFleetCause i i' f) (sym p.2) cause)

pub returns-in_err-finish-clause-complete : goal.returns-in_err-finish-clause-complete
returns-in_err-finish-clause-complete g c = λ told calm.
    let left = g.S.Source.left in
    let all = c.in_ok-frames.ensures.all in
    let same = given_all all.0 told.0 (left c.args.source.now) (left c.read_frames.new.source) told.2 all.3 in
    let are : AreFramesOf told.1 all.0 = subst (λ (b : List ℕ). AreFramesOf told.1 b) same told.4 in
    let short : c.in_err-finish.field-0.0 ≡ refused.OutOfMemory = (c.in_err-finish.ensures all.0 all.1).whole told.1 are in
    let p = err_from_is_err_and c.from_residual-in_err-finish.result c.from_residual-in_err-finish.ensures.1 in
    rw p.1 (p.2 ∙ ap fault_of_fleet short)

pub returns-clause-text : goal.returns-clause-text
returns-clause-text g c =
    let left = g.S.Source.left in
    let all = c.in_ok-frames.ensures.all in
    let text = c.in_ok-finish.field-0.items in
    (told_so (λ b. IsFleetText b text) all.0 (left c.args.source.now) (left c.read_frames.new.source) all.3 (c.in_ok-finish.ensures all.0 all.1).text).0
