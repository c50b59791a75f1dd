use Rattle.std.proofs.Common.{◌≡◌, sym, subst, ℕ, Option, Some}
use Rattle.std.specs.Prelude.{IfErr}
use Rattle.std.specs.List.{flat_map}
use Rattle.edr_codec.specs.declared.Damaged.{Damaged}
use Rattle.edr_codec.specs.Rows.{fields_of}
use Rattle.edr_codec.proofs.CrashLemmas.{crash_damage-is}
use Rattle.edr_codec.proofs.crash.check_crash.Goals as goal

pub returns-clause-damaged : goal.returns-clause-damaged
returns-clause-damaged c =
    let same = crash_damage-is c.args.form.now c.args.bytes.now c.read_at.result (flat_map fields_of c.crash_rows.result) c.read_at.ensures c.crash_rows.ensures.fields in
    subst (λ (o : Option ℕ). IfErr c.check_rows.result (λ (d : Damaged). o ≡ Some d.offset)) (sym same) c.check_rows.ensures.damaged
