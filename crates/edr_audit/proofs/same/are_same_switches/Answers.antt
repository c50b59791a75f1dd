use Rattle.std.specs.Cmp.{booleans_Decides}
use Rattle.std.proofs.lemmas.Slice.Eq.{slice_eq-Decides}
use Rattle.edr_audit.proofs.SameLemmas.{slot_told}
use Rattle.edr_audit.proofs.same.are_same_switches.Goals as goal

pub returns : goal.returns
returns c = slice_eq-Decides (slot_told booleans_Decides) c.args.a.now c.args.b.now c.eq.result c.eq.ensures
