use Rattle.std.proofs.Common.{refl}
use Rattle.edr_merge.specs.Fields.{state_of}
use Rattle.edr_merge.specs.Marks.{mark_in}
use Rattle.edr_merge.proofs.StandsLemmas.{stands-accepted}
use Rattle.edr_merge.proofs.SoundLemmas.{sound-given}
use Rattle.edr_merge.proofs.Merge.accept.Goals as goal

pub invariant_of-self : goal.invariant_of-self
invariant_of-self c =
    sound-given c.self.inside c.args.sensor c.args.item (mark_in c.args.sensor c.self.inside.marks) c.set.new.self c.keep.new.self
    c.self.invariant refl (c.in_default.ensures.accepted.0 refl) c.set.ensures c.keep.ensures

pub returns-clause-ok : goal.returns-clause-ok
returns-clause-ok c = λ p stands.
    stands-accepted c.args.self.now (state_of c.self.inside) p c.args.sensor c.args.item (mark_in c.args.sensor c.self.inside.marks) c.set.new.self c.keep.new.self
    c.self.view_is stands refl (c.in_default.ensures.accepted.0 refl) c.if-item-self.false c.set.ensures c.keep.ensures
