use Rattle.std.proofs.Common.{arith, sym, subst}
use Rattle.edr_items.specs.SensorLists.{no_items}
use Rattle.edr_core.specs.Fields.{contents_of}
use Rattle.edr_core.specs.StandsFor.{CoreIsFor}
use Rattle.edr_core.proofs.OwnLemmas.{core-starts}
use Rattle.edr_core.proofs.Core.open.Goals as goal

pub invariant_of-result : goal.invariant_of-result
invariant_of-result c =
    let starts = core-starts c.args.cycle c.in_ok-open.field-0 c.in_ok-new.field-0 c.requires (omega arith) c.in_ok-open.ensures c.in_ok-new.ensures in
    record {
      past = record { given = no_items; closed = 0 };
      stands = subst (λ n. CoreIsFor (contents_of (record { split = c.in_ok-open.field-0; captures = c.in_ok-new.field-0 })) n (record { given = no_items; closed = 0 })) (sym c.in_ok-open.ensures.cycle_is) starts;
    }

pub returns : goal.returns
returns c = core-starts c.args.cycle c.in_ok-open.field-0 c.in_ok-new.field-0 c.requires (omega arith) c.in_ok-open.ensures c.in_ok-new.ensures
