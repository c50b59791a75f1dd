use Rattle.std.proofs.Common.{rules, length, subst, refl, ℕ, List, ◌≤◌}
use Rattle.edr_device.specs.{Told.{Told}, Transfer.{GivesAll}}
use Rattle.edr_reading.specs.{Reader.IsRefusalOfRecords, declared.reading.ReportRefused.TheVariants.Fault}
use Rattle.edr_picture.specs.Pages.{largest_report}
use Rattle.edr_picture.proofs.PageLemmas.{whole, few}
use Rattle.edr_picture.proofs.draws.page_from.Goals as goal

pub returns-in-Err-Fault-clause-cause : goal.returns-in-Err-Fault-clause-cause
returns-in-Err-Fault-clause-cause g c =
    let most : length c.in_ok-bytes.bytes.items ≤ largest_report = search rules in
    let all : Told (GivesAll c.in_ok-bytes.bytes.items) (g.S.Source.left c.args.source.now) (g.S.Source.left c.take_all.new.source) = search rules in
    let refused = Fault c.in-Err-Fault.row c.in-Err-Fault.fault in
    let why = subst (λ (b : List ℕ). IsRefusalOfRecords b refused) c.deref.ensures.value (rw c.in-Err-Fault.field-0-is at c.in-Err-Fault.ensures.fault) in
    rw c.in-Err-Fault.field-0-is (refl, whole _ c.in_ok-bytes.bytes.items _ _ all (most, why))

pub returns-in-Err-Fault-clause-takes : goal.returns-in-Err-Fault-clause-takes
returns-in-Err-Fault-clause-takes g c = search (rules, few c.in_ok-bytes.bytes.items)
