-- An older event gives way to a new one.
use Rattle.std.proofs.Common.{◌∙◌, ◌-◌, sym, ap, Some, List}
use Rattle.std.proofs.lemmas.List.{set-set}
use Rattle.edr_image.specs.declared.BankView.{BankView}
use Rattle.edr_image.specs.declared.BankView.TheVariants.{Void, Event}
use Rattle.edr_image.specs.Steps.{new_record}
use Rattle.edr_banks.specs.Applying.{opened_after}
use Rattle.edr_banks.specs.Opened.{OpenedBanks}
use Rattle.edr_banks.specs.Tasks.{steps_of}
use Rattle.edr_banks.specs.declared.tasks.Task.{Task}
use Rattle.edr_banks.proofs.TaskLemmas.{replaced_locked}
use Rattle.edr_banks.proofs.Banks.note.Goals as goal

pub returns-in-Replace : goal.returns-in-Replace
returns-in-Replace c =
    let o = c.args.self.now in
    let m = c.in-Replace.bank in
    let holding : List BankView → OpenedBanks = λ banks. record o { store = record o.store { banks = banks }; held = Some m } in
    c.hold-in-Replace.ensures ∙ ap holding (sym (set-set o.store.banks (m - 1) Void (Event (new_record c.in-Replace.pre)))) ∙ ap (λ (t : Task). opened_after o (steps_of t)) (sym c.in-Replace.is)

pub returns-in-ReplaceLocked : goal.returns-in-ReplaceLocked
returns-in-ReplaceLocked c =
    let o = c.args.self.now in
    let m = c.in-ReplaceLocked.bank in
    let holding : List BankView → OpenedBanks = λ banks. record o { store = record o.store { banks = banks }; held = Some m } in
    c.hold-in-ReplaceLocked.ensures ∙ ap holding (sym (replaced_locked o.store.banks (m - 1) (new_record c.in-ReplaceLocked.pre))) ∙ ap (λ (t : Task). opened_after o (steps_of t)) (sym c.in-ReplaceLocked.is)
