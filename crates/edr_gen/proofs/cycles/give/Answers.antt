use Rattle.std.proofs.Common.{◌∙◌, sym, ap, ◌∷◌, [], ◌++◌}
use Rattle.edr_items.specs.SensorLists.{SensorLists, items_of, with_items}
use Rattle.edr_spell.proofs.FeedsLemmas.{feeds_given-push}
use Rattle.edr_gen.specs.Cycles.{sample}
use Rattle.edr_gen.proofs.cycles.give.Goals as goal

pub returns-in-Ok : goal.returns-in-Ok
returns-in-Ok c = λ xs e. let x = (sample c.args.sensor c.args.moment c.args.value).item in
    c.in-Ok.ensures.ok ∙ ap (λ (f : SensorLists). with_items c.args.sensor (items_of c.args.sensor f ++ x ∷ []) f) e ∙ sym (feeds_given-push xs c.args.sensor x)
