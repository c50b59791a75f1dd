use Rattle.std.proofs.Common.{ap, sym, ◌∙◌, ◌∷◌, Option}
use Rattle.edr_items.specs.declared.Item.{Item}
use Rattle.edr_merge.specs.Oldest.{with_oldest}
use Rattle.edr_merge.proofs.OldestLemmas.{kept-with_room, kept-without_room, kept-behind}
use Rattle.edr_merge.proofs.samples.Samples.keep.Goals as goal

pub returns-in-Some : goal.returns-in-Some
returns-in-Some c =
    let inside = c.self.inside in
    kept-behind c.args.item c.args.self.now inside.oldest inside.others.items c.self.view_is c.if-is_none.ensures c.if-is_none-2.ensures _
    (λ y is. ap (λ b. c.in-Some.first ∷ b.items) c.push_back.ensures.items ∙ kept-without_room inside.others.items c.args.item y inside.others.capacity c.self.invariant.room c.self.invariant.within c.in-Some.first (sym c.push_back.ensures.value ∙ c.in-Some.is))

pub returns-in_default : goal.returns-in_default
returns-in_default c =
    let inside = c.self.inside in
    kept-behind c.args.item c.args.self.now inside.oldest inside.others.items c.self.view_is c.if-is_none.ensures c.if-is_none-2.ensures _
    (λ y is. ap (λ (o : Option Item). with_oldest o c.push_back.new.self.items) is ∙ ap (λ b. y ∷ b.items) c.push_back.ensures.items ∙ kept-with_room inside.others.items c.args.item y inside.others.capacity c.self.invariant.room c.self.invariant.within (sym c.push_back.ensures.value ∙ c.in_default.is))
