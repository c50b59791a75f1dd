use Rattle.std.proofs.{Common.{◌∙◌, sym, ap, subst, ℕ, List, [], ◌∷◌}, lemmas.Option.same_Some}
use Rattle.edr_reading.specs.{Reader.{HasReadRows, IsRefused, MayTell, TakesRow}, Reading.name_words}
use Rattle.edr_reading.specs.declared.reader.Refused.TheVariants as refused
use Rattle.edr_reading.proofs.ReadLemmas.{name-refused}
use Rattle.edr_reading.proofs.reader.Reader.take_told.Goals as goal

pub returns-in-Some : goal.returns-in-Some
returns-in-Some c =
    let row = c.args.row.now in
    let read = c.in-Some.ensures in
    let name = c.in-Some.name in
    subst (λ (b : List ℕ). TakesRow (HasReadRows c.args.self.now) c.take_named.new.self (b ∷ row.name.now ∷ row.value.now ∷ []) c.take_named.result) (sym c.requires.block)
    (c.take_named.ensures row.name.now (record {
      begins = c.requires.between;
      may = c.if-may_tell.ensures;
      bounds = read.read.1;
      words = read.read.0 ∙ ap (λ (n : ℕ). name_words n name) c.cycles.ensures;
      only = λ y ok e. same_Some _ _ (read.whole y ok (e ∙ ap (λ (n : ℕ). name_words n y) (sym c.cycles.ensures)));
    }))

pub returns-in_default : goal.returns-in_default
returns-in_default c rows h =
    let r = c.args.self.now in
    let row = c.args.row.now in
    subst (λ (b : List ℕ). IsRefused rows (b ∷ row.name.now ∷ row.value.now ∷ []) (refused.Field 2)) (sym c.requires.block)
    (name-refused r rows row.name.now row.value.now h c.requires.between
    (λ x ok e may. c.if-may_tell.ensures (subst (MayTell r) (sym (same_Some _ _ (c.in-Some.ensures.whole x ok (e ∙ ap (λ (n : ℕ). name_words n x) (sym c.cycles.ensures))))) may)))

pub returns-in_default-2 : goal.returns-in_default-2
returns-in_default-2 c rows h =
    let r = c.args.self.now in
    let row = c.args.row.now in
    subst (λ (b : List ℕ). IsRefused rows (b ∷ row.name.now ∷ row.value.now ∷ []) (refused.Field 2)) (sym c.requires.block)
    (name-refused r rows row.name.now row.value.now h c.requires.between
    (λ x ok e may. let z = c.in_default.ensures.whole x ok (e ∙ ap (λ (n : ℕ). name_words n x) (sym c.cycles.ensures)) in cc))
