use Rattle.std.proofs.Common.{refl, sym, subst, ◌≡◌, ◌+◌, ◌≤◌, true}
use Rattle.std.specs.Prelude.{is_some}
use Rattle.edr_core.specs.SplitHistory.{after_item}
use Rattle.edr_core.specs.SplitContents.{SplitContents}
use Rattle.edr_core.specs.SplitFields.{split_contents}
use Rattle.edr_core.specs.SplitStandsFor.{merge_progress, SplitCoreStandsFor}
use Rattle.edr_core.proofs.GiveLemmas.{allowed-past, split-gives}
use Rattle.edr_core.proofs.split.SplitCore.take.Goals as goal

pub invariant_of-self-2 : goal.invariant_of-self-2
invariant_of-self-2 c =
    let i = c.self.invariant in
    let near : is_some c.self.inside.events.value.ask ≡ true → c.args.item.moment ≤ c.self.inside.closed + 1000 = subst (λ (v : SplitContents). is_some v.ask ≡ true → c.args.item.moment ≤ v.closed + 1000) (sym c.self.view_is) c.requires in
    let h = i.stands in
    record {
      history = after_item c.args.sensor c.args.item i.history;
      stands = split-gives (split_contents c.self.inside) i.history c.args.sensor c.args.item c.accept.new.self h
          (allowed-past (split_contents c.self.inside) i.history c.args.sensor c.args.item h near ((c.in_ok-accept.ensures.allowed (merge_progress i.history) h.merge_is).0 refl))
          (c.in_ok-accept.ensures.ok (merge_progress i.history) h.merge_is);
      asking_is = i.asking_is;
    }

pub returns-clause-ok : goal.returns-clause-ok
returns-clause-ok c = λ w before.
    let i = c.self.invariant in
    let near : is_some c.self.inside.events.value.ask ≡ true → c.args.item.moment ≤ c.self.inside.closed + 1000 = subst (λ (v : SplitContents). is_some v.ask ≡ true → c.args.item.moment ≤ v.closed + 1000) (sym c.self.view_is) c.requires in
    let h : SplitCoreStandsFor (split_contents c.self.inside) w = subst (λ (v : SplitContents). SplitCoreStandsFor v w) (sym c.self.view_is) before in
    split-gives (split_contents c.self.inside) w c.args.sensor c.args.item c.accept.new.self h
    (allowed-past (split_contents c.self.inside) w c.args.sensor c.args.item h near ((c.in_ok-accept.ensures.allowed (merge_progress w) h.merge_is).0 refl))
    (c.in_ok-accept.ensures.ok (merge_progress w) h.merge_is)
