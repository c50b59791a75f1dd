-- A cycle of which nothing was told yet: all remains.
use Rattle.std.proofs.Common.{arith, refl, sym, subst, ◌≡◌, ℕ}
use Rattle.std.proofs.lemmas.List.Elements.{All-nil}
use Rattle.edr_items.specs.SensorLists.{SensorLists}
use Rattle.edr_core.specs.Parts.{parts_of}
use Rattle.edr_core.specs.SplitHistory.{History, start_of}
use Rattle.edr_core.specs.SplitContents.{SplitContents}
use Rattle.edr_core.specs.SplitStandsFor.{SplitCoreStandsFor}
use Rattle.edr_cycle.specs.declared.remaining.Remaining.{Remaining}
use Rattle.edr_cycle.specs.Remaining.{Remains, RemainsAt, WasTold}

fresh-told : (lists : SensorLists) (n : ℕ) (core : SplitContents) → SplitCoreStandsFor core (start_of n) → WasTold lists (start_of n) core 0 0 0
fresh-told lists n core stands = record {
  core_is = stands;
  within = omega arith;
  parts_are = All-nil (λ q. parts_of lists q.sensor q.zero ≡ q.slots);
  along_begins = (lists.along, refl);
  across_begins = (lists.across, refl);
  restraint_begins = (lists.restraint, refl);
  along_last = refl;
  across_last = refl;
  restraint_last = refl;
}

pub fresh-remains : (lists : SensorLists) (n : ℕ) (core : SplitContents) (rest : Remaining) → SplitCoreStandsFor core (start_of n) → ((h : History) (c : SplitContents) → WasTold lists h c 0 0 0 → RemainsAt lists h.cycle h c rest) → Remains lists core.cycle core rest
fresh-remains lists n core rest stands after = record {
  history = start_of n;
  remains = subst (λ (m : ℕ). RemainsAt lists m (start_of n) core rest) (sym stands.cycle_is) (after (start_of n) core (fresh-told lists n core stands));
}
