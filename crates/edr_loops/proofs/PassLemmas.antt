-- What a desk stands for after a tick at rest.
use Rattle.std.proofs.Common.{arith, refl, sym, ap, subst, ◌≡◌, ◌∙◌, ◌≤◌, ◌+◌, ℕ, Bool, cond, false}
use Rattle.edr_items.specs.declared.Item.{Item}
use Rattle.edr_definitions.specs.Schedule.{Progress}
use Rattle.edr_merge.specs.Still.{after_still, still_given, still_item}
use Rattle.edr_core.specs.Parts.{AreSlotsOf, PartSlots, issues_with}
use Rattle.edr_core.specs.SplitContents.{SplitContents}
use Rattle.edr_core.specs.SplitHistory.{History}
use Rattle.edr_core.specs.SplitStandsFor.{merge_progress}
use Rattle.edr_core.specs.Still.{SplitPassesStill, with_along, with_both as with_both_given}
use Rattle.edr_core.proofs.GiveLemmas.{merged-free}
use Rattle.edr_loops.specs.declared.per_fast_sensor.FastSensor.TheVariants.{Along, Across}
use Rattle.edr_loops.specs.declared.per_fast_sensor.PerFastSensor.{PerFastSensor}
use Rattle.edr_loops.specs.declared.recorder.Desk.{Desk}
use Rattle.edr_loops.specs.FastInlets.{fast_marks_of, with_both, with_fast}
use Rattle.edr_loops.specs.Lanes.{FastInlets, FastItems, fast_taken}
use Rattle.edr_loops.specs.PerFastSensor.{with_fast_value}
use Rattle.edr_loops.specs.Recorders.{DeskWasTold, DeskStands}
use Rattle.edr_loops.proofs.FastLemmas.{fast-marks-with}
use Rattle.edr_loops.proofs.RecorderLemmas.{closed-low, told-taken}

-- where no part is asked for, that is so of each tick
none-asked : (b : Bool) (t u : ℕ) → b ≡ false → cond {A = ℕ} b t 0 ≡ cond {A = ℕ} b u 0
none-asked b t u free = rw free refl

module _ (n e t : ℕ) (d : Desk) (c : SplitContents) (i : FastInlets) (s : DeskStands n e d) (passes : SplitPassesStill s.history c) (at : t ≡ s.history.past.closed + 1) (low : t ≤ e)
    (taken : fast_taken i ≡ with_both (still_item t) (fast_taken d.fast)) where
  abbrev h : History
  h = s.history

  abbrev x : Item
  x = still_item (h.past.closed + 1)

  abbrev l : FastItems
  l = fast_taken d.fast

  -- first one axis gives its sample
  abbrev one : FastInlets
  one = record d.fast { along = i.along }

  taken_one : fast_taken one ≡ with_fast Along x l
  taken_one = ap (λ (f : FastItems). record l { along = f.along }) taken ∙ ap (λ (m : ℕ). with_fast Along (still_item m) l) at

  abbrev gave : Desk
  gave = record d { core = passes.first; fast = one }

  told-one : DeskWasTold n e gave (with_along h)
  told-one = told-taken n e Along x d passes.first one d.last taken_one h passes.next.along passes.first_is s.told

  -- then the other does
  taken_both : fast_taken i ≡ with_fast Across x (fast_taken one)
  taken_both = taken ∙ ap (λ (m : ℕ). with_both (still_item m) l) at ∙ ap (with_fast Across x) (sym taken_one)

  told-both : DeskWasTold n e (record d { core = passes.both; fast = i }) (with_both_given h)
  told-both = told-taken n e Across x gave passes.both i d.last taken_both (with_along h) passes.next.across passes.both_is told-one

  -- and at last the tick is closed
  abbrev after : History
  after = record h { past = after_still h.past }

  abbrev passed : Desk
  passed = record d { core = c; fast = i; last = record d.last { along = t; across = t } }

  merged : (merge_progress (with_both_given h)).closed ≡ h.past.closed
  merged = ap (λ (p : Progress). p.closed) (merged-free (with_both_given h) passes.free)

  quiet : (slots : PartSlots) → AreSlotsOf h.parts slots → issues_with slots (still_given h.past).given n (h.past.closed + 1) ≡ issues_with slots (still_given h.past).given n h.past.closed
  quiet slots are =
      subst (λ (m : ℕ). issues_with slots (still_given h.past).given m (h.past.closed + 1) ≡ issues_with slots (still_given h.past).given m h.past.closed) s.told.cycle_is
      (passes.quiet slots are)

  told : DeskWasTold n e passed after
  told = let t = told-both in record {
    core_is = passes.stands;
    cycle_is = t.cycle_is;
    agrees = record {
      marks_are = t.agrees.marks_are;
      zero_is = t.agrees.zero_is ∙ none-asked h.asking (h.past.closed + 1) (h.past.closed + 1 + 1) passes.free;
      last_to = let last = t.agrees.last_to in let up = closed-low after in omega (arith, last, up, merged);
      granted_near = let near = t.agrees.granted_near in omega (arith, near);
      granted_to = t.agrees.granted_to;
    };
    within = omega (arith, low, at);
    parts_are = t.parts_are;
    issues_are = λ slots are. t.issues_are slots are ∙ sym (quiet slots are);
    taken_are = t.taken_are;
  }

  last-is : record d.last { along = t; across = t } ≡ fast_marks_of (fast_taken i)
  last-is =
      ap (λ (m : PerFastSensor ℕ). record m { along = t; across = t }) s.last_is
      ∙ sym (fast-marks-with Across (still_item t) (with_fast Along (still_item t) l) ∙ ap (with_fast_value Across t) (fast-marks-with Along (still_item t) l))
      ∙ ap fast_marks_of (sym taken)

  pub stands-passed : DeskStands n e passed
  stands-passed = record { history = after; told = told; last_is = last-is; granted_is = s.granted_is; asking_is = s.asking_is }
