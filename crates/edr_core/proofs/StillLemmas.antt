-- A core that passes a tick at which neither axis moves.
use Rattle.std.proofs.Common.{refl, ap, sym, subst, ◌≡◌, ◌∙◌, ℕ, ◌+◌, ◌<◌, pos, Bool, false, Some, None, Option, append-nil}
use Rattle.std.specs.Prelude.{is_some, option_map}
use Rattle.edr_items.specs.declared.TheConstants.{LATEST_MOMENT}
use Rattle.edr_items.specs.declared.Sensor.TheVariants.{Along, Across}
use Rattle.edr_items.specs.declared.Item.{Item}
use Rattle.edr_definitions.specs.Schedule.{Progress, Give, after_step}
use Rattle.edr_merge.specs.State.{MergeState}
use Rattle.edr_merge.specs.StandsFor.{MergeStandsFor}
use Rattle.edr_merge.specs.Still.{still_item, still_given, after_still, PassesStill}
use Rattle.edr_detect.specs.Stages.{nothing}
use Rattle.edr_detect.specs.Rows.{still_row}
use Rattle.edr_detect.specs.Detected.{DetectState, DetectsNext, TellsNext}
use Rattle.edr_core.specs.declared.candidate.Candidate.{Candidate}
use Rattle.edr_core.specs.declared.candidate.TickRow.{TickRow as Given}
use Rattle.edr_core.specs.Candidate.{grown_candidate, no_issues}
use Rattle.edr_core.specs.Parts.{PartSlots, AreSlotsOf, issues_with}
use Rattle.edr_core.specs.SplitHistory.{History}
use Rattle.edr_core.specs.SplitContents.{SplitContents}
use Rattle.edr_core.specs.SplitStandsFor.{SplitCoreStandsFor}
use Rattle.edr_core.specs.Still.{next_tick, with_along, with_both, SplitPassesStill}
use Rattle.edr_core.proofs.GiveLemmas.{merged-free, asks-not, no-ask, split-gives}
use Rattle.edr_core.proofs.StepLemmas.{room, step-stands, step-ticks}

-- no candidate is open
pub none-open : (o : Option Candidate) → is_some o ≡ false → o ≡ None
none-open None e = refl
none-open (Some x) e = cc

module _ (c : SplitContents) (w : History) (h : SplitCoreStandsFor c w) (none : is_some c.ask ≡ false) (merge : MergeState) (passes : PassesStill w.past merge) where
  abbrev x : Item
  x = still_item (next_tick w.past)

  free : w.asking ≡ false
  free = asks-not c w h none

  abbrev first : SplitContents
  first = record c { merge = passes.first }

  first_is : SplitCoreStandsFor first (with_along w)
  first_is = split-gives c w Along x passes.first h passes.next.along
      (subst (λ (p : Progress). MergeStandsFor passes.first (after_step p (Give Along x))) (sym (merged-free w free)) passes.first_is)

  abbrev both : SplitContents
  both = record c { merge = passes.both }

  both_is : SplitCoreStandsFor both (with_both w)
  both_is = split-gives first (with_along w) Across x passes.both first_is passes.next.across
      (subst (λ (p : Progress). MergeStandsFor passes.both (after_step p (Give Across x))) (sym (merged-free (with_along w) free)) passes.both_is)

  -- the search has ticks left
  pub still-room : c.detect.tick < LATEST_MOMENT
  still-room = room both (with_both w) both_is free (next_tick w.past) (Some (pos 0)) (Some (pos 0)) (record { 0 = 0 }) passes.next.row passes.next.closes

  module _ (none_open : c.candidate ≡ None) (d : DetectState) (stands : DetectsNext still_row c.detect d) (answer : TellsNext still_row c.detect nothing) where
    abbrev still : Given
    still = record { along = Some (pos 0); across = Some (pos 0); fired = record { 0 = 0 } }

    none_grows : ◌≡◌ {A = Option Candidate} None (option_map (grown_candidate still) c.candidate)
    none_grows = ap (λ (o : Option Candidate). option_map (grown_candidate still) o) (sym none_open)

    abbrev after : ℕ → Option Candidate → SplitContents
    after t o = record { cycle = c.cycle; closed = t; merge = merge; detect = d; link = c.link; candidate = o; ask = c.ask }

    abbrev past : Bool → History
    past asking = record { cycle = w.cycle; past = after_still w.past; asking = asking; parts = w.parts }

    after_is : SplitCoreStandsFor (after (next_tick w.past) None) (past false)
    after_is =
        step-stands both (with_both w) both_is free (next_tick w.past) (Some (pos 0)) (Some (pos 0)) (record { 0 = 0 }) passes.next.row passes.next.closes
        nothing d (pos 0) (pos 0) refl refl stands answer merge passes.stands refl None None c.link no_issues none_grows (no-ask c.ask none) (refl, refl, refl)

    quiet : (slots : PartSlots) → AreSlotsOf w.parts slots → issues_with slots (still_given w.past).given w.cycle (next_tick w.past) ≡ issues_with slots (still_given w.past).given w.cycle w.past.closed
    quiet slots are =
        step-ticks both (with_both w) both_is free (next_tick w.past) (Some (pos 0)) (Some (pos 0)) (record { 0 = 0 }) passes.next.row passes.next.closes
        nothing d (pos 0) (pos 0) refl refl stands answer merge passes.stands refl None None c.link no_issues none_grows (no-ask c.ask none) (refl, refl, refl) slots are
        ∙ append-nil (issues_with slots (still_given w.past).given w.cycle w.past.closed)

    pub split-passes : SplitPassesStill w (after (c.closed + 1) c.candidate)
    split-passes = record {
      free = free;
      next = passes.next;
      first = first;
      first_is = first_is;
      both = both;
      both_is = both_is;
      stands =
          subst (λ (t : ℕ). SplitCoreStandsFor (after (t + 1) c.candidate) (past w.asking)) (sym h.closed_is)
          (subst (λ (o : Option Candidate). SplitCoreStandsFor (after (next_tick w.past) o) (past w.asking)) (sym none_open)
          (subst (λ (a : Bool). SplitCoreStandsFor (after (next_tick w.past) None) (past a)) (sym free) after_is));
      quiet = quiet;
    }
