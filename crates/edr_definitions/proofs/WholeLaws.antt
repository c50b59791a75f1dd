-- One tick of a core with its open crash part.
use Rattle.std.proofs.Common.{arith, refl, ap, sym, subst, ◌≡◌, ◌∙◌, ℕ, ◌+◌, ◌≤◌, Bool, true, false, cond, ◌&&◌, not, nat_eq, Some, None, Option, ◌++◌}
use Rattle.std.specs.Option.{option_or}
use Rattle.edr_items.specs.declared.Sensor.{Sensor}
use Rattle.edr_items.specs.declared.Item.{Item}
use Rattle.edr_items.specs.Item.{refusal_of, mark_of}
use Rattle.edr_items.specs.SensorLists.{SensorLists, items_of, horizon_of}
use Rattle.edr_record.specs.Parts.{PrePart, CrashPart}
use Rattle.edr_definitions.specs.Signals.{Signals, signals_of}
use Rattle.edr_definitions.specs.Selection.{Bounds, is_triggered, is_time_zero, is_end, close_of, at_start}
use Rattle.edr_definitions.specs.Parts.{crash_part}
use Rattle.edr_definitions.specs.Facts.{AgreeUpTo}
use Rattle.edr_definitions.specs.Commands.{issues, is_locking, place_of, commands}
use Rattle.edr_definitions.specs.Search.{Phase, Searching, Open, Search, tick_if, past_end, next_open, next_from, next_search, PhaseIs}
use Rattle.edr_definitions.specs.Change.{Change, stepped_change}
use Rattle.edr_definitions.specs.OpenCrash.{OpenCrash, crash_at, begin_crash, next_crash, finish_crash}
use Rattle.edr_definitions.specs.Schedule.{with_item}
use Rattle.edr_definitions.specs.Core.{CoreState, pre_after, core_after, is_open, part_after, issues_at, commands_of, IsTold, OpenIs, PartIs, WholeCoreStandsFor}
use Rattle.edr_definitions.proofs.TickLaws.{not_both}
use Rattle.edr_definitions.proofs.LaterLaws.{GiveTheSameUpTo-push, issues-push, commands-push}
use Rattle.edr_definitions.proofs.TestLaws.{end_test}
use Rattle.edr_definitions.proofs.OpenLaws.{change-now, zero-is}
use Rattle.edr_definitions.proofs.CoreLaws.{core-stands, core-issues, core-closes}
use Rattle.edr_definitions.proofs.KeepLaws.{core-start, core-accept, core-open, accepted-later}
use Rattle.edr_definitions.proofs.CrashLaws.{crash_at-zero, crash_at-next, crash_at-agree, crash_at-finish}

-- ---- signals that agree so far have the same open crash part
same_part : (m n : Signals) (t z : ℕ) → z ≤ t → AgreeUpTo t m n → crash_at m z t ≡ crash_at n z t
same_part m n t z from same = crash_at-agree m n z t from (λ u lo hi. same.fired u hi) (λ u lo hi. same.along u hi) (λ u lo hi. same.across u hi)

part_same : (t : ℕ) (m n : Signals) (b : Bounds) (p : OpenCrash) (ph : Phase) → AgreeUpTo t m n → PhaseIs m t b ph → PartIs m t p ph → PartIs n t p ph
part_same t m n b p Searching same h o = tt
part_same t m n b p (Open z c l None) same h o = o ∙ same_part m n t z h.1 same
part_same t m n b p (Open z c l (Some e)) same h o = let order = h.1.from in let ended = h.2 in o ∙ same_part m n t z (omega (arith, order, ended)) same

-- ---- the open crash part at the next tick
module _ (m : Signals) (t : ℕ) (b : Bounds) (change : Change) (p : OpenCrash) where
  abbrev next : OpenCrash
  next = part_after m (t + 1) change p

  grown : (z : ℕ) → z ≤ t → change.zero ≡ false → p ≡ crash_at m z t → next ≡ crash_at m z (t + 1)
  grown z from no_zero is =
      ap (λ (v : Bool). cond v (begin_crash (t + 1) (m.fired (t + 1))) (next_crash p (m.along (t + 1)) (m.across (t + 1)) (m.fired (t + 1)))) no_zero
      ∙ ap (λ (q : OpenCrash). next_crash q (m.along (t + 1)) (m.across (t + 1)) (m.fired (t + 1))) is
      ∙ crash_at-next m z t from

  past_end_part : (z e : ℕ) (r l : Option ℕ) → next ≡ crash_at m z (t + 1) → PartIs m (t + 1) next (past_end (t + 1) b z r l e).phase
  past_end_part z e None l h = tt
  past_end_part z e (Some u) l h = by_test (nat_eq (t + 1) (close_of z e)) where
    by_test : (v : Bool) → PartIs m (t + 1) next (cond {A = Search} v (record { bounds = record { after = t + 1; since = t + 1 }; phase = Searching }) (record { bounds = b; phase = Open z (Some u) l (Some e) })).phase
    by_test true = tt
    by_test false = h

  next_open_part : (z : ℕ) (r l : Option ℕ) (v : Bool) → next ≡ crash_at m z (t + 1) → PartIs m (t + 1) next (next_open (t + 1) b z r l v).phase
  next_open_part z r l true h = past_end_part z (t + 1) r l h
  next_open_part z r l false h = h

  searching_part : (v : Bool) → change.zero ≡ v → PartIs m (t + 1) next (cond {A = Search} v (record { bounds = b; phase = Open (t + 1) (tick_if (is_triggered m b.since (t + 1)) (t + 1)) (tick_if (is_locking m (t + 1)) (t + 1)) None }) (record { bounds = b; phase = Searching })).phase
  searching_part true is = ap (λ (v : Bool). cond v (begin_crash (t + 1) (m.fired (t + 1))) (next_crash p (m.along (t + 1)) (m.across (t + 1)) (m.fired (t + 1)))) is ∙ crash_at-zero m (t + 1)
  searching_part false is = tt

  step_part : (ph : Phase) → PhaseIs m t b ph → PartIs m t p ph → change.zero ≡ (not (is_open ph) && is_time_zero m b (t + 1)) → PartIs m (t + 1) next (next_from m (t + 1) b ph).phase
  step_part Searching h o is = searching_part (is_time_zero m b (t + 1)) is
  step_part (Open z c l None) h o is =
      next_open_part z (option_or c (tick_if (is_triggered m b.since (t + 1)) (t + 1))) (option_or l (tick_if (is_locking m (t + 1)) (t + 1))) (is_end m z (t + 1)) (grown z h.1 is o)
  step_part (Open z c l (Some e)) h o is =
      let order = h.1.from in let ended = h.2 in
      past_end_part z e c (option_or l (tick_if (is_locking m (t + 1)) (t + 1))) (grown z (omega arith) is o)

module _ (f : SensorLists) (n t : ℕ) (s : Search) (k : CoreState) (p : OpenCrash) (begun : PrePart) (change : Change) (h : WholeCoreStandsFor f n t s k p) (told : IsTold f n (t + 1) change begun) where
  -- the open crash part at the next tick
  abbrev pub part_now : OpenCrash
  part_now = part_after (signals_of f) (t + 1) change p

  -- what it gives there
  abbrev pub crash_now : CrashPart
  crash_now = finish_crash part_now (core_after (t + 1) change begun k).ended

  zero_is : change.zero ≡ (not (is_open s.phase) && is_time_zero (signals_of f) s.bounds (t + 1))
  zero_is = ap (λ (x : Change). x.zero) told.change_is ∙ zero-is (signals_of f) t s h.core_is.search_is

  part_stands : PartIs (signals_of f) (t + 1) part_now (next_search (signals_of f) (t + 1) s).phase
  part_stands = step_part (signals_of f) t s.bounds change p s.phase h.core_is.search_is.phase_is h.part_is zero_is

  -- with no time zero at the next tick the candidate keeps its own
  zero_kept : change.zero ≡ false → (pre_after change begun k).key.zero ≡ k.frozen.key.zero
  zero_kept no_zero = placed_zero change.confirmed (cond change.zero begun k.frozen) ∙ ap (λ (v : Bool). (cond {A = PrePart} v begun k.frozen).key.zero) no_zero where
    placed_zero : (w : Bool) (x : PrePart) → (cond {A = PrePart} w (record x { place = place_of k.linked x.key.zero }) x).key.zero ≡ x.key.zero
    placed_zero true x = refl
    placed_zero false x = refl

  closes_is : change.closed ≡ true → crash_now ≡ crash_part (signals_of f) (pre_after change begun k).key.zero (core_after (t + 1) change begun k).ended
  closes_is shut = by_phase s.phase refl where
    by_phase : (ph : Phase) → s.phase ≡ ph → crash_now ≡ crash_part (signals_of f) (pre_after change begun k).key.zero (core_after (t + 1) change begun k).ended
    by_phase Searching ph =
        let m = signals_of f in
        let never : change.closed ≡ false =
        ap (λ (x : Change). x.closed) (told.change_is ∙ change-now m t s h.core_is.search_is)
        ∙ ap (λ (x : Phase). (stepped_change (t + 1) (is_time_zero m s.bounds (t + 1)) (is_triggered m s.bounds.since (t + 1)) (is_locking m (t + 1)) (end_test m (t + 1) s.phase) x).closed) ph in
        absurd (not_both change.closed never shut)
    by_phase (Open z c l e) ph =
        let m = signals_of f in
        let opened = core-open f n t s k z c l e h.core_is ph in
        let part : p ≡ crash_at m z t = subst (λ (x : Phase). PartIs m t p x) ph h.part_is in
        let no_zero : change.zero ≡ false = zero_is ∙ ap (λ (x : Phase). not (is_open x) && is_time_zero m s.bounds (t + 1)) ph in
        let now : part_now ≡ crash_at m z (t + 1) = grown m t s.bounds change p z opened.1 no_zero part in
        let zero : (pre_after change begun k).key.zero ≡ z = zero_kept no_zero ∙ opened.0 in
        let closing = core-closes f n t s k begun change h.core_is told shut in
        let shape : part_now ≡ crash_at m (pre_after change begun k).key.zero (close_of (pre_after change begun k).key.zero (core_after (t + 1) change begun k).ended) =
        now ∙ ap (λ (y : ℕ). crash_at m y (t + 1)) (sym zero) ∙ ap (λ (y : ℕ). crash_at m (pre_after change begun k).key.zero y) (sym closing.2) in
        let long = closing.0 in
        ap (λ (q : OpenCrash). finish_crash q (core_after (t + 1) change begun k).ended) shape
        ∙ crash_at-finish m (pre_after change begun k).key.zero (core_after (t + 1) change begun k).ended (omega arith)

  -- one tick: the core goes on standing for its lists, with its open crash part
  pub whole-stands : t + 1 ≤ horizon_of f → WholeCoreStandsFor f n (t + 1) (next_search (signals_of f) (t + 1) s) (core_after (t + 1) change begun k) part_now
  whole-stands within = record {
    core_is = core-stands f n t s k begun crash_now change h.core_is told closes_is within;
    part_is = part_stands;
  }

  -- and what it issues are the commands of the tick
  pub whole-issues : commands f n (t + 1) ≡ commands f n t ++ commands_of (issues_at change begun crash_now k)
  whole-issues = core-issues f n t s k begun crash_now change h.core_is told closes_is

-- ---- the start, and one more item
pub whole-start : (f : SensorLists) (n : ℕ) (k : CoreState) (p : OpenCrash) → k.linked ≡ None → WholeCoreStandsFor f n 0 (record { bounds = at_start; phase = Searching }) k p
whole-start f n k p link = record { core_is = core-start f n k link; part_is = tt }

pub whole-accept : (f : SensorLists) (n t : ℕ) (s : Search) (k : CoreState) (p : OpenCrash) (r : Sensor) (x : Item) → refusal_of r (mark_of (items_of r f)) x ≡ None → WholeCoreStandsFor f n t s k p → WholeCoreStandsFor (with_item r x f) n t s k p
whole-accept f n t s k p r x accepted h =
    let later = accepted-later f t r x h.core_is.within accepted in
    let same = GiveTheSameUpTo-push r f x t later in
    record {
      core_is = core-accept f n t s k r x accepted h.core_is;
      part_is = part_same t (signals_of f) (signals_of (with_item r x f)) s.bounds p s.phase same.signals h.core_is.search_is.phase_is h.part_is;
    }

-- an accepted item changes no command up to the closed tick
pub commands-accept : (f : SensorLists) (n t : ℕ) (r : Sensor) (x : Item) → t ≤ horizon_of f → refusal_of r (mark_of (items_of r f)) x ≡ None → commands (with_item r x f) n t ≡ commands f n t
commands-accept f n t r x within accepted = sym (commands-push r f x n t (accepted-later f t r x within accepted))

pub issues-accept : (f : SensorLists) (n t : ℕ) (r : Sensor) (x : Item) → t ≤ horizon_of f → refusal_of r (mark_of (items_of r f)) x ≡ None → issues (with_item r x f) n t ≡ issues f n t
issues-accept f n t r x within accepted = sym (issues-push r f x n t (accepted-later f t r x within accepted))

-- ---- with no candidate open
-- only the last event counts of what is kept
pub whole-searching : (f : SensorLists) (n t : ℕ) (s : Search) (k j : CoreState) (p q : OpenCrash) → WholeCoreStandsFor f n t s k p → is_open s.phase ≡ false → j.linked ≡ k.linked → WholeCoreStandsFor f n t s j q
whole-searching f n t s k j p q h none same = record {
  core_is = record {
    within = h.core_is.within;
    search_is = h.core_is.search_is;
    linked_is = same ∙ h.core_is.linked_is;
    open_is = nothing_kept s.phase none;
  };
  part_is = no_part s.phase none;
} where
  nothing_kept : (ph : Phase) → is_open ph ≡ false → OpenIs f n j ph
  nothing_kept Searching e = tt
  nothing_kept (Open z c l x) e = absurd (not_both true e refl)

  no_part : (ph : Phase) → is_open ph ≡ false → PartIs (signals_of f) t q ph
  no_part Searching e = tt
  no_part (Open z c l x) e = absurd (not_both true e refl)
