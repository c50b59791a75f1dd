-- A step of a split core.
use Rattle.std.proofs.Common.{arith, refl, ap, sym, subst, ◌≡◌, ◌∙◌, ℕ, ◌+◌, ◌<◌, ◌≤◌, ℤ, pos, unwrap_or, unsigned_abs, Bool, true, false, cond, Some, None, Option, List, [], ◌∷◌, ◌++◌, length, map}
use Rattle.std.specs.Prelude.{IfSome, option_map, All}
use Rattle.std.specs.Option.{option_map_or}
use Rattle.edr_items.specs.declared.Sensor.{Sensor}
use Rattle.edr_items.specs.declared.Sensor.TheVariants.{Along, Across}
use Rattle.edr_items.specs.declared.Restraints.{Restraints}
use Rattle.edr_items.specs.PerSlowSensor.{first_without}
use Rattle.edr_items.specs.SensorLists.{horizon_of}
use Rattle.edr_items.proofs.FeedLemmas.{IsFeedAfter-within}
use Rattle.edr_record.specs.declared.Key.{Key}
use Rattle.edr_record.specs.declared.Place.{Place}
use Rattle.edr_record.specs.declared.Place.TheVariants.{First}
use Rattle.edr_record.specs.Parts.{PrePart}
use Rattle.edr_definitions.specs.Signals.{sample_at, signals_of}
use Rattle.edr_definitions.specs.Parts.{pre_part}
use Rattle.edr_definitions.specs.Commands.{issue_at}
use Rattle.edr_definitions.specs.Change.{Change, tick_change}
use Rattle.edr_definitions.specs.Schedule.{Progress, Close, after_step}
use Rattle.edr_definitions.specs.Core.{IsPreOfZero, commands_of}
use Rattle.edr_definitions.proofs.BoundLaws.{small_by, along-small, across-small}
use Rattle.edr_definitions.proofs.MarkLaws.{horizon-least}
use Rattle.edr_crashpart.specs.Bounds.{IsInRange}
use Rattle.edr_merge.specs.declared.Next.TheVariants.{Waiting, Row}
use Rattle.edr_merge.specs.Answers.{waited_for, row_at, next_of}
use Rattle.edr_merge.specs.State.{MergeState}
use Rattle.edr_merge.specs.StandsFor.{MergeStandsFor}
use Rattle.edr_detect.specs.declared.stage.Change.{Change as Told}
use Rattle.edr_detect.specs.Stages.{told_of}
use Rattle.edr_detect.specs.Rows.{SignalRow as Changes, signals_of_rows}
use Rattle.edr_detect.specs.Detected.{DetectState, DetectStandsFor}
use Rattle.edr_core.specs.declared.ask.OpenAsk.{OpenAsk}
use Rattle.edr_core.specs.declared.candidate.Candidate.{Candidate}
use Rattle.edr_core.specs.declared.candidate.Issued.{Issued}
use Rattle.edr_core.specs.declared.candidate.TickRow.{TickRow as Given}
use Rattle.edr_core.specs.Candidate.{IsRowInRange, IsShort, CanBeTold, begun_candidate, grown_candidate, grown_or_begun, no_issues, candidate_after, link_after, issued_after, issues_in}
use Rattle.edr_core.specs.Answers.{issues_put}
use Rattle.edr_core.specs.Ask.{AllParts, no_parts, in_places, IsKey, pre_of}
use Rattle.edr_core.specs.Parts.{PartSlots, AreSlotsOf, commands_with, issues_with}
use Rattle.edr_core.specs.Rows.{RowIs, row_of, rows_of}
use Rattle.edr_core.specs.SplitHistory.{History, Answer, Waits, Asks, Lacks, Closes, is_zero_next, missing_part, due}
use Rattle.edr_core.specs.SplitContents.{SplitContents}
use Rattle.edr_core.specs.SplitStandsFor.{IsMadeOf, AskIs, HoldsAsk, merge_progress, SplitCoreStandsFor}
use Rattle.edr_core.proofs.RowLemmas.{rows_of-push, length-rows_of, tick_change-rows, silent-feeds}
use Rattle.edr_core.proofs.TakenLemmas.{none-taken, early-later, pre-made, missing-is, none-missing}
use Rattle.edr_core.proofs.TickLemmas.{Did, can_be_told, split-stands, split-commands, split-ticks, open-short}
use Rattle.edr_core.proofs.GiveLemmas.{merged-free, merged-asking, feeds-of, within-merged, asked-is}

-- where nothing counts of what was put aside, it is nothing
pub put-all : (some : Bool) (i : Issued) → (some ≡ false → i ≡ no_issues) → issues_put some i ≡ i
put-all true i h = refl
put-all false i h = sym (h refl)

-- ---- the row of the next tick
-- the merge gave the row of the next tick, and waits for no sensor
record NextRow (p : Progress) (t : ℕ) (r : Given) : Type 0 where
  pub tick_is : t ≡ p.closed + 1
  pub none : waited_for p ≡ None
  pub row : RowIs (signals_of p.given) (p.closed + 1) r

next-row : (p : Progress) (t : ℕ) (along across : Option ℤ) (fired : Restraints) → Row t along across fired ≡ next_of p → NextRow p t (record { along = along; across = across; fired = fired })
next-row p t along across fired answer = by_sensor (waited_for p) refl answer where
  by_sensor : (o : Option Sensor) → waited_for p ≡ o → Row t along across fired ≡ option_map_or Waiting o (row_at p (p.closed + 1)) → NextRow p t (record { along = along; across = across; fired = fired })
  by_sensor (Some s) is e = cc
  by_sensor None is e =
      let m = signals_of p.given in
      let same : fired ≡ record { 0 = m.fired (p.closed + 1) } = cc in
      record {
        tick_is = cc;
        none = is;
        row = record { along = cc; across = cc; fired = ap (λ (x : Restraints). x.0) same };
      }

in_range_by : (o o' : Option ℤ) → o ≡ o' → ((v : ℤ) → o' ≡ Some v → unsigned_abs v ≤ 100_000) → IsInRange o
in_range_by o o' e small = λ v is. small v (sym e ∙ is)

small_is : (o o' : Option ℤ) → o ≡ o' → ((v : ℤ) → o' ≡ Some v → unsigned_abs v ≤ 100_000) → unsigned_abs (unwrap_or o (pos 0)) ≤ 100_000
small_is o o' e small = subst (λ (x : Option ℤ). unsigned_abs (unwrap_or x (pos 0)) ≤ 100_000) (sym e) (small_by o' small)

if_some : {X : Type 0} (P : X → Type 0) (o : Option X) → ((x : X) → o ≡ Some x → P x) → IfSome o P
if_some P None h = tt
if_some P (Some x) h = h x refl

-- what stands at the next tick of the rows is what stands there of the lists
change-is : (c : SplitContents) (w : History) (h : SplitCoreStandsFor c w) (change : Change) → change ≡ tick_change (signals_of_rows (rows_of (signals_of w.past.given) w.past.closed ++ row_of (signals_of w.past.given) (w.past.closed + 1) ∷ [])) (length (rows_of (signals_of w.past.given) w.past.closed) + 1) → change ≡ tick_change (signals_of w.past.given) (w.past.closed + 1)
change-is c w h change answer =
    let m = signals_of w.past.given in
    let t = w.past.closed in
    answer
    ∙ ap (λ (rows : List Changes). tick_change (signals_of_rows rows) (length (rows_of m t) + 1)) (sym (rows_of-push m t))
    ∙ ap (λ (k : ℕ). tick_change (signals_of_rows (rows_of m (t + 1))) (k + 1)) (length-rows_of m t)
    ∙ tick_change-rows m t h.search (silent-feeds w.past.given (feeds-of c w h)) h.whole_is.core_is.search_is

-- the pre part of a time zero, as that of a first event
abbrev first_pre : History → PrePart
first_pre w = pre_part w.past.given w.cycle First (w.past.closed + 1)

first-is : (w : History) → IsPreOfZero w.past.given w.cycle (w.past.closed + 1) (first_pre w)
unfolding pre_part
first-is w = refl

-- ---- what it answers
due-free : (w : History) → w.asking ≡ false → due w ≡ option_map_or Waits (waited_for w.past) (cond {A = Answer} (is_zero_next w.past) (Asks (w.past.closed + 1)) (Closes (w.past.closed + 1)))
due-free w free = ap (λ (v : Bool). cond {A = Answer} v (option_map_or Lacks (missing_part w) (Closes (w.past.closed + 1))) (option_map_or Waits (waited_for w.past) (cond {A = Answer} (is_zero_next w.past) (Asks (w.past.closed + 1)) (Closes (w.past.closed + 1))))) free

due-asked : (w : History) → w.asking ≡ true → due w ≡ option_map_or Lacks (missing_part w) (Closes (w.past.closed + 1))
due-asked w asking = ap (λ (v : Bool). cond {A = Answer} v (option_map_or Lacks (missing_part w) (Closes (w.past.closed + 1))) (option_map_or Waits (waited_for w.past) (cond {A = Answer} (is_zero_next w.past) (Asks (w.past.closed + 1)) (Closes (w.past.closed + 1))))) asking

-- it waits for a sensor
pub waits-due : (w : History) (s : Sensor) → w.asking ≡ false → Waiting s ≡ next_of w.past → Waits s ≡ due w
waits-due w s free answer = by_sensor (waited_for w.past) refl answer where
  by_sensor : (o : Option Sensor) → waited_for w.past ≡ o → Waiting s ≡ option_map_or Waiting o (row_at w.past (w.past.closed + 1)) → Waits s ≡ due w
  by_sensor (Some r) is e =
      let same : s ≡ r = cc in
      ap Waits same
      ∙ ap (λ (o : Option Sensor). option_map_or Waits o (cond {A = Answer} (is_zero_next w.past) (Asks (w.past.closed + 1)) (Closes (w.past.closed + 1)))) (sym is)
      ∙ sym (due-free w free)
  by_sensor None is e = cc

-- ---- a tick whose row the merge gives
module _ (c : SplitContents) (w : History) (h : SplitCoreStandsFor c w) (free : w.asking ≡ false) (t : ℕ) (first second : Option ℤ) (fired : Restraints) (given : Row t first second fired ≡ next_of w.past) (within : w.past.closed < horizon_of w.past.given) where
  abbrev r : Given
  r = record { along = first; across = second; fired = fired }

  next : NextRow w.past t r
  next = next-row w.past t first second fired given

  late : w.past.closed < 86_400_000
  late =
      let low = horizon-least w.past.given Along in
      let high = IsFeedAfter-within Along 0 w.past.given.along (omega arith) (feeds-of c w h Along) in
      omega (arith, low, high, within)

  detect_free : DetectStandsFor c.detect (rows_of (signals_of w.past.given) w.past.closed)
  detect_free = subst (λ (p : Progress). DetectStandsFor c.detect (rows_of (signals_of w.past.given) p.closed)) (merged-free w free) h.detect_is

  -- ---- what the step asks for
  pub room : c.detect.tick < 86_400_000
  room = let is = detect_free.tick_is in let long = length-rows_of (signals_of w.past.given) w.past.closed in let early = late in omega (arith, is, long, early)

  pub small-along : unsigned_abs (unwrap_or r.along (pos 0)) ≤ 100_000
  small-along = small_is r.along (sample_at w.past.given.along (w.past.closed + 1)) next.row.along ((along-small w.past.given.along (feeds-of c w h Along)).small (w.past.closed + 1))

  pub small-across : unsigned_abs (unwrap_or r.across (pos 0)) ≤ 100_000
  small-across = small_is r.across (sample_at w.past.given.across (w.past.closed + 1)) next.row.across ((across-small w.past.given.across (feeds-of c w h Across)).small (w.past.closed + 1))

  pub row-in_range : IsRowInRange r
  row-in_range = record {
    along = in_range_by r.along (sample_at w.past.given.along (w.past.closed + 1)) next.row.along ((along-small w.past.given.along (feeds-of c w h Along)).small (w.past.closed + 1));
    across = in_range_by r.across (sample_at w.past.given.across (w.past.closed + 1)) next.row.across ((across-small w.past.given.across (feeds-of c w h Across)).small (w.past.closed + 1));
  }

  pub all-short : IfSome c.candidate IsShort
  all-short = if_some IsShort c.candidate (λ o is. open-short c w h o is)

  -- ---- what stands at the tick
  module _ (told : Told) (d : DetectState) (along across : ℤ) (along_is : along ≡ unwrap_or r.along (pos 0)) (across_is : across ≡ unwrap_or r.across (pos 0)) (stands : (rows : List Changes) → DetectStandsFor c.detect rows → DetectStandsFor d (rows ++ record { along = along; across = across; fired = r.fired } ∷ [])) (answer : (rows : List Changes) → DetectStandsFor c.detect rows → told_of told ≡ tick_change (signals_of_rows (rows ++ record { along = along; across = across; fired = r.fired } ∷ [])) (length rows + 1)) (merge : MergeState) (merge_is : MergeStandsFor merge (after_step w.past Close)) where
    same_fired : (x y : Restraints) → x.0 ≡ y.0 → x ≡ y
    same_fired x y e = ap (λ k. let z : Restraints = record { 0 = k } in z) e

    row-is : ◌≡◌ {A = Changes} (record { along = along; across = across; fired = r.fired }) (row_of (signals_of w.past.given) (w.past.closed + 1))
    row-is =
        let x = along_is ∙ ap (λ (o : Option ℤ). unwrap_or o (pos 0)) next.row.along in
        let y = across_is ∙ ap (λ (o : Option ℤ). unwrap_or o (pos 0)) next.row.across in
        let z = same_fired r.fired (record { 0 = (signals_of w.past.given).fired (w.past.closed + 1) }) next.row.fired in
        cc

    detected : DetectStandsFor d (rows_of (signals_of w.past.given) (w.past.closed + 1))
    detected =
        subst (λ rows. DetectStandsFor d rows) (sym (rows_of-push (signals_of w.past.given) w.past.closed))
        (subst (λ (x : Changes). DetectStandsFor d (rows_of (signals_of w.past.given) w.past.closed ++ x ∷ [])) row-is (stands (rows_of (signals_of w.past.given) w.past.closed) detect_free))

    told-next : told_of told ≡ tick_change (signals_of w.past.given) (w.past.closed + 1)
    told-next = change-is c w h (told_of told) (subst (λ (x : Changes). told_of told ≡ tick_change (signals_of_rows (rows_of (signals_of w.past.given) w.past.closed ++ x ∷ [])) (length (rows_of (signals_of w.past.given) w.past.closed) + 1)) row-is (answer (rows_of (signals_of w.past.given) w.past.closed) detect_free))

    -- ---- it is a time zero
    module _ (zero : told.zero ≡ true) where
      pub ask-opens : (o : Option OpenAsk) → o ≡ Some (record { row = r; change = told; parts = no_parts }) → SplitCoreStandsFor (record { cycle = c.cycle; closed = c.closed; merge = merge; detect = d; link = c.link; candidate = c.candidate; ask = o }) (record w { asking = true })
      ask-opens o opened =
          let early = subst (λ (p : Progress). All (λ q. q.zero ≤ p.closed) w.parts) (merged-free w free) h.early in
          record {
            cycle_is = h.cycle_is;
            cycle_from = h.cycle_from;
            cycle_to = h.cycle_to;
            closed_is = h.closed_is;
            near = h.near;
            merge_is = merge_is;
            detect_is = detected;
            search = h.search;
            kept = h.kept;
            crash = h.crash;
            whole_is = h.whole_is;
            link_is = h.link_is;
            open_is = h.open_is;
            candidate_is = h.candidate_is;
            ask_is = subst (λ a. HoldsAsk a (record w { asking = true })) (sym opened) (record {
              asking = refl;
              row = next.row;
              change = told-next;
              zero = zero;
              parts = none-taken w.parts (w.past.closed + 1) w.past.closed (omega arith) early;
            });
            early = early-later w.parts w.past.closed (w.past.closed + 1) (omega arith) early;
          }

      pub asks-due : Asks t ≡ due w
      asks-due =
          ap Asks next.tick_is
          ∙ ap (λ (v : Bool). cond {A = Answer} v (Asks (w.past.closed + 1)) (Closes (w.past.closed + 1))) (sym zero ∙ ap (λ (x : Change). x.zero) told-next)
          ∙ ap (λ (o : Option Sensor). option_map_or Waits o (cond {A = Answer} (is_zero_next w.past) (Asks (w.past.closed + 1)) (Closes (w.past.closed + 1)))) (sym next.none)
          ∙ sym (due-free w free)

    -- ---- it is none
    module _ (zero : told.zero ≡ false) where
      no_zero : told.zero ≡ true → ⊥
      no_zero e = let apart : true ≡ false = sym e ∙ zero in cc

      grown-is : (g : Option Candidate) → g ≡ option_map (grown_candidate r) c.candidate → g ≡ grown_or_begun (told_of told) (first_pre w) r c.candidate
      grown-is g is = is ∙ ap (λ (v : Bool). cond {A = Option Candidate} v (Some (begun_candidate (first_pre w) r)) (option_map (grown_candidate r) c.candidate)) (sym zero)

      pub closes-due : Closes t ≡ due w
      closes-due =
          ap Closes next.tick_is
          ∙ ap (λ (v : Bool). cond {A = Answer} v (Asks (w.past.closed + 1)) (Closes (w.past.closed + 1))) (sym zero ∙ ap (λ (x : Change). x.zero) told-next)
          ∙ ap (λ (o : Option Sensor). option_map_or Waits o (cond {A = Answer} (is_zero_next w.past) (Asks (w.past.closed + 1)) (Closes (w.past.closed + 1)))) (sym next.none)
          ∙ sym (due-free w free)

      pub can-tell : (g : Option Candidate) → g ≡ option_map (grown_candidate r) c.candidate → IfSome g (CanBeTold t (told_of told) c.link)
      can-tell g is =
          if_some (CanBeTold t (told_of told) c.link) g
          (λ o e. subst (λ k. CanBeTold k (told_of told) c.link o) (sym next.tick_is)
          (can_be_told c c w (told_of told) (first_pre w) (first_pre w) r no_issues h told-next next.row (λ _. first-is w) (λ e. absurd (no_zero e)) o (sym (grown-is g is) ∙ e)))

      -- what the split core stands for then, and what it issues
      module _ (g o : Option Candidate) (link : Option (Place × ℕ)) (i : Issued) (g_is : g ≡ option_map (grown_candidate r) c.candidate) (no_ask : c.ask ≡ None) where
        abbrev after : SplitContents
        after = record { cycle = c.cycle; closed = t; merge = merge; detect = d; link = link; candidate = o; ask = c.ask }

        module _ (did : (o ≡ candidate_after t (told_of told) c.link g) × (link ≡ link_after t (told_of told) c.link g) × (i ≡ issued_after t (told_of told) c.link g)) where
          done : Did c after w (told_of told) (first_pre w) (first_pre w) r i (grown_or_begun (told_of told) (first_pre w) r c.candidate)
          done =
              subst (λ k. (o ≡ candidate_after k (told_of told) c.link (grown_or_begun (told_of told) (first_pre w) r c.candidate)) × (link ≡ link_after k (told_of told) c.link (grown_or_begun (told_of told) (first_pre w) r c.candidate)) × (i ≡ issued_after k (told_of told) c.link (grown_or_begun (told_of told) (first_pre w) r c.candidate))) next.tick_is
              (subst (λ (x : Option Candidate). (o ≡ candidate_after t (told_of told) c.link x) × (link ≡ link_after t (told_of told) c.link x) × (i ≡ issued_after t (told_of told) c.link x)) (grown-is g g_is) did)

          pub step-stands : SplitCoreStandsFor after (record w { past = after_step w.past Close; asking = false })
          step-stands =
              let early = subst (λ (p : Progress). All (λ q. q.zero ≤ p.closed) w.parts) (merged-free w free) h.early in
              split-stands c after w (told_of told) (first_pre w) (first_pre w) r i h told-next next.row (λ _. first-is w) (λ e. absurd (no_zero e)) done merge_is detected refl next.tick_is no_ask
              (early-later w.parts w.past.closed (w.past.closed + 1) (omega arith) early)

          pub step-commands : (slots : PartSlots) → AreSlotsOf w.parts slots → (t ≡ w.past.closed + 1) × (commands_with slots w.past.given w.cycle t ≡ commands_with slots w.past.given w.cycle w.past.closed ++ commands_of (issues_in i))
          step-commands slots are =
              (next.tick_is, ap (λ k. commands_with slots w.past.given w.cycle k) next.tick_is ∙ split-commands c after w (told_of told) (first_pre w) (first_pre w) r i h told-next next.row (λ _. first-is w) (λ e. absurd (no_zero e)) done slots are)

          pub step-ticks : (slots : PartSlots) → AreSlotsOf w.parts slots → issues_with slots w.past.given w.cycle t ≡ issues_with slots w.past.given w.cycle w.past.closed ++ map (issue_at t) (commands_of (issues_in i))
          step-ticks slots are =
              ap (λ k. issues_with slots w.past.given w.cycle k) next.tick_is
              ∙ split-ticks c after w (told_of told) (first_pre w) (first_pre w) r i h told-next next.row (λ _. first-is w) (λ e. absurd (no_zero e)) done slots are
              ∙ ap (λ k. issues_with slots w.past.given w.cycle w.past.closed ++ map (issue_at k) (commands_of (issues_in i))) (sym next.tick_is)

-- ---- a tick whose parts are asked for
-- a part is missing
pub lacks-due : (c : SplitContents) (w : History) (a : OpenAsk) (s : Sensor) → SplitCoreStandsFor c w → c.ask ≡ Some a → first_without a.parts ≡ Some s → Lacks s ≡ due w
lacks-due c w a s h is missing =
    let asked = asked-is c w a h is in
    ap (λ (o : Option Sensor). option_map_or Lacks o (Closes (w.past.closed + 1))) (sym missing ∙ missing-is w a.parts asked.parts)
    ∙ sym (due-asked w asked.asking)

-- the key of the event that may come of it
pub key-fits : (c : SplitContents) (w : History) (a : OpenAsk) → SplitCoreStandsFor c w → c.ask ≡ Some a → IsKey (record { cycle = c.cycle; zero = c.closed + 1 })
key-fits c w a h is =
    let low = horizon-least w.past.given Along in
    let high = IsFeedAfter-within Along 0 w.past.given.along (omega arith) (feeds-of c w h Along) in
    let within = within-merged c w h in
    let closed : (merge_progress w).closed ≡ w.past.closed + 1 = ap (λ (p : Progress). p.closed) (merged-asking w (asked-is c w a h is).asking) in
    let tick : c.closed + 1 ≡ w.past.closed + 1 = ap (λ t. t + 1) h.closed_is in
    let cycle = h.cycle_is in let from = h.cycle_from in let to = h.cycle_to in
    record {
      cycle_from = omega (arith, cycle, from);
      cycle_to = omega (arith, cycle, to);
      zero_from = omega arith;
      zero_to = omega (arith, low, high, within, closed, tick);
    }

-- all were taken
module _ (c : SplitContents) (w : History) (h : SplitCoreStandsFor c w) (a : OpenAsk) (is : c.ask ≡ Some a) (all : AllParts) (all_is : a.parts ≡ in_places all) where
  asked_now : AskIs a w
  asked_now = asked-is c w a h is

  abbrev key : Key
  key = record { cycle = c.cycle; zero = c.closed + 1 }

  key-is : key ≡ record { cycle = w.cycle; zero = w.past.closed + 1 }
  key-is =
      ap (λ n. let k : Key = record { cycle = n; zero = c.closed + 1 } in k) h.cycle_is
      ∙ ap (λ t. let k : Key = record { cycle = w.cycle; zero = t + 1 } in k) h.closed_is

  tick-is : c.closed + 1 ≡ w.past.closed + 1
  tick-is = ap (λ t. t + 1) h.closed_is

  abbrev made : PrePart
  made = pre_of all key

  made-is : IsMadeOf w.parts (first_pre w) made
  made-is = pre-made a.parts w.parts (w.past.closed + 1) all asked_now.parts all_is w.past.given w.cycle key key-is

  begins : (b : Candidate) → b ≡ begun_candidate made a.row → Some b ≡ grown_or_begun (told_of a.change) made a.row c.candidate
  begins b e = ap Some e ∙ ap (λ (v : Bool). cond {A = Option Candidate} v (Some (begun_candidate made a.row)) (option_map (grown_candidate a.row) c.candidate)) (sym asked_now.zero)

  pub asked-due : Closes (c.closed + 1) ≡ due w
  asked-due =
      ap Closes tick-is
      ∙ ap (λ (o : Option Sensor). option_map_or Lacks o (Closes (w.past.closed + 1))) (sym (none-missing all) ∙ ap first_without (sym all_is) ∙ missing-is w a.parts asked_now.parts)
      ∙ sym (due-asked w asked_now.asking)

  pub asked-tell : (b : Candidate) → b ≡ begun_candidate made a.row → CanBeTold (c.closed + 1) (told_of a.change) c.link b
  asked-tell b e =
      subst (λ k. CanBeTold k (told_of a.change) c.link b) (sym tick-is)
      (can_be_told c c w (told_of a.change) (first_pre w) made a.row no_issues h asked_now.change asked_now.row (λ _. first-is w) (λ _. made-is) b (sym (begins b e)))

  module _ (b : Candidate) (o : Option Candidate) (link : Option (Place × ℕ)) (i : Issued) (b_is : b ≡ begun_candidate made a.row) (did : (o ≡ candidate_after (c.closed + 1) (told_of a.change) c.link (Some b)) × (link ≡ link_after (c.closed + 1) (told_of a.change) c.link (Some b)) × (i ≡ issued_after (c.closed + 1) (told_of a.change) c.link (Some b))) where
    abbrev settled : SplitContents
    settled = record { cycle = c.cycle; closed = c.closed + 1; merge = c.merge; detect = c.detect; link = link; candidate = o; ask = None }

    asked-did : Did c settled w (told_of a.change) (first_pre w) made a.row i (grown_or_begun (told_of a.change) made a.row c.candidate)
    asked-did =
        subst (λ k. (o ≡ candidate_after k (told_of a.change) c.link (grown_or_begun (told_of a.change) made a.row c.candidate)) × (link ≡ link_after k (told_of a.change) c.link (grown_or_begun (told_of a.change) made a.row c.candidate)) × (i ≡ issued_after k (told_of a.change) c.link (grown_or_begun (told_of a.change) made a.row c.candidate))) tick-is
        (subst (λ (x : Option Candidate). (o ≡ candidate_after (c.closed + 1) (told_of a.change) c.link x) × (link ≡ link_after (c.closed + 1) (told_of a.change) c.link x) × (i ≡ issued_after (c.closed + 1) (told_of a.change) c.link x)) (begins b b_is) did)

    pub asked-stands : SplitCoreStandsFor settled (record w { past = after_step w.past Close; asking = false })
    asked-stands =
        let on = merged-asking w asked_now.asking in
        split-stands c settled w (told_of a.change) (first_pre w) made a.row i h asked_now.change asked_now.row (λ _. first-is w) (λ _. made-is) asked-did
        (subst (λ (p : Progress). MergeStandsFor c.merge p) on h.merge_is)
        (subst (λ (p : Progress). DetectStandsFor c.detect (rows_of (signals_of w.past.given) p.closed)) on h.detect_is)
        refl tick-is refl
        (subst (λ (p : Progress). All (λ q. q.zero ≤ p.closed) w.parts) on h.early)

    pub asked-commands : (slots : PartSlots) → AreSlotsOf w.parts slots → (c.closed + 1 ≡ w.past.closed + 1) × (commands_with slots w.past.given w.cycle (c.closed + 1) ≡ commands_with slots w.past.given w.cycle w.past.closed ++ commands_of (issues_in i))
    asked-commands slots are =
        (tick-is, ap (λ k. commands_with slots w.past.given w.cycle k) tick-is ∙ split-commands c settled w (told_of a.change) (first_pre w) made a.row i h asked_now.change asked_now.row (λ _. first-is w) (λ _. made-is) asked-did slots are)

    pub asked-ticks : (slots : PartSlots) → AreSlotsOf w.parts slots → issues_with slots w.past.given w.cycle (c.closed + 1) ≡ issues_with slots w.past.given w.cycle w.past.closed ++ map (issue_at (c.closed + 1)) (commands_of (issues_in i))
    asked-ticks slots are =
        ap (λ k. issues_with slots w.past.given w.cycle k) tick-is
        ∙ split-ticks c settled w (told_of a.change) (first_pre w) made a.row i h asked_now.change asked_now.row (λ _. first-is w) (λ _. made-is) asked-did slots are
        ∙ ap (λ k. issues_with slots w.past.given w.cycle w.past.closed ++ map (issue_at k) (commands_of (issues_in i))) (sym tick-is)
