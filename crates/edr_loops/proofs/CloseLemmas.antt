-- What a desk stands for after a step of its core.
use Rattle.std.proofs.Common.{arith, ◌≡◌, ◌≢◌, ◌∙◌, ◌≤◌, ◌<◌, ◌+◌, ℕ, Bool, true, false, cond, Option, Some, None, List, [], ◌++◌, map, refl, sym, ap, subst, append-nil, nat_eq}
use Rattle.std.specs.Option.{option_map_or}
use Rattle.edr_items.specs.declared.Sensor.{Sensor}
use Rattle.edr_items.specs.Item.{mark_of}
use Rattle.edr_items.specs.SensorLists.{items_of}
use Rattle.edr_items.proofs.LevelLemmas.{none-found}
use Rattle.edr_definitions.specs.Commands.{Issue, issue_at}
use Rattle.edr_definitions.specs.Schedule.{Progress, Close, after_step}
use Rattle.edr_definitions.proofs.MarkLaws.{horizon-least}
use Rattle.edr_board.specs.declared.freeze_seats.Asker.{Asker}
use Rattle.edr_board.specs.FreezeSeats.{AllReach, SlowMarks, grant_posted, last_zero, marks_read, open_zero}
use Rattle.edr_merge.specs.Answers.{is_waited_for, waited_for}
use Rattle.edr_core.specs.declared.candidate.Issued.{Issued}
use Rattle.edr_core.specs.Answers.{commands_put}
use Rattle.edr_core.specs.Parts.{AreSlotsOf, PartSlots, commands_with, issues_with}
use Rattle.edr_core.specs.SplitContents.{SplitContents}
use Rattle.edr_core.specs.SplitHistory.{History, Answer, Waits, Asks, Lacks, Closes, due, is_zero_next, missing_part}
use Rattle.edr_core.specs.SplitStandsFor.{SplitCoreStandsFor, merge_progress}
use Rattle.edr_core.proofs.GiveLemmas.{within-merged}
use Rattle.edr_board.specs.Seats.{board_of_recorder, board_of_watch}
use Rattle.edr_board.specs.declared.seats.RecorderSeat.{RecorderSeat}
use Rattle.edr_board.specs.declared.seats.Watch.{Watch}
use Rattle.edr_loops.specs.declared.unsent_orders.UnsentOrders.{UnsentOrders}
use Rattle.edr_seats.specs.Rings.{items_sent}
use Rattle.edr_loops.specs.Orders.{Outbox, issues_of}
use Rattle.edr_loops.specs.declared.recorder.Desk.{Desk}
use Rattle.edr_loops.specs.Lanes.{fast_taken, slow_taken}
use Rattle.edr_loops.specs.UnsentOrders.{issues_held, issues_out}
use Rattle.edr_loops.specs.Recorders.{CoreWasTold, HaveMarks, IsAskerSettled, Later, DeskStands, zero_of}
use Rattle.edr_loops.proofs.FastLemmas.{all-reached}
use Rattle.edr_loops.proofs.LaterLemmas.{later-by}
use Rattle.edr_loops.proofs.RecorderLemmas.{closed-low}

-- ---- what a step answers
-- where it asks, nothing was asked for, the tick is the next one, and no sensor is waited for
pub record IsAsk (h : History) (z : ℕ) : Type 0 where
  pub free : h.asking ≡ false
  pub tick : z ≡ h.past.closed + 1
  pub none : waited_for h.past ≡ None

asks_by : (asking : Bool) (lacks : Option Sensor) (waited : Option Sensor) (zero : Bool) (t z : ℕ)
    → Asks z ≡ cond {A = Answer} asking (option_map_or Lacks lacks (Closes t)) (option_map_or Waits waited (cond {A = Answer} zero (Asks t) (Closes t)))
    → (asking ≡ false) × (z ≡ t) × (waited ≡ None)
asks_by true (Some s) waited zero t z e = cc
asks_by true None waited zero t z e = cc
asks_by false lacks (Some s) zero t z e = cc
asks_by false lacks None false t z e = cc
asks_by false lacks None true t z e = (refl, cc, refl)

pub ask-is : (h : History) (z : ℕ) → Asks z ≡ due h → IsAsk h z
ask-is h z e =
    let is = asks_by h.asking (missing_part h) (waited_for h.past) (is_zero_next h.past) (h.past.closed + 1) z e in
    record { free = is.0; tick = is.1; none = is.2 }

-- ---- where no sensor is waited for, each mark is past the closed tick
past_by : (n t : ℕ) → nat_eq n t ≡ false → t ≤ n → t + 1 ≤ n
past_by n t e low = grind arith

none-waited : (p : Progress) → waited_for p ≡ None → (s : Sensor) → is_waited_for p s ≡ false
unfolding waited_for
none-waited p e = none-found (is_waited_for p) e

marks-past : (c : SplitContents) (h : History) → SplitCoreStandsFor c h → waited_for h.past ≡ None → (s : Sensor) → h.past.closed + 1 ≤ mark_of (items_of s h.past.given)
marks-past c h is none s =
    let low = closed-low h in
    let up = within-merged c h is in
    let least = horizon-least h.past.given s in
    past_by (mark_of (items_of s h.past.given)) h.past.closed (none-waited h.past none s) (omega (arith, low, up, least))

-- ---- what a desk needs to ask
module _ (n e z : ℕ) (d : Desk) (s : DeskStands n e d) (answer : Asks z ≡ due s.history) where
  abbrev h : History
  h = s.history

  ask : IsAsk h z
  ask = ask-is h z answer

  zero_free : zero_of h ≡ 0
  zero_free = ap (λ (b : Bool). cond {A = ℕ} b (h.past.closed + 1) 0) ask.free

  merged_free : (merge_progress h).closed ≡ h.past.closed
  merged_free = ap (λ (b : Bool). (cond {A = Progress} b (after_step h.past Close) h.past).closed) ask.free

  pub ask-closed : open_zero d.asker ≡ 0
  ask-closed = s.told.agrees.zero_is ∙ zero_free

  pub ask-later : last_zero d.asker < z
  ask-later = let last = s.told.agrees.last_to in let free = merged_free in let is = ask.tick in omega (arith, last, free, is)

  pub ask-reached : AllReach z (marks_read d.asker)
  ask-reached = all-reached z h.past.given (marks_read d.asker) s.told.agrees.marks_are (λ r. let past = marks-past d.core h s.told.core_is ask.none r in let is = ask.tick in omega (arith, past, is))

  pub ask-near : grant_posted d.asker ≤ z + 1_000
  ask-near = let near = s.told.agrees.granted_near in let is = ask.tick in omega (arith, near, is)

  -- and what it stands for then
  pub stands-ask : (c : SplitContents) (a : Asker) → SplitCoreStandsFor c (record h { asking = true }) → grant_posted a ≡ grant_posted d.asker → (open_zero a ≡ z) × (last_zero a ≡ z) → marks_read a ≡ marks_read d.asker
      → DeskStands n e (record d { core = c; asker = a; asking = true })
  stands-ask c a stands granted asked marks =
      let t = s.told in record {
        history = record h { asking = true };
        told = record {
          core_is = stands;
          cycle_is = t.cycle_is;
          agrees = record {
            marks_are = subst (λ (m : SlowMarks). HaveMarks m h.past.given) (sym marks) t.agrees.marks_are;
            zero_is = asked.0 ∙ ask.tick;
            last_to = let is = asked.1 in let tick = ask.tick in omega (arith, is, tick);
            granted_near = let near = t.agrees.granted_near in omega (arith, near, granted);
            granted_to = let to = t.agrees.granted_to in omega (arith, to, granted);
          };
          within = t.within;
          parts_are = t.parts_are;
          issues_are = t.issues_are;
          taken_are = t.taken_are;
        };
        last_is = s.last_is;
        granted_is = s.granted_is ∙ sym granted;
        asking_is = refl;
      }

-- ---- one that waits, or lacks a part, changes nothing
pub stands-waits : (n e : ℕ) (d : Desk) (c : SplitContents) (s : DeskStands n e d) → SplitCoreStandsFor c s.history → DeskStands n e (record d { core = c })
stands-waits n e d c s stands =
    let t = s.told in record {
      history = s.history;
      told = record { core_is = stands; cycle_is = t.cycle_is; agrees = t.agrees; within = t.within; parts_are = t.parts_are; issues_are = t.issues_are; taken_are = t.taken_are };
      last_is = s.last_is;
      granted_is = s.granted_is;
      asking_is = s.asking_is;
    }

-- ---- one more tick
-- where an ask is open, its zero is past 0
pub settles : (n e : ℕ) (d : Desk) → DeskStands n e d → d.asking ≡ true → open_zero d.asker ≢ 0
settles n e d s asking none =
    let h = s.history in
    let is : zero_of h ≡ h.past.closed + 1 = ap (λ (b : Bool). cond {A = ℕ} b (h.past.closed + 1) 0) (sym s.asking_is ∙ asking) in
    let zero = s.told.agrees.zero_is in
    omega (arith, none, is, zero)

pub settled-not : (n e : ℕ) (d : Desk) → DeskStands n e d → d.asking ≡ false → open_zero d.asker ≡ 0
settled-not n e d s asking =
    let h = s.history in
    s.told.agrees.zero_is ∙ ap (λ (b : Bool). cond {A = ℕ} b (h.past.closed + 1) 0) (sym s.asking_is ∙ asking)

module _ (n e : ℕ) (d : Desk) (c : SplitContents) (a : Asker) (k : UnsentOrders) (v : Bool) (cs : List Issue) (s : DeskStands n e d) where
  abbrev g : History
  g = s.history

  abbrev closed : Desk
  closed = record d { core = c; asker = a; held = k; asking = v }

  free-merged : (merge_progress g).closed ≤ g.past.closed + 1
  free-merged = by g.asking g.past where
    by : (b : Bool) (p : Progress) → (cond {A = Progress} b (after_step p Close) p).closed ≤ p.closed + 1
    by true p = omega arith
    by false p = omega arith

  pub stands-closed : SplitCoreStandsFor c (record g { past = after_step g.past Close; asking = false }) → g.past.closed + 1 ≤ e
      → IsAskerSettled d.asker a → v ≡ false
      → issues_held d.held ≡ [] → issues_held k ≡ cs
      → ((slots : PartSlots) → AreSlotsOf g.parts slots → issues_with slots g.past.given n (g.past.closed + 1) ≡ issues_with slots g.past.given n g.past.closed ++ cs)
      → DeskStands n e closed
  stands-closed stands within is free none held adds =
      let t = s.told in record {
        history = record g { past = after_step g.past Close; asking = false };
        told = record {
          core_is = stands;
          cycle_is = t.cycle_is;
          agrees = record {
            marks_are = subst (λ (m : SlowMarks). HaveMarks m g.past.given) (sym is.marks) t.agrees.marks_are;
            zero_is = is.asks;
            last_to = let to = t.agrees.last_to in let low = free-merged in let last = is.last in omega (arith, to, low, last);
            granted_near = let near = t.agrees.granted_near in let granted = is.granted in omega (arith, near, granted);
            granted_to = let to = t.agrees.granted_to in let granted = is.granted in omega (arith, to, granted);
          };
          within = within;
          parts_are = t.parts_are;
          issues_are = λ slots are.
              let sent : issues_of (items_sent d.outbox) ≡ issues_with slots g.past.given n g.past.closed =
              sym (append-nil (issues_of (items_sent d.outbox))) ∙ ap (λ (xs : List Issue). issues_of (items_sent d.outbox) ++ xs) (sym none) ∙ t.issues_are slots are in
              ap (λ (xs : List Issue). issues_of (items_sent d.outbox) ++ xs) held ∙ ap (λ (xs : List Issue). xs ++ cs) sent ∙ sym (adds slots are);
          taken_are = t.taken_are;
        };
        last_is = s.last_is;
        granted_is = s.granted_is ∙ sym is.granted;
        asking_is = free;
      }

-- the issues of a closed tick are at the next tick
pub adds-here : (n e t : ℕ) (some : Bool) (i : Issued) (d : Desk) (slots : PartSlots) (s : DeskStands n e d) → AreSlotsOf s.history.parts slots
    → ((h : History) (slots : PartSlots) → SplitCoreStandsFor d.core h → AreSlotsOf h.parts slots → (t ≡ h.past.closed + 1) × (commands_with slots h.past.given h.cycle t ≡ commands_with slots h.past.given h.cycle h.past.closed ++ commands_put some i))
    → ((h : History) (slots : PartSlots) → SplitCoreStandsFor d.core h → AreSlotsOf h.parts slots → issues_with slots h.past.given h.cycle t ≡ issues_with slots h.past.given h.cycle h.past.closed ++ map (issue_at t) (commands_put some i))
    → issues_with slots s.history.past.given n (s.history.past.closed + 1) ≡ issues_with slots s.history.past.given n s.history.past.closed ++ map (issue_at t) (commands_put some i)
adds-here n e t some i d slots s are commands ticks =
    let h = s.history in
    let tick = (commands h slots s.told.core_is are).0 in
    let here = ticks h slots s.told.core_is are in
    let same : h.cycle ≡ n = s.told.cycle_is in
    ap (issues_with slots h.past.given n) (sym tick) ∙ subst (λ (m : ℕ). issues_with slots h.past.given m t ≡ issues_with slots h.past.given m h.past.closed ++ map (issue_at t) (commands_put some i)) same here

-- ---- what is held is sent
pub stands-sent : (n e : ℕ) (d : Desk) (o : Outbox) (k : UnsentOrders) → issues_out o k ≡ issues_out d.outbox d.held → DeskStands n e d → DeskStands n e (record d { outbox = o; held = k })
stands-sent n e d o k out s = record {
  history = s.history;
  told = subst (λ (xs : List Issue). CoreWasTold n e d.core d.asker (fast_taken d.fast) (slow_taken d.parts) xs s.history) (sym out) s.told;
  last_is = s.last_is;
  granted_is = s.granted_is;
  asking_is = s.asking_is;
}

-- the seat and the watch may change beside the rest
pub stands-beside : (n e : ℕ) (d : Desk) (seat : RecorderSeat) (posted : ℕ) (watch : Watch) → DeskStands n e d → DeskStands n e (record d { seat = seat; posted = posted; watch = watch })
stands-beside n e d seat posted watch s = record { history = s.history; told = s.told; last_is = s.last_is; granted_is = s.granted_is; asking_is = s.asking_is }

pub later-beside : (d : Desk) (seat : RecorderSeat) (watch : Watch) → board_of_recorder seat ≡ board_of_recorder d.seat → board_of_watch watch ≡ board_of_watch d.watch → Later d (record d { seat = seat; watch = watch })
later-beside d seat watch recorder board = later-by 0 d (record d { seat = seat; watch = watch }) refl refl refl refl recorder board (λ n e low s. stands-beside n e d seat d.posted watch s)
