-- What a desk that asks for parts leaves to the closing path.
use Rattle.std.proofs.Common.{arith, ◌≡◌, ◌∙◌, ◌≤◌, ◌⊎◌, ℕ, List, get_or, inl, inr, sym, ap, subst}
use Rattle.std.specs.Prelude.{All}
use Rattle.std.specs.List.{Contains}
use Rattle.edr_items.specs.declared.Sensor.{Sensor}
use Rattle.edr_items.specs.declared.Item.{Item}
use Rattle.edr_items.specs.Item.{IsFeed, mark_of}
use Rattle.edr_items.specs.PerSlowSensor.{slow_at}
use Rattle.edr_items.specs.Sensor.{IsSlow}
use Rattle.edr_items.specs.SensorLists.{SensorLists, AreFeeds, horizon_of, items_of}
use Rattle.edr_items.proofs.PerSlowSensorLemmas.{slow-or-not, slow_at-map}
use Rattle.edr_definitions.specs.Commands.{issues}
use Rattle.edr_definitions.specs.Schedule.{BeginsWith}
use Rattle.edr_capture.specs.SensorPart.{SensorPart, part_slots}
use Rattle.edr_core.specs.Parts.{AreSlotsOf, parts_of}
use Rattle.edr_core.specs.SplitContents.{SplitContents}
use Rattle.edr_cycle.specs.declared.remaining.Remaining.{Remaining}
use Rattle.edr_cycle.specs.Remaining.{Remains, RemainsAt, WasTold}
use Rattle.edr_cycle.proofs.AnswerLemmas.{issued-now}
use Rattle.edr_cycle.proofs.RestBeginLemmas.{part-begun}
use Rattle.edr_loops.specs.declared.recorder.Desk.{Desk}
use Rattle.edr_loops.specs.FastInlets.{HaveFast}
use Rattle.edr_loops.specs.UnsentOrders.{issues_out}
use Rattle.edr_loops.specs.PartInlets.{IsTakenPart}
use Rattle.edr_loops.specs.Lanes.{AreTakenParts, FastBegin, PartInlets, fast_taken, slow_taken}
use Rattle.edr_loops.specs.SlowSenders.{AreParts, IsPartOfBeginning}
use Rattle.edr_loops.specs.Recorders.{DeskStands}
use Rattle.edr_loops.proofs.LaneLemmas.{fast-feeds_begin}
use Rattle.edr_loops.proofs.FastLemmas.{none-in, parts_of-fast, parts_of-slow}
use Rattle.edr_seats.specs.Rings.{items_taken}

-- ---- the parts
in-list : (s : Sensor) (xs : List Item) (ps : List SensorPart) (q : SensorPart) → IsFeed s xs → AreParts s xs ps → Contains ps q → part_slots s xs q.zero ≡ q.slots
in-list s xs ps q feed all inside =
    let own : IsPartOfBeginning s xs q = subst (λ (p : SensorPart). IsPartOfBeginning s xs p) inside.2 (all inside.0 q inside.1) in
    part-begun s xs own.many q feed own.is own.reached

-- each part that came out of its sensor's ring is that of the whole list
part-whole : (f : SensorLists) (i : PartInlets) (q : SensorPart) → AreFeeds f → AreTakenParts f i → IsTakenPart (slow_taken i) q → parts_of f q.sensor q.zero ≡ q.slots
part-whole f i q feeds are taken = by (slow-or-not q.sensor) where
  by : IsSlow q.sensor ⊎ (¬ IsSlow q.sensor) → parts_of f q.sensor q.zero ≡ q.slots
  by (inl slow) =
      let s = q.sensor in
      let own = parts_of-slow s (slow_taken i) slow ∙ slow_at-map items_taken s i in
      in-list s (items_of s f) (items_taken (slow_at s i)) q (feeds s) (are s slow) (subst (λ (ps : List SensorPart). Contains ps q) own taken)
  by (inr fast) = absurd (none-in q (subst (λ (ps : List SensorPart). Contains ps q) (parts_of-fast q.sensor (slow_taken i) fast) taken))

parts-whole : (f : SensorLists) (i : PartInlets) (parts : List SensorPart) → AreFeeds f → AreTakenParts f i → All (IsTakenPart (slow_taken i)) parts → AreSlotsOf parts (parts_of f)
parts-whole f i parts feeds are taken = λ k d lt. part-whole f i (get_or parts k d) feeds are (taken k d lt)

-- ---- what the core was told
pub desk-was-told : (f : SensorLists) (n : ℕ) (d : Desk) → AreFeeds f → FastBegin f d.fast → AreTakenParts f d.parts → (s : DeskStands n (horizon_of f) d) → WasTold f s.history d.core d.last.along d.last.across d.last.restraint
desk-was-told f n d feeds begins are s =
    let have : HaveFast (fast_taken d.fast) s.history.past.given = s.told.taken_are (fast-feeds_begin f d.fast feeds begins) in
    record {
      core_is = s.told.core_is;
      within = s.told.within;
      parts_are = parts-whole f d.parts s.history.parts feeds are s.told.parts_are;
      along_begins = subst (λ (xs : List Item). BeginsWith f.along xs) (sym have.along) begins.along;
      across_begins = subst (λ (xs : List Item). BeginsWith f.across xs) (sym have.across) begins.across;
      restraint_begins = subst (λ (xs : List Item). BeginsWith f.restraint xs) (sym have.restraint) begins.restraint;
      along_last = ap (λ m. m.along) s.last_is ∙ ap mark_of (sym have.along);
      across_last = ap (λ m. m.across) s.last_is ∙ ap mark_of (sym have.across);
      restraint_last = ap (λ m. m.restraint) s.last_is ∙ ap mark_of (sym have.restraint);
    }

-- what remains of its cycle, by the number that the core has
pub desk-remains : (f : SensorLists) (n : ℕ) (d : Desk) (rest : Remaining) → (s : DeskStands n (horizon_of f) d) → RemainsAt f s.history.cycle s.history d.core rest → Remains f d.core.cycle d.core rest
desk-remains f n d rest s at = record { history = s.history; remains = subst (λ (m : ℕ). RemainsAt f m s.history d.core rest) (sym s.told.core_is.cycle_is) at }

-- the desk is of the cycle n
pub desk-cycle : (n e : ℕ) (d : Desk) → DeskStands n e d → d.core.cycle ≡ n
desk-cycle n e d s = s.told.core_is.cycle_is ∙ s.told.cycle_is

-- what was sent, and then what is held, is what the cycle issues up to the closed tick
pub desk-issued : (f : SensorLists) (n : ℕ) (d : Desk) (rest : Remaining) → (s : DeskStands n (horizon_of f) d) → RemainsAt f s.history.cycle s.history d.core rest → issues f n d.core.closed ≡ issues_out d.outbox d.held
desk-issued f n d rest s at =
    let h = s.history in
    let own : RemainsAt f n h d.core rest = subst (λ (m : ℕ). RemainsAt f m h d.core rest) s.told.cycle_is at in
    ap (issues f n) s.told.core_is.closed_is
    ∙ sym (issued-now f n h d.core rest own)
    ∙ sym (s.told.issues_are (parts_of f) at.parts_are)

-- no tick past the horizon is closed
pub remains-within : (f : SensorLists) (n : ℕ) (c : SplitContents) (rest : Remaining) → Remains f n c rest → c.closed ≤ horizon_of f
remains-within f n c rest r = let is = r.remains.core_is.closed_is in let within = r.remains.within in omega (arith, is, within)
