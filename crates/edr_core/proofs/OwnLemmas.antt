-- A core gives its split core its own parts, so what that one issues are the commands of the definition.
use Rattle.std.proofs.Common.{arith, refl, ap, sym, subst, ◌≡◌, ◌≢◌, ◌∙◌, ℕ, ◌+◌, ◌<◌, ◌≤◌, Bool, true, false, cond, not, nat_eq, Some, None, Option, Ok, Err, List, [], ◌∷◌, ◌++◌, map, get_or, append-nil, ◌↔◌}
use Rattle.std.specs.Prelude.{is_some, IsSome, IsOk, OnOk, All, Result}
use Rattle.std.specs.Option.{option_map_or}
use Rattle.std.proofs.lemmas.Bool.{ne_eqb}
use Rattle.std.proofs.lemmas.List.Elements.{All-nil, All-cons, All-head, All-tail}
use Rattle.edr_items.specs.declared.Sensor.{Sensor}
use Rattle.edr_items.specs.declared.Sensor.TheVariants.{Along, Across}
use Rattle.edr_items.specs.declared.Item.{Item}
use Rattle.edr_items.specs.Item.{mark_of}
use Rattle.edr_items.specs.Sensor.{slow_sensors, IsSlow}
use Rattle.edr_items.specs.PerSlowSensor.{slow_at}
use Rattle.edr_items.specs.SensorLists.{SensorLists, no_items, items_of}
use Rattle.edr_items.proofs.PerSensorLemmas.{value_of-each}
use Rattle.edr_items.proofs.PerSlowSensorLemmas.{AreApart, slow-apart, value_of-slow, slow_at-each}
use Rattle.edr_record.specs.declared.Command.{Command}
use Rattle.edr_definitions.specs.Commands.{issue_at, issues, commands}
use Rattle.edr_definitions.specs.Schedule.{Progress, Give, Close, IsAllowed, after_step, with_item}
use Rattle.edr_definitions.proofs.KeepLaws.{accepted-later}
use Rattle.edr_definitions.proofs.MarkLaws.{with_items-each}
use Rattle.edr_capture.specs.Capture.{CaptureStandsFor}
use Rattle.edr_capture.specs.SensorPart.{SensorPart, IsOfSensor, part, part_slots}
use Rattle.edr_capture.proofs.PartLemmas.{part-later}
use Rattle.edr_merge.specs.Answers.{waited_for}
use Rattle.edr_merge.specs.Still.{still_item, along_given, still_given}
use Rattle.edr_merge.proofs.StandsLemmas.{first_at-is, row-allowed, waiting-not_allowed}
use Rattle.edr_core.specs.declared.ask.PartRefused.{PartRefused}
use Rattle.edr_core.specs.declared.ask.PartRefused.TheVariants as refused
use Rattle.edr_core.specs.declared.candidate.Issued.{Issued}
use Rattle.edr_core.specs.declared.split.SplitClosing.{SplitClosing}
use Rattle.edr_core.specs.declared.split.SplitClosing.TheVariants.{Waiting, Ask, Parts, Closed}
use Rattle.edr_core.specs.declared.captures.Captures.{Captures}
use Rattle.edr_core.specs.Captures.{no_captures, kept_lists, with_kept, IsLater, CapturesStandFor}
use Rattle.edr_core.specs.Contents.{CoreContents}
use Rattle.edr_core.specs.StandsFor.{CoreIsFor}
use Rattle.edr_core.specs.Parts.{AreSlotsOf, parts_of, part_in, commands_with, issues_with, HaveTheFastItems}
use Rattle.edr_core.specs.SplitHistory.{History, start_of, after_item, after_part, Answer, Waits, Asks, Lacks, Closes, is_zero_next, missing_part, due}
use Rattle.edr_core.specs.SplitContents.{SplitContents}
use Rattle.edr_core.specs.SplitStandsFor.{HoldsAsk, SplitCoreStandsFor}
use Rattle.edr_core.specs.SplitAnswers.{answer_of, split_step_of, part_refusal_of}
use Rattle.edr_core.specs.Still.{next_tick, SplitPassesStill, CorePassesStill}
use Rattle.edr_core.specs.OwnParts.{resting_history, parts_after, own_parts, with_own_parts, AsksFor}
use Rattle.edr_core.specs.declared.ask.OpenAsk.{OpenAsk as OpenAsk}
use Rattle.edr_core.proofs.TakenLemmas.{part_in-early, eqb_same, taken}
use Rattle.edr_core.proofs.GiveLemmas.{feeds-of}
use Rattle.edr_core.proofs.CaptureLemmas.{mark-kept, range-kept, captures-push, later-accepted}
use Rattle.edr_core.proofs.PartsLaws.{commands-with, issues-with}

-- ---- the parts are taken
pub asks : (c : SplitContents) (w : History) → SplitCoreStandsFor c w → w.asking ≡ true → IsSome c.ask
asks c w h asking = by c.ask h.ask_is where
  by : (o : Option OpenAsk) → HoldsAsk o w → IsSome o
  by None free = let apart : false ≡ true = sym free ∙ asking in cc
  by (Some a) is = refl

-- a core of all sensors asks for nothing between its calls
pub asks-nothing : (c : CoreContents) (n : ℕ) (p : Progress) → CoreIsFor c n p → is_some c.split.ask ≡ false
asks-nothing c n p h = by c.split.ask h.split_is.ask_is where
  by : (o : Option OpenAsk) → HoldsAsk o (resting_history n p h.parts) → is_some o ≡ false
  by None free = refl
  by (Some a) is = let asks = is.asking in cc

-- a part of the time zero is taken, if none of its sensor was
pub refused-not : (q : SensorPart) (w : History) → w.asking ≡ true → q.zero ≡ w.past.closed + 1 → part_in w.parts q.sensor (w.past.closed + 1) ≡ None → part_refusal_of q w ≡ None
refused-not q w asking zero none =
    ap (λ (v : Bool). cond {A = Option PartRefused} (not v) (Some refused.NotAsked) (cond {A = Option PartRefused} (not (nat_eq q.zero (w.past.closed + 1))) (Some (refused.Zero (w.past.closed + 1))) (cond {A = Option PartRefused} (is_some (part_in w.parts q.sensor (w.past.closed + 1))) (Some refused.Twice) None))) asking
    ∙ ap (λ (v : Bool). cond {A = Option PartRefused} (not v) (Some (refused.Zero (w.past.closed + 1))) (cond {A = Option PartRefused} (is_some (part_in w.parts q.sensor (w.past.closed + 1))) (Some refused.Twice) None)) (ap (λ z. nat_eq z (w.past.closed + 1)) zero ∙ eqb_same (w.past.closed + 1))
    ∙ ap (λ (o : Option SensorPart). cond {A = Option PartRefused} (is_some o) (Some refused.Twice) None) none

-- it is refused, if none is asked for
pub refused-free : (q : SensorPart) (w : History) → w.asking ≡ false → part_refusal_of q w ≡ Some refused.NotAsked
refused-free q w free = rw free refl

-- it is refused, if it is of another time zero
pub refused-zero : (q : SensorPart) (w : History) → w.asking ≡ true → q.zero ≢ w.past.closed + 1 → part_refusal_of q w ≡ Some (refused.Zero (w.past.closed + 1))
refused-zero q w asking apart =
    ap (λ (v : Bool). cond {A = Option PartRefused} (not v) (Some refused.NotAsked) (cond {A = Option PartRefused} (not (nat_eq q.zero (w.past.closed + 1))) (Some (refused.Zero (w.past.closed + 1))) (cond {A = Option PartRefused} (is_some (part_in w.parts q.sensor (w.past.closed + 1))) (Some refused.Twice) None))) asking
    ∙ ap (λ (v : Bool). cond {A = Option PartRefused} (not v) (Some (refused.Zero (w.past.closed + 1))) (cond {A = Option PartRefused} (is_some (part_in w.parts q.sensor (w.past.closed + 1))) (Some refused.Twice) None)) (ne_eqb q.zero (w.past.closed + 1) apart)

-- it is refused, if its sensor's was
pub refused-again : (q : SensorPart) (w : History) → w.asking ≡ true → q.zero ≡ w.past.closed + 1 → IsSome (part_in w.parts q.sensor (w.past.closed + 1)) → part_refusal_of q w ≡ Some refused.Twice
refused-again q w asking zero some =
    ap (λ (v : Bool). cond {A = Option PartRefused} (not v) (Some refused.NotAsked) (cond {A = Option PartRefused} (not (nat_eq q.zero (w.past.closed + 1))) (Some (refused.Zero (w.past.closed + 1))) (cond {A = Option PartRefused} (is_some (part_in w.parts q.sensor (w.past.closed + 1))) (Some refused.Twice) None))) asking
    ∙ ap (λ (v : Bool). cond {A = Option PartRefused} (not v) (Some (refused.Zero (w.past.closed + 1))) (cond {A = Option PartRefused} (is_some (part_in w.parts q.sensor (w.past.closed + 1))) (Some refused.Twice) None)) (ap (λ z. nat_eq z (w.past.closed + 1)) zero ∙ eqb_same (w.past.closed + 1))
    ∙ ap (λ (v : Bool). cond {A = Option PartRefused} v (Some refused.Twice) None) some

taken-by : {E : Type 0} (r : Result (Unit {0}) E) (A B : Type 0) → (IsOk r ↔ B) → B → OnOk r A → A
taken-by (Ok v) A B both b on = on
taken-by (Err e) A B both b on = let ok = both.1 b in cc

abbrev pub Takes : SplitContents → SplitContents → SensorPart → Type 0
Takes a b q = (v : History) → SplitCoreStandsFor a v → part_refusal_of q v ≡ None → SplitCoreStandsFor b (after_part q v)

pub part-taken : {E : Type 0} (r : Result (Unit {0}) E) (a b : SplitContents) (q own : SensorPart) → q ≡ own → OnOk r ((v : History) → SplitCoreStandsFor a v → SplitCoreStandsFor b (after_part q v)) → ((v : History) → SplitCoreStandsFor a v → IsOk r ↔ (part_refusal_of q v ≡ None)) → Takes a b own
part-taken r a b q own same ok allowed =
    subst (λ x. Takes a b x) same
    (λ v stands none. taken-by r ((u : History) → SplitCoreStandsFor a u → SplitCoreStandsFor b (after_part q u)) (part_refusal_of q v ≡ None) (allowed v stands) none ok v stands)

-- these sensors' parts of the next tick are still to be taken, and then all are
pub record AreToTake (c : SplitContents) (w : History) (rest : List Sensor) : Type 0 where
  pub parts : List SensorPart
  pub stands : SplitCoreStandsFor c (record w { parts = parts })
  pub lead : parts_after rest w.past.given (w.past.closed + 1) parts ≡ own_parts w.past.given (w.past.closed + 1) w.parts
  pub missing : All (λ s. part_in parts s (w.past.closed + 1) ≡ None) rest
  pub apart : AreApart rest

pub all-to-take : (c : SplitContents) (captures : Captures) (w : History) (z : ℕ) → AsksFor c captures w z → AreToTake c w slow_sensors
all-to-take c captures w z h = record {
  parts = w.parts;
  stands = h.stands;
  lead = refl;
  missing = λ k d lt. part_in-early w.parts (get_or slow_sensors k d) (w.past.closed + 1) w.past.closed (omega arith) h.before;
  apart = slow-apart;
}

pub next-taken : (c c' : SplitContents) (w : History) (s : Sensor) (rest : List Sensor) → w.asking ≡ true → Takes c c' (part s (items_of s w.past.given) (w.past.closed + 1)) → AreToTake c w (s ∷ rest) → AreToTake c' w rest
next-taken c c' w s rest asking takes h =
    let t = w.past.closed + 1 in
    let q = part s (items_of s w.past.given) t in
    let v : History = record w { parts = h.parts } in
    record {
      parts = q ∷ h.parts;
      stands = takes v h.stands (refused-not q v asking refl (All-head (λ r. part_in h.parts r t ≡ None) s rest h.missing));
      lead = h.lead;
      missing = λ k d lt. taken q h.parts t refl (get_or rest k d) false (h.apart.0 k d lt) ∙ All-tail (λ r. part_in h.parts r t ≡ None) s rest h.missing k d lt;
      apart = h.apart.1;
    }

pub none-to-take : (c : SplitContents) (w : History) → AreToTake c w [] → SplitCoreStandsFor c (with_own_parts w)
none-to-take c w h = subst (λ (parts : List SensorPart). SplitCoreStandsFor c (record w { parts = parts })) h.lead h.stands

-- what a capture is asked for
module _ (c : SplitContents) (captures : Captures) (w : History) (z : ℕ) (h : AsksFor c captures w z) (s : Sensor) (slow : IsSlow s) where
  pub kept-range : All (IsOfSensor s) (items_of s (kept_lists captures))
  kept-range =
      subst (λ (xs : List Item). All (IsOfSensor s) xs) (sym (value_of-slow [] captures.kept s slow))
      (range-kept s (slow_at s captures.kept) (items_of s w.past.given) (feeds-of c w h.stands s) (h.captures_are.each s slow))

  pub kept-near : mark_of (items_of s (kept_lists captures)) ≤ z + 1000
  kept-near =
      let low = mark-kept s (slow_at s captures.kept) (items_of s w.past.given) (feeds-of c w h.stands s) (h.captures_are.each s slow) in
      let same = ap (λ (xs : List Item). mark_of xs) (value_of-slow [] captures.kept s slow) in
      let near = h.stands.near s in
      let is = h.zero_is in
      omega (arith, low, same, near, is)

  pub kept-stands : CaptureStandsFor (items_of s (kept_lists captures)) (items_of s w.past.given)
  kept-stands = subst (λ (xs : List Item). CaptureStandsFor xs (items_of s w.past.given)) (sym (value_of-slow [] captures.kept s slow)) (h.captures_are.each s slow)

-- the lists that differ in items of a sensor past a tick have the same parts up to there
parts-push : (s : Sensor) (x : Item) (f : SensorLists) (z : ℕ) → z < x.moment → (r : Sensor) → parts_of (with_item s x f) r z ≡ parts_of f r z
parts-push s x f z late r =
    with_items-each (λ q xs. part_slots q xs z ≡ part_slots q (items_of q f) z) s (items_of s f ++ x ∷ []) f
    (ap (λ (p : SensorPart). p.slots) (part-later s (items_of s f) (x ∷ []) z (All-cons (λ y. z < y.moment) x [] late (All-nil (λ y. z < y.moment)))))
    (λ q. refl) r

pub own-later : (s : Sensor) (x : Item) (f : SensorLists) (t : ℕ) (parts : List SensorPart) → t < x.moment → All (λ q. q.zero ≤ t) parts → AreSlotsOf parts (parts_of f) → AreSlotsOf parts (parts_of (with_item s x f))
own-later s x f t parts late early are = λ k d lt. one (get_or parts k d) (early k d lt) (are k d lt) where
  one : (q : SensorPart) → q.zero ≤ t → parts_of f q.sensor q.zero ≡ q.slots → parts_of (with_item s x f) q.sensor q.zero ≡ q.slots
  one q low is = parts-push s x f q.zero (omega (arith, low, late)) q.sensor ∙ is

pub own-are : (f : SensorLists) (z : ℕ) (parts : List SensorPart) → AreSlotsOf parts (parts_of f) → AreSlotsOf (own_parts f z parts) (parts_of f)
own-are f z parts are = after slow_sensors parts are where
  after : (ss : List Sensor) (ps : List SensorPart) → AreSlotsOf ps (parts_of f) → AreSlotsOf (parts_after ss f z ps) (parts_of f)
  after [] ps h = h
  after (s ∷ ss) ps h = after ss (part s (items_of s f) z ∷ ps) (All-cons (λ q. parts_of f q.sensor q.zero ≡ q.slots) (part s (items_of s f) z) ps refl h)

-- then none is missing
pub none-missing-own : (w : History) → missing_part (with_own_parts w) ≡ None
unfolding missing_part part_in
none-missing-own w = let same = eqb_same (w.past.closed + 1) in rw same refl

-- ---- what the core stands for
pub core-starts : (n : ℕ) (c : SplitContents) (k : Captures) → 1 ≤ n → n ≤ 4_294_967_295 → SplitCoreStandsFor c (start_of n) → k ≡ no_captures → CoreIsFor (record { cycle = c.cycle; closed = c.closed; split = c; captures = k }) n (record { given = no_items; closed = 0 })
core-starts n c k from to split captures =
    let empty : CaptureStandsFor [] [] = record { rises = tt; kept_is = refl } in
    record {
      cycle_is = split.cycle_is;
      cycle_from = from;
      cycle_to = to;
      closed_is = split.closed_is;
      parts = [];
      split_is = split;
      parts_are = All-nil (λ q. parts_of no_items q.sensor q.zero ≡ q.slots);
      captures_are = subst (λ (y : Captures). CapturesStandFor y no_items) (sym captures) (record {
        each = λ s slow. subst (λ xs. CaptureStandsFor xs (items_of s no_items)) (sym (slow_at-each {A = List Item} [] s))
            (subst (λ xs. CaptureStandsFor [] xs) (sym (value_of-each {A = List Item} [] s)) empty);
      });
    }

-- the captures can take an item that is allowed
pub later-allowed : (c : CoreContents) (n : ℕ) (p : Progress) (s : Sensor) (x : Item) → CoreIsFor c n p → IsAllowed (Give s x) p → IsLater s x c.captures
later-allowed c n p s x h allowed = later-accepted s x c.captures p.given h.split_is.merge_is.feeds h.captures_are allowed.0

-- with an item that is allowed the core stands for the longer lists
pub core-gives : (c : CoreContents) (n : ℕ) (p : Progress) (s : Sensor) (x : Item) (split : SplitContents) (captures : Captures) → (h : CoreIsFor c n p) → IsAllowed (Give s x) p → SplitCoreStandsFor split (after_item s x (resting_history n p h.parts)) → captures ≡ with_kept s x c.captures → CoreIsFor (record { cycle = split.cycle; closed = split.closed; split = split; captures = captures }) n (after_step p (Give s x))
core-gives c n p s x split captures h allowed split_is kept =
    let later = accepted-later p.given p.closed s x h.split_is.merge_is.within allowed.0 in
    record {
      cycle_is = split_is.cycle_is;
      cycle_from = h.cycle_from;
      cycle_to = h.cycle_to;
      closed_is = split_is.closed_is;
      parts = h.parts;
      split_is = split_is;
      parts_are = own-later s x p.given p.closed h.parts later h.split_is.early h.parts_are;
      captures_are = subst (λ (k : Captures). CapturesStandFor k (with_item s x p.given)) (sym kept) (captures-push s x c.captures p.given (later-allowed c n p s x h allowed) h.captures_are);
    }

-- a tick that is closed
pub core-closes : (c : CoreContents) (n : ℕ) (p : Progress) (split : SplitContents) (parts : List SensorPart) → (h : CoreIsFor c n p) → SplitCoreStandsFor split (resting_history n (after_step p Close) parts) → AreSlotsOf parts (parts_of p.given) → CoreIsFor (record { cycle = split.cycle; closed = split.closed; split = split; captures = c.captures }) n (after_step p Close)
core-closes c n p split parts h split_is are = record {
  cycle_is = split_is.cycle_is;
  cycle_from = h.cycle_from;
  cycle_to = h.cycle_to;
  closed_is = split_is.closed_is;
  parts = parts;
  split_is = split_is;
  parts_are = are;
  captures_are = h.captures_are;
}

-- a wait changes nothing
pub core-waits : (c : CoreContents) (n : ℕ) (p : Progress) (split : SplitContents) → (h : CoreIsFor c n p) → SplitCoreStandsFor split (resting_history n p h.parts) → CoreIsFor (record { cycle = split.cycle; closed = split.closed; split = split; captures = c.captures }) n p
core-waits c n p split h split_is = record {
  cycle_is = split_is.cycle_is;
  cycle_from = h.cycle_from;
  cycle_to = h.cycle_to;
  closed_is = split_is.closed_is;
  parts = h.parts;
  split_is = split_is;
  parts_are = h.parts_are;
  captures_are = h.captures_are;
}

-- ---- when a tick may be closed
pub waits-own : (n : ℕ) (p : Progress) (parts : List SensorPart) (s : Sensor) → Waits s ≡ due (resting_history n p parts) → waited_for p ≡ Some s
waits-own n p parts s answer = by (waited_for p) (is_zero_next p) refl answer where
  by : (o : Option Sensor) (z : Bool) → waited_for p ≡ o → Waits s ≡ option_map_or Waits o (cond {A = Answer} z (Asks (p.closed + 1)) (Closes (p.closed + 1))) → waited_for p ≡ Some s
  by (Some r) z is e = let same : s ≡ r = cc in is ∙ ap Some (sym same)
  by None true is e = cc
  by None false is e = cc

pub closes-own : (n : ℕ) (p : Progress) (parts : List SensorPart) (t : ℕ) → Closes t ≡ due (resting_history n p parts) → waited_for p ≡ None
closes-own n p parts t answer = by (waited_for p) refl answer where
  by : (o : Option Sensor) → waited_for p ≡ o → Closes t ≡ option_map_or Waits o (cond {A = Answer} (is_zero_next p) (Asks (p.closed + 1)) (Closes (p.closed + 1))) → waited_for p ≡ None
  by (Some r) is e = cc
  by None is e = is

pub asks-own : (n : ℕ) (p : Progress) (parts : List SensorPart) (t : ℕ) → Asks t ≡ due (resting_history n p parts) → (waited_for p ≡ None) × (t ≡ p.closed + 1)
asks-own n p parts t answer = by (waited_for p) (is_zero_next p) refl answer where
  by : (o : Option Sensor) (z : Bool) → waited_for p ≡ o → Asks t ≡ option_map_or Waits o (cond {A = Answer} z (Asks (p.closed + 1)) (Closes (p.closed + 1))) → (waited_for p ≡ None) × (t ≡ p.closed + 1)
  by (Some r) z is e = cc
  by None true is e = let same : t ≡ p.closed + 1 = cc in (is, same)
  by None false is e = cc

pub lacks-none : (n : ℕ) (p : Progress) (parts : List SensorPart) (s : Sensor) → Lacks s ≡ due (resting_history n p parts) → ⊥
lacks-none n p parts s answer = by (waited_for p) (is_zero_next p) answer where
  by : (o : Option Sensor) (z : Bool) → Lacks s ≡ option_map_or Waits o (cond {A = Answer} z (Asks (p.closed + 1)) (Closes (p.closed + 1))) → ⊥
  by (Some r) z e = cc
  by None true e = cc
  by None false e = cc

pub may-close : (c : CoreContents) (n : ℕ) (p : Progress) → CoreIsFor c n p → waited_for p ≡ None → IsAllowed Close p
may-close c n p h none = let m = c.split.merge in row-allowed m m p refl h.split_is.merge_is (first_at-is m p h.split_is.merge_is ∙ none)

pub may-not : (c : CoreContents) (n : ℕ) (p : Progress) (s : Sensor) → CoreIsFor c n p → waited_for p ≡ Some s → IsAllowed Close p → ⊥
may-not c n p s h some = let m = c.split.merge in waiting-not_allowed m m p s refl h.split_is.merge_is (first_at-is m p h.split_is.merge_is ∙ some)

-- ---- a time zero
abbrev pub asked : (n : ℕ) → Progress → List SensorPart → History
asked n p parts = record (resting_history n p parts) { asking = true }

pub asks-for : (c : CoreContents) (n : ℕ) (p : Progress) (split : SplitContents) (zero : ℕ) → (h : CoreIsFor c n p) → SplitCoreStandsFor split (asked n p h.parts) → Asks zero ≡ due (resting_history n p h.parts) → AsksFor split c.captures (asked n p h.parts) zero
asks-for c n p split z h stands answer = record {
  stands = stands;
  asking = refl;
  zero_is = (asks-own n p h.parts z answer).1;
  before = h.split_is.early;
  captures_are = h.captures_are;
}

-- with its own parts it is closed
pub closes-asked : (n : ℕ) (p : Progress) (parts : List SensorPart) → due (with_own_parts (asked n p parts)) ≡ Closes (p.closed + 1)
closes-asked n p parts = ap (λ (o : Option Sensor). option_map_or Lacks o (Closes (p.closed + 1))) (none-missing-own (asked n p parts))

pub must-close : (r : SplitClosing) (i : Issued) (t : ℕ) → answer_of (split_step_of r i) ≡ Closes t → ((u : ℕ) (some : Bool) → r ≡ Closed u some → ⊥) → ⊥
must-close (Waiting s) i t e not_closed = cc
must-close (Ask z) i t e not_closed = cc
must-close (Parts s) i t e not_closed = cc
must-close (Closed u some) i t e not_closed = not_closed u some refl

-- ---- what is issued
pub own-commands : (f : SensorLists) (n t u : ℕ) (cs : List Command) → commands_with (parts_of f) f n t ≡ commands_with (parts_of f) f n u ++ cs → commands f n t ≡ commands f n u ++ cs
own-commands f n t u cs h =
    let same : HaveTheFastItems f f = record { along = refl; across = refl; restraint = refl } in
    sym (commands-with f f n same t) ∙ h ∙ ap (λ xs. xs ++ cs) (commands-with f f n same u)

pub own-ticks : (f : SensorLists) (n t u : ℕ) (cs : List Command) → issues_with (parts_of f) f n t ≡ issues_with (parts_of f) f n u ++ map (issue_at t) cs → issues f n t ≡ issues f n u ++ map (issue_at t) cs
own-ticks f n t u cs h =
    let same : HaveTheFastItems f f = record { along = refl; across = refl; restraint = refl } in
    sym (issues-with f f n same t) ∙ h ∙ ap (λ xs. xs ++ map (issue_at t) cs) (issues-with f f n same u)

-- ---- a tick at which neither axis moves
pub core-passes : (c : CoreContents) (n : ℕ) (p : Progress) (split : SplitContents) → (h : CoreIsFor c n p) → SplitPassesStill (resting_history n p h.parts) split → CorePassesStill n p (record { cycle = split.cycle; closed = split.closed; split = split; captures = c.captures })
unfolding core-gives
core-passes c n p split h passes =
    let x = still_item (next_tick p) in
    let first = core-gives c n p Along x passes.first c.captures h passes.next.along passes.first_is refl in
    let both = core-gives (record { cycle = passes.first.cycle; closed = passes.first.closed; split = passes.first; captures = c.captures }) n (along_given p) Across x passes.both c.captures first passes.next.across passes.both_is refl in
    let f = (still_given p).given in
    record {
      next = passes.next;
      stands = core-closes (record { cycle = passes.both.cycle; closed = passes.both.closed; split = passes.both; captures = c.captures }) n (still_given p) split h.parts both passes.stands both.parts_are;
      quiet =
          own-ticks f n (next_tick p) p.closed [] (passes.quiet (parts_of f) both.parts_are ∙ sym (append-nil (issues_with (parts_of f) f n p.closed)))
          ∙ append-nil (issues f n p.closed);
    }
