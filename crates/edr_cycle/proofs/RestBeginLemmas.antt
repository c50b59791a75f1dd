-- What is left of a cycle at first.
use Rattle.std.proofs.Common.{arith, refl, ap, sym, subst, ◌≡◌, ◌∙◌, ℕ, ◌≤◌, List, [], ◌++◌, take, drop}
use Rattle.std.proofs.lemmas.List.{take-append-drop}
use Rattle.edr_items.specs.declared.Sensor.{Sensor}
use Rattle.edr_items.specs.declared.Sensor.TheVariants.{Along, Across, Restraint}
use Rattle.edr_items.specs.declared.Item.{Item}
use Rattle.edr_items.specs.Item.{mark_of, IsFeed, IsFeedAfter}
use Rattle.edr_items.specs.Sensor.{IsSlow}
use Rattle.edr_items.specs.declared.per_sensor.PerSensor.{PerSensor}
use Rattle.edr_items.specs.PerSensor.{each_value}
use Rattle.edr_items.specs.SensorLists.{SensorLists, items_of, AreFeeds}
use Rattle.edr_definitions.specs.Schedule.{BeginsWith}
use Rattle.edr_capture.specs.Capture.{CaptureStandsFor}
use Rattle.edr_capture.specs.SensorPart.{SensorPart, part, part_slots}
use Rattle.edr_capture.proofs.PartLemmas.{part-later}
use Rattle.edr_core.specs.declared.captures.Captures.{Captures}
use Rattle.edr_core.specs.Captures.{no_captures, kept_lists}
use Rattle.edr_cycle.specs.declared.remaining.Remaining.{Remaining}
use Rattle.edr_core.specs.SplitHistory.{History}
use Rattle.edr_core.specs.SplitContents.{SplitContents}
use Rattle.edr_cycle.specs.Remaining.{IsRest, RemainsAt, WasTold}
use Rattle.edr_cycle.specs.Rest.{past, lists_past}
use Rattle.edr_cycle.proofs.RestLemmas.{feed-back, feed-past}
use Rattle.edr_cycle.proofs.SkipLemmas.{none_past, rest-past}

-- the part of a beginning whose mark has reached its time zero is that of the whole list
pub part-begun : (s : Sensor) (xs : List Item) (many : ℕ) (p : SensorPart) → IsFeed s xs → p ≡ part s (take many xs) p.zero → p.zero ≤ mark_of (take many xs) → part_slots s xs p.zero ≡ p.slots
part-begun s xs many p feed is reached =
    let whole : take many xs ++ drop many xs ≡ xs = take-append-drop many xs in
    let back : IsFeedAfter s (mark_of (take many xs)) (drop many xs) = feed-back s 0 (take many xs) (drop many xs) (subst (λ (ys : List Item). IsFeed s ys) (sym whole) feed) in
    ap (λ ys. part_slots s ys p.zero) (sym whole)
    ∙ ap (λ (q : SensorPart). q.slots) (part-later s (take many xs) (drop many xs) p.zero (feed-past s (mark_of (take many xs)) p.zero (drop many xs) reached back))
    ∙ sym (ap (λ (q : SensorPart). q.slots) is)

-- the last moments of the fast sensors, and none of a slow one
abbrev pub fast_lasts : ℕ → ℕ → ℕ → PerSensor ℕ
fast_lasts a b e = record (each_value 0) { along = a; across = b; restraint = e }

-- of a fast sensor what is past the last moment that the core was given is left
fast-begins : (s : Sensor) (xs ls given kept : List Item) (last : ℕ) → (¬ IsSlow s) → IsFeed s xs → BeginsWith xs given → last ≡ mark_of given → ls ≡ past last xs → IsRest s xs given ls kept
fast-begins s xs ls given kept last fast feed begins is left = record {
  done = given;
  whole = rest-past s last xs ls given begins left feed is;
  reached = omega arith;
  keeps = record { slow = λ slow. absurd (fast slow); fast = λ _. refl };
}

-- of a slow one all, and its capture is empty
slow-begins : (s : Sensor) (xs ls given kept : List Item) → IsSlow s → IsFeed s xs → ls ≡ past 0 xs → kept ≡ [] → IsRest s xs given ls kept
slow-begins s xs ls given kept slow feed left none = record {
  done = [];
  whole = sym (left ∙ none_past s 0 xs feed);
  reached = omega arith;
  keeps = record {
    slow = λ _. subst (λ (ks : List Item). CaptureStandsFor ks []) (sym none) (record { rises = tt; kept_is = refl });
    fast = λ fast. absurd (fast slow);
  };
}

rests-begin : (lists given : SensorLists) (rest : Remaining) (a b e : ℕ) → AreFeeds lists → BeginsWith lists.along given.along → BeginsWith lists.across given.across → BeginsWith lists.restraint given.restraint
    → a ≡ mark_of given.along → b ≡ mark_of given.across → e ≡ mark_of given.restraint → rest.captures ≡ no_captures
    → rest.left ≡ lists_past (fast_lasts a b e) lists
    → (s : Sensor) → IsRest s (items_of s lists) (items_of s given) (items_of s rest.left) (items_of s (kept_lists rest.captures))
rests-begin lists given rest a b e feeds first second third one two three none left s = by s (ap (items_of s) left) (ap (λ (c : Captures). items_of s (kept_lists c)) none) where
  by : (r : Sensor) → items_of r rest.left ≡ items_of r (lists_past (fast_lasts a b e) lists) → items_of r (kept_lists rest.captures) ≡ items_of r (kept_lists no_captures) → IsRest r (items_of r lists) (items_of r given) (items_of r rest.left) (items_of r (kept_lists rest.captures))
  by Along is empty = fast-begins Along lists.along rest.left.along given.along [] a (λ slow. cc) (feeds Along) first one is
  by Across is empty = fast-begins Across lists.across rest.left.across given.across [] b (λ slow. cc) (feeds Across) second two is
  by Restraint is empty = fast-begins Restraint lists.restraint rest.left.restraint given.restraint [] e (λ slow. cc) (feeds Restraint) third three is
  by r is empty = slow-begins r (items_of r lists) (items_of r rest.left) (items_of r given) (items_of r (kept_lists rest.captures)) refl (feeds r) is empty

pub remains-after : (lists : SensorLists) (rest : Remaining) (a b e : ℕ) → AreFeeds lists → rest.captures ≡ no_captures
    → rest.left ≡ lists_past (fast_lasts a b e) lists
    → (h : History) (core : SplitContents) → WasTold lists h core a b e → RemainsAt lists h.cycle h core rest
remains-after lists rest a b e feeds none left h core was = record {
  feeds = feeds;
  core_is = was.core_is;
  cycle_is = refl;
  within = was.within;
  parts_are = was.parts_are;
  rests = rests-begin lists h.past.given rest a b e feeds was.along_begins was.across_begins was.restraint_begins was.along_last was.across_last was.restraint_last none left;
}
