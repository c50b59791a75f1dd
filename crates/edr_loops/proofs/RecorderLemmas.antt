-- What a desk stands for after each of its steps.
use Rattle.std.proofs.Common.{arith, ◌≡◌, ◌≢◌, ◌∙◌, ◌≤◌, ◌<◌, ◌+◌, ℕ, Bool, true, false, cond, None, List, [], ◌∷◌, ◌++◌, ◌⊎◌, inl, inr, map, refl, sym, ap, subst, Result, Ok, Err}
use Rattle.std.specs.Prelude.{All, OnErr, OnOk}
use Rattle.std.proofs.Math.Nat.{eq-or-lt_of_le}
use Rattle.std.proofs.lemmas.List.Elements.{All-cons, All-nil, All-tail}
use Rattle.edr_items.specs.declared.TheConstants.{LATEST_MOMENT, LONGEST_GAP}
use Rattle.edr_items.specs.declared.Sensor.{Sensor}
use Rattle.edr_items.specs.declared.Item.{Item}
use Rattle.edr_items.specs.Item.{mark_of, refusal_of}
use Rattle.edr_items.specs.Sensor.{IsSlow}
use Rattle.edr_items.specs.SensorLists.{horizon_of, items_of, no_items}
use Rattle.edr_items.proofs.PerSensorLemmas.{value_of-each}
use Rattle.edr_items.proofs.PerSlowSensorLemmas.{slow_at-each}
use Rattle.edr_definitions.specs.Commands.{Issue, commands, issues}
use Rattle.edr_definitions.specs.Schedule.{Progress, Give, Close, IsAllowed, after_step, with_item}
use Rattle.edr_definitions.proofs.KeepLaws.{commands-start}
use Rattle.edr_definitions.proofs.WholeLaws.{issues-accept}
use Rattle.edr_board.specs.declared.freeze_seats.Asker.{Asker}
use Rattle.edr_board.specs.FreezeSeats.{SameAsker, SlowMarks, grant_posted, last_zero, mark_in, marks_read, no_marks, open_zero, with_mark_of}
use Rattle.edr_capture.specs.SensorPart.{SensorPart}
use Rattle.edr_core.specs.Parts.{PartSlots, issue_with, issues_with}
use Rattle.edr_core.specs.SplitContents.{SplitContents}
use Rattle.edr_core.specs.SplitHistory.{History, after_item, after_part, start_of}
use Rattle.edr_core.specs.SplitStandsFor.{SplitCoreStandsFor, merge_progress}
use Rattle.edr_core.proofs.GiveLemmas.{within-merged}
use Rattle.edr_loops.specs.declared.per_fast_sensor.FastSensor.{FastSensor}
use Rattle.edr_loops.specs.Lanes.{FastInlets}
use Rattle.edr_loops.specs.declared.per_fast_sensor.PerFastSensor.{PerFastSensor}
use Rattle.edr_loops.specs.declared.recorder.Desk.{Desk}
use Rattle.edr_loops.specs.FastInlets.{AreFastFeeds, HaveFast, fast_marks_of, with_fast}
use Rattle.edr_loops.specs.PerFastSensor.{sensor_of, with_fast_value}
use Rattle.edr_loops.specs.Lanes.{FastItems, PartInlets, SlowParts, fast_taken, slow_taken}
use Rattle.edr_loops.specs.UnsentOrders.{issues_held, issues_out}
use Rattle.edr_seats.specs.Rings.{items_sent}
use Rattle.edr_loops.specs.Orders.{issues_of}
use Rattle.edr_loops.specs.PartInlets.{IsTakenPart, with_part}
use Rattle.edr_loops.specs.Recorders.{IsFreshDesk, HaveMarks, CoreWasTold, DeskWasTold, DeskStands}
use Rattle.edr_loops.proofs.HandLemmas.{of-each}
use Rattle.edr_loops.proofs.FastLemmas.{all-taken, fast-beside, fast-front, fast-marks-with, fast-next, have-with, is-taken, mark-is, marks-beside, marks-same, marks-with_item}

-- ---- how far the merge of a core has come
closed_by : (b : Bool) (p : Progress) → p.closed ≤ (cond {A = Progress} b (after_step p Close) p).closed
closed_by true p = omega arith
closed_by false p = omega arith

-- not less far than the core
pub closed-low : (h : History) → h.past.closed ≤ (merge_progress h).closed
closed-low h = closed_by h.asking h.past

item_by : (b : Bool) (s : Sensor) (x : Item) (p : Progress) → (cond {A = Progress} b (after_step (after_step p (Give s x)) Close) (after_step p (Give s x))).closed ≡ (cond {A = Progress} b (after_step p Close) p).closed
item_by true s x p = refl
item_by false s x p = refl

-- an item moves nothing
merged-item : (s : Sensor) (x : Item) (h : History) → (merge_progress (after_item s x h)).closed ≡ (merge_progress h).closed
merged-item s x h = item_by h.asking s x h.past

closed-within : (c : SplitContents) (h : History) → SplitCoreStandsFor c h → h.past.closed ≤ horizon_of h.past.given
closed-within c h is = let low = closed-low h in let up = within-merged c h is in omega (arith, low, up)

-- what an item that is given leaves of what was issued
issues-stay : (n : ℕ) (slots : PartSlots) (s : Sensor) (x : Item) (c : SplitContents) (h : History) → SplitCoreStandsFor c h → refusal_of s (mark_of (items_of s h.past.given)) x ≡ None
    → issues_with slots (with_item s x h.past.given) n h.past.closed ≡ issues_with slots h.past.given n h.past.closed
issues-stay n slots s x c h is accepted = ap (map (issue_with slots)) (issues-accept h.past.given n h.past.closed s x (closed-within c h is) accepted)

-- ---- one more item of a fast sensor
module _ (n e : ℕ) (k : FastSensor) (x : Item) (d : Desk) (c : SplitContents) (i : FastInlets) (m : PerFastSensor ℕ) (taken : fast_taken i ≡ with_fast k x (fast_taken d.fast)) where
  abbrev took : Desk
  took = record d { core = c; fast = i; last = m }

  pub told-taken : (h : History) → IsAllowed (Give (sensor_of k) x) h.past → SplitCoreStandsFor c (after_item (sensor_of k) x h) → DeskWasTold n e d h → DeskWasTold n e took (after_item (sensor_of k) x h)
  told-taken h allowed stands t = record {
    core_is = stands;
    cycle_is = t.cycle_is;
    agrees = record {
      marks_are = marks-beside k x h.past.given (marks_read d.asker) t.agrees.marks_are;
      zero_is = t.agrees.zero_is;
      last_to = let same = merged-item (sensor_of k) x h in let last = t.agrees.last_to in omega (arith, same, last);
      granted_near = t.agrees.granted_near;
      granted_to = t.agrees.granted_to;
    };
    within = t.within;
    parts_are = t.parts_are;
    issues_are = λ slots are. t.issues_are slots are ∙ sym (issues-stay n slots (sensor_of k) x d.core h t.core_is allowed.0);
    taken_are = λ feeds.
        let before = fast-front k x (fast_taken d.fast) (subst AreFastFeeds taken feeds) in
        subst (λ (l : FastItems). HaveFast l (with_item (sensor_of k) x h.past.given)) (sym taken) (have-with k x (fast_taken d.fast) h.past.given (t.taken_are before));
  }

  -- one that is refused is none of a feed
  told-refused : (h : History) → c ≡ d.core → (IsAllowed (Give (sensor_of k) x) h.past → ⊥) → x.moment ≤ h.past.closed + LONGEST_GAP → DeskWasTold n e d h → DeskWasTold n e took h
  told-refused h same refused near t = record {
    core_is = subst (λ (o : SplitContents). SplitCoreStandsFor o h) (sym same) t.core_is;
    cycle_is = t.cycle_is;
    agrees = t.agrees;
    within = t.within;
    parts_are = t.parts_are;
    issues_are = t.issues_are;
    taken_are = λ feeds.
        let l = fast_taken d.fast in
        let all = subst AreFastFeeds taken feeds in
        let have = t.taken_are (fast-front k x l all) in
        absurd (refused (subst (λ (xs : List Item). refusal_of (sensor_of k) (mark_of xs) x ≡ None) (sym (of-each _ have k)) (fast-next k x l all), near));
  }

  module _ (upto : ℕ) (near : (h : History) → SplitCoreStandsFor d.core h → upto ≤ h.past.closed + LONGEST_GAP) (by : x.moment ≤ upto) (last : m ≡ with_fast_value k x.moment d.last) (s : DeskStands n e d) where
    abbrev h : History
    h = s.history

    last-is : m ≡ fast_marks_of (fast_taken i)
    last-is = last ∙ ap (with_fast_value k x.moment) s.last_is ∙ sym (fast-marks-with k x (fast_taken d.fast)) ∙ ap fast_marks_of (sym taken)

    -- what comes of giving it to the core as an item of the sensor r
    abbrev Takes : Sensor → Bool → Type 0
    Takes r b = b ≡ true → (g : History) → SplitCoreStandsFor d.core g → IsAllowed (Give r x) g.past × SplitCoreStandsFor c (after_item r x g)

    abbrev Refuses : Sensor → Bool → Type 0
    Refuses r b = b ≡ false → (c ≡ d.core) × ((g : History) → SplitCoreStandsFor d.core g → IsAllowed (Give r x) g.past → ⊥)

    stands-take_own : (b : Bool) → Takes (sensor_of k) b → Refuses (sensor_of k) b → DeskStands n e took
    stands-take_own true takes refuses =
        let given = takes refl h s.told.core_is in
        record { history = after_item (sensor_of k) x h; told = told-taken h given.0 given.1 s.told; last_is = last-is; granted_is = s.granted_is; asking_is = s.asking_is }
    stands-take_own false takes refuses =
        let refused = refuses refl in
        let close = near h s.told.core_is in
        record { history = h; told = told-refused h refused.0 (refused.1 h s.told.core_is) (omega (arith, close, by)) s.told; last_is = last-is; granted_is = s.granted_is; asking_is = s.asking_is }

    pub stands-take : (r : Sensor) (b : Bool) → r ≡ sensor_of k → Takes r b → Refuses r b → DeskStands n e took
    stands-take r b is takes refuses = stands-take_own b (subst (λ (q : Sensor). Takes q b) is takes) (subst (λ (q : Sensor). Refuses q b) is refuses)

-- ---- the mark of a slow sensor
-- a moment without a value is accepted after the last one, up to a day
silent-accepted : (r : Sensor) (last moment : ℕ) → last < moment → moment ≤ LATEST_MOMENT → refusal_of r last (record { moment = moment; value = None }) ≡ None
unfolding refusal_of
silent-accepted r last moment past within = grind arith

module _ (n e : ℕ) (r : Sensor) (mark : ℕ) (slow : IsSlow r) (d : Desk) (c : SplitContents) (a : Asker) (same : SameAsker d.asker a) (later : mark_in r (marks_read d.asker) ≤ mark) (granted : mark ≤ grant_posted d.asker)
    (read : marks_read a ≡ with_mark_of r mark (marks_read d.asker)) where
  abbrev x : Item
  x = record { moment = mark; value = None }

  abbrev loaded : Desk
  loaded = record d { core = c; asker = a }

  mark-taken : (h : History) → IsAllowed (Give r x) h.past → SplitCoreStandsFor c (after_item r x h) → DeskWasTold n e d h → DeskWasTold n e loaded (after_item r x h)
  mark-taken h allowed stands t = record {
    core_is = stands;
    cycle_is = t.cycle_is;
    agrees = record {
      marks_are = subst (λ (m : SlowMarks). HaveMarks m (with_item r x h.past.given)) (sym read) (marks-with_item r x h.past.given (marks_read d.asker) t.agrees.marks_are);
      zero_is = same.asks ∙ t.agrees.zero_is;
      last_to = let moved = merged-item r x h in let last = t.agrees.last_to in let is = same.last in omega (arith, moved, last, is);
      granted_near = let near = t.agrees.granted_near in let is = same.granted in omega (arith, near, is);
      granted_to = let to = t.agrees.granted_to in let is = same.granted in omega (arith, to, is);
    };
    within = t.within;
    parts_are = t.parts_are;
    issues_are = λ slots are. t.issues_are slots are ∙ sym (issues-stay n slots r x d.core h t.core_is allowed.0);
    taken_are = λ feeds. fast-beside r x h.past.given (fast_taken d.fast) slow (t.taken_are feeds);
  }

  -- one that is refused hasn't risen
  unrisen : (h : History) → (IsAllowed (Give r x) h.past → ⊥) → DeskWasTold n e d h → (mark_in r (marks_read d.asker) ≡ mark) ⊎ (mark_in r (marks_read d.asker) < mark) → mark_in r (marks_read d.asker) ≡ mark
  unrisen h refused t (inl is) = is
  unrisen h refused t (inr past) =
      let is = mark-is r h.past.given (marks_read d.asker) slow t.agrees.marks_are in
      let near = t.agrees.granted_near in
      let to = t.agrees.granted_to in
      absurd (refused (silent-accepted r (mark_of (items_of r h.past.given)) mark (omega (arith, is, past)) (omega (arith, granted, to)), omega (arith, granted, near)))

  mark-refused : (h : History) → c ≡ d.core → (IsAllowed (Give r x) h.past → ⊥) → DeskWasTold n e d h → DeskWasTold n e loaded h
  mark-refused h core refused t =
      let is = unrisen h refused t (eq-or-lt_of_le later) in record {
        core_is = subst (λ (o : SplitContents). SplitCoreStandsFor o h) (sym core) t.core_is;
        cycle_is = t.cycle_is;
        agrees = record {
          marks_are = subst (λ (m : SlowMarks). HaveMarks m h.past.given) (sym (read ∙ marks-same r mark (marks_read d.asker) slow is)) t.agrees.marks_are;
          zero_is = same.asks ∙ t.agrees.zero_is;
          last_to = let last = t.agrees.last_to in let is = same.last in omega (arith, last, is);
          granted_near = let near = t.agrees.granted_near in let is = same.granted in omega (arith, near, is);
          granted_to = let to = t.agrees.granted_to in let is = same.granted in omega (arith, to, is);
        };
        within = t.within;
        parts_are = t.parts_are;
        issues_are = t.issues_are;
        taken_are = t.taken_are;
      }

  pub stands-mark : DeskStands n e d → (b : Bool) → (b ≡ true → (g : History) → SplitCoreStandsFor d.core g → IsAllowed (Give r x) g.past × SplitCoreStandsFor c (after_item r x g))
      → (b ≡ false → (c ≡ d.core) × ((g : History) → SplitCoreStandsFor d.core g → IsAllowed (Give r x) g.past → ⊥)) → DeskStands n e loaded
  stands-mark s true takes refuses =
      let given = takes refl s.history s.told.core_is in
      record { history = after_item r x s.history; told = mark-taken s.history given.0 given.1 s.told; last_is = s.last_is; granted_is = s.granted_is ∙ sym same.granted; asking_is = s.asking_is }
  stands-mark s false takes refuses =
      let refused = refuses refl in
      record { history = s.history; told = mark-refused s.history refused.0 (refused.1 s.history s.told.core_is) s.told; last_is = s.last_is; granted_is = s.granted_is ∙ sym same.granted; asking_is = s.asking_is }

-- ---- one more grant
-- an open ask is of the tick past the closed one
pub grant-near : (n e : ℕ) (d : Desk) (s : DeskStands n e d) → open_zero d.asker ≢ 0 → open_zero d.asker ≡ s.history.past.closed + 1
grant-near n e d s opened = by s.history.asking s.told.agrees.zero_is where
  by : (b : Bool) → open_zero d.asker ≡ cond {A = ℕ} b (s.history.past.closed + 1) 0 → open_zero d.asker ≡ s.history.past.closed + 1
  by true is = is
  by false is = absurd (opened is)

pub stands-grant : (n e upto : ℕ) (d : Desk) (a : Asker) → ((h : History) → SplitCoreStandsFor d.core h → upto ≤ h.past.closed + LONGEST_GAP) → upto ≤ LATEST_MOMENT
    → grant_posted a ≡ upto → (open_zero a ≡ open_zero d.asker) × (last_zero a ≡ last_zero d.asker) → marks_read a ≡ marks_read d.asker
    → DeskStands n e d → DeskStands n e (record d { asker = a; granted = upto })
stands-grant n e upto d a near to granted asked marks s =
    let t = s.told in
    let h = s.history in record {
      history = h;
      told = record {
        core_is = t.core_is;
        cycle_is = t.cycle_is;
        agrees = record {
          marks_are = subst (λ (m : SlowMarks). HaveMarks m h.past.given) (sym marks) t.agrees.marks_are;
          zero_is = asked.0 ∙ t.agrees.zero_is;
          last_to = let last = t.agrees.last_to in let is = asked.1 in omega (arith, last, is);
          granted_near = let close = near h t.core_is in omega (arith, close, granted);
          granted_to = omega (arith, to, granted);
        };
        within = t.within;
        parts_are = t.parts_are;
        issues_are = t.issues_are;
        taken_are = t.taken_are;
      };
      last_is = s.last_is;
      granted_is = sym granted;
      asking_is = s.asking_is;
    }

-- ---- one more part
module _ (n e : ℕ) (r : Sensor) (q : SensorPart) (d : Desk) (c : SplitContents) (i : PartInlets) (taken : slow_taken i ≡ with_part r q (slow_taken d.parts)) (s : DeskStands n e d) where
  abbrev t : DeskWasTold n e d s.history
  t = s.told

  more : (ps : List SensorPart) → All (IsTakenPart (slow_taken d.parts)) ps → All (IsTakenPart (slow_taken i)) ps
  more ps h = subst (λ (l : SlowParts). All (IsTakenPart l) ps) (sym taken) (all-taken r q (slow_taken d.parts) ps h)

  pub stands-part : IsSlow q.sensor → q.sensor ≡ r → ((h : History) → SplitCoreStandsFor d.core h → SplitCoreStandsFor c (after_part q h)) → DeskStands n e (record d { core = c; parts = i })
  stands-part slow is takes = record {
    history = after_part q s.history;
    told = record {
      core_is = takes s.history t.core_is;
      cycle_is = t.cycle_is;
      agrees = record { marks_are = t.agrees.marks_are; zero_is = t.agrees.zero_is; last_to = t.agrees.last_to; granted_near = t.agrees.granted_near; granted_to = t.agrees.granted_to };
      within = t.within;
      parts_are = All-cons (IsTakenPart (slow_taken i)) q s.history.parts (subst (λ (l : SlowParts). IsTakenPart l q) (sym taken) (is-taken r q (slow_taken d.parts) slow is)) (more s.history.parts t.parts_are);
      issues_are = λ slots are. t.issues_are slots (All-tail (λ p. slots p.sensor p.zero ≡ p.slots) q s.history.parts are);
      taken_are = t.taken_are;
    };
    last_is = s.last_is;
    granted_is = s.granted_is;
    asking_is = s.asking_is;
  }

  -- one that the core doesn't take
  pub stands-aside : c ≡ d.core → DeskStands n e (record d { core = c; parts = i })
  stands-aside core = record {
    history = s.history;
    told = record {
      core_is = subst (λ (o : SplitContents). SplitCoreStandsFor o s.history) (sym core) t.core_is;
      cycle_is = t.cycle_is;
      agrees = t.agrees;
      within = t.within;
      parts_are = more s.history.parts t.parts_are;
      issues_are = t.issues_are;
      taken_are = t.taken_are;
    };
    last_is = s.last_is;
    granted_is = s.granted_is;
    asking_is = s.asking_is;
  }

-- taken or not
pub stands-part_or : (n e : ℕ) (r : Sensor) (q : SensorPart) (d : Desk) (c : SplitContents) (i : PartInlets) → slow_taken i ≡ with_part r q (slow_taken d.parts) → DeskStands n e d → IsSlow q.sensor → q.sensor ≡ r
    → {T E : Type 0} (result : Result T E) → OnOk result ((h : History) → SplitCoreStandsFor d.core h → SplitCoreStandsFor c (after_part q h)) → OnErr result (c ≡ d.core) → DeskStands n e (record d { core = c; parts = i })
stands-part_or n e r q d c i taken s slow is (Ok x) ok err = stands-part n e r q d c i taken s slow is ok
stands-part_or n e r q d c i taken s slow is (Err x) ok err = stands-aside n e r q d c i taken s err

-- where there was none
pub stands-none : (n e : ℕ) (d : Desk) (i : PartInlets) → slow_taken i ≡ slow_taken d.parts → DeskStands n e d → DeskStands n e (record d { parts = i })
stands-none n e d i taken s = record {
  history = s.history;
  told = subst (λ (l : SlowParts). CoreWasTold n e d.core d.asker (fast_taken d.fast) l (issues_out d.outbox d.held) s.history) (sym taken) s.told;
  last_is = s.last_is;
  granted_is = s.granted_is;
  asking_is = s.asking_is;
}

-- where no item was taken
pub stands-unfast : (n e : ℕ) (d : Desk) (i : FastInlets) → fast_taken i ≡ fast_taken d.fast → DeskStands n e d → DeskStands n e (record d { fast = i })
stands-unfast n e d i taken s = record {
  history = s.history;
  told = subst (λ (l : FastItems). CoreWasTold n e d.core d.asker l (slow_taken d.parts) (issues_out d.outbox d.held) s.history) (sym taken) s.told;
  last_is = s.last_is ∙ ap fast_marks_of (sym taken);
  granted_is = s.granted_is;
  asking_is = s.asking_is;
}

-- ---- at first
-- of no items the marks are 0
none-marked : HaveMarks no_marks no_items
none-marked = λ s slow. ap mark_of (value_of-each [] s) ∙ sym (slow_at-each 0 s)

none_by : (n : ℕ) (xs : List Issue) → map (λ i. i.command) xs ≡ [] → xs ≡ []
none_by n [] e = refl
none_by n (x ∷ xs) e = cc

-- nothing is issued up to the tick 0
nothing-issued : (n : ℕ) → issues no_items n 0 ≡ []
unfolding commands
nothing-issued n = none_by n (issues no_items n 0) (commands-start no_items n)

-- a desk that was told nothing stands for that
pub stands-begins : (n e : ℕ) (d : Desk) → IsFreshDesk n d.core d.asker d.fast d.parts d.outbox → d.last ≡ record { along = 0; across = 0; restraint = 0 } → d.granted ≡ 1000 → d.asking ≡ false → issues_held d.held ≡ [] → DeskStands n e d
stands-begins n e d b last granted free held =
    let a = b.asker_is in record {
      history = start_of n;
      told = record {
        core_is = b.core_is;
        cycle_is = refl;
        agrees = record {
          marks_are = subst (λ (m : SlowMarks). HaveMarks m no_items) (sym a.marks) none-marked;
          zero_is = a.asks;
          last_to = let is = a.last in omega (arith, is);
          granted_near = let is = a.granted in omega (arith, is);
          granted_to = let is = a.granted in omega (arith, is);
        };
        within = omega arith;
        parts_are = All-nil (IsTakenPart (slow_taken d.parts));
        issues_are = λ slots are. ap (λ (xs : List Issue). issues_of (items_sent d.outbox) ++ xs) held ∙ ap (λ os. issues_of os ++ []) b.sent_is ∙ sym (ap (map (issue_with slots)) (nothing-issued n));
        taken_are = λ feeds. subst (λ (l : FastItems). HaveFast l no_items) (sym b.fast_is) (record { along = refl; across = refl; restraint = refl });
      };
      last_is = last ∙ ap fast_marks_of (sym b.fast_is);
      granted_is = granted ∙ sym a.granted;
      asking_is = free;
    }
