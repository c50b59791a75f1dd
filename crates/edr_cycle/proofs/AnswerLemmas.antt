-- The parts that a split core asks for, given from captures, and the ticks that it closes.
use Rattle.std.proofs.Common.{arith, refl, ap, sym, subst, ◌≡◌, ◌∙◌, ℕ, ◌+◌, ◌<◌, ◌≤◌, Bool, true, false, cond, nat_eq, Some, None, Option, Ok, Err, Result, List, [], ◌∷◌, ◌++◌, map, append-nil}
use Rattle.std.specs.Prelude.{is_some, is_none, IsSome, OnOk, OnErr, IfErr, All, find}
use Rattle.std.specs.Option.{option_map_or}
use Rattle.std.proofs.lemmas.Bool.{eqb-true}
use Rattle.std.proofs.lemmas.List.Elements.{All-cons}
use Rattle.edr_items.specs.declared.TheConstants.{LONGEST_GAP}
use Rattle.edr_items.specs.declared.Sensor.{Sensor}
use Rattle.edr_items.specs.declared.Sensor.TheVariants.{Along, Across, Restraint}
use Rattle.edr_items.specs.declared.Item.{Item}
use Rattle.edr_items.specs.Sensor.{number_of, IsSlow}
use Rattle.edr_items.specs.Item.{mark_of, IsFeed}
use Rattle.edr_items.specs.PerSlowSensor.{EachSlow}
use Rattle.edr_items.specs.SensorLists.{SensorLists, items_of, horizon_of, sensors}
use Rattle.edr_items.proofs.PerSlowSensorLemmas.{slow-first}
use Rattle.edr_record.specs.declared.Command.{Command}
use Rattle.edr_record.specs.declared.Command.TheVariants.{Take, Lock, Done}
use Rattle.edr_definitions.specs.Commands.{Issue, issue_at, issues}
use Rattle.edr_definitions.specs.Schedule.{Progress, Close, after_step, BeginsWith, IsUnderWay}
use Rattle.edr_definitions.proofs.MarkLaws.{feed-next, horizon-least, horizon-above}
use Rattle.edr_capture.specs.Capture.{CaptureStandsFor}
use Rattle.edr_capture.specs.SensorPart.{SensorPart, part, part_slots, IsOfSensor}
use Rattle.edr_capture.proofs.PartLemmas.{part-later}
use Rattle.edr_merge.specs.Answers.{is_waited_for, waited_for}
use Rattle.edr_merge.proofs.StandsLemmas.{find-holds}
use Rattle.edr_core.specs.declared.Closing.{Closing}
use Rattle.edr_core.specs.declared.Closing.TheVariants.{Waiting, Closed}
use Rattle.edr_core.specs.declared.ask.PartRefused.{PartRefused}
use Rattle.edr_core.specs.declared.candidate.Issued.{Issued}
use Rattle.edr_core.specs.Answers.{commands_put}
use Rattle.edr_core.specs.Captures.{kept_lists}
use Rattle.edr_core.specs.Parts.{parts_of, part_in, is_part_of, command_with, issue_with, issues_with, HaveTheFastItems}
use Rattle.edr_core.specs.SplitHistory.{History, after_part, Answer, Waits, Asks, Lacks, Closes, is_zero_next, is_missing, missing_part, due}
use Rattle.edr_core.specs.SplitContents.{SplitContents}
use Rattle.edr_core.specs.SplitStandsFor.{SplitCoreStandsFor}
use Rattle.edr_core.specs.SplitAnswers.{part_refusal_of}
use Rattle.edr_core.proofs.CaptureLemmas.{mark-kept, range-kept}
use Rattle.edr_core.proofs.GiveLemmas.{within-merged}
use Rattle.edr_core.proofs.OwnLemmas.{refused-not}
use Rattle.edr_core.proofs.PartsLaws.{issues-with}
use Rattle.edr_core.proofs.TakenLemmas.{eqb_same, taken}
use Rattle.edr_run.proofs.IssueLemmas.{issues-under_way}
use Rattle.edr_cycle.specs.declared.remaining.Remaining.{Remaining}
use Rattle.edr_cycle.specs.Remaining.{IsRest, RemainsAt, HasNext, IsOpenAt, IsAsked, SameAsk, IsTakenOf, AnswerLeads}
use Rattle.edr_cycle.proofs.RestLemmas.{feed-front, whole-feed}

-- ---- one part
some-more : (q : SensorPart) (parts : List SensorPart) (r : Sensor) (z : ℕ) → IsSome (part_in parts r z) → IsSome (part_in (q ∷ parts) r z)
unfolding part_in
some-more q parts r z has = by (is_part_of r z q) has where
  by : (b : Bool) → IsSome (find (is_part_of r z) parts) → IsSome (cond {A = Option SensorPart} b (Some q) (find (is_part_of r z) parts))
  by true has = refl
  by false has = has

some-own : (q : SensorPart) (parts : List SensorPart) (s : Sensor) (z : ℕ) → q.sensor ≡ s → q.zero ≡ z → IsSome (part_in (q ∷ parts) s z)
some-own q parts s z sensor zero = ap (λ (o : Option SensorPart). is_some o) (taken q parts z zero s true (ap (λ (r : Sensor). nat_eq (number_of r) (number_of s)) sensor ∙ eqb_same (number_of s)))

-- a part of the time zero that is refused was taken before
refused-twice : (q : SensorPart) (w : History) (e : PartRefused) → w.asking ≡ true → q.zero ≡ w.past.closed + 1 → part_refusal_of q w ≡ Some e → IsSome (part_in w.parts q.sensor (w.past.closed + 1))
refused-twice q w e asking zero why = by (part_in w.parts q.sensor (w.past.closed + 1)) refl where
  by : (o : Option SensorPart) → part_in w.parts q.sensor (w.past.closed + 1) ≡ o → IsSome (part_in w.parts q.sensor (w.past.closed + 1))
  by (Some x) is = ap (λ (o : Option SensorPart). is_some o) is
  by None is = let no : None ≡ Some e = sym (refused-not q w asking zero is) ∙ why in absurd (cc no)

module _ (lists : SensorLists) (n : ℕ) (h : History) (c : SplitContents) (rest : Remaining) (z : ℕ) (s : Sensor) (slow : IsSlow s) (asked : IsAsked lists n h c rest z) where
  abbrev at : RemainsAt lists n h c rest
  at = asked.stands.remains

  abbrev done : List Item
  done = (at.rests s).done

  abbrev kept : List Item
  kept = items_of s (kept_lists rest.captures)

  pub kept-stands : CaptureStandsFor kept done
  kept-stands = (at.rests s).keeps.slow slow

  done-feed : IsFeed s done
  done-feed = feed-front s 0 done (items_of s rest.left) (whole-feed lists n h c rest s at)

  pub kept-range : All (IsOfSensor s) kept
  kept-range = range-kept s kept done done-feed kept-stands

  pub kept-near : mark_of kept ≤ z + LONGEST_GAP
  kept-near =
      let low = mark-kept s kept done done-feed kept-stands in
      let reached = (at.rests s).reached in
      let near = at.core_is.near s in
      let zero = asked.zero_is in
      omega (arith, low, reached, near, zero)

  part-whole : All (λ x. z < x.moment) (items_of s rest.left) → parts_of lists s z ≡ part_slots s done z
  part-whole past = ap (λ xs. part_slots s xs z) (at.rests s).whole ∙ ap (λ (p : SensorPart). p.slots) (part-later s done (items_of s rest.left) z past)

  put-taken : (c' : SplitContents) (q : SensorPart) → q ≡ part s done z → All (λ x. z < x.moment) (items_of s rest.left) → SplitCoreStandsFor c' (after_part q h) → IsAsked lists n (after_part q h) c' rest z × IsTakenOf s z h (after_part q h)
  put-taken c' q same past stands = (
    record {
      stands = record {
        remains = record {
          feeds = at.feeds;
          core_is = stands;
          cycle_is = at.cycle_is;
          within = at.within;
          parts_are = All-cons (λ p. parts_of lists p.sensor p.zero ≡ p.slots) q h.parts (subst (λ (p : SensorPart). parts_of lists p.sensor p.zero ≡ p.slots) (sym same) (part-whole past)) at.parts_are;
          rests = at.rests;
        };
        below = asked.stands.below;
      };
      asking = asked.asking;
      zero_is = asked.zero_is;
    },
    record {
      taken = some-own q h.parts s z (ap (λ (p : SensorPart). p.sensor) same) (ap (λ (p : SensorPart). p.zero) same);
      others = λ r has. some-more q h.parts r z has;
    },
  )

  put-before : (c' : SplitContents) (q : SensorPart) (e : PartRefused) → q ≡ part s done z → c' ≡ c → part_refusal_of q h ≡ Some e → IsAsked lists n h c' rest z × IsTakenOf s z h h
  put-before c' q e same core why =
      let zero : q.zero ≡ h.past.closed + 1 = ap (λ (p : SensorPart). p.zero) same ∙ asked.zero_is in
      let has = refused-twice q h e asked.asking zero why in (
        subst (λ (k : SplitContents). IsAsked lists n h k rest z) (sym core) asked,
        record {
          taken = subst (λ (u : ℕ). IsSome (part_in h.parts s u)) (sym asked.zero_is) (subst (λ (r : Sensor). IsSome (part_in h.parts r (h.past.closed + 1))) (ap (λ (p : SensorPart). p.sensor) same) has);
          others = λ r o. o;
        },
      )

  -- whatever the core answers, it has the part then
  pub puts : (h0 : History) (c' : SplitContents) (q : SensorPart) (r : Result (Unit {0}) PartRefused) → SameAsk h0 h → q ≡ part s done z → All (λ x. z < x.moment) (items_of s rest.left)
      → OnOk r ((v : History) → SplitCoreStandsFor c v → SplitCoreStandsFor c' (after_part q v)) → OnErr r (c' ≡ c) → ((v : History) → SplitCoreStandsFor c v → IfErr r (λ e. part_refusal_of q v ≡ Some e))
      → (h' : History) × IsAsked lists n h' c' rest z × IsTakenOf s z h0 h'
  puts h0 c' q (Ok u) before same past ok err why =
      let both = put-taken c' q same past (ok h at.core_is) in
      (after_part q h, both.0, record { taken = both.1.taken; others = λ r has. both.1.others r (subst (λ (ps : List SensorPart). IsSome (part_in ps r z)) (sym before.parts) has) })
  puts h0 c' q (Err e) before same past ok err why =
      let both = put-before c' q e same err (why h at.core_is) in
      (h, both.0, record { taken = both.1.taken; others = λ r has. subst (λ (ps : List SensorPart). IsSome (part_in ps r z)) (sym before.parts) has })

-- ---- all parts
some-none : (o : Option SensorPart) → IsSome o → is_none o ≡ false
some-none None has = cc
some-none (Some x) has = refl

missing-none : (h : History) → EachSlow (λ s. is_missing h s ≡ false) → missing_part h ≡ None
unfolding missing_part
missing-none h all = slow-first (is_missing h) (λ _. false) all

pub all-taken : (z : ℕ) (h : History) → z ≡ h.past.closed + 1 → EachSlow (λ s. IsSome (part_in h.parts s z)) → missing_part h ≡ None
all-taken z h zero has = missing-none h (λ s slow. some-none (part_in h.parts s (h.past.closed + 1)) (subst (λ (u : ℕ). IsSome (part_in h.parts s u)) zero (has s slow)))

-- ---- what a step answers
abbrev due_by : History → Bool → Answer
due_by h b = cond {A = Answer} b (option_map_or Lacks (missing_part h) (Closes (h.past.closed + 1))) (option_map_or Waits (waited_for h.past) (cond {A = Answer} (is_zero_next h.past) (Asks (h.past.closed + 1)) (Closes (h.past.closed + 1))))

pub closes-due : (h : History) → h.asking ≡ true → missing_part h ≡ None → due h ≡ Closes (h.past.closed + 1)
closes-due h asking none = ap (due_by h) asking ∙ ap (λ (o : Option Sensor). option_map_or Lacks o (Closes (h.past.closed + 1))) none

pub waits-free : (h : History) (s : Sensor) → Waits s ≡ due h → waited_for h.past ≡ Some s
waits-free h s answer = by h.asking (missing_part h) (waited_for h.past) (is_zero_next h.past) refl answer where
  by : (b : Bool) (m o : Option Sensor) (z : Bool) → waited_for h.past ≡ o
      → Waits s ≡ cond {A = Answer} b (option_map_or Lacks m (Closes (h.past.closed + 1))) (option_map_or Waits o (cond {A = Answer} z (Asks (h.past.closed + 1)) (Closes (h.past.closed + 1)))) → waited_for h.past ≡ Some s
  by true (Some r) o z is e = cc
  by true None o z is e = cc
  by false m (Some r) z is e = let same : s ≡ r = cc in is ∙ ap Some (sym same)
  by false m None true is e = cc
  by false m None false is e = cc

pub asks-zero : (h : History) (u : ℕ) → Asks u ≡ due h → u ≡ h.past.closed + 1
asks-zero h u answer = by h.asking (missing_part h) (waited_for h.past) (is_zero_next h.past) answer where
  by : (b : Bool) (m o : Option Sensor) (z : Bool)
      → Asks u ≡ cond {A = Answer} b (option_map_or Lacks m (Closes (h.past.closed + 1))) (option_map_or Waits o (cond {A = Answer} z (Asks (h.past.closed + 1)) (Closes (h.past.closed + 1)))) → u ≡ h.past.closed + 1
  by true (Some r) o z e = cc
  by true None o z e = cc
  by false m (Some r) z e = cc
  by false m None true e = cc
  by false m None false e = cc

pub lacks-asking : (h : History) (s : Sensor) → Lacks s ≡ due h → h.asking ≡ true
lacks-asking h s answer = by h.asking (missing_part h) (waited_for h.past) (is_zero_next h.past) refl answer where
  by : (b : Bool) (m o : Option Sensor) (z : Bool) → h.asking ≡ b
      → Lacks s ≡ cond {A = Answer} b (option_map_or Lacks m (Closes (h.past.closed + 1))) (option_map_or Waits o (cond {A = Answer} z (Asks (h.past.closed + 1)) (Closes (h.past.closed + 1)))) → h.asking ≡ true
  by true m o z is e = is
  by false m (Some r) z is e = cc
  by false m None true is e = cc
  by false m None false is e = cc

-- ---- what is issued
command-same : (f g : SensorLists) → f.speed ≡ g.speed → f.throttle ≡ g.throttle → f.brake ≡ g.brake → f.belt ≡ g.belt → f.lamp ≡ g.lamp → (k : Command) → command_with (parts_of f) k ≡ command_with (parts_of g) k
command-same f g a b d e h (Take p) = rw (a, b, d, e, h) refl
command-same f g a b d e h (Lock p) = rw (a, b, d, e, h) refl
command-same f g a b d e h (Done k) = refl

issues-same : (f g : SensorLists) → ((k : Command) → command_with (parts_of f) k ≡ command_with (parts_of g) k) → (xs : List Issue) → map (issue_with (parts_of f)) xs ≡ map (issue_with (parts_of g)) xs
issues-same f g same [] = refl
issues-same f g same (x ∷ xs) =
    ap (λ (k : Command). record { tick = x.tick; command = k } ∷ map (issue_with (parts_of f)) xs) (same x.command)
    ∙ ap (λ (is : List Issue). issue_with (parts_of g) x ∷ is) (issues-same f g same xs)

-- what the split core issues up to a tick that the given lists and the cycle's own reach
module _ (lists : SensorLists) (n : ℕ) (h : History) (c : SplitContents) (rest : Remaining) (at : RemainsAt lists n h c rest) (u : ℕ) (reach : u ≤ horizon_of h.past.given) (below : u ≤ horizon_of lists) where
  abbrev g : SensorLists
  g = h.past.given

  -- the cycle's lists, but of the fast sensors as far as they were given
  abbrev mid : SensorLists
  mid = record lists { along = g.along; across = g.across; restraint = g.restraint }

  reaches : (s : Sensor) → u ≤ mark_of (items_of s mid)
  reaches Along = let a = horizon-least g Along in omega (arith, a, reach)
  reaches Across = let a = horizon-least g Across in omega (arith, a, reach)
  reaches Restraint = let a = horizon-least g Restraint in omega (arith, a, reach)
  reaches s = let a = horizon-least lists s in omega (arith, a, below)

  begins : (s : Sensor) → BeginsWith (items_of s lists) (items_of s mid)
  begins Along = let r = at.rests Along in (rest.left.along, r.whole ∙ ap (λ xs. xs ++ rest.left.along) (sym (r.keeps.fast (λ slow. cc))))
  begins Across = let r = at.rests Across in (rest.left.across, r.whole ∙ ap (λ xs. xs ++ rest.left.across) (sym (r.keeps.fast (λ slow. cc))))
  begins Restraint = let r = at.rests Restraint in (rest.left.restraint, r.whole ∙ ap (λ xs. xs ++ rest.left.restraint) (sym (r.keeps.fast (λ slow. cc))))
  begins s = ([], sym (append-nil (items_of s lists)))

  issued : (t : ℕ) → t ≤ u → issues_with (parts_of lists) g n t ≡ issues lists n t
  issued t upto =
      let all : u ≤ horizon_of mid = horizon-above mid u reaches in
      let on : IsUnderWay lists (record { given = mid; closed = u }) = record { begun = begins; within = all } in
      let fast : HaveTheFastItems mid g = record { along = refl; across = refl; restraint = refl } in
      issues-same lists mid (command-same lists mid refl refl refl refl refl) (issues g n t)
      ∙ issues-with mid g n fast t
      ∙ issues-under_way lists (record { given = mid; closed = u }) n t at.feeds on (omega (arith, upto, all))

-- so what it issued so far is what the cycle issues up to the closed tick
pub issued-now : (lists : SensorLists) (n : ℕ) (h : History) (c : SplitContents) (rest : Remaining) → RemainsAt lists n h c rest → issues_with (parts_of lists) h.past.given n h.past.closed ≡ issues lists n h.past.closed
issued-now lists n h c rest at = issued lists n h c rest at h.past.closed at.core_is.whole_is.core_is.within at.within h.past.closed (omega arith)

module _ (lists : SensorLists) (n : ℕ) (h : History) (c c' : SplitContents) (rest : Remaining) (at : IsOpenAt lists n h c rest) (stands : SplitCoreStandsFor c' (record h { past = after_step h.past Close; asking = false })) where
  upto-next : (t : ℕ) → t ≤ h.past.closed + 1 → issues_with (parts_of lists) h.past.given n t ≡ issues lists n t
  upto-next t upto =
      let below = at.below in
      issued lists n h c rest at.remains (h.past.closed + 1) (within-merged c' (record h { past = after_step h.past Close; asking = false }) stands) (omega (arith, below)) t upto

  pub closes : (t : ℕ) (cs : List Command) → t ≡ h.past.closed + 1 → issues_with (parts_of lists) h.past.given h.cycle t ≡ issues_with (parts_of lists) h.past.given h.cycle h.past.closed ++ map (issue_at t) cs
      → (h' : History) × (h'.past.closed ≡ t) × RemainsAt lists n h' c' rest × (t ≡ h.past.closed + 1) × (issues lists n t ≡ issues lists n h.past.closed ++ map (issue_at t) cs)
  closes t cs next adds =
      let g = h.past.given in
      let own : issues_with (parts_of lists) g n t ≡ issues_with (parts_of lists) g n h.past.closed ++ map (issue_at t) cs = subst (λ (m : ℕ). issues_with (parts_of lists) g m t ≡ issues_with (parts_of lists) g m h.past.closed ++ map (issue_at t) cs) at.remains.cycle_is adds in (
        record h { past = after_step h.past Close; asking = false },
        sym next,
        record {
          feeds = at.remains.feeds;
          core_is = stands;
          cycle_is = at.remains.cycle_is;
          within = let b = at.below in omega (arith, b);
          parts_are = at.remains.parts_are;
          rests = at.remains.rests;
        },
        next,
        sym (upto-next t (omega (arith, next))) ∙ own ∙ ap (λ xs. xs ++ map (issue_at t) cs) (upto-next h.past.closed (omega arith)),
      )

-- ---- the sensor that is waited for
waited_at : (p : Progress) (s : Sensor) → waited_for p ≡ Some s → mark_of (items_of s p.given) ≡ p.closed
unfolding waited_for
waited_at p s waits = eqb-true (mark_of (items_of s p.given)) p.closed (find-holds (is_waited_for p) sensors s waits)

pub waits-next : (lists : SensorLists) (n : ℕ) (h : History) (c c' : SplitContents) (rest : Remaining) (s : Sensor) → IsOpenAt lists n h c rest → SplitCoreStandsFor c' h → Waits s ≡ due h → HasNext lists n h c' rest s
waits-next lists n h c c' rest s at stands answer = by (items_of s rest.left) refl where
  own : IsRest s (items_of s lists) (items_of s h.past.given) (items_of s rest.left) (items_of s (kept_lists rest.captures))
  own = at.remains.rests s

  low : mark_of own.done ≤ h.past.closed
  low = let is = waited_at h.past s (waits-free h s answer) in let reached = own.reached in omega (arith, is, reached)

  by : (xs : List Item) → items_of s rest.left ≡ xs → HasNext lists n h c' rest s
  by [] is =
      let whole : items_of s lists ≡ own.done = own.whole ∙ ap (λ xs. own.done ++ xs) is ∙ append-nil own.done in
      let same = ap mark_of whole in
      let high = horizon-least lists s in
      let below = at.below in
      let l = low in
      absurd (omega (arith, same, high, below, l))
  by (x ∷ xs) is =
      let feed : IsFeed s (own.done ++ x ∷ xs) = subst (λ (ys : List Item). IsFeed s (own.done ++ ys)) is (whole-feed lists n h c rest s at.remains) in
      let near = (feed-next s 0 own.done x xs feed).1 in
      let l = low in
      record {
        remains = record { feeds = at.remains.feeds; core_is = stands; cycle_is = at.remains.cycle_is; within = at.remains.within; parts_are = at.remains.parts_are; rests = at.remains.rests };
        item = x;
        more = xs;
        left_is = is;
        near = omega (arith, near, l);
      }

-- ---- an ask
pub asked-now : (lists : SensorLists) (n : ℕ) (h : History) (c c' : SplitContents) (rest : Remaining) (z : ℕ) → IsOpenAt lists n h c rest → SplitCoreStandsFor c' (record h { asking = true }) → z ≡ h.past.closed + 1 → IsAsked lists n (record h { asking = true }) c' rest z
asked-now lists n h c c' rest z at stands zero = record {
  stands = record {
    remains = record { feeds = at.remains.feeds; core_is = stands; cycle_is = at.remains.cycle_is; within = at.remains.within; parts_are = at.remains.parts_are; rests = at.remains.rests };
    below = at.below;
  };
  asking = refl;
  zero_is = zero;
}

pub asked-before : (lists : SensorLists) (n : ℕ) (h : History) (c c' : SplitContents) (rest : Remaining) (z : ℕ) → IsOpenAt lists n h c rest → SplitCoreStandsFor c' h → h.asking ≡ true → z ≡ h.past.closed + 1 → IsAsked lists n h c' rest z
asked-before lists n h c c' rest z at stands asking zero = record {
  stands = record {
    remains = record { feeds = at.remains.feeds; core_is = stands; cycle_is = at.remains.cycle_is; within = at.remains.within; parts_are = at.remains.parts_are; rests = at.remains.rests };
    below = at.below;
  };
  asking = asking;
  zero_is = zero;
}

-- where an answer leads depends on the closed tick alone
pub leads-from : (lists : SensorLists) (n : ℕ) (a b : History) (r : Closing) (i : Issued) (c : SplitContents) (rest : Remaining) → a.past.closed ≡ b.past.closed → AnswerLeads lists n a r i c rest → AnswerLeads lists n b r i c rest
leads-from lists n a b (Waiting s) i c rest same leads = (leads.0, leads.1 ∙ same, leads.2)
leads-from lists n a b (Closed t some) i c rest same leads =
    (leads.0, leads.1, leads.2, leads.3 ∙ ap (λ u. u + 1) same, leads.4 ∙ ap (λ u. issues lists n u ++ map (issue_at t) (commands_put some i)) same)
