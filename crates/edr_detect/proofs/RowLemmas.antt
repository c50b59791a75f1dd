-- One more row, and one more tick of the search.
use Rattle.std.proofs.Common.{arith, refl, ap, sym, subst, ◌≡◌, ◌∙◌, ℕ, zero, suc, ◌+◌, ◌<◌, ◌≤◌, Bool, true, false, nat_eq, nat_lt, ℤ, pos, unwrap_or, Some, None, Option, List, [], ◌∷◌, ◌++◌, length, slice_get, add-one, length-append}
use Rattle.std.specs.Prelude.{option_map, IsTrue, IsSome, is_some, is_none, ◌&&◌, if◌then◌else◌}
use Rattle.std.proofs.lemmas.Bool.Decides.{nat_tests}
use Rattle.std.specs.Option.{option_map_or, option_or}
use Rattle.edr_definitions.specs.Signals.{Signals}
use Rattle.edr_definitions.specs.Windows.{change_at}
use Rattle.edr_definitions.specs.Selection.{Bounds, at_start, is_triggered, is_time_zero, is_end, close_of}
use Rattle.edr_definitions.specs.Commands.{is_locking}
use Rattle.edr_definitions.specs.Facts.{AgreeUpTo}
use Rattle.edr_definitions.specs.Search.{Phase, Searching, Open, Search, PhaseIs, StandsFor, next_search, next_from, next_open, tick_if}
use Rattle.edr_definitions.specs.Change.{Change, stepped_change, tick_change}
use Rattle.edr_definitions.proofs.AgreeLaws.{delta_v-agree, map-ticks-agree}
use Rattle.edr_definitions.proofs.SearchLaws.{StandsFor-next, StandsFor-start}
use Rattle.edr_definitions.proofs.TestLaws.{StandsFor-agree}
use Rattle.edr_definitions.proofs.TickChangeLaws.{tick_change-is}
use Rattle.edr_window.specs.Changes.{changes}
use Rattle.edr_window.specs.Swing.{SwingStandsFor}
use Rattle.edr_detect.specs.declared.stage.Change.{Change as Answer}
use Rattle.edr_detect.specs.declared.stage.Stage.{Stage}
use Rattle.edr_detect.specs.declared.stage.Stage.TheVariants as stage
use Rattle.edr_detect.specs.declared.stage.Tests.{Tests}
use Rattle.edr_detect.specs.declared.windows.Windows.{Windows}
use Rattle.edr_detect.specs.Latest.{LatestStandsFor}
use Rattle.edr_detect.specs.Stages.{nothing, told_of, phase_of, is_event, stepped_search}
use Rattle.edr_detect.specs.Standing.{SwingsStandFor, WindowsStandFor, HoldNothing, AreStill, BeginsAtRest, TestsAre, bounds_past}
use Rattle.edr_detect.specs.Rows.{SignalRow, row_at, signals_of_rows}
use Rattle.edr_detect.specs.Detected.{DetectState, IsAtRest, KeepsRecent, DetectStandsFor}
use Rattle.edr_detect.proofs.WindowLemmas.{AreStill-next, AreStill-agree}

-- ---- rows
slice_get-before : (rows : List SignalRow) (r : SignalRow) (k : ℕ) → k < length rows → slice_get rows k ≡ slice_get (rows ++ r ∷ []) k
slice_get-before [] r k h = absurd (omega arith)
slice_get-before (x ∷ xs) r zero h = refl
slice_get-before (x ∷ xs) r (suc k) h = slice_get-before xs r k (omega arith)

slice_get-last : (rows : List SignalRow) (r : SignalRow) → slice_get (rows ++ r ∷ []) (length rows) ≡ Some r
slice_get-last [] r = refl
slice_get-last (x ∷ xs) r = slice_get-last xs r

row_at-before : (rows : List SignalRow) (r : SignalRow) (u : ℕ) → u ≤ length rows → row_at rows u ≡ row_at (rows ++ r ∷ []) u
row_at-before rows r zero h = refl
row_at-before rows r (suc k) h = slice_get-before rows r k (omega arith)

row_at-last : (rows : List SignalRow) (r : SignalRow) → row_at (rows ++ r ∷ []) (length rows + 1) ≡ Some r
row_at-last rows r = rw add-one (slice_get-last rows r)

rows-agree : (rows : List SignalRow) (r : SignalRow) → AgreeUpTo (length rows) (signals_of_rows rows) (signals_of_rows (rows ++ r ∷ []))
rows-agree rows r = record {
  along = λ u h. ap (λ (o : Option SignalRow). option_map (λ (x : SignalRow). x.along) o) (row_at-before rows r u h);
  across = λ u h. ap (λ (o : Option SignalRow). option_map (λ (x : SignalRow). x.across) o) (row_at-before rows r u h);
  fired = λ u h. ap (λ (o : Option SignalRow). option_map_or (λ (x : SignalRow). x.fired.0) o 0) (row_at-before rows r u h);
}

-- no row is that of tick 0
pub rows-begin : (rows : List SignalRow) → BeginsAtRest (signals_of_rows rows)
rows-begin rows = record { along = refl; across = refl }

-- ---- signals that agree up to a tick
changes-agree : (f g : ℕ → Option ℤ) (from t : ℕ) → ((u : ℕ) → u ≤ t → f u ≡ g u) → changes f from t ≡ changes g from t
unfolding changes
changes-agree f g from t same =
    map-ticks-agree (change_at f) (change_at g) (from + 1) (t + 1) (λ u lo hi. ap (λ (o : Option ℤ). unwrap_or o (pos 0)) (same u (omega arith)))

latest-agree : (f g : ℕ → Option ℤ) (t : ℕ) (values : List ℤ) (sum : ℤ) → ((u : ℕ) → u ≤ t → f u ≡ g u) → LatestStandsFor f t values sum → LatestStandsFor g t values sum
latest-agree f g t values sum same h = record {
  at = λ u le near. h.at u le near ∙ ap (λ (o : Option ℤ). unwrap_or o (pos 0)) (same u le);
  unfilled = h.unfilled;
  sum_is = h.sum_is ∙ delta_v-agree f g _ t same;
}

swings-agree : (m n : Signals) (b : Bounds) (t : ℕ) (w : Windows) → AgreeUpTo t m n → SwingsStandFor m b t w → SwingsStandFor n b t w
swings-agree m n b t w same h = record {
  zero_along = subst (λ xs. SwingStandsFor 20 w.zero_along xs) (changes-agree m.along n.along b.after t same.along) h.zero_along;
  zero_across = subst (λ xs. SwingStandsFor 5 w.zero_across xs) (changes-agree m.across n.across b.after t same.across) h.zero_across;
  trigger_along = subst (λ xs. SwingStandsFor 150 w.trigger_along xs) (changes-agree m.along n.along b.since t same.along) h.trigger_along;
  trigger_across = subst (λ xs. SwingStandsFor 150 w.trigger_across xs) (changes-agree m.across n.across b.since t same.across) h.trigger_across;
}

windows-agree : (m n : Signals) (b : Bounds) (p : Phase) (t : ℕ) (w : Windows) → AgreeUpTo t m n → WindowsStandFor m b p t w → WindowsStandFor n b p t w
windows-agree m n b p t w same h = record {
  swings = λ e. swings-agree m n b t w same (h.swings e);
  latest_along = latest-agree m.along n.along t _ _ same.along h.latest_along;
  latest_across = latest-agree m.across n.across t _ _ same.across h.latest_across;
}

keeps-agree : (m n : Signals) (b : Bounds) (t : ℕ) (d : DetectState) → AgreeUpTo t m n → KeepsRecent m b t d → KeepsRecent n b t d
unfolding KeepsRecent
keeps-agree m n b t d same h = (
  windows-agree m n b (phase_of d.stage) t d.windows same h.0,
  λ told. let rest = h.1 told in record { searching = rest.searching; still = AreStill-agree m n b t same rest.still; nothing = rest.nothing },
)

-- ---- one tick of the search
stepped-is : (m : Signals) (b : Bounds) (s : Stage) (t : ℕ) (a : Tests) → TestsAre m b s t a → stepped_search t a b (phase_of s) ≡ next_from m t b (phase_of s)
stepped-is m b stage.Searching t a is = rw (is.zero refl, is.trigger refl, is.locks) refl
stepped-is m b (stage.Open z None l None) t a is = let e = is.ends z None l refl in rw (is.trigger refl, is.locks, e) refl
stepped-is m b (stage.Open z (Some c) l None) t a is = let e = is.ends z (Some c) l refl in rw (is.locks, e) refl
stepped-is m b (stage.Open z c l (Some e)) t a is = rw is.locks refl

-- the change too
change-same : (m : Signals) (b : Bounds) (s : Stage) (t : ℕ) (a : Tests) → TestsAre m b s t a →
    stepped_change t a.zero a.trigger a.locks a.ends (phase_of s) ≡ stepped_change t (is_time_zero m b t) (is_triggered m b.since t) (is_locking m t) a.ends (phase_of s)
change-same m b stage.Searching t a is = rw (is.zero refl, is.trigger refl, is.locks) refl
change-same m b (stage.Open z None l None) t a is = rw (is.trigger refl, is.locks) refl
change-same m b (stage.Open z (Some c) l None) t a is = rw is.locks refl
change-same m b (stage.Open z c l (Some e)) t a is = rw is.locks refl

-- the bounds past the tick t, by whether it is an event's close and a dropped candidate's end
abbrev bounds_at : ℕ → Bool → Bool → Bounds → Bounds
bounds_at t closed dropped b =
    if closed then record { after = t; since = t }
    else if dropped then record { after = t; since = b.since }
    else b

nat_eq-sym : (x y : ℕ) → nat_eq x y ≡ nat_eq y x
nat_eq-sym x y = grind (arith, nat_tests)

still : (v : Bool) (b : Bounds) (x y : Search) → x.bounds ≡ b → y.bounds ≡ b → (if v then x else y).bounds ≡ b
still true b x y e f = e
still false b x y e f = f

closing : (v w : Bool) (t : ℕ) (b : Bounds) (p : Phase) → v ≡ w → (if v then record { bounds = record { after = t; since = t }; phase = Searching } else let s : Search = record { bounds = b; phase = p } in s).bounds ≡ bounds_at t w false b
closing true true t b p e = refl
closing false false t b p e = refl
closing true false t b p e = cc
closing false true t b p e = cc

ending : (t : ℕ) (b : Bounds) (z : ℕ) (now l : Option ℕ) (ends : Bool) → (next_open t b z now l ends).bounds ≡ bounds_at t (is_some now && (ends && nat_eq (close_of z t) t)) (is_none now && ends) b
ending t b z None l true = refl
ending t b z None l false = refl
ending t b z (Some x) l true = closing (nat_eq t (close_of z t)) (nat_eq (close_of z t) t) t b (Open z (Some x) l (Some t)) (nat_eq-sym t (close_of z t))
ending t b z (Some x) l false = refl

leaving : (m : Signals) (before t : ℕ) (b : Bounds) (p : Phase) (a : Tests) → PhaseIs m before b p → (stepped_search t a b p).bounds ≡ bounds_at t (stepped_change t a.zero a.trigger a.locks a.ends p).closed (stepped_change t a.zero a.trigger a.locks a.ends p).dropped b
leaving m before t b Searching a h = still a.zero b _ _ refl refl
leaving m before t b (Open z c l None) a h = ending t b z (option_or c (tick_if a.trigger t)) (option_or l (tick_if a.locks t)) a.ends
leaving m before t b (Open z (Some c) l (Some e)) a h = closing (nat_eq t (close_of z e)) (nat_eq (close_of z e) t) t b (Open z (Some c) (option_or l (tick_if a.locks t)) (Some e)) (nat_eq-sym t (close_of z e))
leaving m before t b (Open z None l (Some e)) a h = let none : Option ℕ = None in let some : IsSome none = h.4 in cc

-- an event stays open where it is not closed
stays-open : (v w : Bool) (x : Search) (b : Bounds) (z c : ℕ) (l e : Option ℕ) → v ≡ w → w ≡ false → is_event (if v then x else record { bounds = b; phase = Open z (Some c) l e }).phase ≡ false → ⊥
stays-open true w x b z c l e same closed none = cc
stays-open false w x b z c l e same closed none = cc

stays-ending : (t : ℕ) (b : Bounds) (z c : ℕ) (l : Option ℕ) (ends : Bool) → (ends && nat_eq (close_of z t) t) ≡ false → is_event (next_open t b z (Some c) l ends).phase ≡ false → ⊥
stays-ending t b z c l true closed none = stays-open (nat_eq t (close_of z t)) (nat_eq (close_of z t) t) _ b z c l (Some t) (nat_eq-sym t (close_of z t)) closed none
stays-ending t b z c l false closed none = cc

stays : (t : ℕ) (b : Bounds) (p : Phase) (a : Tests) → (stepped_change t a.zero a.trigger a.locks a.ends p).closed ≡ false → is_event (stepped_search t a b p).phase ≡ false → is_event p ≡ false
stays t b Searching a closed none = refl
stays t b (Open z None l e) a closed none = refl
stays t b (Open z (Some c) l None) a closed none = absurd (stays-ending t b z c (option_or l (tick_if a.locks t)) a.ends closed none)
stays t b (Open z (Some c) l (Some e)) a closed none =
    absurd (stays-open (nat_eq t (close_of z e)) (nat_eq (close_of z e) t) _ b z c (option_or l (tick_if a.locks t)) (Some e) (nat_eq-sym t (close_of z e)) closed none)

search_is : (x : Search) (b : Bounds) (p : Phase) → b ≡ x.bounds → p ≡ x.phase → ◌≡◌ {A = Search} (record { bounds = b; phase = p }) x
search_is x b p e f = ap (λ (y : Bounds). let s : Search = record { bounds = y; phase = p } in s) e ∙ ap (λ (q : Phase). let s : Search = record { bounds = x.bounds; phase = q } in s) f

stage_is : (s : Stage) (z : ℕ) (c l : Option ℕ) → phase_of s ≡ Open z c l None → s ≡ stage.Open z c l None
stage_is stage.Searching z c l h = cc
stage_is (stage.Open y d k x) z c l h = cc

since_past : (t : ℕ) (closed dropped : Bool) (b : Bounds) → b.since ≤ t → (bounds_at t closed dropped b).since ≤ t
since_past t true dropped b h = omega arith
since_past t false true b h = h
since_past t false false b h = h

-- ---- a tick at which nothing moves
-- no test is met
abbrev no_tests : Tests
no_tests = record { zero = false; trigger = false; locks = false; ends = false }

and_false : (v : Bool) → (v && false) ≡ false
and_false true = refl
and_false false = refl

tests-still : (m : Signals) (b : Bounds) (s : Stage) (t : ℕ) → phase_of s ≡ Searching → m.fired t ≡ 0 → AreStill m b t → TestsAre m b s t no_tests
unfolding is_triggered is_time_zero
tests-still m b s t searching fired h = record {
  zero = λ _. rw (fired, h.zero_along, h.zero_across, h.trigger_along, h.trigger_across) (sym (and_false (nat_lt b.after t)));
  trigger = λ _. rw (fired, h.trigger_along, h.trigger_across) refl;
  locks = rw fired refl;
  ends = λ z c l is. let e = ap phase_of is in cc;
}

-- ---- one tick of the detector
module _ (rows : List SignalRow) (r : SignalRow) (d e : DetectState) (u : ℕ) (a : Tests) (ans : Answer) (pushed : Windows)
    (h : DetectStandsFor d rows) (u_is : u ≡ d.tick + 1) (tick_is : e.tick ≡ u)
    (push : (m : Signals) (b : Bounds) (before : ℕ) → u ≡ before + 1 → b.after ≤ before → b.since ≤ before → BeginsAtRest m → change_at m.along u ≡ r.along → change_at m.across u ≡ r.across → WindowsStandFor m b (phase_of d.stage) before d.windows → WindowsStandFor m b (phase_of d.stage) u pushed)
    (tests : (m : Signals) (b : Bounds) (before : ℕ) → u ≡ before + 1 → b.after ≤ before → b.since ≤ before → change_at m.along u ≡ r.along → change_at m.across u ≡ r.across → m.fired u ≡ r.fired.0 → KeepsRecent m b before d → WindowsStandFor m b (phase_of d.stage) u pushed → TestsAre m b d.stage u a)
    (next : (b : Bounds) → phase_of e.stage ≡ (stepped_search u a b (phase_of d.stage)).phase)
    (told : told_of ans ≡ stepped_change u a.zero a.trigger a.locks a.ends (phase_of d.stage))
    (restart : (m : Signals) (b : Bounds) (k : ℕ) → (ans.closed ≡ false → is_event (phase_of e.stage) ≡ false → is_event (phase_of d.stage) ≡ false) → WindowsStandFor m b (phase_of d.stage) k pushed → WindowsStandFor m (bounds_past k ans b) (phase_of e.stage) k e.windows)
    (rests : (m : Signals) (b : Bounds) (before : ℕ) → u ≡ before + 1 → b.after ≤ before → b.since ≤ before → change_at m.along u ≡ r.along → change_at m.across u ≡ r.across → KeepsRecent m b before d → WindowsStandFor m b (phase_of d.stage) u pushed → IsTrue e.rests → IsAtRest m (bounds_past u ans b) u e) where
  pub tick-stands : DetectStandsFor e (rows ++ r ∷ []) × (told_of ans ≡ tick_change (signals_of_rows (rows ++ r ∷ [])) (length rows + 1))
  unfolding KeepsRecent
  tick-stands =
      let t = length rows in
      let all = rows ++ r ∷ [] in
      let n = signals_of_rows all in
      let b = h.bounds in
      let p = phase_of d.stage in
      let s : Search = record { bounds = b; phase = p } in
      let agree = rows-agree rows r in
      let now : u ≡ t + 1 = let k = h.tick_is in omega arith in
      let len : u ≡ length all = let k = length-append rows (r ∷ []) in omega (arith, k, now) in
      let row : row_at all u ≡ Some r = ap (row_at all) now ∙ row_at-last rows r in
      let past : b.after ≤ t = h.search_is.past in
      let old : KeepsRecent n b t d = keeps-agree (signals_of_rows rows) n b t d agree h.kept_are in
      let along = ap (λ (o : Option SignalRow). unwrap_or (option_map (λ (x : SignalRow). x.along) o) (pos 0)) row in
      let across = ap (λ (o : Option SignalRow). unwrap_or (option_map (λ (x : SignalRow). x.across) o) (pos 0)) row in
      let fired = ap (λ (o : Option SignalRow). option_map_or (λ (x : SignalRow). x.fired.0) o 0) row in
      let here : WindowsStandFor n b p u pushed = push n b t now past h.since_past (rows-begin all) along across old.0 in
      let are : TestsAre n b d.stage u a = tests n b t now past h.since_past along across fired old here in
      let before : StandsFor n t s = StandsFor-agree t (signals_of_rows rows) n s agree h.search_is in
      let after : StandsFor n u (next_search n u s) = subst (λ (k : ℕ). StandsFor n k (next_search n k s)) (sym now) (StandsFor-next n t s before) in
      let one : stepped_search u a b p ≡ next_search n u s = stepped-is n b d.stage u a are in
      let closed : ans.closed ≡ (stepped_change u a.zero a.trigger a.locks a.ends p).closed = ap (λ (c : Change). c.closed) told in
      let dropped : ans.dropped ≡ (stepped_change u a.zero a.trigger a.locks a.ends p).dropped = ap (λ (c : Change). c.dropped) told in
      let left : bounds_past u ans b ≡ (stepped_search u a b p).bounds =
      ap (λ (v : Bool). bounds_at u v ans.dropped b) closed
      ∙ ap (λ (v : Bool). bounds_at u (stepped_change u a.zero a.trigger a.locks a.ends p).closed v b) dropped
      ∙ sym (leaving n t u b p a before.phase_is) in
      let reached : ◌≡◌ {A = Search} (record { bounds = bounds_past u ans b; phase = phase_of e.stage }) (next_search n u s) =
      search_is (stepped_search u a b p) (bounds_past u ans b) (phase_of e.stage) left (next b) ∙ one in
      let stands : StandsFor n u (record { bounds = bounds_past u ans b; phase = phase_of e.stage }) = subst (λ (x : Search). StandsFor n u x) (sym reached) after in
      let answer : tick_change n u ≡ stepped_change u (is_time_zero n b u) (is_triggered n b.since u) (is_locking n u) a.ends p =
      subst (λ (k : ℕ). ((z : ℕ) (c l : Option ℕ) → p ≡ Open z c l None → a.ends ≡ is_end n z k) → tick_change n k ≡ stepped_change k (is_time_zero n b k) (is_triggered n b.since k) (is_locking n k) a.ends p) (sym now)
      (tick_change-is n t s a.ends before) (λ z c l is. are.ends z c l (stage_is d.stage z c l is)) in
      let same = change-same n b d.stage u a are in
      let stay : ans.closed ≡ false → is_event (phase_of e.stage) ≡ false → is_event p ≡ false =
      λ going none. stays u b p a (sym closed ∙ going) (ap is_event (sym (next b)) ∙ none) in
      let windows : WindowsStandFor n (bounds_past u ans b) (phase_of e.stage) u e.windows = restart n b u stay here in
      let since : (bounds_past u ans b).since ≤ u = since_past u ans.closed ans.dropped b (let k = h.since_past in omega arith) in (
        record {
          tick_is = tick_is ∙ len;
          bounds = bounds_past u ans b;
          since_past = subst (λ (k : ℕ). (bounds_past u ans b).since ≤ k) len since;
          search_is = subst (λ (k : ℕ). StandsFor n k (record { bounds = bounds_past u ans b; phase = phase_of e.stage })) len stands;
          kept_are = subst (λ (k : ℕ). KeepsRecent n (bounds_past u ans b) k e) len (windows, rests n b t now past h.since_past along across old here);
        },
        told ∙ same ∙ sym answer ∙ ap (tick_change n) now,
      )

-- a tick past which the search goes on as before
module _ (rows : List SignalRow) (r : SignalRow) (d : DetectState) (u : ℕ) (pushed : Windows) (rests : Bool)
    (h : DetectStandsFor d rows) (u_is : u ≡ d.tick + 1) (searching : phase_of d.stage ≡ Searching)
    (push : (m : Signals) (b : Bounds) (before : ℕ) → u ≡ before + 1 → b.after ≤ before → b.since ≤ before → BeginsAtRest m → change_at m.along u ≡ r.along → change_at m.across u ≡ r.across → WindowsStandFor m b (phase_of d.stage) before d.windows → WindowsStandFor m b (phase_of d.stage) u pushed)
    (nothing_moves : IsTrue rests → HoldNothing pushed) where
  abbrev After : Type 0
  After = DetectStandsFor (record { tick = u; stage = d.stage; windows = pushed; rests = rests }) (rows ++ r ∷ []) × (told_of nothing ≡ tick_change (signals_of_rows (rows ++ r ∷ [])) (length rows + 1))

  goes-on : (a : Tests) → a.zero ≡ false →
      ((m : Signals) (b : Bounds) (before : ℕ) → u ≡ before + 1 → b.after ≤ before → b.since ≤ before → change_at m.along u ≡ r.along → change_at m.across u ≡ r.across → m.fired u ≡ r.fired.0 → KeepsRecent m b before d → WindowsStandFor m b (phase_of d.stage) u pushed → TestsAre m b d.stage u a) →
      ((m : Signals) (b : Bounds) (before : ℕ) → u ≡ before + 1 → b.after ≤ before → b.since ≤ before → change_at m.along u ≡ r.along → change_at m.across u ≡ r.across → KeepsRecent m b before d → WindowsStandFor m b (phase_of d.stage) u pushed → IsTrue rests → AreStill m b u) → After
  goes-on a none tests still =
      tick-stands rows r d (record { tick = u; stage = d.stage; windows = pushed; rests = rests }) u a nothing pushed h u_is refl push tests
      (λ b. rw (searching, none) refl) (rw (searching, none) refl) (λ m b k stay w. w)
      (λ m b before next after since here side old now told. record { searching = searching; still = still m b before next after since here side old now told; nothing = nothing_moves told })

  -- whatever moves
  pub tick-still : (a : Tests) → a.zero ≡ false →
      ((m : Signals) (b : Bounds) (before : ℕ) → u ≡ before + 1 → b.after ≤ before → m.fired u ≡ r.fired.0 → WindowsStandFor m b (phase_of d.stage) u pushed → TestsAre m b d.stage u a) →
      (IsTrue rests → (m : Signals) (b : Bounds) (t : ℕ) → SwingsStandFor m b t pushed → AreStill m b t) → After
  tick-still a none tests still =
      goes-on a none (λ m b before next after since here side fires old now. tests m b before next after fires now)
      (λ m b before next after since here side old now told. still told m b u (now.swings (ap is_event searching)))

  -- where nothing moves and nothing fires
  pub tick-quiet : r.along ≡ pos 0 → r.across ≡ pos 0 → r.fired.0 ≡ 0 → IsTrue d.rests → After
  unfolding KeepsRecent
  tick-quiet along across fired told =
      let next_still = λ (m : Signals) (b : Bounds) (before : ℕ) (next : u ≡ before + 1) (after : b.after ≤ before) (since : b.since ≤ before) (here : change_at m.along u ≡ r.along) (side : change_at m.across u ≡ r.across) (old : KeepsRecent m b before d).
      AreStill-next m b before u next after since (here ∙ along) (side ∙ across) (old.1 told).still in
      goes-on no_tests refl
      (λ m b before next after since here side fires old now. tests-still m b d.stage u searching (fires ∙ fired) (next_still m b before next after since here side old))
      (λ m b before next after since here side old now _. next_still m b before next after since here side old)

-- a detector that doesn't rest says so
pub never-rests : IsTrue false → ⊥
never-rests told = cc

-- what a detector that rests keeps
pub at-rest : (d : DetectState) (rows : List SignalRow) → DetectStandsFor d rows → IsTrue d.rests → (phase_of d.stage ≡ Searching) × HoldNothing d.windows
unfolding KeepsRecent
at-rest d rows h told = let rest = h.kept_are.1 told in (rest.searching, rest.nothing)

-- before the first tick
pub start-stands : (d : DetectState) → d.tick ≡ 0 → phase_of d.stage ≡ Searching → d.rests ≡ false → ((m : Signals) → BeginsAtRest m → WindowsStandFor m at_start Searching 0 d.windows) → DetectStandsFor d []
unfolding KeepsRecent
start-stands d none searching moves windows = record {
  tick_is = none;
  bounds = at_start;
  since_past = omega arith;
  search_is = subst (λ (p : Phase). StandsFor (signals_of_rows []) 0 (record { bounds = at_start; phase = p })) (sym searching) (StandsFor-start (signals_of_rows []));
  kept_are = (subst (λ (p : Phase). WindowsStandFor (signals_of_rows []) at_start p 0 d.windows) (sym searching) (windows (signals_of_rows []) (rows-begin [])), λ told. absurd (let e : true ≡ false = sym told ∙ moves in cc));
}
