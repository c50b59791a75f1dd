-- The start of a split core, one more item, and one more part.
use Rattle.std.proofs.Common.{arith, refl, ap, sym, subst, ◌≡◌, ◌∙◌, ℕ, ◌+◌, ◌≤◌, Bool, true, false, cond, Some, None, Option, List, [], ◌∷◌, ◌++◌}
use Rattle.std.specs.Prelude.{is_some, All}
use Rattle.std.proofs.lemmas.List.Elements.{All-nil, All-cons, All-tail}
use Rattle.edr_items.specs.declared.TheConstants.{LONGEST_GAP}
use Rattle.edr_items.specs.declared.Sensor.{Sensor}
use Rattle.edr_items.specs.declared.Sensor.TheVariants.{Along}
use Rattle.edr_items.specs.declared.Item.{Item}
use Rattle.edr_items.specs.Item.{refusal_of, mark_of}
use Rattle.edr_items.specs.SensorLists.{SensorLists, no_items, items_of, AreFeeds, horizon_of}
use Rattle.edr_items.proofs.FeedLemmas.{IsFeedAfter-within}
use Rattle.edr_record.specs.declared.Place.{Place}
use Rattle.edr_record.specs.declared.Place.TheVariants.{First}
use Rattle.edr_record.specs.Parts.{PrePart}
use Rattle.edr_definitions.specs.Signals.{Signals, signals_of}
use Rattle.edr_definitions.specs.Selection.{at_start}
use Rattle.edr_definitions.specs.Search.{Searching}
use Rattle.edr_definitions.specs.Facts.{AgreeUpTo}
use Rattle.edr_definitions.specs.Schedule.{Progress, Give, Close, IsAllowed, after_step, with_item}
use Rattle.edr_definitions.specs.Parts.{pre_part}
use Rattle.edr_definitions.specs.OpenCrash.{OpenCrash, begin_crash}
use Rattle.edr_definitions.specs.Core.{CoreState}
use Rattle.edr_definitions.proofs.AgreeLaws.{SameTests-agree}
use Rattle.edr_definitions.proofs.TestLaws.{tick_change-tests}
use Rattle.edr_definitions.proofs.WholeLaws.{whole-start, whole-accept}
use Rattle.edr_definitions.proofs.KeepLaws.{accepted-later}
use Rattle.edr_definitions.proofs.LaterLaws.{GiveTheSameUpTo-push}
use Rattle.edr_definitions.proofs.MarkLaws.{horizon-least, with_items-each, mark-push}
use Rattle.edr_capture.specs.SensorPart.{SensorPart}
use Rattle.edr_merge.specs.State.{MergeState}
use Rattle.edr_merge.specs.StandsFor.{MergeStandsFor}
use Rattle.edr_detect.specs.Detected.{DetectState, DetectStandsFor}
use Rattle.edr_core.specs.declared.candidate.Candidate.{Candidate}
use Rattle.edr_core.specs.declared.ask.OpenAsk.{OpenAsk}
use Rattle.edr_core.specs.Rows.{RowIs, rows_of}
use Rattle.edr_core.specs.Ask.{with_part}
use Rattle.edr_core.specs.SplitHistory.{History, start_of, after_item, after_part}
use Rattle.edr_core.specs.SplitContents.{SplitContents}
use Rattle.edr_core.specs.SplitStandsFor.{IsMadeOf, HoldsCandidateWith, AskIs, HoldsAsk, merge_progress, SplitCoreStandsFor}
use Rattle.edr_core.proofs.RowLemmas.{rows_of-agree}
use Rattle.edr_core.proofs.TakenLemmas.{one-taken}

-- ---- how far the merge has come
merged-closed : (w : History) (b : Bool) → w.asking ≡ b → (merge_progress w).closed ≡ cond {A = ℕ} b (w.past.closed + 1) w.past.closed
merged-closed w true is = ap (λ (v : Bool). (cond {A = Progress} v (after_step w.past Close) w.past).closed) is
merged-closed w false is = ap (λ (v : Bool). (cond {A = Progress} v (after_step w.past Close) w.past).closed) is

pub merged-given : (w : History) → (merge_progress w).given ≡ w.past.given
merged-given w = by w.asking where
  by : (b : Bool) → (cond {A = Progress} b (after_step w.past Close) w.past).given ≡ w.past.given
  by true = refl
  by false = refl

pub merged-free : (w : History) → w.asking ≡ false → merge_progress w ≡ w.past
merged-free w is = ap (λ (v : Bool). cond {A = Progress} v (after_step w.past Close) w.past) is

pub merged-asking : (w : History) → w.asking ≡ true → merge_progress w ≡ after_step w.past Close
merged-asking w is = ap (λ (v : Bool). cond {A = Progress} v (after_step w.past Close) w.past) is

merged-gives : (w : History) (s : Sensor) (x : Item) → after_step (merge_progress w) (Give s x) ≡ merge_progress (after_item s x w)
merged-gives w s x = by w.asking where
  by : (b : Bool) → after_step (cond {A = Progress} b (after_step w.past Close) w.past) (Give s x) ≡ cond {A = Progress} b (after_step (after_step w.past (Give s x)) Close) (after_step w.past (Give s x))
  by true = refl
  by false = refl

pub feeds-of : (c : SplitContents) (w : History) → SplitCoreStandsFor c w → AreFeeds w.past.given
feeds-of c w h = subst AreFeeds (merged-given w) h.merge_is.feeds

pub within-merged : (c : SplitContents) (w : History) → SplitCoreStandsFor c w → (merge_progress w).closed ≤ horizon_of w.past.given
within-merged c w h = subst (λ f. (merge_progress w).closed ≤ horizon_of f) (merged-given w) h.merge_is.within

-- no tick past a cycle is closed
pub closed-early : (c : SplitContents) (w : History) → SplitCoreStandsFor c w → c.closed ≤ 86_400_000
closed-early c w h =
    let low = horizon-least w.past.given Along in
    let high = IsFeedAfter-within Along 0 w.past.given.along (omega arith) (feeds-of c w h Along) in
    let is = h.closed_is in
    let within = h.whole_is.core_is.within in
    omega (arith, low, high, is, within)

-- ---- whether it asks
pub asks-not : (c : SplitContents) (w : History) → SplitCoreStandsFor c w → is_some c.ask ≡ false → w.asking ≡ false
asks-not c w h none = by c.ask refl none where
  by : (o : Option OpenAsk) → c.ask ≡ o → is_some o ≡ false → w.asking ≡ false
  by None is e = subst (λ (x : Option OpenAsk). HoldsAsk x w) is h.ask_is
  by (Some a) is e = cc

pub no-ask : (o : Option OpenAsk) → is_some o ≡ false → o ≡ None
no-ask None e = refl
no-ask (Some a) e = cc

pub merge-free : (c : SplitContents) (w : History) → SplitCoreStandsFor c w → is_some c.ask ≡ false → MergeStandsFor c.merge w.past
merge-free c w h none = subst (λ (p : Progress). MergeStandsFor c.merge p) (merged-free w (asks-not c w h none)) h.merge_is

pub asked-is : (c : SplitContents) (w : History) (a : OpenAsk) → SplitCoreStandsFor c w → c.ask ≡ Some a → AskIs a w
asked-is c w a h is = subst (λ (x : Option OpenAsk). HoldsAsk x w) is h.ask_is

-- ---- the start
pub split-starts : (n : ℕ) (m : MergeState) (d : DetectState) (link : Option (Place × ℕ)) → 1 ≤ n → n ≤ 4_294_967_295 → MergeStandsFor m (record { given = no_items; closed = 0 }) → DetectStandsFor d [] → link ≡ None → SplitCoreStandsFor (record { cycle = n; closed = 0; merge = m; detect = d; link = link; candidate = None; ask = None }) (start_of n)
split-starts n m d link from to merge_is detected linked =
    let kept : CoreState = record { frozen = pre_part no_items n First 0; ended = 0; linked = None } in
    record {
      cycle_is = refl;
      cycle_from = from;
      cycle_to = to;
      closed_is = refl;
      near = merge_is.near;
      merge_is = merge_is;
      detect_is = detected;
      search = record { bounds = at_start; phase = Searching };
      kept = kept;
      crash = begin_crash 0 0;
      whole_is = whole-start no_items n kept (begin_crash 0 0) refl;
      link_is = linked;
      open_is = refl;
      candidate_is = tt;
      ask_is = refl;
      early = All-nil (λ q. q.zero ≤ 0);
    }

-- ---- one more item
-- what the merge allows is allowed by the closed tick too, if the item is near enough while the split core asks
pub allowed-past : (c : SplitContents) (w : History) (s : Sensor) (x : Item) → SplitCoreStandsFor c w → (is_some c.ask ≡ true → x.moment ≤ c.closed + 1000) → IsAllowed (Give s x) (merge_progress w) → IsAllowed (Give s x) w.past
allowed-past c w s x h near allowed = by c.ask refl where
  refusal : refusal_of s (mark_of (items_of s w.past.given)) x ≡ None
  refusal = subst (λ f. refusal_of s (mark_of (items_of s f)) x ≡ None) (merged-given w) allowed.0

  by : (o : Option OpenAsk) → c.ask ≡ o → IsAllowed (Give s x) w.past
  by None is =
      let free = asks-not c w h (ap (λ (a : Option OpenAsk). is_some a) is) in
      subst (λ (p : Progress). IsAllowed (Give s x) p) (merged-free w free) allowed
  by (Some a) is =
      let low = near (ap (λ (o : Option OpenAsk). is_some o) is) in
      let closed = h.closed_is in
      (refusal, omega (arith, low, closed))

-- the marks stay near, by a limit that holds without the item
near-given : (s : Sensor) (x : Item) (f : SensorLists) (t : ℕ) → x.moment ≤ t + LONGEST_GAP → ((r : Sensor) → mark_of (items_of r f) ≤ t + LONGEST_GAP) → (r : Sensor) → mark_of (items_of r (with_item s x f)) ≤ t + LONGEST_GAP
near-given s x f t item near r =
    with_items-each (λ q xs. mark_of xs ≤ t + LONGEST_GAP) s (items_of s f ++ x ∷ []) f
    (let is = mark-push 0 (items_of s f) x in omega (arith, is, item)) near r

row-agrees : (m m' : Signals) (t : ℕ) (a : OpenAsk) → AgreeUpTo t m m' → RowIs m t a.row → RowIs m' t a.row
row-agrees m m' t a same row = record {
  along = row.along ∙ same.along t (omega arith);
  across = row.across ∙ same.across t (omega arith);
  fired = row.fired ∙ same.fired t (omega arith);
}

module _ (c : SplitContents) (w : History) (s : Sensor) (x : Item) (merge : MergeState) (h : SplitCoreStandsFor c w) (allowed : IsAllowed (Give s x) w.past) (merge_is : MergeStandsFor merge (after_step (merge_progress w) (Give s x))) where
  abbrev f : SensorLists
  f = w.past.given

  abbrev g : SensorLists
  g = with_item s x f

  later : (merge_progress w).closed ≤ horizon_of f → AgreeUpTo (merge_progress w).closed (signals_of f) (signals_of g)
  later within = (GiveTheSameUpTo-push s f x (merge_progress w).closed (accepted-later f (merge_progress w).closed s x within allowed.0)).signals

  ask-gives : (o : Option OpenAsk) → HoldsAsk o w → HoldsAsk o (after_item s x w)
  ask-gives None free = free
  ask-gives (Some a) is =
      let t = w.past.closed in
      let closed : (merge_progress w).closed ≡ t + 1 = ap (λ (p : Progress). p.closed) (merged-asking w is.asking) in
      let same : AgreeUpTo (t + 1) (signals_of f) (signals_of g) = subst (λ u. AgreeUpTo u (signals_of f) (signals_of g)) closed (later (within-merged c w h)) in
      record {
        asking = is.asking;
        row = row-agrees (signals_of f) (signals_of g) (t + 1) a same is.row;
        change = is.change ∙ tick_change-tests t (signals_of f) (signals_of g) h.search (SameTests-agree (t + 1) (signals_of f) (signals_of g) same) h.whole_is.core_is.search_is;
        zero = is.zero;
        parts = is.parts;
      }

  pub split-gives : SplitCoreStandsFor (record c { merge = merge }) (after_item s x w)
  split-gives =
      let closed : (merge_progress (after_item s x w)).closed ≡ (merge_progress w).closed = ap (λ (p : Progress). p.closed) (sym (merged-gives w s x)) in
      let rows = rows_of-agree (merge_progress w).closed (signals_of f) (signals_of g) (later (within-merged c w h)) in
      record {
        cycle_is = h.cycle_is;
        cycle_from = h.cycle_from;
        cycle_to = h.cycle_to;
        closed_is = h.closed_is;
        near = near-given s x f w.past.closed allowed.1 h.near;
        merge_is = subst (λ p. MergeStandsFor merge p) (merged-gives w s x) merge_is;
        detect_is = subst (λ u. DetectStandsFor c.detect (rows_of (signals_of g) u)) (sym closed) (subst (λ rows. DetectStandsFor c.detect rows) rows h.detect_is);
        search = h.search;
        kept = h.kept;
        crash = h.crash;
        whole_is = whole-accept f w.cycle w.past.closed h.search h.kept h.crash s x allowed.0 h.whole_is;
        link_is = h.link_is;
        open_is = h.open_is;
        candidate_is = h.candidate_is;
        ask_is = ask-gives c.ask h.ask_is;
        early = subst (λ u. All (λ q. q.zero ≤ u) w.parts) (sym closed) h.early;
      }

-- ---- one more part
more-made : (q : SensorPart) (parts : List SensorPart) (x y : PrePart) → IsMadeOf parts x y → IsMadeOf (q ∷ parts) x y
more-made q parts x y h = record { key_is = h.key_is; place_is = h.place_is; made = λ slots are. h.made slots (All-tail (λ y. slots y.sensor y.zero ≡ y.slots) q parts are) }

holds-more : (q : SensorPart) (parts : List SensorPart) (o : Option Candidate) (k : CoreState) (crash : OpenCrash) → HoldsCandidateWith parts o k crash → HoldsCandidateWith (q ∷ parts) o k crash
holds-more q parts None k crash h = tt
holds-more q parts (Some o) k crash h = (more-made q parts k.frozen o.pre h.0, h.1, h.2)

pub split-takes : (c : SplitContents) (w : History) (a : OpenAsk) (q : SensorPart) → SplitCoreStandsFor c w → c.ask ≡ Some a → q.zero ≡ w.past.closed + 1 → SplitCoreStandsFor (record c { ask = Some (record a { parts = with_part q a.parts }) }) (after_part q w)
split-takes c w a q h is zero =
    let asked = asked-is c w a h is in
    let closed : (merge_progress w).closed ≡ w.past.closed + 1 = ap (λ (p : Progress). p.closed) (merged-asking w asked.asking) in
    record {
      cycle_is = h.cycle_is;
      cycle_from = h.cycle_from;
      cycle_to = h.cycle_to;
      closed_is = h.closed_is;
      near = h.near;
      merge_is = h.merge_is;
      detect_is = h.detect_is;
      search = h.search;
      kept = h.kept;
      crash = h.crash;
      whole_is = h.whole_is;
      link_is = h.link_is;
      open_is = h.open_is;
      candidate_is = holds-more q w.parts c.candidate h.kept h.crash h.candidate_is;
      ask_is = record {
        asking = asked.asking;
        row = asked.row;
        change = asked.change;
        zero = asked.zero;
        parts = one-taken a.parts w.parts q (w.past.closed + 1) zero asked.parts;
      };
      early = All-cons (λ y. y.zero ≤ (merge_progress w).closed) q w.parts (omega (arith, zero, closed)) h.early;
    }
