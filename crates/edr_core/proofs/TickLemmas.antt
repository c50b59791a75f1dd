-- What the next tick does with the open candidate of a split core is what the definitions say, but for the slots of its pre part.
use Rattle.std.proofs.Common.{arith, refl, ap, sym, subst, ◌≡◌, ◌∙◌, ℕ, ◌+◌, Bool, true, false, cond, ◌&&◌, ◌||◌, not, Some, None, Option, ◌-◌, ◌<◌, ◌≤◌, List, [], ◌∷◌, ◌++◌, map}
use Rattle.std.specs.Prelude.{is_some, option_map, All}
use Rattle.std.specs.Option.{ForSome}
use Rattle.std.proofs.lemmas.List.{map-append}
use Rattle.edr_items.specs.SensorLists.{SensorLists}
use Rattle.edr_record.specs.declared.Place.{Place}
use Rattle.edr_record.specs.declared.Command.{Command}
use Rattle.edr_record.specs.Parts.{PrePart, CrashPart}
use Rattle.edr_definitions.specs.Signals.{Signals, signals_of}
use Rattle.edr_definitions.specs.Parts.{pre_part}
use Rattle.edr_definitions.specs.Commands.{place_of, issue_at, issues, commands}
use Rattle.edr_definitions.specs.Search.{Phase, Searching, Open, Search, next_search, StandsFor}
use Rattle.edr_definitions.specs.Change.{Change, tick_change}
use Rattle.edr_definitions.specs.OpenCrash.{OpenCrash, crash_at, begin_crash, next_crash, finish_crash}
use Rattle.edr_definitions.specs.Schedule.{Progress, Close, after_step}
use Rattle.edr_definitions.specs.Selection.{close_of}
use Rattle.edr_definitions.specs.Core.{CoreState, TickIssues, when, is_open, no_change, pre_after, core_after, part_after, issues_at, commands_of, IsPreOfZero, IsTold, PartIs, WholeCoreStandsFor}
use Rattle.edr_definitions.proofs.OpenLaws.{is_open-next, zero-open, nothing-searching}
use Rattle.edr_definitions.proofs.OrderLaws.{issues-added}
use Rattle.edr_definitions.proofs.WholeLaws.{whole-stands, whole-issues, whole-searching}
use Rattle.edr_definitions.proofs.KeepLaws.{core-open}
use Rattle.edr_definitions.proofs.CoreLaws.{core-closes, core-past}
use Rattle.edr_capture.specs.SensorPart.{SensorPart}
use Rattle.edr_link.specs.Link.{IsPast}
use Rattle.edr_merge.specs.StandsFor.{MergeStandsFor}
use Rattle.edr_detect.specs.Detected.{DetectStandsFor}
use Rattle.edr_core.specs.Rows.{RowIs, rows_of}
use Rattle.edr_core.specs.declared.candidate.Candidate.{Candidate}
use Rattle.edr_core.specs.declared.candidate.Issued.{Issued}
use Rattle.edr_core.specs.declared.candidate.TickRow.{TickRow as Given}
use Rattle.edr_core.specs.Candidate.{begun_candidate, grown_candidate, grown_or_begun, told_candidate, candidate_after, link_after, issued_after, issues_in, IsShort, CanBeTold}
use Rattle.edr_core.specs.Parts.{PartSlots, AreSlotsOf, with_parts, command_with, commands_with, issue_with, issues_with}
use Rattle.edr_core.specs.SplitHistory.{History}
use Rattle.edr_core.specs.SplitContents.{SplitContents}
use Rattle.edr_core.specs.SplitStandsFor.{IsMadeOf, HoldsCandidateWith, HoldsAsk, SplitCoreStandsFor}

zero-is : (f : SensorLists) (n z : ℕ) (pre : PrePart) → IsPreOfZero f n z pre → pre.key.zero ≡ z
unfolding pre_part
zero-is f n z pre is = ap (λ (x : PrePart). x.key.zero) is

grow_same : (m : Signals) (t : ℕ) (r : Given) (q q' : OpenCrash) → RowIs m t r → q ≡ q' → next_crash q r.along r.across r.fired.0 ≡ next_crash q' (m.along t) (m.across t) (m.fired t)
grow_same m t r q q' row e = let a = row.along in let b = row.across in let d = row.fired in cc

-- ---- pre parts and what is issued of them, with slots put in
-- a confirmation puts the same place into both
placed : (v : Bool) (parts : List SensorPart) (l l' : Option (Place × ℕ)) (x y : PrePart) → l ≡ l' → IsMadeOf parts x y → IsMadeOf parts (cond v (record x { place = place_of l' x.key.zero }) x) (cond v (record y { place = place_of l y.key.zero }) y)
placed false parts l l' x y same h = h
placed true parts l l' x y same h = record {
  key_is = h.key_is;
  place_is = ap (λ (k : Option (Place × ℕ)). place_of k y.key.zero) same ∙ ap (λ k. place_of l' k.zero) h.key_is;
  made = λ slots are.
      ap (λ (z : PrePart). let w : PrePart = record z { place = place_of l z.key.zero } in w) (h.made slots are)
      ∙ ap (λ (k : Option (Place × ℕ)). let w : PrePart = record (with_parts slots x) { place = place_of k x.key.zero } in w) same;
}

-- what is issued, with the slots
abbrev pub issues_made : PartSlots → TickIssues → TickIssues
issues_made slots i = record { take = option_map (with_parts slots) i.take; lock = option_map (with_parts slots) i.lock; done = i.done }

when-made : (slots : PartSlots) (b : Bool) (x : PrePart) → when b (with_parts slots x) ≡ option_map (with_parts slots) (when b x)
when-made slots true x = refl
when-made slots false x = refl

commands_made : (slots : PartSlots) (a b : Option PrePart) (d : Option CrashPart) → map (command_with slots) (commands_of (record { take = a; lock = b; done = d })) ≡ commands_of (issues_made slots (record { take = a; lock = b; done = d }))
commands_made slots None None None = refl
commands_made slots None None (Some d) = refl
commands_made slots None (Some b) None = refl
commands_made slots None (Some b) (Some d) = refl
commands_made slots (Some a) None None = refl
commands_made slots (Some a) None (Some d) = refl
commands_made slots (Some a) (Some b) None = refl
commands_made slots (Some a) (Some b) (Some d) = refl

issued_made : (slots : PartSlots) (t : ℕ) (cs : List Command) → map (issue_with slots) (map (issue_at t) cs) ≡ map (issue_at t) (map (command_with slots) cs)
issued_made slots t [] = refl
issued_made slots t (c ∷ cs) = ap (λ xs. issue_with slots (issue_at t c) ∷ xs) (issued_made slots t cs)

-- one tick of a split core, from c to c', that was told w: the candidate, once it has grown or begun, is told what stands there,
-- and i is issued; the pre part `made` has the slots that were taken, and `pre` those of the definition
module _ (c c' : SplitContents) (w : History) (change : Change) (pre made : PrePart) (r : Given) (i : Issued) where
  abbrev p : Progress
  p = w.past

  abbrev n : ℕ
  n = w.cycle

  abbrev m : Signals
  m = signals_of p.given

  abbrev t : ℕ
  t = p.closed

  abbrev ps : List SensorPart
  ps = w.parts

  -- what the code did with the open candidate
  abbrev pub Did : Option Candidate → Type 0
  Did o = (c'.candidate ≡ candidate_after (t + 1) change c.link o) × (c'.link ≡ link_after (t + 1) change c.link o) × (i ≡ issued_after (t + 1) change c.link o)

  -- what holds of the open candidate past the tick
  record Past (s : Search) (k : CoreState) (q : OpenCrash) : Type 0 where
    pub link_past : c'.link ≡ (core_after (t + 1) change pre k).linked
    pub open_past : is_some c'.candidate ≡ is_open (next_search m (t + 1) s).phase
    pub holds_past : HoldsCandidateWith ps c'.candidate (core_after (t + 1) change pre k) (part_after m (t + 1) change q)
    pub issues_past : (slots : PartSlots) → AreSlotsOf ps slots → issues_in i ≡ issues_made slots (issues_at change pre (finish_crash (part_after m (t + 1) change q) (core_after (t + 1) change pre k).ended) k)

  module _ (change_is : change ≡ tick_change m (t + 1)) where
    some_left : (v : Bool) (o : Candidate) → is_some (cond {A = Option Candidate} v None (Some o)) ≡ not v
    some_left true o = refl
    some_left false o = refl

    holds_left : (v : Bool) (o : Candidate) (k : CoreState) (q : OpenCrash) → IsMadeOf ps k.frozen o.pre → o.end ≡ k.ended → o.crash ≡ q → HoldsCandidateWith ps (cond {A = Option Candidate} v None (Some o)) k q
    holds_left true o k q a b d = tt
    holds_left false o k q a b d = (a, b, d)

    -- a candidate is open at the tick
    past_some : (s : Search) (k : CoreState) (q : OpenCrash) (o : Candidate) → StandsFor m t s → c.link ≡ k.linked → IsMadeOf ps (cond change.zero pre k.frozen) o.pre → o.end ≡ k.ended → o.crash ≡ part_after m (t + 1) change q → (change.zero || is_open s.phase) ≡ true → Did (Some o) → Past s k q
    past_some s k q o stands link pre_is ended part opened did =
        let o' = told_candidate (t + 1) change c.link o in
        let k' = core_after (t + 1) change pre k in
        let q' = part_after m (t + 1) change q in
        let pre' : IsMadeOf ps k'.frozen o'.pre = placed change.confirmed ps c.link k.linked (cond change.zero pre k.frozen) o.pre link pre_is in
        let ended' : o'.end ≡ k'.ended = ap (λ (e : ℕ). cond {A = ℕ} change.ended (t + 1) e) ended in
        let L = λ (x : Place) (z : ℕ) (l : Option (Place × ℕ)). cond {A = Option (Place × ℕ)} change.confirmed (Some (x, z)) l in
        record {
          link_past =
              did.1 ∙ ap (λ (x : Place). L x o'.pre.key.zero c.link) pre'.place_is ∙ ap (λ z. L k'.frozen.place z.zero c.link) pre'.key_is
              ∙ ap (λ (l : Option (Place × ℕ)). L k'.frozen.place k'.frozen.key.zero l) link;
          open_past =
              ap (λ (x : Option Candidate). is_some x) did.0 ∙ some_left (change.dropped || change.closed) o'
              ∙ ap (λ (v : Bool). v && not (change.dropped || change.closed)) (sym opened)
              ∙ ap (λ (x : Change). (x.zero || is_open s.phase) && not (x.dropped || x.closed)) change_is
              ∙ sym (is_open-next m t s stands);
          holds_past = subst (λ (x : Option Candidate). HoldsCandidateWith ps x k' q') (sym did.0) (holds_left (change.dropped || change.closed) o' k' q' pre' ended' part);
          issues_past = λ slots are.
              ap issues_in did.2
              ∙ ap (λ (x : PrePart). let y : TickIssues = record { take = when change.confirmed x; lock = when change.locked x; done = when change.closed (finish_crash o'.crash o'.end) } in y) (pre'.made slots are)
              ∙ ap (λ (x : Option PrePart). let y : TickIssues = record { take = x; lock = when change.locked (with_parts slots k'.frozen); done = when change.closed (finish_crash o'.crash o'.end) } in y) (when-made slots change.confirmed k'.frozen)
              ∙ ap (λ (x : Option PrePart). let y : TickIssues = record { take = option_map (with_parts slots) (when change.confirmed k'.frozen); lock = x; done = when change.closed (finish_crash o'.crash o'.end) } in y) (when-made slots change.locked k'.frozen)
              ∙ ap (λ (x : OpenCrash). issues_made slots (record { take = when change.confirmed k'.frozen; lock = when change.locked k'.frozen; done = when change.closed (finish_crash x o'.end) })) part
              ∙ ap (λ (e : ℕ). issues_made slots (record { take = when change.confirmed k'.frozen; lock = when change.locked k'.frozen; done = when change.closed (finish_crash q' e) })) ended';
        }

    -- none is
    past_none : (s : Search) (k : CoreState) (q : OpenCrash) → StandsFor m t s → c.link ≡ k.linked → is_open s.phase ≡ false → change ≡ no_change → Did None → Past s k q
    past_none s k q stands link closed nothing did = record {
      link_past = did.1 ∙ link ∙ ap (λ (x : Change). (core_after (t + 1) x pre k).linked) (sym nothing);
      open_past =
          ap (λ (x : Option Candidate). is_some x) did.0
          ∙ ap (λ (v : Bool). (false || v) && true) (sym closed)
          ∙ ap (λ (x : Change). (x.zero || is_open s.phase) && not (x.dropped || x.closed)) (sym nothing ∙ change_is)
          ∙ sym (is_open-next m t s stands);
      holds_past = subst (λ (x : Option Candidate). HoldsCandidateWith ps x (core_after (t + 1) change pre k) (part_after m (t + 1) change q)) (sym did.0) tt;
      issues_past = λ slots are.
          ap issues_in did.2 ∙ ap (λ (x : Change). issues_made slots (issues_at x pre (finish_crash (part_after m (t + 1) change q) (core_after (t + 1) change pre k).ended) k)) (sym nothing);
    }

  -- before the tick, with what is kept of no candidate made to fit the one that begins
  pub record Fit (h : SplitCoreStandsFor c w) : Type 0 where
    pub kept : CoreState
    pub crash : OpenCrash
    pub whole_is : WholeCoreStandsFor w.past.given w.cycle w.past.closed h.search kept crash
    pub link_is : c.link ≡ kept.linked
    pub open_is : (o : Candidate) → grown_or_begun change made r c.candidate ≡ Some o → IsMadeOf w.parts (cond change.zero pre kept.frozen) o.pre × (o.end ≡ kept.ended) × (o.crash ≡ part_after (signals_of w.past.given) (w.past.closed + 1) change crash) × ((change.zero || is_open h.search.phase) ≡ true)
    pub none_is : grown_or_begun change made r c.candidate ≡ None → (is_open h.search.phase ≡ false) × (change ≡ no_change)

  module _ (h : SplitCoreStandsFor c w) (change_is : change ≡ tick_change (signals_of w.past.given) (w.past.closed + 1)) (row : RowIs (signals_of w.past.given) (w.past.closed + 1) r) (pre_is : change.zero ≡ true → IsPreOfZero w.past.given w.cycle (w.past.closed + 1) pre) (made_is : change.zero ≡ true → IsMadeOf w.parts pre made) where
    stands : StandsFor m t h.search
    stands = h.whole_is.core_is.search_is

    same_candidate : (x y : Candidate) → ◌≡◌ {A = Option Candidate} (Some x) (Some y) → x ≡ y
    same_candidate x y e = cc

    made_zero : change.zero ≡ true → made.key.zero ≡ t + 1
    made_zero zero = ap (λ k. k.zero) (made_is zero).key_is ∙ zero-is p.given n (t + 1) pre (pre_is zero)

    by_open : (o : Option Candidate) → c.candidate ≡ o → Fit h
    by_open (Some o) is =
        let opened : is_open h.search.phase ≡ true = sym h.open_is ∙ ap (λ (x : Option Candidate). is_some x) is in
        let no_zero : change.zero ≡ false = ap (λ (x : Change). x.zero) change_is ∙ zero-open m t h.search stands opened in
        let held : HoldsCandidateWith ps (Some o) h.kept h.crash = subst (λ (x : Option Candidate). HoldsCandidateWith ps x h.kept h.crash) is h.candidate_is in
        let grown_is : grown_or_begun change made r c.candidate ≡ Some (grown_candidate r o) =
        ap (λ (x : Option Candidate). grown_or_begun change made r x) is ∙ ap (λ (v : Bool). cond {A = Option Candidate} v (Some (begun_candidate made r)) (Some (grown_candidate r o))) no_zero in
        let part_is : (grown_candidate r o).crash ≡ part_after m (t + 1) change h.crash =
        grow_same m (t + 1) r o.crash h.crash row held.2
        ∙ ap (λ (v : Bool). cond {A = OpenCrash} v (begin_crash (t + 1) (m.fired (t + 1))) (next_crash h.crash (m.along (t + 1)) (m.across (t + 1)) (m.fired (t + 1)))) (sym no_zero) in
        let frozen_is : IsMadeOf ps (cond change.zero pre h.kept.frozen) o.pre = subst (λ (v : Bool). IsMadeOf ps (cond {A = PrePart} v pre h.kept.frozen) o.pre) (sym no_zero) held.0 in
        let both : (change.zero || is_open h.search.phase) ≡ true = ap (λ (v : Bool). v || is_open h.search.phase) no_zero ∙ opened in
        record {
          kept = h.kept;
          crash = h.crash;
          whole_is = h.whole_is;
          link_is = h.link_is;
          open_is = λ x e.
              let one : grown_candidate r o ≡ x = same_candidate (grown_candidate r o) x (sym grown_is ∙ e) in
              subst (λ (y : Candidate). IsMadeOf ps (cond change.zero pre h.kept.frozen) y.pre × (y.end ≡ h.kept.ended) × (y.crash ≡ part_after m (t + 1) change h.crash) × ((change.zero || is_open h.search.phase) ≡ true)) one (frozen_is, held.1, part_is, both);
          none_is = λ e. let no : ◌≡◌ {A = Option Candidate} (Some (grown_candidate r o)) None = sym grown_is ∙ e in cc;
        }
    by_open None is = by_zero change.zero refl where
      closed_then : is_open h.search.phase ≡ false
      closed_then = sym h.open_is ∙ ap (λ (x : Option Candidate). is_some x) is

      by_zero : (v : Bool) → change.zero ≡ v → Fit h
      by_zero true zero =
          let o = begun_candidate made r in
          let j : CoreState = record h.kept { ended = o.end } in
          let at : made.key.zero ≡ t + 1 = made_zero zero in
          let grown_is : grown_or_begun change made r c.candidate ≡ Some o =
          ap (λ (x : Option Candidate). grown_or_begun change made r x) is ∙ ap (λ (v : Bool). cond {A = Option Candidate} v (Some o) None) zero in
          let part_is : o.crash ≡ part_after m (t + 1) change h.crash =
          ap (λ z. begin_crash z r.fired.0) at ∙ ap (λ x. begin_crash (t + 1) x) row.fired
          ∙ ap (λ (v : Bool). cond {A = OpenCrash} v (begin_crash (t + 1) (m.fired (t + 1))) (next_crash h.crash (m.along (t + 1)) (m.across (t + 1)) (m.fired (t + 1)))) (sym zero) in
          let frozen_is : IsMadeOf ps (cond change.zero pre j.frozen) o.pre = subst (λ (v : Bool). IsMadeOf ps (cond {A = PrePart} v pre j.frozen) made) (sym zero) (made_is zero) in
          let both : (change.zero || is_open h.search.phase) ≡ true = ap (λ (v : Bool). v || is_open h.search.phase) zero in
          record {
            kept = j;
            crash = h.crash;
            whole_is = whole-searching p.given n t h.search h.kept j h.crash h.crash h.whole_is closed_then refl;
            link_is = h.link_is;
            open_is = λ x e.
                let one : o ≡ x = same_candidate o x (sym grown_is ∙ e) in
                subst (λ (y : Candidate). IsMadeOf ps (cond change.zero pre j.frozen) y.pre × (y.end ≡ j.ended) × (y.crash ≡ part_after m (t + 1) change h.crash) × ((change.zero || is_open h.search.phase) ≡ true)) one (frozen_is, refl, part_is, both);
            none_is = λ e. let no : ◌≡◌ {A = Option Candidate} (Some o) None = sym grown_is ∙ e in cc;
          }
      by_zero false zero =
          let nothing : change ≡ no_change = change_is ∙ nothing-searching m t h.search stands closed_then (ap (λ (x : Change). x.zero) (sym change_is) ∙ zero) in
          let grown_is : grown_or_begun change made r c.candidate ≡ None =
          ap (λ (x : Option Candidate). grown_or_begun change made r x) is ∙ ap (λ (v : Bool). cond {A = Option Candidate} v (Some (begun_candidate made r)) None) zero in
          record {
            kept = h.kept;
            crash = h.crash;
            whole_is = h.whole_is;
            link_is = h.link_is;
            open_is = λ x e. let no : ◌≡◌ {A = Option Candidate} None (Some x) = sym grown_is ∙ e in cc;
            none_is = λ e. (closed_then, nothing);
          }

    pub fit : Fit h
    fit = by_open c.candidate refl

    pub told-is : IsTold p.given n (p.closed + 1) change pre
    told-is = record { change_is = change_is; begun_is = pre_is }

    past : Did (grown_or_begun change made r c.candidate) → Past h.search fit.kept fit.crash
    past did = by_candidate (grown_or_begun change made r c.candidate) refl did where
      by_candidate : (o : Option Candidate) → grown_or_begun change made r c.candidate ≡ o → Did o → Past h.search fit.kept fit.crash
      by_candidate None is did = let x = fit.none_is is in past_none change_is h.search fit.kept fit.crash stands fit.link_is x.0 x.1 did
      by_candidate (Some o) is did = let x = fit.open_is o is in past_some change_is h.search fit.kept fit.crash o stands fit.link_is x.0 x.1 x.2 x.3 did

    -- ---- what the code asks for
    by_flag : (v : Bool) (x : PrePart) (l : Option (Place × ℕ)) → (cond {A = PrePart} v (record x { place = place_of l x.key.zero }) x).key.zero ≡ x.key.zero
    by_flag true x l = refl
    by_flag false x l = refl

    -- the open crash part is that of the candidate, and has come up to the tick
    crash_now : (o : Candidate) → grown_or_begun change made r c.candidate ≡ Some o → (o.crash.zero ≡ o.pre.key.zero) × (o.crash.zero + o.crash.elapsed ≡ t + 1)
    crash_now o is = by_zero change.zero refl where
      x : IsMadeOf w.parts (cond change.zero pre fit.kept.frozen) o.pre × (o.end ≡ fit.kept.ended) × (o.crash ≡ part_after m (t + 1) change fit.crash) × ((change.zero || is_open h.search.phase) ≡ true)
      x = fit.open_is o is

      key_zero : o.pre.key.zero ≡ (cond {A = PrePart} change.zero pre fit.kept.frozen).key.zero
      key_zero = ap (λ k. k.zero) x.0.key_is

      by_phase : (ph : Phase) → h.search.phase ≡ ph → change.zero ≡ false → is_open ph ≡ true → (o.crash.zero ≡ o.pre.key.zero) × (o.crash.zero + o.crash.elapsed ≡ t + 1)
      by_phase Searching at zero opened = cc
      by_phase (Open z d l e) at zero opened =
          let short = core-open p.given n t h.search fit.kept z d l e fit.whole_is.core_is at in
          let part_is : fit.crash ≡ crash_at m z t = subst (λ ph. PartIs m t fit.crash ph) at fit.whole_is.part_is in
          let crash : o.crash ≡ next_crash fit.crash (m.along (t + 1)) (m.across (t + 1)) (m.fired (t + 1)) =
          x.2 ∙ ap (λ (v : Bool). cond {A = OpenCrash} v (begin_crash (t + 1) (m.fired (t + 1))) (next_crash fit.crash (m.along (t + 1)) (m.across (t + 1)) (m.fired (t + 1)))) zero in
          let zero_now : o.crash.zero ≡ z = ap (λ (q : OpenCrash). q.zero) crash ∙ ap (λ (q : OpenCrash). q.zero) part_is in
          let elapsed_now : o.crash.elapsed ≡ t - z + 1 = ap (λ (q : OpenCrash). q.elapsed) crash ∙ ap (λ (q : OpenCrash). q.elapsed + 1) part_is in
          let key : o.pre.key.zero ≡ z = key_zero ∙ ap (λ (v : Bool). (cond {A = PrePart} v pre fit.kept.frozen).key.zero) zero ∙ short.0 in
          let from = short.1 in
          (zero_now ∙ sym key, omega (arith, zero_now, elapsed_now, from))

      by_zero : (v : Bool) → change.zero ≡ v → (o.crash.zero ≡ o.pre.key.zero) × (o.crash.zero + o.crash.elapsed ≡ t + 1)
      by_zero true zero =
          let at : pre.key.zero ≡ t + 1 = zero-is p.given n (t + 1) pre (pre_is zero) in
          let crash : o.crash ≡ begin_crash (t + 1) (m.fired (t + 1)) =
          x.2 ∙ ap (λ (v : Bool). cond {A = OpenCrash} v (begin_crash (t + 1) (m.fired (t + 1))) (next_crash fit.crash (m.along (t + 1)) (m.across (t + 1)) (m.fired (t + 1)))) zero in
          let zero_now : o.crash.zero ≡ t + 1 = ap (λ (q : OpenCrash). q.zero) crash in
          let elapsed_now : o.crash.elapsed ≡ 0 = ap (λ (q : OpenCrash). q.elapsed) crash in
          let key : o.pre.key.zero ≡ t + 1 = key_zero ∙ ap (λ (v : Bool). (cond {A = PrePart} v pre fit.kept.frozen).key.zero) zero ∙ at in
          (zero_now ∙ sym key, omega (arith, zero_now, elapsed_now))
      by_zero false zero = by_phase h.search.phase refl zero (ap (λ (v : Bool). v || is_open h.search.phase) (sym zero) ∙ x.3)

    -- the tick can be told to it
    pub can_be_told : (o : Candidate) → grown_or_begun change made r c.candidate ≡ Some o → CanBeTold (t + 1) change c.link o
    can_be_told o is =
        let x = fit.open_is o is in
        let now = crash_now o is in
        let k = fit.kept in
        let after = pre_after change pre k in
        let key : after.key.zero ≡ o.pre.key.zero = by_flag change.confirmed (cond change.zero pre k.frozen) k.linked ∙ sym (ap (λ y. y.zero) x.0.key_is) in
        let zero : after.key.zero ≡ o.crash.zero = key ∙ sym now.0 in
        let end : (core_after (t + 1) change pre k).ended ≡ cond {A = ℕ} change.ended (t + 1) o.end = ap (λ (e : ℕ). cond {A = ℕ} change.ended (t + 1) e) (sym x.1) in
        record {
          past = λ confirmed.
              let later : ForSome k.linked (λ last. last.1 < after.key.zero) = core-past p.given n t h.search k pre change fit.whole_is.core_is told-is confirmed in
              subst (λ (l : Option (Place × ℕ)). IsPast l o.pre.key.zero) (sym fit.link_is) (subst (λ z. IsPast k.linked z) key later);
          end_from = λ closed. let f = core-closes p.given n t h.search k pre change fit.whole_is.core_is told-is closed in let g = f.0 in omega (arith, g, zero, end);
          end_to = λ closed. let f = core-closes p.given n t h.search k pre change fit.whole_is.core_is told-is closed in let g = f.1 in omega (arith, g, zero, end);
          closes = λ closed.
              let f = core-closes p.given n t h.search k pre change fit.whole_is.core_is told-is closed in
              now.1 ∙ sym f.2 ∙ ap (λ z. close_of z (core_after (t + 1) change pre k).ended) zero ∙ ap (λ e. close_of o.crash.zero e) end;
        }

    -- ---- what the split core stands for then
    pub split-stands : Did (grown_or_begun change made r c.candidate) → MergeStandsFor c'.merge (after_step p Close) → DetectStandsFor c'.detect (rows_of m (t + 1)) → c'.cycle ≡ c.cycle → c'.closed ≡ t + 1 → c'.ask ≡ None → All (λ q. q.zero ≤ t + 1) ps → SplitCoreStandsFor c' (record w { past = after_step p Close; asking = false })
    split-stands did merge_is detected cycle closed no_ask early =
        let x = past did in
        record {
          cycle_is = cycle ∙ h.cycle_is;
          cycle_from = h.cycle_from;
          cycle_to = h.cycle_to;
          closed_is = closed;
          near = merge_is.near;
          merge_is = merge_is;
          detect_is = detected;
          search = next_search m (t + 1) h.search;
          kept = core_after (t + 1) change pre fit.kept;
          crash = part_after m (t + 1) change fit.crash;
          whole_is = whole-stands p.given n t h.search fit.kept fit.crash pre change fit.whole_is told-is merge_is.within;
          link_is = x.link_past;
          open_is = x.open_past;
          candidate_is = x.holds_past;
          ask_is = subst (λ a. HoldsAsk a (record w { past = after_step p Close; asking = false })) (sym no_ask) refl;
          early = early;
        }

    -- the commands of the definition that the tick adds, and what they are made with the slots
    module _ (did : Did (grown_or_begun change made r c.candidate)) (slots : PartSlots) (are : AreSlotsOf w.parts slots) where
      abbrev own : TickIssues
      own = issues_at change pre (finish_crash (part_after m (t + 1) change fit.crash) (core_after (t + 1) change pre fit.kept).ended) fit.kept

      added : commands p.given n (t + 1) ≡ commands p.given n t ++ commands_of own
      added = whole-issues p.given n t h.search fit.kept fit.crash pre change fit.whole_is told-is

      made_of_own : map (command_with slots) (commands_of own) ≡ commands_of (issues_in i)
      made_of_own = commands_made slots own.take own.lock own.done ∙ ap (λ (y : TickIssues). commands_of y) (sym ((past did).issues_past slots are))

      pub split-commands : commands_with slots p.given n (t + 1) ≡ commands_with slots p.given n t ++ commands_of (issues_in i)
      split-commands =
          ap (map (command_with slots)) added
          ∙ map-append (command_with slots) (commands p.given n t) (commands_of own)
          ∙ ap (λ (xs : List Command). commands_with slots p.given n t ++ xs) made_of_own

      pub split-ticks : issues_with slots p.given n (t + 1) ≡ issues_with slots p.given n t ++ map (issue_at (t + 1)) (commands_of (issues_in i))
      split-ticks =
          ap (map (issue_with slots)) (issues-added p.given n t (commands_of own) added)
          ∙ map-append (issue_with slots) (issues p.given n t) (map (issue_at (t + 1)) (commands_of own))
          ∙ ap (λ xs. issues_with slots p.given n t ++ xs) (issued_made slots (t + 1) (commands_of own))
          ∙ ap (λ xs. issues_with slots p.given n t ++ map (issue_at (t + 1)) xs) made_of_own

-- ---- what is known before the tick
-- the open candidate takes one more tick
pub open-short : (c : SplitContents) (w : History) (h : SplitCoreStandsFor c w) (o : Candidate) → c.candidate ≡ Some o → IsShort o
open-short c w h o is = by_phase h.search.phase refl (sym h.open_is ∙ ap (λ (x : Option Candidate). is_some x) is) where
  held : HoldsCandidateWith w.parts (Some o) h.kept h.crash
  held = subst (λ (x : Option Candidate). HoldsCandidateWith w.parts x h.kept h.crash) is h.candidate_is

  by_phase : (ph : Phase) → h.search.phase ≡ ph → is_open ph ≡ true → IsShort o
  by_phase Searching at opened = cc
  by_phase (Open z d l e) at opened =
      let p = w.past in
      let short = core-open p.given w.cycle p.closed h.search h.kept z d l e h.whole_is.core_is at in
      let part_is : h.crash ≡ crash_at (signals_of p.given) z p.closed = subst (λ ph. PartIs (signals_of p.given) p.closed h.crash ph) at h.whole_is.part_is in
      let elapsed : o.crash.elapsed ≡ p.closed - z = ap (λ (q : OpenCrash). q.elapsed) held.2 ∙ ap (λ (q : OpenCrash). q.elapsed) part_is in
      let from = short.1 in let to = short.2 in
      omega (arith, elapsed, from, to)
