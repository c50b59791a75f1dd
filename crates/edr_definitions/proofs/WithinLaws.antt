-- The commands up to a tick are those of a longer stretch that are issued by then.
use Rattle.std.proofs.Common.{arith, refl, ap, sym, subst, ◌≡◌, ◌≢◌, ◌∙◌, ℕ, ◌+◌, ◌<◌, ◌≤◌, ◌⊎◌, inl, inr, Bool, true, false, cond, nat_le, Some, None, Option, List, [], ◌∷◌, ◌++◌, map, filter}
use Rattle.std.specs.Prelude.{filter_map, flat_map, zip}
use Rattle.std.specs.List.{cons_option}
use Rattle.std.proofs.lemmas.Bool.{cases_lt}
use Rattle.std.proofs.lemmas.List.Elements.{filter-append}
use Rattle.edr_items.specs.SensorLists.{SensorLists}
use Rattle.edr_record.specs.declared.Place.{Place}
use Rattle.edr_record.specs.declared.Command.TheVariants.{Take, Lock, Done}
use Rattle.edr_record.specs.Parts.{PrePart}
use Rattle.edr_definitions.specs.Ticks.{first_tick, IsFirst}
use Rattle.edr_definitions.specs.Signals.{Signals, signals_of}
use Rattle.edr_definitions.specs.Selection.{Bounds, is_triggered, Candidate, Event, bounds_after, event_of, close_of, chain, at_start}
use Rattle.edr_definitions.specs.Parts.{pre_part, crash_part}
use Rattle.edr_definitions.specs.Commands.{issues, Issue, locks_at, issues_of, is_locking, place_of, places_from, all_issues, commands}
use Rattle.edr_definitions.specs.Facts.{IsCandidate, IsChain}
use Rattle.edr_definitions.proofs.TickLaws.{first_tick-some}
use Rattle.edr_definitions.proofs.LockLaws.{lock-after}
use Rattle.edr_definitions.proofs.FactLaws.{nat_le_is, nat_le_not}
use Rattle.edr_definitions.proofs.SelectionLaws.{chain-is_chain}
use Rattle.edr_definitions.proofs.ChainLaws.{IsChain-is}
use Rattle.edr_definitions.proofs.EventLaws.{zero-past, after_end, confirmed_first}
use Rattle.edr_definitions.proofs.IssueLaws.{confirmed_by, late_issue, some_injective}

-- ---- a late event
late_locks : (m : Signals) (t since z u b : ℕ) (pre : PrePart) → IsFirst (is_triggered m since) z u → t < u → (r : Option ℕ) → first_tick (is_locking m) z b ≡ r → filter (λ i. nat_le i.tick t) (locks_at pre r) ≡ []
late_locks m t since z u b pre first late None e = refl
late_locks m t since z u b pre first late (Some l) e =
    let found = first_tick-some (is_locking m) z b l e in
    let after = lock-after m since z u l first found.0.from found.0.holds in
    late_issue t l (Lock pre) (omega (arith, after))

late_three : (t : ℕ) (a : Issue) (ls ds : List Issue) → filter (λ i. nat_le i.tick t) (a ∷ []) ≡ [] → filter (λ i. nat_le i.tick t) ls ≡ [] → filter (λ i. nat_le i.tick t) ds ≡ [] → filter (λ i. nat_le i.tick t) (a ∷ (ls ++ ds)) ≡ []
late_three t a ls ds first locks dones =
    let P = λ (i : Issue). nat_le i.tick t in
    filter-append P (a ∷ []) (ls ++ ds) ∙ ap (λ xs. xs ++ filter P (ls ++ ds)) first ∙ filter-append P ls ds ∙ ap (λ xs. xs ++ filter P ds) locks ∙ dones

late_event : (f : SensorLists) (n t since z u e : ℕ) (p : Place) → IsFirst (is_triggered (signals_of f) since) z u → u ≤ e → t < u → filter (λ i. nat_le i.tick t) (issues_of f n (record { zero_tick = z; confirmed_tick = u; end_tick = e }, p)) ≡ []
unfolding issues_of
late_event f n t since z u e p first order late =
    let m = signals_of f in
    let close = close_of z e in
    let pre = pre_part f n p z in
    late_three t (record { tick = u; command = Take pre }) (locks_at pre (first_tick (is_locking m) z (close + 1))) (record { tick = close; command = Done (crash_part m z e) } ∷ [])
    (late_issue t u (Take pre) late) (late_locks m t since z u (close + 1) pre first late (first_tick (is_locking m) z (close + 1)) refl) (late_issue t close (Done (crash_part m z e)) (omega arith))

module _ (f : SensorLists) (n t : ℕ) where
  -- the issues by t of these events
  abbrev issued : List Event → List Place → List Issue
  issued es ps = filter (λ i. nat_le i.tick t) (flat_map (issues_of f n) (zip es ps))

  issued-cons : (e : Event) (es : List Event) (p : Place) (ps : List Place) → issued (e ∷ es) (p ∷ ps) ≡ filter (λ i. nat_le i.tick t) (issues_of f n (e, p)) ++ issued es ps
  issued-cons e es p ps = filter-append (λ (i : Issue). nat_le i.tick t) (issues_of f n (e, p)) (flat_map (issues_of f n) (zip es ps))

  -- what comes after the tick t issues nothing by t
  late_cons : (w : ℕ) (from : Bounds) (c : Candidate) (es : List Event) (ps : List Place) → IsCandidate (signals_of f) from c → t < c.zero_tick → ((qs : List Place) → issued es qs ≡ []) → issued (cons_option (event_of w c) es) ps ≡ []
  late_cons w from c es ps is late rest = late_cases (confirmed_by w c.zero_tick c.end_tick c.confirmed) where
    late_some : (u : ℕ) → c.confirmed ≡ Some u → (qs : List Place) → issued (record { zero_tick = c.zero_tick; confirmed_tick = u; end_tick = c.end_tick } ∷ es) qs ≡ []
    late_some u e [] = refl
    late_some u e (q ∷ qs) =
        let first = confirmed_first (signals_of f) from.since c.zero_tick c.end_tick u c.confirmed is.confirmed_is e in
        let order = first.0.from in
        issued-cons (record { zero_tick = c.zero_tick; confirmed_tick = u; end_tick = c.end_tick }) es q qs
        ∙ ap (λ xs. xs ++ issued es qs) (late_event f n t from.since c.zero_tick u c.end_tick q first.0 first.1 (omega (arith, order)))
        ∙ rest qs

    late_cases : ((u : ℕ) × (c.confirmed ≡ Some u) × (u ≤ w) × (event_of w c ≡ Some (record { zero_tick = c.zero_tick; confirmed_tick = u; end_tick = c.end_tick }))) ⊎ (((u : ℕ) → u ≤ w → c.confirmed ≢ Some u) × (event_of w c ≡ None)) → issued (cons_option (event_of w c) es) ps ≡ []
    late_cases (inl x) = ap (λ (o : Option Event). issued (cons_option o es) ps) x.3 ∙ late_some x.0 x.1 ps
    late_cases (inr x) = ap (λ (o : Option Event). issued (cons_option o es) ps) x.1 ∙ rest ps

  late_chain : (w : ℕ) (from : Bounds) (cs : List Candidate) → IsChain (signals_of f) w from cs → t ≤ from.after → (ps : List Place) → issued (filter_map (event_of w) cs) ps ≡ []
  late_chain w from [] h past ps = refl
  late_chain w from (c ∷ cs) h past ps =
      let begun = zero-past (signals_of f) from c h.0 in
      let order = h.0.end_is.from in
      let ended = after_end from c in
      late_cons w from c (filter_map (event_of w) cs) ps h.0 (omega (arith, begun))
      (late_chain w (bounds_after from c) cs h.2 (omega (arith, begun, order, ended)))

  -- ---- the chain up to t within the chain up to w
  abbrev cut : List Candidate → List Candidate
  cut [] = []
  cut (c ∷ cs) = cond (nat_le c.zero_tick t) (c ∷ cut cs) []

  cut-late : (w : ℕ) (from : Bounds) (cs : List Candidate) → IsChain (signals_of f) w from cs → t ≤ from.after → cut cs ≡ []
  cut-late w from [] h past = refl
  cut-late w from (c ∷ cs) h past =
      let begun = zero-past (signals_of f) from c h.0 in
      let b : nat_le c.zero_tick t ≡ false = nat_le_not c.zero_tick t (omega (arith, begun)) in rw b refl

  cut_step : (w : ℕ) (from : Bounds) (c : Candidate) (cs : List Candidate) → IsCandidate (signals_of f) from c → IsChain (signals_of f) t (bounds_after from c) (cut cs) → (c.zero_tick ≤ t) ⊎ (t < c.zero_tick) → IsChain (signals_of f) t from (cond (nat_le c.zero_tick t) (c ∷ cut cs) [])
  cut_step w from c cs is rest (inl begun) = let b : nat_le c.zero_tick t ≡ true = nat_le_is c.zero_tick t begun in subst (λ (v : Bool). IsChain (signals_of f) t from (cond v (c ∷ cut cs) [])) (sym b) (is, begun, rest)
  cut_step w from c cs is rest (inr late) = let b : nat_le c.zero_tick t ≡ false = nat_le_not c.zero_tick t late in subst (λ (v : Bool). IsChain (signals_of f) t from (cond v (c ∷ cut cs) [])) (sym b) (record { none = λ u lo hi. is.zero_is.none_before u lo (omega arith) })

  swap : (z : ℕ) → (z ≤ t) ⊎ (t < z)
  swap z = elim (cases_lt t z) [ inl late ↦ inr late | inr begun ↦ inl begun ]

  cut-chain : (w : ℕ) → t ≤ w → (from : Bounds) (cs : List Candidate) → IsChain (signals_of f) w from cs → IsChain (signals_of f) t from (cut cs)
  cut-chain w within from [] h = record { none = λ u lo hi. h.none u lo (omega arith) }
  cut-chain w within from (c ∷ cs) h = cut_step w from c cs h.0 (cut-chain w within (bounds_after from c) cs h.2) (swap c.zero_tick)

  -- ---- issued by t, of either chain
  abbrev zeros : List Event → List ℕ
  zeros es = map (λ e. e.zero_tick) es

  abbrev side : Option Event → List Event → Option (Place × ℕ) → List Issue
  side o es s = issued (cons_option o es) (places_from s (zeros (cons_option o es)))

  abbrev the_event : Candidate → ℕ → Event
  the_event c u = record { zero_tick = c.zero_tick; confirmed_tick = u; end_tick = c.end_tick }

  side-some : (c : Candidate) (u : ℕ) (es : List Event) (s : Option (Place × ℕ)) → side (Some (the_event c u)) es s ≡ filter (λ i. nat_le i.tick t) (issues_of f n (the_event c u, place_of s c.zero_tick)) ++ issued es (places_from (Some (place_of s c.zero_tick, c.zero_tick)) (zeros es))
  side-some c u es s =
      issued-cons (the_event c u) es (place_of s c.zero_tick) (places_from (Some (place_of s c.zero_tick, c.zero_tick)) (zeros es))

  unconfirmed : (c : Candidate) → ((u : ℕ) → u ≤ t → c.confirmed ≢ Some u) → event_of t c ≡ None
  unconfirmed c never = elim (confirmed_by t c.zero_tick c.end_tick c.confirmed) [
    | inl y ↦ absurd (never y.0 y.2 y.1)
    | inr y ↦ y.1
  ]

  confirmed_event : (c : Candidate) (u : ℕ) → c.confirmed ≡ Some u → u ≤ t → event_of t c ≡ Some (the_event c u)
  confirmed_event c u is near = elim (confirmed_by t c.zero_tick c.end_tick c.confirmed) [
    | inl y ↦ let k : y.0 ≡ u = some_injective y.0 u (sym y.1 ∙ is) in y.3 ∙ ap (λ (x : ℕ). let o : Option Event = Some (the_event c x) in o) k
    | inr y ↦ absurd (y.0 u near is)
  ]

  late_head : (from : Bounds) (c : Candidate) (u : ℕ) (es : List Event) → IsCandidate (signals_of f) from c → c.confirmed ≡ Some u → t < u → ((qs : List Place) → issued es qs ≡ []) → (ps : List Place) → issued (the_event c u ∷ es) ps ≡ []
  late_head from c u es is e late rest [] = refl
  late_head from c u es is e late rest (q ∷ qs) =
      let first = confirmed_first (signals_of f) from.since c.zero_tick c.end_tick u c.confirmed is.confirmed_is e in
      issued-cons (the_event c u) es q qs
      ∙ ap (λ xs. xs ++ issued es qs) (late_event f n t from.since c.zero_tick u c.end_tick q first.0 first.1 late)
      ∙ rest qs

  abbrev long_side : ℕ → List Candidate → Option (Place × ℕ) → List Issue
  long_side w cs s = issued (filter_map (event_of w) cs) (places_from s (zeros (filter_map (event_of w) cs)))

  begun_step : (w : ℕ) → t ≤ w → (from : Bounds) (c : Candidate) (cs : List Candidate) → IsCandidate (signals_of f) from c → IsChain (signals_of f) w (bounds_after from c) cs → ((s : Option (Place × ℕ)) → long_side w cs s ≡ long_side t (cut cs) s) → (s : Option (Place × ℕ)) → ((u : ℕ) × (c.confirmed ≡ Some u) × (u ≤ w) × (event_of w c ≡ Some (the_event c u))) ⊎ (((u : ℕ) → u ≤ w → c.confirmed ≢ Some u) × (event_of w c ≡ None)) → side (event_of w c) (filter_map (event_of w) cs) s ≡ side (event_of t c) (filter_map (event_of t) (cut cs)) s
  begun_step w within from c cs is h rest s (inr x) =
      let short : event_of t c ≡ None = unconfirmed c (λ u near. x.0 u (omega arith)) in
      ap (λ (o : Option Event). side o (filter_map (event_of w) cs) s) x.1 ∙ rest s
      ∙ ap (λ (o : Option Event). side o (filter_map (event_of t) (cut cs)) s) (sym short)
  begun_step w within from c cs is h rest s (inl x) = by_time (cases_lt t x.0) where
    u : ℕ
    u = x.0

    by_time : (t < x.0) ⊎ (x.0 ≤ t) → side (event_of w c) (filter_map (event_of w) cs) s ≡ side (event_of t c) (filter_map (event_of t) (cut cs)) s
    by_time (inr near) =
        let short : event_of t c ≡ Some (the_event c x.0) = confirmed_event c x.0 x.1 near in
        let q = place_of s c.zero_tick in
        let es = filter_map (event_of w) cs in
        let ds = filter_map (event_of t) (cut cs) in
        let issues = filter (λ i. nat_le i.tick t) (issues_of f n (the_event c x.0, q)) in
        ap (λ (o : Option Event). side o es s) x.3 ∙ side-some c x.0 es s
        ∙ ap (λ ys. issues ++ ys) (rest (Some (q, c.zero_tick)))
        ∙ sym (side-some c x.0 ds s) ∙ ap (λ (o : Option Event). side o ds s) (sym short)
    by_time (inl late) =
        let short : event_of t c ≡ None = unconfirmed c (λ v near e. let k : x.0 ≡ v = some_injective x.0 v (sym x.1 ∙ e) in omega arith) in
        let es = filter_map (event_of w) cs in
        let ds = filter_map (event_of t) (cut cs) in
        let first = confirmed_first (signals_of f) from.since c.zero_tick c.end_tick x.0 c.confirmed is.confirmed_is x.1 in
        let ended = after_end from c in
        let past : t ≤ (bounds_after from c).after = omega (arith, first.1, ended) in
        let nothing : cut cs ≡ [] = cut-late w (bounds_after from c) cs h past in
        ap (λ (o : Option Event). side o es s) x.3
        ∙ late_head from c x.0 es is x.1 late (late_chain w (bounds_after from c) cs h past) (places_from s (zeros (the_event c x.0 ∷ es)))
        ∙ ap (λ (cs : List Candidate). long_side t cs s) (sym nothing)
        ∙ ap (λ (o : Option Event). side o ds s) (sym short)

  within_step : (w : ℕ) → t ≤ w → (from : Bounds) (c : Candidate) (cs : List Candidate) → IsCandidate (signals_of f) from c → IsChain (signals_of f) w (bounds_after from c) cs → ((s : Option (Place × ℕ)) → long_side w cs s ≡ long_side t (cut cs) s) → (s : Option (Place × ℕ)) → (t < c.zero_tick) ⊎ (c.zero_tick ≤ t) → long_side w (c ∷ cs) s ≡ long_side t (cond (nat_le c.zero_tick t) (c ∷ cut cs) []) s
  within_step w within from c cs is h rest s (inr begun) =
      let b : nat_le c.zero_tick t ≡ true = nat_le_is c.zero_tick t begun in
      subst (λ (v : Bool). long_side w (c ∷ cs) s ≡ long_side t (cond v (c ∷ cut cs) []) s) (sym b)
      (begun_step w within from c cs is h rest s (confirmed_by w c.zero_tick c.end_tick c.confirmed))
  within_step w within from c cs is h rest s (inl late) =
      let b : nat_le c.zero_tick t ≡ false = nat_le_not c.zero_tick t late in
      let order = is.end_is.from in
      let ended = after_end from c in
      subst (λ (v : Bool). long_side w (c ∷ cs) s ≡ long_side t (cond v (c ∷ cut cs) []) s) (sym b)
      (late_cons w from c (filter_map (event_of w) cs) (places_from s (zeros (filter_map (event_of w) (c ∷ cs)))) is late (late_chain w (bounds_after from c) cs h (omega (arith, order, ended))))

  within_chain : (w : ℕ) → t ≤ w → (from : Bounds) (cs : List Candidate) → IsChain (signals_of f) w from cs → (s : Option (Place × ℕ)) → long_side w cs s ≡ long_side t (cut cs) s
  within_chain w within from [] h s = refl
  within_chain w within from (c ∷ cs) h s =
      within_step w within from c cs h.0 h.2 (within_chain w within (bounds_after from c) cs h.2) s (cases_lt t c.zero_tick)

  pub issues-within : (w : ℕ) → t ≤ w → filter (λ i. nat_le i.tick t) (all_issues f n w) ≡ issues f n t
  issues-within w within =
      let m = signals_of f in
      let shorter : cut (chain m w) ≡ chain m t = IsChain-is m t (cut (chain m w)) (cut-chain w within at_start (chain m w) (chain-is_chain m w)) in
      within_chain w within at_start (chain m w) (chain-is_chain m w) None ∙ ap (λ (cs : List Candidate). long_side t cs None) shorter

  pub commands-within : (w : ℕ) → t ≤ w → map (λ i. i.command) (filter (λ i. nat_le i.tick t) (all_issues f n w)) ≡ commands f n t
  unfolding commands
  commands-within w within = ap (map (λ i. i.command)) (issues-within w within)
