-- The commands of a tick, from the candidate that is open then.
use Rattle.std.proofs.Common.{arith, refl, ap, sym, ◌≡◌, ◌≢◌, ◌∙◌, ℕ, ◌+◌, ◌≤◌, ◌⊎◌, inl, inr, Bool, true, false, cond, ◌&&◌, nat_le, nat_eq, Some, None, Option, MatchOption, List, [], ◌∷◌, ◌++◌, map, filter}
use Rattle.std.specs.Prelude.{filter_map, flat_map, zip, option_map, option_to_list, is_some}
use Rattle.std.specs.List.{cons_option}
use Rattle.std.proofs.lemmas.List.{map-append}
use Rattle.std.proofs.lemmas.List.Elements.{filter-append}
use Rattle.edr_items.specs.SensorLists.{SensorLists}
use Rattle.edr_record.specs.declared.Place.{Place}
use Rattle.edr_record.specs.declared.Command.{Command}
use Rattle.edr_record.specs.declared.Command.TheVariants.{Take, Lock, Done}
use Rattle.edr_record.specs.Parts.{PrePart, CrashPart}
use Rattle.edr_definitions.specs.Ticks.{IsFirst, HoldsNowhere}
use Rattle.edr_definitions.specs.Signals.{Signals, signals_of}
use Rattle.edr_definitions.specs.Selection.{Bounds, is_triggered, Candidate, Event, bounds_after, event_of, close_of}
use Rattle.edr_definitions.specs.Parts.{pre_part, crash_part}
use Rattle.edr_definitions.specs.Commands.{Issue, locks_at, issues_of, is_locking, lock_of, place_of, places_from, last_from}
use Rattle.edr_definitions.specs.Facts.{IsCandidate, CandidatesLead}
use Rattle.edr_definitions.specs.Search.{AllClosed}
use Rattle.edr_definitions.specs.Change.{is_at, is_confirmed_at, is_locked_at, closes_at}
use Rattle.edr_definitions.specs.Core.{TickIssues, commands_of, when}
use Rattle.edr_definitions.proofs.TickLaws.{first_tick-some}
use Rattle.edr_definitions.proofs.LockLaws.{lock-after}
use Rattle.edr_definitions.proofs.IssueLaws.{confirmed_by}
use Rattle.edr_definitions.proofs.TickChangeLaws.{AllPast, closed_past, nat_eq-past, nat_eq-other, lock_step}

-- ---- one event
-- what it issues at the tick t
one_now : (t k : ℕ) (c : Command) (b : Bool) → nat_eq k t ≡ b → map {A = Issue} (λ i. i.command) (filter {X = Issue} (λ i. nat_eq i.tick t) (record { tick = k; command = c } ∷ [])) ≡ cond b (c ∷ []) []
one_now t k c true e = rw e refl
one_now t k c false e = rw e refl

take_now : (pre : PrePart) (b : Bool) → cond b (Take pre ∷ []) [] ≡ option_to_list (option_map Take (when b pre))
take_now pre true = refl
take_now pre false = refl

lock_now : (pre : PrePart) (b : Bool) → cond b (Lock pre ∷ []) [] ≡ option_to_list (option_map Lock (when b pre))
lock_now pre true = refl
lock_now pre false = refl

done_now : (crash : CrashPart) (b : Bool) → cond b (Done crash ∷ []) [] ≡ option_to_list (option_map Done (when b crash))
done_now crash true = refl
done_now crash false = refl

locks_now : (t : ℕ) (pre : PrePart) (r : Option ℕ) → map {A = Issue} (λ i. i.command) (filter (λ i. nat_eq i.tick t) (locks_at pre r)) ≡ option_to_list (option_map Lock (when (is_at r t) pre))
locks_now t pre None = refl
locks_now t pre (Some l) = one_now t l (Lock pre) (nat_eq l t) refl ∙ lock_now pre (nat_eq l t)

-- all three
three_now : (t u k : ℕ) (pre : PrePart) (r : Option ℕ) (crash : CrashPart) → map {A = Issue} (λ i. i.command) (filter {X = Issue} (λ i. nat_eq i.tick t) (record { tick = u; command = Take pre } ∷ (locks_at pre r ++ record { tick = k; command = Done crash } ∷ []))) ≡ commands_of (record { take = when (nat_eq u t) pre; lock = when (is_at r t) pre; done = when (nat_eq k t) crash })
three_now t u k pre r crash =
    let P = λ (i : Issue). nat_eq i.tick t in
    let M = λ (is : List Issue). map (λ i. i.command) is in
    let a : List Issue = record { tick = u; command = Take pre } ∷ [] in
    let ls = locks_at pre r in
    let d : List Issue = record { tick = k; command = Done crash } ∷ [] in
    let first : M (filter P a) ≡ option_to_list (option_map Take (when (nat_eq u t) pre)) = one_now t u (Take pre) (nat_eq u t) refl ∙ take_now pre (nat_eq u t) in
    let last : M (filter P d) ≡ option_to_list (option_map Done (when (nat_eq k t) crash)) = one_now t k (Done crash) (nat_eq k t) refl ∙ done_now crash (nat_eq k t) in
    let mid = locks_now t pre r in
    let split : M (filter P (a ++ (ls ++ d))) ≡ M (filter P a) ++ M (filter P (ls ++ d)) = ap M (filter-append P a (ls ++ d)) ∙ map-append (λ (i : Issue). i.command) (filter P a) (filter P (ls ++ d)) in
    let split' : M (filter P (ls ++ d)) ≡ M (filter P ls) ++ M (filter P d) = ap M (filter-append P ls d) ∙ map-append (λ (i : Issue). i.command) (filter P ls) (filter P d) in
    split ∙ ap (λ xs. xs ++ M (filter P (ls ++ d))) first
    ∙ ap (λ xs. option_to_list (option_map Take (when (nat_eq u t) pre)) ++ xs)
    (split' ∙ ap (λ xs. xs ++ M (filter P d)) mid ∙ ap (λ xs. option_to_list (option_map Lock (when (is_at r t) pre)) ++ xs) last)

-- ---- a candidate that is not confirmed by a tick has nothing there
pub never-confirmed : (t : ℕ) (r : Option ℕ) → ((u : ℕ) → u ≤ t → r ≢ Some u) → is_at r t ≡ false
never-confirmed t None never = refl
never-confirmed t (Some u) never = nat_eq-other u t (λ same. never u (omega arith) refl)

-- r is the confirmation of a candidate with time zero z and end e, if there is one
abbrev Confirms : Signals → ℕ → ℕ → ℕ → Option ℕ → Type 0
Confirms m since z e r = MatchOption r (HoldsNowhere (is_triggered m since) z (e + 1)) (λ x. IsFirst (is_triggered m since) z x × (x ≤ e))

never_locked_step : (m : Signals) (t since z e : ℕ) (r : Option ℕ) → Confirms m since z e r → ((u : ℕ) → u ≤ t → r ≢ Some u) → (q : Option ℕ) → lock_of m z e ≡ q → (is_some r && is_at q t) ≡ false
never_locked_step m t since z e None h never q is = refl
never_locked_step m t since z e (Some u) h never None is = refl
never_locked_step m t since z e (Some u) h never (Some l) is =
    let found = first_tick-some (is_locking m) z (close_of z e + 1) l is in
    let late = lock-after m since z u l h.0 found.0.from found.0.holds in
    nat_eq-other l t (λ same. never u (omega (arith, late, same)) refl)

pub never-locked : (m : Signals) (t since : ℕ) (c : Candidate) → Confirms m since c.zero_tick c.end_tick c.confirmed → ((u : ℕ) → u ≤ t → c.confirmed ≢ Some u) → is_locked_at m t c ≡ false
never-locked m t since c h never = never_locked_step m t since c.zero_tick c.end_tick c.confirmed h never (lock_of m c.zero_tick c.end_tick) refl

never_closed : (m : Signals) (t since z e : ℕ) (r : Option ℕ) → Confirms m since z e r → ((u : ℕ) → u ≤ t → r ≢ Some u) → (is_some r && nat_eq (close_of z e) t) ≡ false
never_closed m t since z e None h never = refl
never_closed m t since z e (Some u) h never = let near = h.1 in nat_eq-other (close_of z e) t (λ same. never u (omega (arith, near, same)) refl)

-- ---- an event that is confirmed by t stays one
event_stays : (t z e : ℕ) (r : Option ℕ) → ((u : ℕ) → r ≡ Some u → u ≤ t) → event_of (t + 1) (record { zero_tick = z; end_tick = e; confirmed = r }) ≡ event_of t (record { zero_tick = z; end_tick = e; confirmed = r })
event_stays t z e None past = refl
event_stays t z e (Some u) past =
    let near = past u refl in
    let a : nat_le u t ≡ true = below u t near in
    let b : nat_le u (t + 1) ≡ true = below u (t + 1) (omega arith) in
    rw (a, b) refl where
      below : (u k : ℕ) → u ≤ k → nat_le u k ≡ true
      below u k h = grind arith

pub closed-events : (m : Signals) (t : ℕ) (from b : Bounds) (cs : List Candidate) → CandidatesLead m from cs b → AllClosed t from cs → filter_map (event_of (t + 1)) cs ≡ filter_map (event_of t) cs
closed-events m t from b [] leads closed = refl
closed-events m t from b (c ∷ cs) leads closed =
    let past = closed_past m t from c leads.0 closed.0 in
    let here : event_of (t + 1) c ≡ event_of t c = event_stays t c.zero_tick c.end_tick c.confirmed past.confirmed_past in
    let rest = closed-events m t (bounds_after from c) b cs leads.1 closed.1 in
    ap (λ (o : Option Event). cons_option o (filter_map (event_of (t + 1)) cs)) here ∙ ap (λ (es : List Event). cons_option (event_of t c) es) rest

module _ (f : SensorLists) (n t : ℕ) where
  abbrev pub zeros_of : List Event → List ℕ
  zeros_of es = map (λ e. e.zero_tick) es

  -- the commands of the next tick of these events
  abbrev pub news : List Event → Option (Place × ℕ) → List Command
  news es s = map (λ i. i.command) (filter (λ i. nat_eq i.tick (t + 1)) (flat_map (issues_of f n) (zip es (places_from s (zeros_of es)))))

  abbrev pub the_event : Candidate → ℕ → Event
  the_event c u = record { zero_tick = c.zero_tick; confirmed_tick = u; end_tick = c.end_tick }

  event_news : (z u e : ℕ) (p : Place) → map {A = Issue} (λ i. i.command) (filter (λ i. nat_eq i.tick (t + 1)) (issues_of f n (record { zero_tick = z; confirmed_tick = u; end_tick = e }, p))) ≡ commands_of (record { take = when (nat_eq u (t + 1)) (pre_part f n p z); lock = when (is_at (lock_of (signals_of f) z e) (t + 1)) (pre_part f n p z); done = when (nat_eq (close_of z e) (t + 1)) (crash_part (signals_of f) z e) })
  unfolding issues_of
  event_news z u e p = three_now (t + 1) u (close_of z e) (pre_part f n p z) (lock_of (signals_of f) z e) (crash_part (signals_of f) z e)

  news-cons : (e : Event) (es : List Event) (s : Option (Place × ℕ)) → news (e ∷ es) s ≡ map (λ i. i.command) (filter (λ i. nat_eq i.tick (t + 1)) (issues_of f n (e, place_of s e.zero_tick))) ++ news es (Some (place_of s e.zero_tick, e.zero_tick))
  news-cons e es s =
      let P = λ (i : Issue). nat_eq i.tick (t + 1) in
      let M = λ (is : List Issue). map (λ i. i.command) is in
      let p = place_of s e.zero_tick in
      let next : Option (Place × ℕ) = Some (p, e.zero_tick) in
      let tail = flat_map (issues_of f n) (zip es (places_from next (zeros_of es))) in
      ap M (filter-append P (issues_of f n (e, p)) tail)
      ∙ map-append (λ (i : Issue). i.command) (filter P (issues_of f n (e, p))) (filter P tail)

  -- ---- closed events issue nothing more
  silent : (z u e : ℕ) (p : Place) → u ≤ t → close_of z e ≤ t → map {A = Issue} (λ i. i.command) (filter (λ i. nat_eq i.tick (t + 1)) (issues_of f n (record { zero_tick = z; confirmed_tick = u; end_tick = e }, p))) ≡ []
  silent z u e p near closed =
      let q = lock_of (signals_of f) z e in
      let a : nat_eq u (t + 1) ≡ false = nat_eq-past u t near in
      let b : is_at q (t + 1) ≡ false = lock_step true (is_locking (signals_of f)) z (close_of z e) t (λ _. closed) q refl in
      let c : nat_eq (close_of z e) (t + 1) ≡ false = nat_eq-past (close_of z e) t closed in
      event_news z u e p
      ∙ ap (λ (v : Bool). commands_of (record { take = when v (pre_part f n p z); lock = when (is_at q (t + 1)) (pre_part f n p z); done = when (nat_eq (close_of z e) (t + 1)) (crash_part (signals_of f) z e) })) a
      ∙ ap (λ (v : Bool). commands_of (record { take = None; lock = when v (pre_part f n p z); done = when (nat_eq (close_of z e) (t + 1)) (crash_part (signals_of f) z e) })) b
      ∙ ap (λ (v : Bool). commands_of (record { take = None; lock = None; done = when v (crash_part (signals_of f) z e) })) c

  close_past_some : (c : Candidate) (u : ℕ) → AllPast t c → c.confirmed ≡ Some u → close_of c.zero_tick c.end_tick ≤ t
  close_past_some c u past is = past.close_past (ap (λ (r : Option ℕ). is_some r) is)

  closed_step : (c : Candidate) (rest : List Event) (olds : List Event) (s : Option (Place × ℕ)) → AllPast t c → ((q : Option (Place × ℕ)) → news (olds ++ rest) q ≡ news rest (last_from q (zeros_of olds))) → ((u : ℕ) × (c.confirmed ≡ Some u) × (u ≤ t + 1) × (event_of (t + 1) c ≡ Some (the_event c u))) ⊎ (((u : ℕ) → u ≤ t + 1 → c.confirmed ≢ Some u) × (event_of (t + 1) c ≡ None)) → news (cons_option (event_of (t + 1) c) (olds ++ rest)) s ≡ news rest (last_from s (zeros_of (cons_option (event_of (t + 1) c) olds)))
  closed_step c rest olds s past more (inl x) =
      let u = x.0 in
      let z = c.zero_tick in
      let p = place_of s z in
      let near = past.confirmed_past u x.1 in
      let closed = close_past_some c u past x.1 in
      ap (λ (o : Option Event). news (cons_option o (olds ++ rest)) s) x.3
      ∙ news-cons (the_event c u) (olds ++ rest) s
      ∙ ap (λ ys. ys ++ news (olds ++ rest) (Some (p, z))) (silent z u c.end_tick p near closed)
      ∙ more (Some (p, z))
      ∙ ap (λ (o : Option Event). news rest (last_from s (zeros_of (cons_option o olds)))) (sym x.3)
  closed_step c rest olds s past more (inr x) =
      ap (λ (o : Option Event). news (cons_option o (olds ++ rest)) s) x.1 ∙ more s
      ∙ ap (λ (o : Option Event). news rest (last_from s (zeros_of (cons_option o olds)))) (sym x.1)

  pub news-closed : (from b : Bounds) (cs : List Candidate) (rest : List Event) → CandidatesLead (signals_of f) from cs b → AllClosed t from cs → (s : Option (Place × ℕ)) → news (filter_map (event_of (t + 1)) cs ++ rest) s ≡ news rest (last_from s (zeros_of (filter_map (event_of (t + 1)) cs)))
  news-closed from b [] rest leads closed s = refl
  news-closed from b (c ∷ cs) rest leads closed s =
      by_cons (event_of (t + 1) c) ∙ closed_step c rest (filter_map (event_of (t + 1)) cs) s (closed_past (signals_of f) t from c leads.0 closed.0) (news-closed (bounds_after from c) b cs rest leads.1 closed.1) (confirmed_by (t + 1) c.zero_tick c.end_tick c.confirmed) where
        by_cons : (o : Option Event) → news (cons_option o (filter_map (event_of (t + 1)) cs) ++ rest) s ≡ news (cons_option o (filter_map (event_of (t + 1)) cs ++ rest)) s
        by_cons None = refl
        by_cons (Some e) = refl

  -- ---- the open candidate
  -- what a candidate issues at the next tick, with the place that follows from the last event before it
  unfoldable pub candidate_issues : Candidate → Option (Place × ℕ) → TickIssues
  candidate_issues c s =
      let pre = pre_part f n (place_of s c.zero_tick) c.zero_tick in
      record { take = when (is_confirmed_at (t + 1) c) pre; lock = when (is_locked_at (signals_of f) (t + 1) c) pre; done = when (closes_at (t + 1) c) (crash_part (signals_of f) c.zero_tick c.end_tick) }

  issues_are : (a b c a' b' c' : Bool) (pre : PrePart) (crash : CrashPart) → a ≡ a' → b ≡ b' → c ≡ c' → commands_of (record { take = when a pre; lock = when b pre; done = when c crash }) ≡ commands_of (record { take = when a' pre; lock = when b' pre; done = when c' crash })
  issues_are a b c a' b' c' pre crash p q r = rw (p, q, r) refl

  append_none : (xs : List Command) → xs ++ [] ≡ xs
  append_none [] = refl
  append_none (x ∷ xs) = ap (λ ys. x ∷ ys) (append_none xs)

  pub news-one : (b : Bounds) (c : Candidate) (s : Option (Place × ℕ)) → IsCandidate (signals_of f) b c → news (filter_map (event_of (t + 1)) (c ∷ [])) s ≡ commands_of (candidate_issues c s)
  unfolding candidate_issues
  news-one b c s is = by_event (confirmed_by (t + 1) c.zero_tick c.end_tick c.confirmed) where
    by_event : ((u : ℕ) × (c.confirmed ≡ Some u) × (u ≤ t + 1) × (event_of (t + 1) c ≡ Some (the_event c u))) ⊎ (((u : ℕ) → u ≤ t + 1 → c.confirmed ≢ Some u) × (event_of (t + 1) c ≡ None)) → news (cons_option (event_of (t + 1) c) []) s ≡ commands_of (record { take = when (is_confirmed_at (t + 1) c) (pre_part f n (place_of s c.zero_tick) c.zero_tick); lock = when (is_locked_at (signals_of f) (t + 1) c) (pre_part f n (place_of s c.zero_tick) c.zero_tick); done = when (closes_at (t + 1) c) (crash_part (signals_of f) c.zero_tick c.end_tick) })
    by_event (inl x) =
        let u = x.0 in
        let z = c.zero_tick in
        let e = c.end_tick in
        let q = lock_of (signals_of f) z e in
        let now : is_at c.confirmed (t + 1) ≡ nat_eq u (t + 1) = ap (λ (r : Option ℕ). is_at r (t + 1)) x.1 in
        let some : is_some c.confirmed ≡ true = ap (λ (r : Option ℕ). is_some r) x.1 in
        let locks : (is_some c.confirmed && is_at q (t + 1)) ≡ is_at q (t + 1) = ap (λ (v : Bool). v && is_at q (t + 1)) some in
        let dones : (is_some c.confirmed && nat_eq (close_of z e) (t + 1)) ≡ nat_eq (close_of z e) (t + 1) = ap (λ (v : Bool). v && nat_eq (close_of z e) (t + 1)) some in
        ap (λ (o : Option Event). news (cons_option o []) s) x.3
        ∙ news-cons (the_event c u) [] s
        ∙ append_none (map (λ i. i.command) (filter (λ i. nat_eq i.tick (t + 1)) (issues_of f n (the_event c u, place_of s z))))
        ∙ event_news z u e (place_of s z)
        ∙ issues_are (nat_eq u (t + 1)) (is_at q (t + 1)) (nat_eq (close_of z e) (t + 1)) (is_confirmed_at (t + 1) c) (is_locked_at (signals_of f) (t + 1) c) (closes_at (t + 1) c) (pre_part f n (place_of s z) z) (crash_part (signals_of f) z e) (sym now) (sym locks) (sym dones)
    by_event (inr x) =
        let m = signals_of f in
        let z = c.zero_tick in
        let e = c.end_tick in
        let now = never-confirmed (t + 1) c.confirmed x.0 in
        let locks = never-locked m (t + 1) b.since c is.confirmed_is x.0 in
        let dones = never_closed m (t + 1) b.since z e c.confirmed is.confirmed_is x.0 in
        ap (λ (o : Option Event). news (cons_option o []) s) x.1
        ∙ issues_are false false false (is_confirmed_at (t + 1) c) (is_locked_at m (t + 1) c) (closes_at (t + 1) c) (pre_part f n (place_of s z) z) (crash_part m z e) (sym now) (sym locks) (sym dones)
