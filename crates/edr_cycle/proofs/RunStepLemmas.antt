-- While a cycle runs, what the core was given and what is left are its lists, and what the closed ticks issued is committed.
use Rattle.std.proofs.Common.{arith, refl, ap, sym, subst, ◌≡◌, ◌∙◌, ℕ, ◌+◌, ◌-◌, ◌*◌, ◌/◌, ◌<◌, ◌≤◌, inl, inr, Bool, true, Some, None, Option, List, [], ◌∷◌, ◌++◌, map, length, append_assoc, append-nil, Result, Ok, Err, OnOk}
use Rattle.std.specs.Prelude.{IsErr, is_ok, drop}
use Rattle.std.proofs.Math.Seq.{drop-append_seam}
use Rattle.std.proofs.lemmas.Bool.{eqb-true}
use Rattle.std.proofs.lemmas.List.{length-append, length-map}
use Rattle.edr_items.specs.declared.Sensor.{Sensor}
use Rattle.edr_items.specs.declared.Sensor.TheVariants.{Along, Across}
use Rattle.edr_items.specs.declared.Item.{Item}
use Rattle.edr_items.specs.Item.{mark_of, IsFeed}
use Rattle.edr_items.specs.PerSensor.{total_of}
use Rattle.edr_items.specs.SensorLists.{SensorLists, no_items, items_of, with_items, horizon_of, AreFeeds, IsLevel, sensors}
use Rattle.edr_items.proofs.FeedLemmas.{refusal_of-rises}
use Rattle.edr_items.proofs.PerSensorLemmas.{with_value-both, value_of-each, total-with}
use Rattle.edr_definitions.specs.Commands.{Issue, commands, issue_at, issues}
use Rattle.edr_definitions.specs.Schedule.{Progress, Give, Close, IsAllowed, after_step, with_item, IsUnderWay}
use Rattle.edr_definitions.proofs.KeepLaws.{commands-start}
use Rattle.edr_definitions.proofs.LaterLaws.{issues-push}
use Rattle.edr_definitions.proofs.MarkLaws.{mark-more, horizon-least, horizon-more, horizon-with_item}
use Rattle.edr_definitions.proofs.ScheduleLaws.{never_ahead}
use Rattle.edr_core.specs.Calls.{CoreFollows}
use Rattle.edr_core.specs.Contents.{CoreContents}
use Rattle.edr_core.specs.StandsFor.{CoreIsFor}
use Rattle.edr_merge.specs.Answers.{is_waited_for, waited_for}
use Rattle.edr_merge.proofs.StandsLemmas.{find-holds}
use Rattle.edr_record.specs.declared.Command.{Command}
use Rattle.edr_cycle.specs.CycleLogged.{CycleLogged}
use Rattle.edr_banks.specs.Opened.{OpenedBanks}
use Rattle.edr_run.specs.Cycle.{issues_in}
use Rattle.edr_cycle.specs.Commits.{Commits}
use Rattle.edr_cycle.specs.Rest.{IsGiven, TakesFirst, GivesFirst, MayGiveFirst, PassesOn, issues_between, issues_past}
use Rattle.edr_cycle.proofs.CommittedLemmas.{commits_failed, commits_none, commits_same, commits_then}
use Rattle.edr_run.proofs.IssueLemmas.{issues-few, issues-more, issues-under_way}

-- how many items are left
abbrev pub left_count : SensorLists → ℕ
left_count left = total_of length left

-- what it issued is committed
pub record Runs {D : Type 0} (content : D → Option (List ℕ)) (settled : D → ℕ → Bool) (since : D → ℕ → List ℕ → Type 0) (clock good : D → ℕ) (lists : SensorLists) (n : ℕ) (base : ℕ) (core : CoreContents) (left : SensorLists) (b b' : OpenedBanks) (l l' : CycleLogged) (d d' : D) : Type 0 where
  pub given : IsGiven lists n core left
  pub from : base ≤ given.progress.closed
  pub commits : Commits {T = Unit {0}} {E = Unit {0}} content settled since clock good (issues_between given.progress.given n base given.progress.closed) (Ok tt) b b' l l' d d'

-- ---- what is issued between two ticks
pub drop_own : {X : Type 0} (xs : List X) → drop (length xs) xs ≡ []
drop_own [] = refl
drop_own (x ∷ xs) = drop_own xs

drop_same : {X : Type 0} (xs ys zs : List X) → ys ≡ xs ++ zs → drop (length xs) ys ≡ zs
drop_same xs ys zs is = ap (drop (length xs)) is ∙ drop-append_seam xs zs

pub issues-upto : (f : SensorLists) (n a t : ℕ) → a ≤ t → (more : List Issue) × (issues f n t ≡ issues f n a ++ more)
issues-upto f n a t from =
    let more = issues-more f n a (t - a) in
    let whole : a + (t - a) ≡ t = omega (arith, from) in
    (more.0, ap (issues f n) (sym whole) ∙ more.1)

pub between-whole : (f : SensorLists) (n a t : ℕ) → a ≤ t → issues f n t ≡ issues f n a ++ issues_between f n a t
between-whole f n a t from =
    let more = issues-upto f n a t from in
    more.1 ∙ ap (λ xs. issues f n a ++ xs) (sym (drop_same (issues f n a) (issues f n t) more.0 more.1))

pub between-length : (f : SensorLists) (n a t : ℕ) → a ≤ t → length (issues f n t) ≡ length (issues f n a) + length (issues_between f n a t)
between-length f n a t from = ap length (between-whole f n a t from) ∙ length-append (issues f n a) (issues_between f n a t)

pub between-next : (f : SensorLists) (n a t t' : ℕ) (new : List Issue) → a ≤ t → issues f n t' ≡ issues f n t ++ new → issues_between f n a t' ≡ issues_between f n a t ++ new
between-next f n a t t' new from adds =
    drop_same (issues f n a) (issues f n t') (issues_between f n a t ++ new) (adds ∙ ap (λ xs. xs ++ new) (between-whole f n a t from) ∙ append_assoc (issues f n a) (issues_between f n a t) new)

between-same : (f g : SensorLists) (n a t : ℕ) → issues f n a ≡ issues g n a → issues f n t ≡ issues g n t → issues_between f n a t ≡ issues_between g n a t
between-same f g n a t first second = ap (λ xs. drop (length xs) (issues f n t)) first ∙ ap (drop (length (issues g n a))) second

-- ---- what is left
pub rest_gives : (s r : Sensor) (x : Item) (ys : List Item) (lists given left : SensorLists) → ((q : Sensor) → items_of q lists ≡ items_of q given ++ items_of q left) → items_of s left ≡ x ∷ ys → items_of r lists ≡ items_of r (with_item s x given) ++ items_of r (with_items s ys left)
rest_gives s r x ys lists given left h is =
    with_value-both (λ q front back. items_of q lists ≡ front ++ back) s (items_of s given ++ x ∷ []) ys given left
    (h s ∙ ap (λ xs. items_of s given ++ xs) is ∙ sym (append_assoc (items_of s given) (x ∷ []) ys)) h r

-- one item fewer is left
pub left_count-less : (s : Sensor) (x : Item) (ys : List Item) (left : SensorLists) → items_of s left ≡ x ∷ ys → left_count (with_items s ys left) + 1 ≡ left_count left
left_count-less s x ys left is =
    let n = ap length is in
    let all = total-with length s ys left in
    omega (arith, n, all)

pub nothing_given : (s : Sensor) (xs : List Item) → xs ≡ items_of s no_items ++ xs
nothing_given s xs = ap (λ (ys : List Item). ys ++ xs) (sym (value_of-each {A = List Item} [] s))

-- what was the first item and was taken went to the core
pub gives-first : (s : Sensor) (x : Item) (taken : Option Item) (rest : List Item) (core core' : CoreContents) (left left' : SensorLists) → items_of s left ≡ x ∷ rest
    → TakesFirst taken (items_of s left) (items_of s left') → left' ≡ with_items s (items_of s left') left
    → CoreFollows (λ p. after_step p (Give s x)) core core' → ((m : ℕ) (p : Progress) → CoreIsFor core m p → IsAllowed (Give s x) p)
    → GivesFirst s core core' left left'
gives-first s x None rest core core' left left' is takes others follows allowed = let none = sym is ∙ takes in absurd cc
gives-first s x (Some y) rest core core' left left' is takes others follows allowed =
    let same = sym is ∙ takes in
    let left_are : rest ≡ items_of s left' = cc in
    record {
      item = x;
      first = is ∙ ap (λ xs. x ∷ xs) left_are;
      others = others;
      gives = follows;
      allowed = allowed;
    }

-- what holds with an Ok holds of this one
pub on_ok : {T E P : Type 0} (r : Result T E) (x : T) → r ≡ Ok x → OnOk r P → P
on_ok {P = P} r x is h = subst (λ y. OnOk y P) is h

pub on_is_ok : {T E P : Type 0} (r : Result T E) → is_ok r ≡ true → OnOk r P → P
on_is_ok (Ok x) is h = h
on_is_ok (Err e) is h = absurd cc

-- ---- the steps of a run
module _ {D : Type 0} (content : D → Option (List ℕ)) (settled : D → ℕ → Bool) (since : D → ℕ → List ℕ → Type 0) (clock good : D → ℕ) (lists : SensorLists) (n base : ℕ) (b : OpenedBanks) (l : CycleLogged) (d : D) where
  abbrev Now : CoreContents → SensorLists → OpenedBanks → CycleLogged → D → Type 0
  Now core left b' l' d' = Runs content settled since clock good lists n base core left b b' l l' d d'

  -- a run begins where it is
  pub run-begins : (core : CoreContents) (left : SensorLists) → IsGiven lists n core left → base ≡ core.closed → Now core left b l d
  run-begins core left given at =
      let p = given.progress in
      let same : base ≡ p.closed = at ∙ given.core_is.closed_is in
      record {
        given = given;
        from = omega (arith, same);
        commits = rw (ap (λ t. drop (length (issues p.given n t)) (issues p.given n p.closed)) same, drop_own (issues p.given n p.closed)) (commits_none content settled since clock good tt b l d);
      }

  -- a tick that is closed, with what it issues
  pub run-closes : {T E : Type 0} (core core' : CoreContents) (left : SensorLists) (b' b'' : OpenedBanks) (l' l'' : CycleLogged) (d' d'' : D) (t : ℕ) (cs : List Command) (r : Result T E) (x : T) → (run : Now core left b' l' d')
      → CoreIsFor core' n (after_step run.given.progress Close) → IsAllowed Close run.given.progress
      → t ≡ run.given.progress.closed + 1 → issues run.given.progress.given n t ≡ issues run.given.progress.given n run.given.progress.closed ++ map (issue_at t) cs
      → r ≡ Ok x → Commits content settled since clock good (map (issue_at t) cs) r b' b'' l' l'' d' d''
      → Now core' left b'' l'' d''
  run-closes {T} {E} core core' left b' b'' l' l'' d' d'' t cs r x run is may next adds was does =
      let p = run.given.progress in
      let ended : Result (Unit {0}) (Unit {0}) = Ok tt in
      let done : Commits content settled since clock good (map (issue_at t) cs) ended b' b'' l' l'' d' d'' = commits_same content settled since clock good (map (issue_at t) cs) r x tt b' b'' l' l'' d' d'' was does in
      record {
        given = record { progress = after_step p Close; core_is = is; within = omega (arith, may); rest = run.given.rest };
        from = let from = run.from in omega (arith, from);
        commits = commits_then content settled since clock good (issues_between p.given n base p.closed) (map (issue_at t) cs) (issues_between p.given n base (p.closed + 1)) ended ended tt b b' b'' l l' l'' d d' d'' (between-next p.given n base p.closed (p.closed + 1) (map (issue_at t) cs) run.from (ap (issues p.given n) (sym next) ∙ adds)) refl run.commits done;
      }

  -- an item that is given is no longer left
  pub run-gives : (core core' : CoreContents) (left left' : SensorLists) (b' : OpenedBanks) (l' : CycleLogged) (d' : D) (s : Sensor) (x : Item) → (run : Now core left b' l' d')
      → CoreIsFor core' n (after_step run.given.progress (Give s x)) → IsAllowed (Give s x) run.given.progress
      → items_of s left ≡ x ∷ items_of s left' → left' ≡ with_items s (items_of s left') left
      → Now core' left' b' l' d'
  run-gives core core' left left' b' l' d' s x run is may next others =
      let p = run.given.progress in
      let later : p.closed < x.moment = let a = run.given.within in let b = horizon-least p.given s in let c = refusal_of-rises s (mark_of (items_of s p.given)) x may.0 in omega (arith, a, b, c) in
      record {
        given = record {
          progress = after_step p (Give s x);
          core_is = is;
          within = let a = run.given.within in let b = horizon-with_item s x p.given may.0 in omega (arith, a, b);
          rest = λ q. rest_gives s q x (items_of s left') lists p.given left run.given.rest next ∙ ap (λ (l : SensorLists). items_of q (with_item s x p.given) ++ items_of q l) (sym others);
        };
        from = run.from;
        commits = rw (sym (between-same p.given (with_item s x p.given) n base p.closed (issues-push s p.given x n base (let from = run.from in omega (arith, from, later))) (issues-push s p.given x n p.closed later))) run.commits;
      }

  -- ticks that are passed, which issue nothing
  pub run-passes : (core core' : CoreContents) (left left' : SensorLists) (b' : OpenedBanks) (l' : CycleLogged) (d' : D) → (run : Now core left b' l' d') → PassesOn n run.given.progress core' left left' → Now core' left' b' l' d'
  run-passes core core' left left' b' l' d' run is =
      let p = run.given.progress in
      let q = is.last in
      let between : issues_between p.given n base p.closed ≡ issues_between q.given n base q.closed =
      ap (λ xs. drop (length xs) (issues p.given n p.closed)) (sym (is.early base run.from)) ∙ ap (drop (length (issues q.given n base))) (sym is.quiet) in
      record {
        given = record { progress = q; core_is = is.core_is; within = is.within run.given.within; rest = is.rest lists run.given.rest };
        from = let from = run.from in let later = is.from in omega (arith, from, later);
        commits = rw (sym between) run.commits;
      }

  -- one that may have been given
  pub run-may_give : (core core' : CoreContents) (left left' : SensorLists) (b' : OpenedBanks) (l' : CycleLogged) (d' : D) (s : Sensor) → Now core left b' l' d' → MayGiveFirst s core core' left left' → Now core' left' b' l' d'
  run-may_give core core' left left' b' l' d' s run (inl g) =
      let p = run.given.progress in
      let is = run.given.core_is in
      run-gives core core' left left' b' l' d' s g.item run (g.gives n p is) (g.allowed n p is) g.first g.others
  run-may_give core core' left left' b' l' d' s run (inr same) = rw (same.0, same.1) run

  -- one of each axis, once ticks are passed
  pub run-axes : (core passed core' core'' : CoreContents) (left kept left' left'' : SensorLists) (b' : OpenedBanks) (l' : CycleLogged) (d' : D) → (run : Now core left b' l' d')
      → PassesOn n run.given.progress passed left kept → MayGiveFirst Along passed core' kept left' → MayGiveFirst Across core' core'' left' left'' → Now core'' left'' b' l' d'
  run-axes core passed core' core'' left kept left' left'' b' l' d' run is along across =
      run-may_give core' core'' left' left'' b' l' d' Across (run-may_give passed core' kept left' b' l' d' Along (run-passes core passed left kept b' l' d' run is) along) across

  -- then no tick was closed, and no more is left
  pub closed-may_give : (core core' : CoreContents) (left left' : SensorLists) (b' : OpenedBanks) (l' : CycleLogged) (d' : D) (s : Sensor) → Now core left b' l' d' → MayGiveFirst s core core' left left'
      → (core'.closed ≡ core.closed) × (left_count left' ≤ left_count left)
  closed-may_give core core' left left' b' l' d' s run (inl g) =
      let p = run.given.progress in
      let is = run.given.core_is in
      let less = left_count-less s g.item (items_of s left') left g.first in
      let others = ap left_count g.others in
      ((g.gives n p is).closed_is ∙ sym is.closed_is, omega (arith, less, others))
  closed-may_give core core' left left' b' l' d' s run (inr same) = let left = ap left_count same.1 in (ap (λ (c : CoreContents). c.closed) same.0, omega (arith, left))

  -- none is open again that was closed, once ticks are passed
  pub closed-axes : (core passed core' core'' : CoreContents) (left kept left' left'' : SensorLists) (b' : OpenedBanks) (l' : CycleLogged) (d' : D) → (run : Now core left b' l' d')
      → PassesOn n run.given.progress passed left kept → MayGiveFirst Along passed core' kept left' → MayGiveFirst Across core' core'' left' left''
      → (core.closed ≤ core''.closed) × (left_count left'' ≤ left_count left)
  closed-axes core passed core' core'' left kept left' left'' b' l' d' run is along across =
      let on : Now passed kept b' l' d' = run-passes core passed left kept b' l' d' run is in
      let first = closed-may_give passed core' kept left' b' l' d' Along on along in
      let second = closed-may_give core' core'' left' left'' b' l' d' Across (run-may_give passed core' kept left' b' l' d' Along on along) across in
      let before = run.given.core_is.closed_is in
      let after = is.core_is.closed_is in
      let from = is.from in
      let fewer = is.fewer in
      let same = second.0 ∙ first.0 in
      (omega (arith, before, after, from, same), let a = first.1 in let b = second.1 in omega (arith, a, b, fewer))

  module _ (feeds : AreFeeds lists) (level : IsLevel lists) where
    under_way : (core : CoreContents) (left : SensorLists) → (g : IsGiven lists n core left) → IsUnderWay lists g.progress
    under_way core left g = record { begun = λ s. (items_of s left, g.rest s); within = g.within }

    -- no more was given than there is
    horizon-low : (p : Progress) → IsUnderWay lists p → horizon_of p.given ≤ horizon_of lists
    horizon-low p on = horizon-more p.given lists (λ s.
        let whole : IsFeed s (items_of s p.given ++ (on.begun s).0) = subst (λ (xs : List Item). IsFeed s xs) (on.begun s).1 (feeds s) in
        let more = mark-more s 0 (items_of s p.given) (on.begun s).0 whole in
        let e : mark_of (items_of s lists) ≡ mark_of (items_of s p.given ++ (on.begun s).0) = ap mark_of (on.begun s).1 in
        omega (arith, more, e))

    waited_at : (p : Progress) (s : Sensor) → Some s ≡ waited_for p → mark_of (items_of s p.given) ≡ p.closed
    unfolding waited_for
    waited_at p s waits = eqb-true (mark_of (items_of s p.given)) p.closed (find-holds (is_waited_for p) sensors s (sym waits))

    -- the next item of the sensor that is waited for may be given
    pub give-allowed : (core : CoreContents) (left : SensorLists) → (g : IsGiven lists n core left) → (s : Sensor) (x : Item) (ys : List Item) → Some s ≡ waited_for g.progress → items_of s left ≡ x ∷ ys → IsAllowed (Give s x) g.progress
    give-allowed core left g s x ys waits next =
        let given = items_of s g.progress.given in
        never_ahead lists g.progress feeds level (under_way core left g) s x (ys, g.rest s ∙ ap (λ xs. given ++ xs) next ∙ sym (append_assoc given (x ∷ []) ys)) (inl (waited_at g.progress s waits))

    -- a closed tick is within the horizon
    pub closes-below : (core : CoreContents) (left : SensorLists) → (g : IsGiven lists n core left) → IsAllowed Close g.progress → core.closed + 1 ≤ horizon_of lists
    closes-below core left g may =
        let a = g.core_is.closed_is in
        let b = horizon-low g.progress (under_way core left g) in
        omega (arith, a, b, may)

    -- there is room for what the next tick issues
    pub room-left : (core : CoreContents) (left : SensorLists) (b' : OpenedBanks) (l' : CycleLogged) (d' : D) (t : ℕ) (cs : List Command) → (run : Now core left b' l' d') → IsAllowed Close run.given.progress
        → t ≡ run.given.progress.closed + 1 → issues run.given.progress.given n t ≡ issues run.given.progress.given n run.given.progress.closed ++ map (issue_at t) cs
        → 3 * (horizon_of lists / 51 + 1) ≤ l.spare + length (issues lists n base) → length cs ≤ l'.spare
    room-left core left b' l' d' t cs run may next adds room =
        let p = run.given.progress in
        let few = issues-few p.given n t in
        let all : length (issues p.given n t) ≡ length (issues p.given n p.closed) + length cs = ap length adds ∙ length-append (issues p.given n p.closed) (map (issue_at t) cs) ∙ ap (λ k. length (issues p.given n p.closed) + k) (length-map cs (issue_at t)) in
        let spare : l'.spare ≡ l.spare - length (issues_between p.given n base p.closed) = ap (λ (m : CycleLogged). m.spare) run.commits.log_is in
        let from = run.from in
        let within = run.given.within in
        let past = between-length p.given n base p.closed from in
        let before = ap length (issues-under_way lists p n base feeds (under_way core left run.given) (omega (arith, from, within))) in
        let high = horizon-low p (under_way core left run.given) in
        let below : t / 51 ≤ horizon_of lists / 51 = omega (arith, may, next, high) in
        omega (arith, few, all, spare, room, below, past, before)

    -- what is issued up to a tick, and then the rest of the cycle
    issues-whole : (core : CoreContents) (left : SensorLists) (t : ℕ) → (g : IsGiven lists n core left) → base ≤ t → t ≤ horizon_of g.progress.given → (more : List Issue) × (issues_past lists n base ≡ issues_between g.progress.given n base t ++ more)
    issues-whole core left t g from upto =
        let p = g.progress in
        let on = under_way core left g in
        let high = horizon-low p on in
        let more = issues-upto lists n t (horizon_of lists) (omega (arith, upto, high)) in (
          more.0,
          between-next lists n base t (horizon_of lists) more.0 from more.1
              ∙ ap (λ xs. xs ++ more.0) (sym (between-same p.given lists n base t (issues-under_way lists p n base feeds on (omega (arith, from, upto))) (issues-under_way lists p n t feeds on upto))),
        )

    -- where a command of a tick fails, it is one of the cycle's
    pub run-fails : {T E T' E' : Type 0} (core : CoreContents) (left : SensorLists) (b' b'' : OpenedBanks) (l' l'' : CycleLogged) (d' d'' : D) (t : ℕ) (cs : List Command) (r : Result T E) (r' : Result T' E') (e : E) → (run : Now core left b' l' d') → IsAllowed Close run.given.progress
        → t ≡ run.given.progress.closed + 1 → issues run.given.progress.given n t ≡ issues run.given.progress.given n run.given.progress.closed ++ map (issue_at t) cs
        → r ≡ Err e → IsErr r' → Commits content settled since clock good (map (issue_at t) cs) r b' b'' l' l'' d' d''
        → Commits content settled since clock good (issues_past lists n base) r' b b'' l l'' d d''
    run-fails core left b' b'' l' l'' d' d'' t cs r r' e run may next adds was is does =
        let p = run.given.progress in
        let ended : Result (Unit {0}) (Unit {0}) = Ok tt in
        let from = run.from in
        let so_far = commits_then content settled since clock good (issues_between p.given n base p.closed) (map (issue_at t) cs) (issues_between p.given n base t) ended r tt b b' b'' l l' l'' d d' d'' (between-next p.given n base p.closed t (map (issue_at t) cs) from adds) refl run.commits does in
        let whole = issues-whole core left t run.given (omega (arith, next, from)) (omega (arith, may, next)) in
        commits_failed content settled since clock good (issues_between p.given n base t) whole.0 (issues_past lists n base) r r' e b b'' l l'' d d'' whole.1 was is so_far

    -- where nothing is left of the sensor that is waited for, all is committed
    pub run-over : {T E : Type 0} (y : T) (core : CoreContents) (left : SensorLists) (b' : OpenedBanks) (l' : CycleLogged) (d' : D) (s : Sensor) → (run : Now core left b' l' d') → Some s ≡ waited_for run.given.progress → items_of s left ≡ [] → Commits {E = E} content settled since clock good (issues_past lists n base) (Ok y) b b' l l' d d'
    run-over y core left b' l' d' s run waits over =
        let p = run.given.progress in
        let on = under_way core left run.given in
        let whole : items_of s lists ≡ items_of s p.given = run.given.rest s ∙ ap (λ xs. items_of s p.given ++ xs) over ∙ append-nil (items_of s p.given) in
        let at : mark_of (items_of s lists) ≡ p.closed = ap mark_of whole ∙ waited_at p s waits in
        let a = horizon-least lists s in
        let high = horizon-low p on in
        let c = run.given.within in
        let end : p.closed ≡ horizon_of lists = omega (arith, at, a, high, c) in
        let from = run.from in
        let all : issues_past lists n base ≡ issues_between p.given n base p.closed = ap (λ t. issues_between lists n base t) (sym end) ∙ sym (between-same p.given lists n base p.closed (issues-under_way lists p n base feeds on (omega (arith, from, c))) (issues-under_way lists p n p.closed feeds on c)) in
        let ended : Result (Unit {0}) (Unit {0}) = Ok tt in
        let done = commits_same content settled since clock good (issues_between p.given n base p.closed) ended tt y b b' l l' d d' refl run.commits in
        rw all done

-- ---- a run from the start
pub given-none : (lists left : SensorLists) (n : ℕ) (core : CoreContents) → CoreIsFor core n (record { given = no_items; closed = 0 }) → left ≡ lists → IsGiven lists n core left
given-none lists left n core is all = record {
  progress = record { given = no_items; closed = 0 };
  core_is = is;
  within = omega arith;
  rest = λ s. ap (items_of s) (sym all) ∙ nothing_given s (items_of s left);
}

-- nothing is issued up to the start of a cycle, whatever its lists
pub issues-start : (f : SensorLists) (n : ℕ) → issues f n 0 ≡ []
unfolding commands
issues-start f n = none (issues f n 0) (commands-start f n)
  where
    none : (xs : List Issue) → map (λ i. i.command) xs ≡ [] → xs ≡ []
    none [] h = refl
    none (x ∷ xs) h = absurd (cc)

pub past-start : (f : SensorLists) (n : ℕ) → issues_past f n 0 ≡ issues_in f n
past-start f n = ap (λ xs. drop (length xs) (issues_in f n)) (issues-start f n)
