-- While the rest of a cycle is done by one thread, what its closed ticks issued is committed.
use Rattle.std.proofs.Common.{arith, ap, sym, subst, ◌≡◌, ◌∙◌, ℕ, ◌+◌, ◌-◌, ◌*◌, ◌/◌, ◌≤◌, Bool, Option, List, ◌++◌, map, length, Result, Ok, Err, refl}
use Rattle.std.specs.Prelude.{IsErr}
use Rattle.std.proofs.lemmas.List.{length-append, length-map}
use Rattle.edr_items.specs.SensorLists.{SensorLists, horizon_of}
use Rattle.edr_definitions.specs.Commands.{issue_at, issues}
use Rattle.edr_record.specs.declared.Command.{Command}
use Rattle.edr_cycle.specs.CycleLogged.{CycleLogged}
use Rattle.edr_banks.specs.Opened.{OpenedBanks}
use Rattle.edr_core.specs.SplitHistory.{History}
use Rattle.edr_core.specs.SplitContents.{SplitContents}
use Rattle.edr_run.proofs.IssueLemmas.{issues-few}
use Rattle.edr_cycle.specs.declared.remaining.Remaining.{Remaining}
use Rattle.edr_cycle.specs.Commits.{Commits}
use Rattle.edr_cycle.specs.Remaining.{Remains, RemainsAt}
use Rattle.edr_cycle.specs.Rest.{issues_between, issues_past}
use Rattle.edr_cycle.proofs.CommittedLemmas.{commits_failed, commits_none, commits_same, commits_then}
use Rattle.edr_cycle.proofs.RunStepLemmas.{between-length, between-next, drop_own, issues-upto}

-- what is left, and what was issued past the tick `base` is committed
pub record RunsRest {D : Type 0} (content : D → Option (List ℕ)) (settled : D → ℕ → Bool) (since : D → ℕ → List ℕ → Type 0) (clock good : D → ℕ) (lists : SensorLists) (n : ℕ) (base : ℕ) (core : SplitContents) (rest : Remaining) (b b' : OpenedBanks) (l l' : CycleLogged) (d d' : D) : Type 0 where
  pub history : History
  pub remains : RemainsAt lists n history core rest
  pub from : base ≤ history.past.closed
  pub commits : Commits {T = Unit {0}} {E = Unit {0}} content settled since clock good (issues_between lists n base history.past.closed) (Ok tt) b b' l l' d d'

module _ {D : Type 0} (content : D → Option (List ℕ)) (settled : D → ℕ → Bool) (since : D → ℕ → List ℕ → Type 0) (clock good : D → ℕ) (lists : SensorLists) (n base : ℕ) (b : OpenedBanks) (l : CycleLogged) (d : D) where
  abbrev Now : SplitContents → Remaining → OpenedBanks → CycleLogged → D → Type 0
  Now core rest b' l' d' = RunsRest content settled since clock good lists n base core rest b b' l l' d d'

  abbrev Committed : ℕ → OpenedBanks → CycleLogged → D → Type 0
  Committed t b' l' d' = Commits {T = Unit {0}} {E = Unit {0}} content settled since clock good (issues_between lists n base t) (Ok tt) b b' l l' d d'

  pub rest-begins : (core : SplitContents) (rest : Remaining) → Remains lists n core rest → base ≡ core.closed → Now core rest b l d
  rest-begins core rest r at =
      let same : base ≡ r.history.past.closed = at ∙ r.remains.core_is.closed_is in
      record {
        history = r.history;
        remains = r.remains;
        from = omega (arith, same);
        commits = subst (λ t. Committed t b l d) same (rw (drop_own (issues lists n base)) (commits_none content settled since clock good tt b l d));
      }

  -- no tick is closed
  pub rest-goes : (core core' : SplitContents) (rest rest' : Remaining) (b' : OpenedBanks) (l' : CycleLogged) (d' : D) → (run : Now core rest b' l' d') → (h' : History) → h'.past.closed ≡ run.history.past.closed → RemainsAt lists n h' core' rest' → Now core' rest' b' l' d'
  rest-goes core core' rest rest' b' l' d' run h' same remains = record {
    history = h';
    remains = remains;
    from = let from = run.from in omega (arith, from, same);
    commits = subst (λ t. Committed t b' l' d') (sym same) run.commits;
  }

  module _ (core : SplitContents) (rest : Remaining) (b' : OpenedBanks) (l' : CycleLogged) (d' : D) (run : Now core rest b' l' d') (t : ℕ) (cs : List Command) (next : t ≡ run.history.past.closed + 1) (adds : issues lists n t ≡ issues lists n run.history.past.closed ++ map (issue_at t) cs) where
    abbrev closed : ℕ
    closed = run.history.past.closed

    longer : issues_between lists n base t ≡ issues_between lists n base closed ++ map (issue_at t) cs
    longer = between-next lists n base closed t (map (issue_at t) cs) run.from adds

    -- a tick is closed, and what it issues is committed
    pub rest-closes : {T E : Type 0} (core' : SplitContents) (rest' : Remaining) (b'' : OpenedBanks) (l'' : CycleLogged) (d'' : D) (r : Result T E) (x : T) → (h' : History) → h'.past.closed ≡ t → RemainsAt lists n h' core' rest'
        → r ≡ Ok x → Commits content settled since clock good (map (issue_at t) cs) r b' b'' l' l'' d' d'' → Now core' rest' b'' l'' d''
    rest-closes core' rest' b'' l'' d'' r x h' same remains was does =
        let ended : Result (Unit {0}) (Unit {0}) = Ok tt in
        let done : Commits content settled since clock good (map (issue_at t) cs) ended b' b'' l' l'' d' d'' = commits_same content settled since clock good (map (issue_at t) cs) r x tt b' b'' l' l'' d' d'' was does in
        record {
          history = h';
          remains = remains;
          from = let from = run.from in omega (arith, from, next, same);
          commits = subst (λ u. Committed u b'' l'' d'') (sym same)
              (commits_then content settled since clock good (issues_between lists n base closed) (map (issue_at t) cs) (issues_between lists n base t) ended ended tt b b' b'' l l' l'' d d' d'' longer refl run.commits done);
        }

    -- there is room for what it issues
    pub rest-room : t ≤ horizon_of lists → 3 * (horizon_of lists / 51 + 1) ≤ l.spare + length (issues lists n base) → length cs ≤ l'.spare
    rest-room upto room =
        let few = issues-few lists n t in
        let all : length (issues lists n t) ≡ length (issues lists n closed) + length cs = ap length adds ∙ length-append (issues lists n closed) (map (issue_at t) cs) ∙ ap (λ k. length (issues lists n closed) + k) (length-map cs (issue_at t)) in
        let spare : l'.spare ≡ l.spare - length (issues_between lists n base closed) = ap (λ (m : CycleLogged). m.spare) run.commits.log_is in
        let past = between-length lists n base closed run.from in
        let below : t / 51 ≤ horizon_of lists / 51 = omega (arith, upto) in
        omega (arith, few, all, spare, room, below, past)

    -- where a command of it fails, it is one of the cycle's
    pub rest-fails : {T E T' E' : Type 0} (b'' : OpenedBanks) (l'' : CycleLogged) (d'' : D) (r : Result T E) (r' : Result T' E') (e : E) → t ≤ horizon_of lists
        → r ≡ Err e → IsErr r' → Commits content settled since clock good (map (issue_at t) cs) r b' b'' l' l'' d' d''
        → Commits content settled since clock good (issues_past lists n base) r' b b'' l l'' d d''
    rest-fails b'' l'' d'' r r' e upto was is does =
        let ended : Result (Unit {0}) (Unit {0}) = Ok tt in
        let from : base ≤ t = let f = run.from in omega (arith, f, next) in
        let so_far = commits_then content settled since clock good (issues_between lists n base closed) (map (issue_at t) cs) (issues_between lists n base t) ended r tt b b' b'' l l' l'' d d' d'' longer refl run.commits does in
        let more = issues-upto lists n t (horizon_of lists) upto in
        commits_failed content settled since clock good (issues_between lists n base t) more.0 (issues_past lists n base) r r' e b b'' l l'' d d'' (between-next lists n base t (horizon_of lists) more.0 from more.1) was is so_far

  -- at the horizon all is committed
  pub rest-over : {T E : Type 0} (y : T) (core : SplitContents) (rest : Remaining) (b' : OpenedBanks) (l' : CycleLogged) (d' : D) → (run : Now core rest b' l' d') → horizon_of lists ≤ run.history.past.closed → Commits {E = E} content settled since clock good (issues_past lists n base) (Ok y) b b' l l' d d'
  rest-over y core rest b' l' d' run upto =
      let within = run.remains.within in
      let end : run.history.past.closed ≡ horizon_of lists = omega (arith, within, upto) in
      let all : issues_past lists n base ≡ issues_between lists n base run.history.past.closed = ap (λ t. issues_between lists n base t) (sym end) in
      let ended : Result (Unit {0}) (Unit {0}) = Ok tt in
      let done = commits_same content settled since clock good (issues_between lists n base run.history.past.closed) ended tt y b b' l l' d d' refl run.commits in
      rw all done
