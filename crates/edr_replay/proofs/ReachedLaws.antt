-- What is reached is what a run comes to that plans its stop there, so the laws of runs hold of it.
use Rattle.std.proofs.Common.{◌≡◌, refl, subst, sym, inl, inr, ℕ, zero, suc, List, [], ◌∷◌, ◌++◌, take}
use Rattle.std.specs.Prelude.{Some, true, slice_get}
use Rattle.edr_items.specs.SensorLists.{SensorLists}
use Rattle.edr_record.specs.declared.Record.{Record}
use Rattle.edr_image.specs.declared.BankView.TheVariants.{Event}
use Rattle.edr_image.specs.Banks.{Store}
use Rattle.edr_image.specs.Kept.{AreKept}
use Rattle.edr_spell.specs.declared.CycleInput.{CycleInput}
use Rattle.edr_run.specs.Cycle.{End, IsCycle, start_stopped, start_counted, cut, Outcome, IsRun}
use Rattle.edr_run.specs.Own.{IsInWindow, IsRecordOf}
use Rattle.edr_run.proofs.OrderLaws.{run-kept, run-locked}
use Rattle.edr_run.proofs.OwnLaws.{run-own}
use Rattle.edr_cycle.specs.Ends.{cycle_with}
use Rattle.edr_replay.specs.Reached.{IsStopIn, in_start, in_start_counted, in_commands, IsReached, between, inside, IsOfCycles}
use Rattle.edr_replay.proofs.RunLemmas.{extended, run_more}

-- ---- the run that plans its stop there

-- an end of the cycle over the same feeds that plans its stop there
planned : (c : CycleInput) (v : Store) (n : ℕ) (e : End) → IsStopIn c v n e → (j : ℕ) × (k : ℕ) × IsCycle (cycle_with j c.feeds k) v n e
planned c v n e (in_start j some few is) = (j, 0, start_stopped some few is)
planned c v n e (in_start_counted j late few is) = (j, 0, start_counted late few is)
planned c v n e (in_commands k done at is) = (0, k, cut done refl at is)

-- one of the cycles has these feeds
abbrev HasFeeds : List CycleInput → SensorLists → Type 0
HasFeeds cs f = (k : ℕ) × (c : CycleInput) × (slice_get cs k ≡ Some c) × (c.feeds ≡ f)

first_feeds : (p : ℕ) (cs : List CycleInput) (k : ℕ) (d : CycleInput) → slice_get (take p cs) k ≡ Some d → HasFeeds cs d.feeds
first_feeds zero cs k d at = cc
first_feeds (suc p) [] k d at = cc
first_feeds (suc p) (c ∷ cs) zero d at = (zero, d, at, refl)
first_feeds (suc p) (c ∷ cs) (suc k) d at = let rest = first_feeds p cs k d at in (suc rest.0, rest.1, rest.2, rest.3)

next_feeds : (p : ℕ) (cs : List CycleInput) (c x : CycleInput) (k : ℕ) (d : CycleInput) → slice_get cs p ≡ Some c → c.feeds ≡ x.feeds → slice_get (take p cs ++ x ∷ []) k ≡ Some d → HasFeeds cs d.feeds
next_feeds zero cs c x zero d next same at = (zero, c, next, let e : x ≡ d = cc in subst (λ (y : CycleInput). c.feeds ≡ y.feeds) e same)
next_feeds zero cs c x (suc k) d next same at = cc
next_feeds (suc p) [] c x k d next same at = cc
next_feeds (suc p) (a ∷ cs) c x zero d next same at = (zero, d, at, refl)
next_feeds (suc p) (a ∷ cs) c x (suc k) d next same at = let rest = next_feeds p cs c x k d next same at in (suc rest.0, rest.1, rest.2, rest.3)

-- a run over the same feeds that comes to the banks and the count
record RanTo (cs : List CycleInput) (v : Store) (n : ℕ) (w : Store) (m : ℕ) : Type 0 where
  cycles : List CycleInput
  outcome : Outcome
  run : IsRun cycles v n outcome
  store : outcome.store ≡ w
  count : outcome.count ≡ m
  feeds : (k : ℕ) (d : CycleInput) → slice_get cycles k ≡ Some d → HasFeeds cs d.feeds

ran_to : (cs : List CycleInput) (v : Store) (n : ℕ) (w : Store) (m : ℕ) → IsReached cs v n w m → RanTo cs v n w m
ran_to cs v n w m (between p o first store count) =
    record { cycles = take p cs; outcome = o; run = first.run; store = sym store; count = sym count; feeds = first_feeds p cs }
ran_to cs v n w m (inside p o c e first next left stop store count) =
    let s = planned c o.store o.count e stop in
    let d = cycle_with s.0 c.feeds s.1 in
    record { cycles = take p cs ++ d ∷ []; outcome = extended o e; run = run_more (take p cs) d v n o e first.run left s.2; store = sym store; count = sym count; feeds = λ k x at. next_feeds p cs c d k x next refl at }

-- ---- what holds of it

pub reached-kept : (cs : List CycleInput) (v : Store) (n : ℕ) (w : Store) (m : ℕ) → AreKept v.banks n → IsReached cs v n w m → AreKept w.banks m
reached-kept cs v n w m kept reached =
    let r = ran_to cs v n w m reached in
    subst (λ (k : ℕ). AreKept w.banks k) r.count (subst (λ (s : Store). AreKept s.banks r.outcome.count) r.store (run-kept r.cycles v n r.outcome kept r.run))

pub reached-locked : (cs : List CycleInput) (v : Store) (n : ℕ) (w : Store) (m i : ℕ) (r : Record) → IsReached cs v n w m → slice_get v.banks i ≡ Some (Event r) → r.locked ≡ true → slice_get w.banks i ≡ Some (Event r)
reached-locked cs v n w m i r reached stands locked =
    let run = ran_to cs v n w m reached in
    subst (λ (s : Store). slice_get s.banks i ≡ Some (Event r)) run.store (run-locked run.cycles v n i run.outcome r run.run stands locked)

pub reached-own : (cs : List CycleInput) (v : Store) (n : ℕ) (w : Store) (m i : ℕ) (r : Record) → AreKept v.banks n → IsReached cs v n w m → slice_get w.banks i ≡ Some (Event r) → IsOfCycles cs v.banks n i r
reached-own cs v n w m i r kept reached stands = go (run-own run.cycles v n i run.outcome r kept run.run (subst (λ (s : Store). slice_get s.banks i ≡ Some (Event r)) (sym run.store) stands))
  where
    run : RanTo cs v n w m
    run = ran_to cs v n w m reached

    go : IsInWindow run.cycles v.banks n run.outcome.reports i r → IsOfCycles cs v.banks n i r
    go (inl old) = inl old
    go (inr new) =
        let f = run.feeds new.2.0 new.1 new.2.1 in
        inr (new.0, f.0, f.1, f.2, subst (λ (g : SensorLists). IsRecordOf g r.pre.key.cycle r) (sym f.3) new.3)
