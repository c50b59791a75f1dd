-- What comes of a whole cycle, by its start and its commands, in whichever way these are run.
use Rattle.std.proofs.Common.{◌≡◌, ◌≤◌, ◌<◌, ◌+◌, ℕ, Bool, List, Option, Result, Ok, Err, inl, inr, sym, subst}
use Rattle.edr_device.specs.Device.{MayLeave}
use Rattle.edr_device.specs.Lent.{Between, GoesOn}
use Rattle.edr_device.specs.declared.device.Nvm.{Ghosts}
use Rattle.edr_device.specs.declared.fused.Fused.{Fused}
use Rattle.edr_gates.specs.Found.{Holds}
use Rattle.edr_image.specs.declared.Ack.{Ack}
use Rattle.edr_image.specs.declared.log.CycleReport.{CycleReport}
use Rattle.edr_image.specs.declared.log.CycleReport.TheVariants as told
use Rattle.edr_image.specs.Banks.{Store}
use Rattle.edr_spell.specs.declared.CycleInput.{CycleInput}
use Rattle.edr_run.specs.Cycle.{last_count}
use Rattle.edr_cycle.specs.declared.started.StartFault.{StartFault}
use Rattle.edr_cycle.specs.declared.started.StartFault.TheVariants as fault
use Rattle.edr_replay.specs.Past.{LeavesPast}
use Rattle.edr_replay.specs.Phases.{BeginsAs, EndsRun, StartsUntil}
use Rattle.edr_replay.specs.Replayed.{Leaving, LeftAlone, LeftOrCounted, RunsCycle, WantLeaves}
use Rattle.edr_replay.specs.declared.phases.StartedCycle.{StartedCycle}
use Rattle.edr_replay.specs.declared.phases.StartedCycle.TheVariants.{Stopped}
use Rattle.edr_replay.proofs.CycleLemmas.{begun_ran, goes_again, goes_self, memory_refused, memory_short, memory_unspent, not_refused, not_short, not_spent, rose_later, stopped_ends}
use Rattle.edr_replay.proofs.EndPhaseLemmas.{RanFused, fused_fault, fused_left, fused_lent, fused_past, fused_ran}
use Rattle.edr_replay.proofs.LeavingLemmas.{not_memory, part_counted, part_none, part_of_run, part_of_start}
use Rattle.edr_replay.proofs.PastLemmas.{begun_past, past_none}

-- ---- want of memory

pub alone_leaves : (e : StartFault) (content : Option (List ℕ)) (settled : ℕ → Bool) (content' : Option (List ℕ)) (settled' : ℕ → Bool) → WantLeaves LeftAlone content settled content' settled' e → WantLeaves LeftOrCounted content settled content' settled' e
unfolding WantLeaves
alone_leaves e content settled content' settled' alone = λ memory v n holds. inl (alone memory v n holds)

-- before anything was done
wants_none : (e : StartFault) (content : Option (List ℕ)) (settled : ℕ → Bool) → WantLeaves LeftOrCounted content settled content settled e
unfolding WantLeaves
wants_none e content settled = λ memory v n holds. inl holds

pub wants_at_once : {D : Type 0} {g : Ghosts D} (c : CycleInput) (d : D) → g.goes_on d d → RunsCycle g LeftOrCounted c d d (Err fault.OutOfMemory)
wants_at_once {g = g} c d self = record {
  lent = goes_self d self;
  ran = tt;
  refused = memory_refused (g.content d) (g.settled d);
  short = memory_short (g.extent d);
  fault = λ device. absurd device;
  spent = memory_unspent (g.content d) (g.settled d) (g.content d) (g.settled d);
  memory = wants_none fault.OutOfMemory (g.content d) (g.settled d);
  left = part_none c (g.content d) (g.settled d);
  past = past_none (g.content d) (g.settled d);
}

-- ---- the start

-- it failed
pub start_fails : {D : Type 0} {g : Ghosts D} (left : Leaving) (c : CycleInput) (ticks : ℕ) (old new : D) (e : StartFault) (r : Result CycleReport StartFault)
    → (WantLeaves LeftAlone (g.content old) (g.settled old) (g.content new) (g.settled new) e → WantLeaves left (g.content old) (g.settled old) (g.content new) (g.settled new) e)
    → StartsUntil g c.start_stop ticks old new (Err e) → r ≡ Err e → RunsCycle g left c old new r
start_fails {g = g} left c ticks old new e r weaker start is = subst (λ (x : Result CycleReport StartFault). RunsCycle g left c old new x) (sym is) (record {
  lent = start.lent;
  ran = tt;
  refused = start.refused;
  short = start.short;
  fault = start.fault;
  spent = start.spent;
  memory = weaker start.memory;
  left = part_of_start c (g.content old) (g.settled old) (g.content new) (g.settled new) start.left;
  past = start.past;
})

-- it was stopped
pub start_stops : {D : Type 0} {g : Ghosts D} (left : Leaving) (c : CycleInput) (ticks : ℕ) (old new : D) (b : StartedCycle) → c.start_stop ≤ 6 → b ≡ Stopped
    → StartsUntil g c.start_stop ticks old new (Ok b) → RunsCycle g left c old new (Ok (told.StartStopped c.start_stop))
start_stops {g = g} left c ticks old new b upto is start = record {
  lent = start.lent;
  ran =
      let begun = subst (λ (x : StartedCycle). BeginsAs x c.start_stop ticks (g.extent old) (g.content old) (g.settled old) (g.content new) (g.settled new)) is start.ran in
      λ v n holds. stopped_ends c v n (g.content new) (g.settled new) begun.0 upto (begun.1 v n holds).0 (begun.1 v n holds).1;
  refused = tt;
  short = tt;
  fault = tt;
  spent = tt;
  memory = tt;
  left = tt;
  past = start.past;
}

-- it was done: the device goes on, and holds its banks with its number
pub record HasBegun {D : Type 0} (g : Ghosts D) (number : ℕ) (store : Store) (old mid : D) : Type 0 where
  pub lent : GoesOn g old mid
  pub found : (v : Store) (n : ℕ) → Holds (g.content old) (g.settled old) v n → (n < last_count) × (store ≡ v) × (number ≡ n + 1) × Holds (g.content mid) (g.settled mid) v (n + 1)
  pub past : Between g LeavesPast old mid

-- ---- the commands

-- memory was wanted before the first one
wants_counted : (e : StartFault) (content : Option (List ℕ)) (settled : ℕ → Bool) (content' : Option (List ℕ)) (settled' : ℕ → Bool) → ((v : Store) (n : ℕ) → Holds content settled v n → (n < last_count) × Holds content' settled' v (n + 1))
    → WantLeaves LeftOrCounted content settled content' settled' e
unfolding WantLeaves
wants_counted e content settled content' settled' counted = λ memory v n holds. inr (counted v n holds)

pub wants_begun : {D : Type 0} {g : Ghosts D} (c : CycleInput) (number : ℕ) (store : Store) (old mid new : D) (r : Result CycleReport StartFault)
    → HasBegun g number store old mid → new ≡ mid → r ≡ Err fault.OutOfMemory → RunsCycle g LeftOrCounted c old new r
wants_begun {D = D} {g = g} c number store old mid new r begun same is = subst (λ (x : Result CycleReport StartFault). RunsCycle g LeftOrCounted c old new x) (sym is) (subst (λ (d : D). RunsCycle g LeftOrCounted c old d (Err fault.OutOfMemory)) (sym same) (record {
  lent = begun.lent;
  ran = tt;
  refused = memory_refused (g.content old) (g.settled old);
  short = memory_short (g.extent old);
  fault = λ device. absurd device;
  spent = memory_unspent (g.content old) (g.settled old) (g.content mid) (g.settled mid);
  memory = wants_counted fault.OutOfMemory (g.content old) (g.settled old) (g.content mid) (g.settled mid) (λ v n holds. let f = begun.found v n holds in (f.0, f.3));
  left = part_counted c (g.content old) (g.settled old) (g.content mid) (g.settled mid) (λ v n holds. let f = begun.found v n holds in (f.0, f.3));
  past = begun.past;
}))

-- they ran over a fuse, and were ended
pub commands_end : {D : Type 0} {g : Ghosts D} (left : Leaving) (c : CycleInput) (number : ℕ) (store : Store) (failed cut : Bool) (acks : List Ack) (armed fuse : Fused D g) (old mid new : D) (r : Result CycleReport StartFault)
    → ((a b d : D) → g.goes_on a b → g.goes_on b d → g.goes_on a d)
    → ((u : ℕ) (image : List ℕ) → u ≤ g.clock fuse.nvm.now → MayLeave (g.content fuse.nvm.now) (g.settled fuse.nvm.now) image → g.since fuse.nvm.now u image)
    → c.start_stop ≡ 0 → HasBegun g number store old mid → armed.nvm.now ≡ mid
    → RanFused c.feeds c.stop number store failed cut acks armed fuse → EndsRun g c.stop number failed cut acks r fuse.nvm.now new
    → RunsCycle g left c old new r
commands_end {D = D} {g = g} left c number store failed cut acks armed fuse old mid new r again counts run begun0 same ran ends =
    let at = armed.nvm.now in
    let begun : HasBegun g number store old at = subst (λ (d : D). HasBegun g number store old d) (sym same) begun0 in
    let fault = fused_fault c.feeds c.stop number store failed cut acks armed fuse new r ran ends in
    record {
      lent = goes_again old at new (again old at new) begun.lent (goes_again at fuse.nvm.now new (again at fuse.nvm.now new) (fused_lent c.feeds c.stop number store failed cut acks armed fuse ran) ends.lent);
      ran = begun_ran c number store (g.content old) (g.settled old) (g.content at) (g.settled at) (g.content new) (g.settled new) r run begun.found (fused_ran c.feeds c.stop number store failed cut acks armed fuse new r ran ends);
      refused = not_refused r (g.faults at) (g.faults new) (g.content old) (g.settled old) fault;
      short = not_short r (g.faults at) (g.faults new) (g.extent old) fault;
      fault = rose_later r (g.faults old) (g.faults at) (g.faults new) begun.lent.later fault;
      spent = not_spent r (g.faults at) (g.faults new) (g.content old) (g.settled old) (g.content new) (g.settled new) fault;
      memory = not_memory left r (g.faults at) (g.faults new) (g.content old) (g.settled old) (g.content new) (g.settled new) fault;
      left = part_of_run c number store (g.content old) (g.settled old) (g.content at) (g.settled at) (g.content new) (g.settled new) r run begun.found (fused_left c.feeds c.stop number store failed cut acks armed fuse new r ran ends);
      past = begun_past number store (g.content old) (g.content at) (g.content new) (g.settled old) (g.settled at) (g.settled new) begun.past begun.found (fused_past c.feeds c.stop number store failed cut acks armed fuse new r counts ran ends);
    }
