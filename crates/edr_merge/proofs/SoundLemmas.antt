-- The fields of a merge stay sound.
use Rattle.std.proofs.Common.{arith, ◌≡◌, ℕ, ◌+◌, ◌≤◌, None, All}
use Rattle.edr_items.specs.declared.TheConstants.{LATEST_MOMENT}
use Rattle.edr_items.specs.declared.Sensor.{Sensor}
use Rattle.edr_items.specs.declared.Sensor.TheVariants.{Restraint}
use Rattle.edr_items.specs.declared.Item.{Item}
use Rattle.edr_items.specs.Item.{refusal_of}
use Rattle.edr_items.proofs.FeedLemmas.{refusal_of-rises}
use Rattle.edr_merge.specs.declared.Merge.TheInside.{Inside}
use Rattle.edr_merge.specs.declared.rings.Rings.{Rings}
use Rattle.edr_items.proofs.PerSensorLemmas.{with_value-each}
use Rattle.edr_merge.specs.Marks.{Marks, mark_in, with_mark}
use Rattle.edr_merge.specs.Rings.{with_kept}
use Rattle.edr_merge.specs.Samples.{IsFiring}
use Rattle.edr_merge.specs.Fields.{IsSound}
use Rattle.edr_merge.proofs.WaitingLemmas.{refusal_of-in_range, firings-kept, firings-past_first}
use Rattle.edr_merge.proofs.StandsLemmas.{past_tick}
use Rattle.edr_merge.proofs.LagLemmas.{below-risen}
use Rattle.edr_merge.specs.Lag.{IsBelowSlow}

-- an accepted item is within a cycle
refusal_of-within : (s : Sensor) (last : ℕ) (x : Item) → refusal_of s last x ≡ None → x.moment ≤ LATEST_MOMENT
unfolding refusal_of
refusal_of-within s last x h = grind arith

firings-with_kept : (s : Sensor) (last : ℕ) (x : Item) (r : Rings) → refusal_of s last x ≡ None → All IsFiring r.restraint → All IsFiring (with_kept s x r).restraint
firings-with_kept Restraint last x r accepted all = firings-kept x r.restraint (refusal_of-in_range Restraint last x accepted) all
firings-with_kept s last x r accepted all = all

-- after an accepted item
pub sound-given : (a : Inside) (s : Sensor) (x : Item) (last : ℕ) (m : Marks) (r : Rings) → IsSound a → last ≡ mark_in s a.marks → refusal_of s last x ≡ None → m ≡ with_mark s x.moment a.marks → r ≡ with_kept s x a.rings → IsSound (record { closed = a.closed; marks = m; slow = a.slow; rings = r })
sound-given a s x last m r sound at accepted is_m is_r =
    let rises = refusal_of-rises s last x accepted in
    let within = refusal_of-within s last x accepted in
    let low = sound.closed_low s in
    rw (is_m, is_r) (record {
      closed_low = with_value-each (λ _ (n : ℕ). a.closed ≤ n) s x.moment a.marks (omega (arith, rises, low, at)) sound.closed_low;
      marks_low = with_value-each (λ _ (n : ℕ). n ≤ LATEST_MOMENT) s x.moment a.marks within sound.marks_low;
      slow_low = below-risen a.slow x.moment s a.marks (omega (arith, rises, at)) sound.slow_low;
      firings = firings-with_kept s last x a.rings accepted sound.firings;
    })

-- after a row
pub sound-closed : (a : Inside) (slow : ℕ) (r : Rings) → IsSound a → IsBelowSlow slow a.marks → ((s : Sensor) → a.closed + 1 ≤ mark_in s a.marks) → r ≡ past_tick (a.closed + 1) a.rings → IsSound (record { closed = a.closed + 1; marks = a.marks; slow = slow; rings = r })
sound-closed a slow r sound below later is_r = record {
  closed_low = later;
  marks_low = sound.marks_low;
  slow_low = below;
  firings = rw is_r (firings-past_first (a.closed + 1) a.rings.restraint sound.firings);
}
