use Rattle.std.proofs.Common.{◌≡◌, ◌≤◌, None}
use Rattle.std.specs.Prelude.{count_by}
use Rattle.edr_image.specs.Image.{old_banks_of, old_banks_refusal}
use Rattle.edr_image.specs.Banks.{holds_event}
use Rattle.edr_migrate.proofs.old_image.count_events.Given as goal

-- the banks so far hold these events, and none is damaged
abbrev pub invariant-loop-k : goal.invariant-loop-k
invariant-loop-k l = record {
  few : l.events ≤ l.k;
  counted : l.events ≡ count_by holds_event (old_banks_of l.k l.fn.old);
  passed : old_banks_refusal 1 (old_banks_of l.k l.fn.old) ≡ None;
}
