-- A generated trace spells its cycles.
use Rattle.std.proofs.Common.{arith, ◌≡◌, ap, refl, ℕ, zero, suc, ◌+◌, ◌%◌, ◌≤◌, ◌==◌, ◌&&◌, ℤ, pos, negsuc, nat_le, if◌then◌else◌, Bool, true, false, List, [], ◌∷◌, ◌++◌, map, length, inr}
use Rattle.std.specs.List.{AllByRecursion}
use Rattle.std.proofs.lemmas.List.{map-append}
use Rattle.std.proofs.lemmas.Bool.Decides.{nat_tests}
use Rattle.std.specs.Option.{option_map_or}
use Rattle.edr_items.specs.declared.Sensor.{Sensor}
use Rattle.edr_items.specs.declared.Sensor.TheVariants.{Along}
use Rattle.edr_items.specs.Sensor.{is_in_range, slow_sensors}
use Rattle.edr_items.specs.PerSlowSensor.{slow_value_of}
use Rattle.edr_spell.specs.declared.Row.TheVariants as row
use Rattle.edr_spell.specs.Rows.{IsRow, highest_u32, is_i32}
use Rattle.edr_spell.specs.Samples.{row_for}
use Rattle.edr_spell.specs.Spell.{Spell, SpellCycles, SpellsCycle}
use Rattle.edr_spell.proofs.WrittenLemmas.{written-spelled}
use Rattle.edr_gen.specs.declared.plan.TheConstants.{SLOW_SAID, TICKS}
use Rattle.edr_gen.specs.declared.plan.Impulse.{Impulse}
use Rattle.edr_gen.specs.Draws.{Planned, draw, impulse_count, plan_from, state_past, stop_by}
use Rattle.edr_gen.specs.Cycles.{acting_at, along_of, across_of, crash_samples, has_firing, restraint_samples, samples_after, samples_at, slow_sample, slow_samples}
use Rattle.edr_gen.specs.Traces.{cycle_of, generated_cycles, generated_rows, generated_trace, rows_of, samples_of}
use Rattle.edr_gen.proofs.RangeLemmas.{IsInRange, acting-range, all-append, impulses-range, leq}
use Rattle.edr_gen.proofs.FedLemmas.{AllFed, all-fed-after, all-fed-feeds, all-fed-level, all-fed-none}

-- ---- each row has numbers in their bounds

up-to : (m n : ℕ) → nat_le m n ≡ true → m ≤ n
up-to m n h = grind (arith, nat_tests)

first : (a b : Bool) → (a && b) ≡ true → a ≡ true
first true b h = refl
first false b h = h

range-i32 : (v : ℤ) → is_in_range Along v ≡ true → is_i32 v ≡ true
range-i32 (pos n) h = leq n 2147483647 (omega (arith, up-to n 100000 h))
range-i32 (negsuc n) h = rw (leq n 2147483647 (omega (arith, up-to n 99999 (first (nat_le n 99999) true h)))) refl

said-i32 : (s : Sensor) → option_map_or is_i32 (slow_value_of s SLOW_SAID) true ≡ true
said-i32 Along = refl
said-i32 s = refl

rows-slow : (ss : List Sensor) (t : ℕ) → t ≤ highest_u32 → AllByRecursion IsRow (map row_for (map (slow_sample t) ss))
rows-slow [] t h = tt
rows-slow (s ∷ ss) t h = ((h, said-i32 s), rows-slow ss t h)

rows-sampled : (b : Bool) (t : ℕ) → t ≤ highest_u32 → AllByRecursion IsRow (map row_for (slow_samples b t))
rows-sampled true t h = rows-slow slow_sensors t h
rows-sampled false t h = tt

rows-restraint : (f q : Bool) (t : ℕ) → t ≤ highest_u32 → AllByRecursion IsRow (map row_for (restraint_samples f q t))
rows-restraint true q t h = ((h, refl), tt)
rows-restraint false true t h = ((h, refl), tt)
rows-restraint false false t h = tt

rows-by : (a c : ℤ) (t : ℕ) (b f q : Bool) → is_i32 a ≡ true → is_i32 c ≡ true → t ≤ highest_u32 → AllByRecursion IsRow (map row_for (crash_samples a c t ++ slow_samples b t ++ restraint_samples f q t))
rows-by a c t b f q r s h =
    let rest = all-append IsRow (map row_for (slow_samples b t)) (map row_for (restraint_samples f q t)) (rows-sampled b t h) (rows-restraint f q t h) in
    ((h, r), ((h, s), rw (map-append row_for (slow_samples b t) (restraint_samples f q t)) rest))

rows-at : (impulses : List Impulse) (t : ℕ) → AllByRecursion IsInRange impulses → t ≤ highest_u32 → AllByRecursion IsRow (map row_for (samples_at impulses t))
unfolding samples_at
rows-at impulses t are h =
    let range = acting-range impulses t are in
    rows-by (along_of (acting_at impulses t)) (across_of (acting_at impulses t)) t (t % 100 == 0) (has_firing impulses t) (t % 1000 == 0) (range-i32 (along_of (acting_at impulses t)) range.0) (range-i32 (across_of (acting_at impulses t)) range.1) h

rows-after : (impulses : List Impulse) (n t : ℕ) → AllByRecursion IsInRange impulses → t + n ≤ highest_u32 → AllByRecursion IsRow (map row_for (samples_after impulses t n))
unfolding samples_after
rows-after impulses zero t are h = tt
rows-after impulses (suc n) t are h = rw (map-append row_for (samples_at impulses (t + 1)) (samples_after impulses (t + 1) n))
    (all-append IsRow (map row_for (samples_at impulses (t + 1))) (map row_for (samples_after impulses (t + 1) n)) (rows-at impulses (t + 1) are (omega (arith, h))) (rows-after impulses n (t + 1) are (omega (arith, h))))

-- ---- one cycle

-- the impulses of a plan are in range, and its stop is a number that a row may have
record IsPlanned (p : Planned) : Type 0 where
  impulses : AllByRecursion IsInRange p.impulses
  stop : p.stop ≤ highest_u32

planned : (x : ℕ) → IsPlanned (plan_from x)
unfolding plan_from
planned x = record { impulses = impulses-range x (impulse_count x); stop = small (draw x _) (draw x _) }
  where
    small : (first second : ℕ) → stop_by first second ≤ highest_u32
    small first second = by (first % 8 == 0)
      where
        by : (b : Bool) → (if b then 1 + second % 20 else 0) ≤ highest_u32
        by true = omega arith
        by false = omega arith

cycle-rows : (p : Planned) → IsPlanned p → AllByRecursion IsRow (rows_of p)
cycle-rows p h = (omega arith, all-append IsRow (map row_for (samples_of p)) (row.Cut p.stop ∷ []) (rows-after p.impulses TICKS 0 h.impulses (omega arith)) (h.stop, tt))

cycle-spelled : (p : Planned) → IsPlanned p → SpellsCycle (rows_of p) (cycle_of p)
cycle-spelled p h =
    let fed : AllFed TICKS (samples_of p) = all-fed-after p.impulses TICKS 0 [] h.impulses (omega arith) all-fed-none in
    inr (samples_of p, p.stop, refl, all-fed-feeds TICKS (samples_of p) fed, all-fed-level TICKS (samples_of p) fed, refl)

-- ---- all cycles

all-rows : (m x : ℕ) → AllByRecursion IsRow (generated_rows x m)
unfolding generated_rows
all-rows zero x = tt
all-rows (suc m) x = all-append IsRow (rows_of (plan_from x)) (generated_rows (state_past x) m) (cycle-rows (plan_from x) (planned x)) (all-rows m (state_past x))

all-spelled : (m x : ℕ) → SpellCycles (generated_rows x m) (generated_cycles x m)
unfolding generated_rows generated_cycles SpellCycles
all-spelled zero x = refl
all-spelled (suc m) x = (rows_of (plan_from x), generated_rows (state_past x) m, refl, cycle-spelled (plan_from x) (planned x), all-spelled m (state_past x))

pub generated-spelled : (x m : ℕ) → Spell (generated_trace x m) (generated_cycles x m)
generated-spelled x m = written-spelled (generated_rows x m) (generated_cycles x m) (all-rows m x) (all-spelled m x)

pub generated-many : (x m : ℕ) → length (generated_cycles x m) ≡ m
unfolding generated_cycles
generated-many x zero = refl
generated-many x (suc m) = ap suc (generated-many (state_past x) m)
