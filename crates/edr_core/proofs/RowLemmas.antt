-- The rows of signals.
use Rattle.std.proofs.Common.{arith, refl, ap, sym, ◌≡◌, ◌∙◌, ℕ, zero, suc, ◌+◌, ◌-◌, ◌<◌, ◌≤◌, ℤ, pos, unwrap_or, unsigned_abs, Some, None, Option, List, [], ◌∷◌, ◌++◌, map, length}
use Rattle.std.specs.Prelude.{slice_get, option_map}
use Rattle.std.specs.Option.{option_map_or}
use Rattle.std.specs.List.{range_with_len}
use Rattle.std.proofs.lemmas.List.FromFn.{length-map-range_with_len}
use Rattle.edr_items.specs.declared.Sensor.TheVariants.{Along, Across, Restraint}
use Rattle.edr_items.specs.declared.Item.{Item}
use Rattle.edr_items.specs.SensorLists.{SensorLists, AreFeeds}
use Rattle.edr_definitions.specs.Rings.{RisesFrom}
use Rattle.edr_definitions.specs.Signals.{Signals, sample_at, signals_of}
use Rattle.edr_definitions.specs.Windows.{filled_signals}
use Rattle.edr_definitions.specs.Facts.{AgreeUpTo}
use Rattle.edr_definitions.specs.Search.{Search, StandsFor}
use Rattle.edr_definitions.specs.Change.{tick_change}
use Rattle.edr_definitions.proofs.TickLaws.{ticks-push}
use Rattle.edr_definitions.proofs.AgreeLaws.{map-ticks-agree, AgreeUpTo-sym}
use Rattle.edr_definitions.proofs.SampleLaws.{sample_at-other}
use Rattle.edr_definitions.proofs.RingLaws.{IsFeedAfter-rises_from}
use Rattle.edr_definitions.proofs.TestLaws.{SameTests-changes, tick_change-tests}
use Rattle.edr_detect.specs.Rows.{SignalRow, row_at, signals_of_rows}
use Rattle.edr_core.specs.Rows.{row_of, rows_of}

-- one tick more
pub rows_of-push : (m : Signals) (t : ℕ) → rows_of m (t + 1) ≡ rows_of m t ++ row_of m (t + 1) ∷ []
rows_of-push m t = ticks-push 1 (t + 1) (omega arith) SignalRow (row_of m)

pub length-rows_of : (m : Signals) (t : ℕ) → length (rows_of m t) ≡ t
length-rows_of m t = let e = length-map-range_with_len (row_of m) 1 (t + 1 - 1) in omega (arith, e)

-- signals that agree up to t have the same rows
pub rows_of-agree : (t : ℕ) (m n : Signals) → AgreeUpTo t m n → rows_of m t ≡ rows_of n t
rows_of-agree t m n same = map-ticks-agree (row_of m) (row_of n) 1 (t + 1) (λ u lo hi. rows_same u (omega arith)) where
  rows_same : (u : ℕ) → u ≤ t → row_of m u ≡ row_of n u
  rows_same u near = let a = same.along u near in let b = same.across u near in let c = same.fired u near in rw (a, b, c) refl

get-range : {X : Type 0} (f : ℕ → X) (n a k : ℕ) → k < n → slice_get (map f (range_with_len a n)) k ≡ Some (f (a + k))
get-range f zero a k lt = absurd (omega arith)
get-range f (suc n) a zero lt = let e : a ≡ a + 0 = omega arith in ap (λ u. Some (f u)) e
get-range f (suc n) a (suc k) lt = let e : a + 1 + k ≡ a + suc k = omega arith in get-range f n (a + 1) k (omega arith) ∙ ap (λ u. Some (f u)) e

-- the row of a tick
row_at-rows_of : (m : Signals) (t k : ℕ) → k < t → row_at (rows_of m t) (suc k) ≡ Some (row_of m (suc k))
row_at-rows_of m t k lt =
    let n : t + 1 - 1 ≡ t = omega arith in
    let e : 1 + k ≡ suc k = omega arith in
    ap (λ w. slice_get (map (row_of m) (range_with_len 1 w)) k) n ∙ get-range (row_of m) t 1 k lt ∙ ap (λ u. Some (row_of m u)) e

-- nothing is before the first tick
pub record IsSilentBefore (m : Signals) : Type 0 where
  pub along : m.along 0 ≡ None
  pub across : m.across 0 ≡ None
  pub fired : m.fired 0 ≡ 0

-- the signals that rows give have the changes of the signals
rows_of-changes : (m : Signals) (t : ℕ) → IsSilentBefore m → AgreeUpTo t (filled_signals (signals_of_rows (rows_of m t))) (filled_signals m)
rows_of-changes m t silent = record { along = along; across = across; fired = fired } where
  along : (u : ℕ) → u ≤ t → (filled_signals (signals_of_rows (rows_of m t))).along u ≡ (filled_signals m).along u
  along zero near = ap (λ (o : Option ℤ). Some (unwrap_or o (pos 0))) (sym silent.along)
  along (suc k) near = ap (λ (o : Option SignalRow). Some (unwrap_or (option_map (λ (r : SignalRow). r.along) o) (pos 0))) (row_at-rows_of m t k (omega arith))

  across : (u : ℕ) → u ≤ t → (filled_signals (signals_of_rows (rows_of m t))).across u ≡ (filled_signals m).across u
  across zero near = ap (λ (o : Option ℤ). Some (unwrap_or o (pos 0))) (sym silent.across)
  across (suc k) near = ap (λ (o : Option SignalRow). Some (unwrap_or (option_map (λ (r : SignalRow). r.across) o) (pos 0))) (row_at-rows_of m t k (omega arith))

  fired : (u : ℕ) → u ≤ t → (filled_signals (signals_of_rows (rows_of m t))).fired u ≡ (filled_signals m).fired u
  fired zero near = sym silent.fired
  fired (suc k) near = ap (λ (o : Option SignalRow). option_map_or (λ (r : SignalRow). r.fired.0) o 0) (row_at-rows_of m t k (omega arith))

-- what stands at the next tick of the rows stands there of the signals
pub tick_change-rows : (m : Signals) (t : ℕ) (s : Search) → IsSilentBefore m → StandsFor m t s → tick_change (signals_of_rows (rows_of m (t + 1))) (t + 1) ≡ tick_change m (t + 1)
tick_change-rows m t s silent h =
    let same = rows_of-changes m (t + 1) silent in
    sym (tick_change-tests t m (signals_of_rows (rows_of m (t + 1))) s (SameTests-changes (t + 1) m (signals_of_rows (rows_of m (t + 1))) (AgreeUpTo-sym (t + 1) (filled_signals (signals_of_rows (rows_of m (t + 1)))) (filled_signals m) same)) h)

-- ---- feeds have nothing before the first tick
sample_at-early : (last : ℕ) (xs : List Item) (u : ℕ) → RisesFrom last xs → u ≤ last → sample_at xs u ≡ None
unfolding sample_at
sample_at-early last [] u rises early = refl
sample_at-early last (x ∷ xs) u rises early =
    let past = rises.0 in
    sample_at-other x xs u (λ same. absurd (omega (arith, past, early, same))) ∙ sample_at-early x.moment xs u rises.1 (omega (arith, past, early))

pub silent-feeds : (f : SensorLists) → AreFeeds f → IsSilentBefore (signals_of f)
silent-feeds f feeds = record {
  along = sample_at-early 0 f.along 0 (IsFeedAfter-rises_from Along 0 f.along (feeds Along)) (omega arith);
  across = sample_at-early 0 f.across 0 (IsFeedAfter-rises_from Across 0 f.across (feeds Across)) (omega arith);
  fired = ap (λ (o : Option ℤ). unsigned_abs (unwrap_or o (pos 0))) (sample_at-early 0 f.restraint 0 (IsFeedAfter-rises_from Restraint 0 f.restraint (feeds Restraint)) (omega arith));
}
