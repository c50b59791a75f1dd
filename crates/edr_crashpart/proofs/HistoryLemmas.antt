-- One row more in the history of an open crash part, and its end.
use Rattle.std.proofs.Common.{arith, refl, ap, sym, ◌≡◌, ◌∙◌, ℕ, zero, suc, ◌+◌, ◌-◌, ◌<◌, ◌≤◌, Bool, true, false, cond, nat_eq, nat_lt, ℤ, Some, None, Option, List, [], ◌∷◌, ◌++◌, length, length-append}
use Rattle.std.specs.Prelude.{option_and_then, slice_get}
use Rattle.std.specs.Option.{option_map_or}
use Rattle.edr_definitions.specs.Selection.{close_of}
use Rattle.edr_definitions.specs.Parts.{crash_part}
use Rattle.edr_definitions.specs.OpenCrash.{OpenCrash, crash_at, begin_crash, next_crash, finish_crash}
use Rattle.edr_definitions.proofs.CrashLaws.{crash_at-zero, crash_at-next, crash_at-finish, crash_at-agree}
use Rattle.edr_crashpart.specs.History.{CrashRow, row_at, signals_from, OpenCrashStandsFor}

-- ---- rows
get-before : (rows : List CrashRow) (row : CrashRow) (k : ℕ) → k < length rows → slice_get (rows ++ row ∷ []) k ≡ slice_get rows k
get-before [] row k lt = absurd (omega arith)
get-before (r ∷ rs) row zero lt = refl
get-before (r ∷ rs) row (suc k) lt = get-before rs row k (omega arith)

get-last : (rows : List CrashRow) (row : CrashRow) → slice_get (rows ++ row ∷ []) (length rows) ≡ Some row
get-last [] row = refl
get-last (r ∷ rs) row = get-last rs row

-- a row more changes none of the ticks before it
row_at-before : (z : ℕ) (rows : List CrashRow) (row : CrashRow) (u : ℕ) → u ≤ z + length rows → row_at z (rows ++ row ∷ []) u ≡ row_at z rows u
row_at-before z rows row u early = by_test (nat_lt z u) refl where
  by_test : (v : Bool) → nat_lt z u ≡ v → cond v (slice_get (rows ++ row ∷ []) (u - z - 1)) None ≡ cond v (slice_get rows (u - z - 1)) None
  by_test true h = let past : z < u = grind arith in get-before rows row (u - z - 1) (omega (arith, past, early))
  by_test false h = refl

-- and is that of the next tick
row_at-last : (z : ℕ) (rows : List CrashRow) (row : CrashRow) → row_at z (rows ++ row ∷ []) (z + length rows + 1) ≡ Some row
row_at-last z rows row =
    let past : nat_lt z (z + length rows + 1) ≡ true = grind arith in
    let place : z + length rows + 1 - z - 1 ≡ length rows = omega arith in
    ap (λ (v : Bool). cond v (slice_get (rows ++ row ∷ []) (z + length rows + 1 - z - 1)) None) past
    ∙ ap (λ (k : ℕ). slice_get (rows ++ row ∷ []) k) place ∙ get-last rows row

fired_at-last : (z first : ℕ) (rows : List CrashRow) (row : CrashRow) → (signals_from z first (rows ++ row ∷ [])).fired (z + length rows + 1) ≡ row.fired
fired_at-last z first rows row =
    let past : nat_eq (z + length rows + 1) z ≡ false = grind arith in
    ap (λ (v : Bool). cond v first (option_map_or (λ r. r.fired) (row_at z (rows ++ row ∷ []) (z + length rows + 1)) 0)) past
    ∙ ap (λ (o : Option CrashRow). option_map_or (λ r. r.fired) o 0) (row_at-last z rows row)

-- ---- the open crash part
-- at time zero it stands for no row
pub stands-begin : (z first : ℕ) → OpenCrashStandsFor (begin_crash z first) z first []
stands-begin z first =
    let m = signals_from z first [] in
    let here : nat_eq z z ≡ true = grind arith in
    let fired : m.fired z ≡ first = ap (λ (v : Bool). cond v first (option_map_or (λ r. r.fired) (row_at z [] z) 0)) here in
    let at : z ≡ z + 0 = omega arith in
    ap (begin_crash z) (sym fired) ∙ crash_at-zero m z ∙ ap (crash_at m z) at

-- with one tick more it stands for one row more
pub stands-next : (p : OpenCrash) (z first : ℕ) (rows : List CrashRow) (row : CrashRow) → OpenCrashStandsFor p z first rows → OpenCrashStandsFor (next_crash p row.along row.across row.fired) z first (rows ++ row ∷ [])
stands-next p z first rows row is =
    let m = signals_from z first rows in
    let n = signals_from z first (rows ++ row ∷ []) in
    let t = z + length rows in
    let long = length-append rows (row ∷ []) in
    let end : t + 1 ≡ z + length (rows ++ row ∷ []) = omega (arith, long) in
    let before = λ (u : ℕ) (early : u ≤ t). sym (row_at-before z rows row u early) in
    let same : crash_at m z t ≡ crash_at n z t =
    crash_at-agree m n z t (omega arith)
    (λ u lo hi. ap (λ (o : Option CrashRow). cond (nat_eq u z) first (option_map_or (λ r. r.fired) o 0)) (before u hi))
    (λ u lo hi. ap (λ (o : Option CrashRow). option_and_then (λ r. r.along) o) (before u hi))
    (λ u lo hi. ap (λ (o : Option CrashRow). option_and_then (λ r. r.across) o) (before u hi)) in
    let last = row_at-last z rows row in
    ap (λ (q : OpenCrash). next_crash q row.along row.across row.fired) (is ∙ same)
    ∙ ap (λ (x : Option ℤ). next_crash (crash_at n z t) x row.across row.fired) (sym (ap (λ (o : Option CrashRow). option_and_then (λ r. r.along) o) last))
    ∙ ap (λ (y : Option ℤ). next_crash (crash_at n z t) (n.along (t + 1)) y row.fired) (sym (ap (λ (o : Option CrashRow). option_and_then (λ r. r.across) o) last))
    ∙ ap (λ (k : ℕ). next_crash (crash_at n z t) (n.along (t + 1)) (n.across (t + 1)) k) (sym (fired_at-last z first rows row))
    ∙ crash_at-next n z t (omega arith)
    ∙ ap (crash_at n z) end

-- at the close it gives the crash part of the definition
pub finish-definition : (p : OpenCrash) (z first : ℕ) (rows : List CrashRow) (e : ℕ) → OpenCrashStandsFor p z first rows → p.zero + 20 ≤ e → p.zero + p.elapsed ≡ close_of p.zero e → finish_crash p e ≡ crash_part (signals_from z first rows) z e
finish-definition p z first rows e is from closed =
    let m = signals_from z first rows in
    let zero : p.zero ≡ z = ap (λ (q : OpenCrash). q.zero) is in
    let elapsed : p.elapsed ≡ z + length rows - z = ap (λ (q : OpenCrash). q.elapsed) is in
    let close : close_of z e ≡ z + length rows = ap (λ (k : ℕ). close_of k e) (sym zero) ∙ sym closed ∙ omega arith in
    ap (λ (q : OpenCrash). finish_crash q e) is
    ∙ ap (λ (t : ℕ). finish_crash (crash_at m z t) e) (sym close)
    ∙ crash_at-finish m z e (omega arith)
