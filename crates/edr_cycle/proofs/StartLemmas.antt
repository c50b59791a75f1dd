-- What a start leaves, from its two parts.
use Rattle.std.proofs.Common.{arith, refl, ap, sym, subst, ◌≡◌, ◌∙◌, ℕ, ◌+◌, ◌-◌, ◌<◌, ◌≤◌, inl, inr, ⊎_elim, Bool, Some, Option, List, length, slice_index, Result, Ok, Err, OnErr}
use Rattle.std.specs.Prelude.{IsErr}
use Rattle.std.proofs.lemmas.Bool.{false≢true}
use Rattle.edr_items.specs.SensorLists.{SensorLists}
use Rattle.edr_device.specs.Device.{Elapses, IsQuiet, MayLeave, Stays}
use Rattle.edr_device.proofs.SettlingLemmas.{quiet_leaves}
use Rattle.edr_image.specs.Banks.{Store}
use Rattle.edr_image.specs.declared.BankView.{BankView}
use Rattle.edr_image.specs.Image.{View, view_of}
use Rattle.edr_image.specs.Kept.{AreKept, IsKept}
use Rattle.edr_image.specs.Reports.{StartStopped}
use Rattle.edr_run.specs.Cycle.{start_counted, start_stopped}
use Rattle.edr_cycle.specs.Counter.{IsCountAfterStop, SaysWith}
use Rattle.edr_cycle.specs.Ends.{ComesTo, cycle_with}
use Rattle.edr_gates.specs.Found.{IsFound}
use Rattle.edr_cycle.specs.Starts.{MakesSix, MeetsStart}
use Rattle.edr_cycle.proofs.AnsweredLemmas.{map_err}
use Rattle.edr_cycle.proofs.FirstByteLemmas.{found_stays, stays_elapse}

kept_longer : (banks : List BankView) (n m : ℕ) → n ≤ m → AreKept banks n → AreKept banks m
kept_longer banks n m le h = record {
  none_damaged = h.none_damaged;
  cycles = λ i r at. let old = h.cycles i r at in omega (arith, le, old);
  keys = h.keys;
}

kept_counted : (r : ℕ) (bytes image : List ℕ) (v : View) → AreKept v.store.banks v.count → IsCountAfterStop r (v.count + 1) bytes v image → IsKept image
kept_counted r bytes image v h (inl same) = (record v { count = v.count }, same.view_is, h)
kept_counted r bytes image v h (inr later) = (record v { count = v.count + 1 }, later.1.view_is, kept_longer v.store.banks v.count (v.count + 1) (omega arith) h)

comes_counted : (r : ℕ) (f : SensorLists) (bytes image : List ℕ) (v : View) → 1 ≤ r → r ≤ 6 → IsCountAfterStop r (v.count + 1) bytes v image → ComesTo (cycle_with r f 0) v.store v.count (StartStopped r) image
comes_counted r f bytes image v some few (inl same) = record { view = record v { count = v.count }; view_is = same.view_is; cycle = start_stopped some few refl }
comes_counted r f bytes image v some few (inr later) = record { view = record v { count = v.count + 1 }; view_is = later.1.view_is; cycle = start_counted later.0 few refl }

as_before : (r next : ℕ) (bytes image : List ℕ) (v : View) → view_of bytes ≡ Some v → image ≡ bytes → IsCountAfterStop r next bytes v image
as_before r next bytes image v says same = inl (record {
  others = record { size = ap length same; same = λ i below out. ap (λ (xs : List ℕ). slice_index xs i) same };
  view_is = ap view_of same ∙ says;
})

module _ {D : Type 0} (content : D → Option (List ℕ)) (settled : D → ℕ → Bool) (since : D → ℕ → List ℕ → Type 0) (clock good : D → ℕ)
    (only_now : (d : D) (image : List ℕ) → since d (clock d) image → MayLeave (content d) (settled d) image) (d d' : D) where
  -- what a crash at any moment leaves gives the rest
  from_moments : {T E : Type 0} (r : Result T E) → MakesSix (clock d) (clock d') (good d') r
      → OnErr r (((bytes image : List ℕ) (v : View) → IsFound v (content d) (settled d) bytes → MayLeave (content d') (settled d') image → IsCountAfterStop (clock d' - clock d) (v.count + 1) bytes v image))
      → ((bytes : List ℕ) (v : View) → IsFound v (content d) (settled d) bytes → Elapses (clock d) (since d) (since d') (IsCountAfterStop 6 (v.count + 1) bytes v))
      → MeetsStart content settled since clock good r d d'
  from_moments r time stopped moments = record {
    time = time;
    stopped = stopped;
    cut = cut_in r time stopped;
    any_moment = moments;
    each = each;
    kept = λ bytes image quiet was had. kept_counted 6 bytes image was.0 was.2 (each bytes image was.0 (record { quiet = quiet; view_is = was.1 }) had);
  }
    where
      each : (bytes image : List ℕ) (v : View) → IsFound v (content d) (settled d) bytes → since d' (clock d) image → IsCountAfterStop 6 (v.count + 1) bytes v image
      each bytes image v found had = ⊎_elim
          (λ (earlier : since d (clock d) image). as_before 6 (v.count + 1) bytes image v found.view_is (quiet_leaves bytes (content d) (settled d) image found.quiet (only_now d image earlier)))
          (λ (c : IsCountAfterStop 6 (v.count + 1) bytes v image). c)
          ((moments bytes v found).nothing_else (clock d) image (omega arith) had)

      cut_in : {T E : Type 0} (r : Result T E) → MakesSix (clock d) (clock d') (good d') r
          → OnErr r (((bytes image : List ℕ) (v : View) → IsFound v (content d) (settled d) bytes → MayLeave (content d') (settled d') image → IsCountAfterStop (clock d' - clock d) (v.count + 1) bytes v image))
          → OnErr r ((bytes image : List ℕ) (v : View) (f : SensorLists) → IsFound v (content d) (settled d) bytes → MayLeave (content d') (settled d') image → 1 ≤ clock d' - clock d → ComesTo (cycle_with (clock d' - clock d) f 0) v.store v.count (StartStopped (clock d' - clock d)) image)
      cut_in (Ok x) time stopped = tt
      cut_in (Err e) time stopped = λ bytes image v f found left some. let few = time.few in comes_counted (clock d' - clock d) f bytes image v some (omega (arith, few)) (stopped bytes image v found left)

  -- nothing was done
  early : {T E : Type 0} (e : E) → Stays (content d) (settled d) (since d) (content d') (settled d') (since d') → clock d' ≡ clock d → MeetsStart {T = T} content settled since clock good (Err e) d d'
  early e stays same =
      from_moments (Err e) (record { later = omega (arith, same); ok = tt; few = omega (arith, same); last = λ moved. absurd (moved same) })
      (λ bytes image v found left. let still = found_stays v (content d) (content d') (settled d) (settled d') (since d) (since d') bytes stays found in
      as_before (clock d' - clock d) (v.count + 1) bytes image v found.view_is (quiet_leaves bytes (content d') (settled d') image still.quiet left))
      (λ bytes v found. record { nothing_else = λ t image within left. inl (stays.nothing_else t image left); past_stays = λ t image within left. stays.past_stays t image left })

  pub starts_early : {T E : Type 0} (r : Result T E) → IsErr r → Stays (content d) (settled d) (since d) (content d') (settled d') (since d') → clock d' ≡ clock d → MeetsStart content settled since clock good r d d'
  starts_early (Ok x) is stays same = absurd (false≢true is)
  starts_early (Err e) is stays same = early e stays same

  -- it was counted as it was found
  pub starts_counted : {T' E' : Type 0} (r' : Result T' E') (number : ℕ) (mid : D) → Stays (content d) (settled d) (since d) (content mid) (settled mid) (since mid) → clock mid ≡ clock d
      → ((bytes : List ℕ) (v : View) → content d ≡ Some bytes → view_of bytes ≡ Some v → number ≡ v.count + 1)
      → MakesSix (clock mid) (clock d') (good d') r'
      → OnErr r' (((bytes image : List ℕ) (v : View) → IsFound v (content mid) (settled mid) bytes → v.count < number → MayLeave (content d') (settled d') image → IsCountAfterStop (clock d' - clock mid) number bytes v image))
      → ((bytes : List ℕ) (v : View) → IsFound v (content mid) (settled mid) bytes → v.count < number → Elapses (clock mid) (since mid) (since d') (IsCountAfterStop 6 number bytes v))
      → MeetsStart content settled since clock good r' d d'
  starts_counted r' number mid stays same next time stopped moments =
      from_moments r' (rw same at time)
      (map_err r' stopped (λ stopped bytes image v found left.
      let n = next bytes v found.quiet.0 found.view_is in
      subst (λ (t : ℕ). IsCountAfterStop (clock d' - t) (v.count + 1) bytes v image) same (subst (λ (m : ℕ). IsCountAfterStop (clock d' - clock mid) m bytes v image) n (stopped bytes image v (still bytes v found) (omega (arith, n)) left))))
      (λ bytes v found.
      let n = next bytes v found.quiet.0 found.view_is in
      stays_elapse (content d) (content mid) (settled d) (settled mid) (since d) (since mid) (since d') (clock d) (clock mid) (IsCountAfterStop 6 (v.count + 1) bytes v) stays same
      (subst (λ (m : ℕ). Elapses (clock mid) (since mid) (since d') (IsCountAfterStop 6 m bytes v)) n (moments bytes v (still bytes v found) (omega (arith, n)))))
    where
      still : (bytes : List ℕ) (v : View) → IsFound v (content d) (settled d) bytes → IsFound v (content mid) (settled mid) bytes
      still bytes v found = found_stays v (content d) (content mid) (settled d) (settled mid) (since d) (since mid) bytes stays found

pub some_view : {v w : View} → Some v ≡ Some w → v ≡ w
some_view e = cc

-- the number that follows the count of the view
pub number_next : (store : Store) (number : ℕ) (v : View) (seen : Option View) → 1 ≤ number → seen ≡ Some v → seen ≡ Some (record { store = store; count = number - 1 }) → number ≡ v.count + 1
number_next store number v seen some same is =
    let count : v.count ≡ number - 1 = ap (λ (w : View). w.count) (some_view (sym same ∙ is)) in omega (arith, count, some)

pub six_ok : {T E T' E' : Type 0} (before now good' : ℕ) (x : T) (y : T') → MakesSix {E = E} before now good' (Ok x) → MakesSix {E = E'} before now good' (Ok y)
six_ok before now good' x y h = record { later = h.later; ok = h.ok; few = tt; last = tt }

pub six_err : {T E T' E' : Type 0} (before now good' : ℕ) (e : E) (f : E') → MakesSix {T = T} before now good' (Err e) → MakesSix {T = T'} before now good' (Err f)
six_err before now good' e f h = record { later = h.later; ok = tt; few = h.few; last = h.last }

-- the image that was counted is found with that number
pub made_found : (store : Store) (number called : ℕ) (v : View) (bytes now : List ℕ) (content : Option (List ℕ)) (settled : ℕ → Bool) → called ≡ number → number ≡ v.count + 1 → v.store ≡ store → IsQuiet content settled now → SaysWith called bytes v now
    → IsFound (record { store = store; count = number }) content settled now × SaysWith (v.count + 1) bytes v now
made_found store number called v bytes now content settled is next same quiet says = (
  record { quiet = quiet; view_is = says.view_is ∙ rw (same, is) refl },
  subst (λ (n : ℕ). SaysWith n bytes v now) (is ∙ next) says,
)
