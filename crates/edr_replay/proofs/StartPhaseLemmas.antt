-- What a start over an armed fuse comes to.
use Rattle.std.proofs.Common.{◌≡◌, ◌≢◌, ◌⊎◌, ◌↔◌, ◌≤◌, ◌<◌, ◌+◌, ◌-◌, ◌∙◌, ℕ, Bool, cond, List, Option, Some, None, Result, Ok, Err, IfErr, OnErr, refl, sym, ap, subst, inl, inr, ⊎_elim, arith}
use Rattle.std.specs.Prelude.{is_none}
use Rattle.edr_device.specs.Device.{IsQuiet, IsSettled, MayLeave, Stays, StillTells}
use Rattle.edr_image.specs.declared.OpenFault.{OpenFault}
use Rattle.edr_image.specs.declared.OpenFault.TheVariants as open_fault
use Rattle.edr_image.specs.Banks.{Store}
use Rattle.edr_image.specs.Image.{View, count_of, image_refusal, store_of, view_of, view_by}
use Rattle.edr_banks.specs.Opening.{IsRefusal as IsImageRefusal}
use Rattle.edr_run.specs.Cycle.{last_count}
use Rattle.edr_cycle.specs.declared.started.StartFault.{StartFault}
use Rattle.edr_cycle.specs.declared.started.StartFault.TheVariants as fault
use Rattle.edr_cycle.specs.Counter.{IsCountAfterStop, SaysWith}
use Rattle.edr_gates.specs.Found.{Holds, IsFound}
use Rattle.edr_cycle.specs.Starts.{IsEarly, HasOpened}
use Rattle.edr_replay.specs.Replayed.{IsTrulyRefused, IsTrulyShort, IsTrulySpent}
use Rattle.edr_replay.proofs.StopLemmas.{leaves_itself, told_some}

-- a view that is there is one
some_view : {v w : View} → Some v ≡ Some w → v ≡ w
some_view e = cc

-- a view is its banks and its count
same_view : (a b : Store) (m n : ℕ) → a ≡ b → m ≡ n → ◌≡◌ {A = Option View} (Some (record { store = a; count = m })) (Some (record { store = b; count = n }))
same_view a b m n e f = rw (e, f) refl

-- ---- a start that was done

-- the device holds the same banks and one more on the count
pub begins_started : (store : Store) (number : ℕ) (content : Option (List ℕ)) (settled : ℕ → Bool) (content' : Option (List ℕ)) (settled' : ℕ → Bool)
    → 1 ≤ number → number ≤ last_count
    → ((bytes : List ℕ) → content ≡ Some bytes → view_of bytes ≡ Some (record { store = store; count = number - 1 }))
    → ((bytes : List ℕ) (v : View) → IsFound v content settled bytes → (now : List ℕ) × IsFound (record { store = store; count = number }) content' settled' now × SaysWith (v.count + 1) bytes v now)
    → (v : Store) (n : ℕ) → Holds content settled v n → (n < last_count) × (store ≡ v) × (number ≡ n + 1) × Holds content' settled' v (n + 1)
begins_started store number content settled content' settled' some upto found made v n h =
    let same : ◌≡◌ {A = View} (record { store = v; count = n }) (record { store = store; count = number - 1 }) = some_view (sym h.found.view_is ∙ found h.bytes h.found.quiet.0) in
    let banks : v ≡ store = ap (λ (w : View). w.store) same in
    let count : n ≡ number - 1 = ap (λ (w : View). w.count) same in
    let next : number ≡ n + 1 = omega (arith, count, some) in
    let now = made h.bytes (record { store = v; count = n }) h.found in
    (omega (arith, next, upto), sym banks, next, record { bytes = now.0; found = record { quiet = now.1.quiet; view_is = now.1.view_is ∙ same_view store v number (n + 1) (sym banks) next } })

-- six calls leave no stop up to the sixth
pub none_planned : (stop before now good : ℕ) → stop ≤ 6 → before ≡ 0 → (stop ≡ 0) ⊎ (now < stop) → (now ≡ before + 6) × (good ≡ now) → stop ≡ 0
none_planned stop before now good few begins (inl none) six = none
none_planned stop before now good few begins (inr later) six = let is = six.0 in absurd (omega (arith, few, later, is, begins))

-- ---- a start that was stopped

-- what is said of an error
pub at_err : {T E : Type 0} (r : Result T E) (e : E) (P : E → Type 0) → r ≡ Err e → IfErr r P → P e
at_err r e P is h = subst (λ x. IfErr x P) is h

-- what is said of any error
pub on_err_at : {T E P : Type 0} (r : Result T E) (e : E) → r ≡ Err e → OnErr r P → P
on_err_at (Ok x) e is h = absurd cc
on_err_at (Err y) e is h = h

-- what a start says of the count where the banks were opened
abbrev pub SaysCount : Option (List ℕ) → StartFault → Type 0
SaysCount content e = (bytes : List ℕ) → content ≡ Some bytes → (v : View) × (view_of bytes ≡ Some v) × (v.count ≤ last_count) × ((e ≡ fault.Spent) ↔ (v.count ≡ last_count))

-- a start that was stopped found a number left
pub count_left : (v : Store) (n : ℕ) (content : Option (List ℕ)) (settled : ℕ → Bool) → SaysCount content fault.StoreFault → Holds content settled v n → n < last_count
count_left v n content settled counted h =
    let w = counted h.bytes h.found.quiet.0 in
    let count : n ≡ w.0.count = ap (λ (x : View). x.count) (some_view (sym h.found.view_is ∙ w.1)) in
    let upto = w.2 in
    let left : w.0.count ≢ last_count = λ e. different (w.3.1 e) in
    omega (arith, count, upto, left)
  where
    different : fault.StoreFault ≡ fault.Spent → ⊥
    different e = cc

-- the device holds the same banks, with the count as before or from call 5 on perhaps one more
pub begins_stopped : (stop before now : ℕ) (content : Option (List ℕ)) (settled : ℕ → Bool) (content' : Option (List ℕ)) (settled' : ℕ → Bool)
    → before ≡ 0 → now ≡ stop → StillTells content content' → ((bytes : List ℕ) → content' ≡ Some bytes → IsSettled settled') → SaysCount content fault.StoreFault
    → ((bytes image : List ℕ) (v : View) → IsFound v content settled bytes → MayLeave content' settled' image → IsCountAfterStop (now - before) (v.count + 1) bytes v image)
    → (v : Store) (n : ℕ) → Holds content settled v n → (n < last_count) × (Holds content' settled' v n ⊎ ((5 ≤ stop) × Holds content' settled' v (n + 1)))
begins_stopped stop before now content settled content' settled' begins is tells settles counted stopped v n h =
    let told = told_some content content' h.bytes h.found.quiet.0 tells in
    let left = stopped h.bytes told.0 (record { store = v; count = n }) h.found (leaves_itself content' settled' told.0 told.1) in
    let quiet : IsQuiet content' settled' told.0 = (told.1, settles told.0 told.1) in (
      count_left v n content settled counted h,
      ⊎_elim
          (λ (same : SaysWith n h.bytes (record { store = v; count = n }) told.0). inl (record { bytes = told.0; found = record { quiet = quiet; view_is = same.view_is } }))
          (λ (later : (5 ≤ now - before) × SaysWith (n + 1) h.bytes (record { store = v; count = n }) told.0).
          let from = later.0 in inr (omega (arith, from, begins, is), record { bytes = told.0; found = record { quiet = quiet; view_is = later.1.view_is } }))
          left,
    )

-- ---- a start that failed

-- no number is left, and nothing was changed
pub truly_spent : (e : StartFault) (content : Option (List ℕ)) (settled : ℕ → Bool) (content' : Option (List ℕ)) (settled' : ℕ → Bool) (past since : ℕ → List ℕ → Type 0)
    → (HasOpened e → SaysCount content e) → (IsEarly e → Stays content settled past content' settled' since) → IsTrulySpent content settled content' settled' e
unfolding IsTrulySpent
truly_spent e content settled content' settled' past since counted early = λ spent v n h.
    let w = counted (subst HasOpened (sym spent) tt) h.bytes h.found.quiet.0 in
    let stays = early (subst IsEarly (sym spent) tt) in
    let count : n ≡ w.0.count = ap (λ (x : View). x.count) (some_view (sym h.found.view_is ∙ w.1)) in
    (count ∙ w.3.0 spent, record { bytes = h.bytes; found = record { quiet = (stays.same_content ∙ h.found.quiet.0, λ i. stays.same_settled i ∙ h.found.quiet.1 i); view_is = h.found.view_is } })

-- an image that is refused has no view
no_view : (bytes : List ℕ) (v : View) (o : OpenFault) → image_refusal bytes ≡ Some o → view_of bytes ≡ Some v → ⊥
unfolding view_by
no_view bytes v o refused says = by (image_refusal bytes) refused says
  where
    by : (r : Option OpenFault) → r ≡ Some o → cond (is_none r) (Some (record { store = store_of bytes; count = count_of bytes })) None ≡ Some v → ⊥
    by None e s = absurd cc
    by (Some x) e s = absurd cc

-- what is no fault of the device or of memory is said of the image
is_image_refusal : (o : OpenFault) → o ≢ open_fault.StoreFault → o ≢ open_fault.OutOfMemory → IsImageRefusal o
is_image_refusal (open_fault.Short size needed) a b = tt
is_image_refusal (open_fault.Header h) a b = tt
is_image_refusal open_fault.StoreFault a b = absurd (a refl)
is_image_refusal open_fault.OutOfMemory a b = absurd (b refl)

-- an image that is refused holds no banks
pub truly_refused : (e : StartFault) (content : Option (List ℕ)) (settled : ℕ → Bool)
    → ((o : OpenFault) → e ≡ fault.Open o → IsImageRefusal o → (bytes : List ℕ) → content ≡ Some bytes → image_refusal bytes ≡ Some o) → IsTrulyRefused content settled e
unfolding IsTrulyRefused
truly_refused (fault.Open o) content settled refused = λ is v n h. no_view h.bytes (record { store = v; count = n }) o (refused o refl (is_image_refusal o is.0 is.1) h.bytes h.found.quiet.0) h.found.view_is
truly_refused fault.Spent content settled refused = λ is. absurd is
truly_refused fault.StoreFault content settled refused = λ is. absurd is
truly_refused fault.OutOfMemory content settled refused = λ is. absurd is

-- a short image is told by the device's size
pub truly_short : {T : Type 0} (r : Result T StartFault) (e : StartFault) (extent : ℕ) → r ≡ Err e → ((size needed : ℕ) → e ≡ fault.Open (open_fault.Short size needed) → (size ≡ extent) × (size < needed))
    → (extent < 96 → r ≡ Err (fault.Open (open_fault.Short extent 96))) → IsTrulyShort extent e
unfolding IsTrulyShort
truly_short r e extent is sizes short = λ size needed told. ((sizes size needed told).0, (sizes size needed told).1, λ low. header size needed (is ∙ ap (λ (x : StartFault). Err x) told) (short low))
  where
    header : (size needed : ℕ) → r ≡ Err (fault.Open (open_fault.Short size needed)) → r ≡ Err (fault.Open (open_fault.Short extent 96)) → needed ≡ 96
    header size needed a b = cc
