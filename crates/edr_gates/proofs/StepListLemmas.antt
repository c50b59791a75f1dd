-- Lists of steps, one after the other: what is so of both is so of the whole.
use Rattle.std.proofs.Common.{◌≡◌, ◌≤◌, ◌<◌, ◌+◌, ◌-◌, ◌++◌, ◌∙◌, ℕ, zero, suc, Bool, true, false, cond, Option, Some, List, [], ◌∷◌, length, take, map, slice_index, refl, sym, ap, subst, ⊎_elim, arith, length-append}
use Rattle.std.specs.Prelude.{Contains, flat_map, fold, nat_le, nat_lt}
use Rattle.std.proofs.lemmas.Bool.Decides.{nat_tests}
use Rattle.std.proofs.lemmas.List.{take-append-le}
use Rattle.std.proofs.lemmas.Grind.{flat_map-append}
use Rattle.std.proofs.lemmas.List.Sums.{fold-append, sum_by-cons}
use Rattle.edr_device.specs.Device.{IsQuiet, MayLeave}
use Rattle.edr_device.proofs.SettlingLemmas.{elapses_again, elapses_more, quiet_leaves}
use Rattle.edr_image.specs.declared.BankView.{BankView}
use Rattle.edr_image.specs.Banks.{Store}
use Rattle.edr_image.specs.Calls.{all_calls, calls_of, done_of_step, gate_call_of, stops}
use Rattle.edr_image.specs.Image.{View, Write, image_after, view_of, writes_of, with_write}
use Rattle.edr_image.specs.Steps.{BankStep, Erase, Fill, Lock, Done, after, banks_after}
use Rattle.edr_image.proofs.StopLaws.{contains_cases, contains_here, contains_later, contains_map, contains_mapped, contains_none}
use Rattle.edr_gates.specs.Taken.{AreStopped, AreTaken, EachIsPassed, HasDone, IsAside, IsPassed, IsReady, IsUnwritten, MayTakeAll, PassMeanwhile}

-- ---- the words of one list

aside_parts : (a b : List BankStep) (i : ℕ) → IsAside (a ++ b) i → IsAside a i × IsAside b i
aside_parts [] b i h = (tt, h)
aside_parts (s ∷ a) b i h = let rest = aside_parts a b i h.1 in ((h.0, rest.0), rest.1)

unwritten_parts : (a b : List BankStep) (i : ℕ) → IsUnwritten (a ++ b) i → IsUnwritten a i × IsUnwritten b i
unwritten_parts [] b i h = (tt, h)
unwritten_parts (s ∷ a) b i h = let rest = unwritten_parts a b i h.1 in ((h.0, rest.0), rest.1)

may_parts : (a b : List BankStep) (banks : List BankView) → MayTakeAll banks (a ++ b) → MayTakeAll banks a × MayTakeAll (fold banks_after banks a) b
may_parts [] b banks h = (tt, h)
may_parts (s ∷ a) b banks h = let rest = may_parts a b (banks_after banks s) h.1 in ((h.0, rest.0), rest.1)

after-append : (v : Store) (a b : List BankStep) → after v (a ++ b) ≡ after (after v a) b
after-append v a b = ap (λ (banks : List BankView). record v { banks = banks }) (fold-append banks_after v.banks a b)

image_after-append : (bytes : List ℕ) (a b : List BankStep) → image_after bytes (a ++ b) ≡ image_after (image_after bytes a) b
image_after-append bytes a b = ap (λ (writes : List Write). fold with_write bytes writes) (flat_map-append writes_of a b) ∙ fold-append with_write bytes (flat_map writes_of a) (flat_map writes_of b)

-- the view after steps
abbrev view_after : View → List BankStep → View
view_after v steps = record v { store = after v.store steps }

ready_first : (a b : List BankStep) (content : Option (List ℕ)) (settled : ℕ → Bool) (bytes : List ℕ) (v : View) → IsReady (a ++ b) content settled bytes v → IsReady a content settled bytes v
ready_first a b content settled bytes v h = record { found = h.found; may = (may_parts a b v.store.banks h.may).0 }

ready_rest : (a b : List BankStep) (content content' : Option (List ℕ)) (settled settled' : ℕ → Bool) (bytes now : List ℕ) (v : View) → IsReady (a ++ b) content settled bytes v → IsQuiet content' settled' now → HasDone a a bytes v now
    → IsReady b content' settled' now (view_after v a)
ready_rest a b content content' settled settled' bytes now v h quiet done = record { found = record { quiet = quiet; view_is = done.view }; may = (may_parts a b v.store.banks h.may).1 }

done_first : (a b done : List BankStep) (bytes : List ℕ) (v : View) (image : List ℕ) → HasDone a done bytes v image → HasDone (a ++ b) done bytes v image
done_first a b done bytes v image h = record {
  size = h.size;
  same = λ i below aside. h.same i below (aside_parts a b i aside).0;
  unwritten = λ i below out. h.unwritten i below (unwritten_parts a b i out).0;
  view = h.view;
}

done_rest : (a b done : List BankStep) (bytes now : List ℕ) (v : View) (image : List ℕ) → HasDone a a bytes v now → HasDone b done now (view_after v a) image → HasDone (a ++ b) (a ++ done) bytes v image
done_rest a b done bytes now v image h g = record {
  size = g.size ∙ h.size;
  same = λ i below aside.
      let parts = aside_parts a b i aside in g.same i (subst (λ (n : ℕ). i < n) (sym h.size) below) parts.1 ∙ h.same i below parts.0;
  unwritten = λ i below out.
      let parts = unwritten_parts a b i out in g.unwritten i (subst (λ (n : ℕ). i < n) (sym h.size) below) parts.1 ∙ h.unwritten i below parts.0;
  view = g.view ∙ ap (λ (store : Store). Some (record v { store = store })) (sym (after-append v.store a done));
}

-- ---- stops

calls_some : (s : BankStep) → (1 ≤ gate_call_of s) × (gate_call_of s ≤ calls_of s)
calls_some (Erase m) = (omega arith, omega arith)
calls_some (Fill m pre) = (omega arith, omega arith)
calls_some (Lock m) = (omega arith, omega arith)
calls_some (Done m crash) = (omega arith, omega arith)

is_within : (a b : ℕ) → a ≤ b → nat_le a b ≡ true
is_within a b h = grind (arith, nat_tests)

is_past : (a b : ℕ) → b < a → nat_le a b ≡ false
is_past a b h = grind (arith, nat_tests)

not_early : (a b : ℕ) → b ≤ a → nat_lt a b ≡ false
not_early a b h = grind (arith, nat_tests)

-- a stop in a call of the first step may leave nothing done
pub stop_leaves_none : (s : BankStep) (steps : List BankStep) (k : ℕ) → k ≤ calls_of s → Contains (stops k (s ∷ steps)) []
unfolding stops
stop_leaves_none s steps k few = rw (is_within k (calls_of s) few) (by_test (nat_lt k (gate_call_of s)))
  where
    by_test : (early : Bool) → Contains (cond early ([] ∷ []) ([] ∷ (s ∷ []) ∷ [])) []
    by_test true = contains_here [] []
    by_test false = contains_here [] ((s ∷ []) ∷ [])

-- and from its gate call on that step
pub stop_leaves_first : (s : BankStep) (steps : List BankStep) (k : ℕ) → gate_call_of s ≤ k → k ≤ calls_of s → Contains (stops k (s ∷ steps)) (s ∷ [])
unfolding stops
stop_leaves_first s steps k late few = rw (is_within k (calls_of s) few, not_early k (gate_call_of s) late) (contains_later [] ((s ∷ []) ∷ []) (s ∷ []) (contains_here (s ∷ []) []))

-- a stop before the first call leaves nothing done
stop_zero : (b done : List BankStep) → Contains (stops 0 b) done → done ≡ []
unfolding stops
stop_zero [] done h = contains_none done _ h
stop_zero (s ∷ b) done h = let some = calls_some s in go (nat_le 0 (calls_of s)) (is_within 0 (calls_of s) (omega arith)) (nat_lt 0 (gate_call_of s)) (is_early (gate_call_of s) some.0) h
  where
    is_early : (g : ℕ) → 1 ≤ g → nat_lt 0 g ≡ true
    is_early g h = grind (arith, nat_tests)

    go : (here : Bool) → here ≡ true → (early : Bool) → early ≡ true → Contains (cond here (cond early ([] ∷ []) ([] ∷ (s ∷ []) ∷ [])) (map (λ d. s ∷ d) (stops (0 - calls_of s) b))) done → done ≡ []
    go false e early f h = absurd cc
    go true e false f h = absurd cc
    go true e true f h = ⊎_elim (λ (same : [] ≡ done). sym same) (λ (later : Contains [] done). contains_none done _ later) (contains_cases [] [] done h)

pub stops_first : (a b : List BankStep) (k : ℕ) (done : List BankStep) → Contains (stops k a) done → Contains (stops k (a ++ b)) done
unfolding stops
stops_first [] b k done h = contains_none done _ h
stops_first (s ∷ a) b k done h = go (nat_le k (calls_of s)) (λ d. stops_first a b (k - calls_of s) d) h
  where
    go : (here : Bool) → ((d : List BankStep) → Contains (stops (k - calls_of s) a) d → Contains (stops (k - calls_of s) (a ++ b)) d)
        → Contains (cond here (done_of_step k s) (map (λ d. s ∷ d) (stops (k - calls_of s) a))) done
        → Contains (cond here (done_of_step k s) (map (λ d. s ∷ d) (stops (k - calls_of s) (a ++ b)))) done
    go true rest h = h
    go false rest h =
        let found = contains_map (λ d. s ∷ d) (stops (k - calls_of s) a) done h in
        subst (λ (d : List BankStep). Contains (map (λ d. s ∷ d) (stops (k - calls_of s) (a ++ b))) d) found.2 (contains_mapped (λ d. s ∷ d) (stops (k - calls_of s) (a ++ b)) found.0 (rest found.0 found.1))

no_calls : (a : List BankStep) → all_calls a ≡ 0 → a ≡ []
no_calls [] e = refl
no_calls (s ∷ a) e =
    let some = calls_some s in
    let cons : all_calls (s ∷ a) ≡ calls_of s + all_calls a = sum_by-cons calls_of s a in absurd (omega arith)

pub stops_rest : (a b : List BankStep) (k : ℕ) (done : List BankStep) → Contains (stops k b) done → Contains (stops (all_calls a + k) (a ++ b)) (a ++ done)
unfolding stops
stops_rest [] b k done h = let e : 0 + k ≡ k = omega arith in subst (λ (n : ℕ). Contains (stops n b) done) (sym e) h
stops_rest (s ∷ a) b k done h = rw (sum_by-cons calls_of s a) (go (all_calls a + k) refl (stops_rest a b k done h))
  where
    last : all_calls a + k ≡ 0 → Contains (stops (calls_of s) (s ∷ b)) (s ∷ [])
    last e = let some = calls_some s in stop_leaves_first s b (calls_of s) some.1 (omega arith)

    go : (n : ℕ) → all_calls a + k ≡ n → Contains (stops (all_calls a + k) (a ++ b)) (a ++ done) → Contains (stops (calls_of s + all_calls a + k) (s ∷ (a ++ b))) (s ∷ (a ++ done))
    go zero e rest =
        let none : a ≡ [] = no_calls a (omega arith) in
        let nothing : done ≡ [] = stop_zero b done (let k0 : k ≡ 0 = omega arith in subst (λ (n : ℕ). Contains (stops n b) done) k0 h) in
        let calls : calls_of s ≡ calls_of s + all_calls a + k = omega arith in
        subst (λ (n : ℕ). Contains (stops n (s ∷ (a ++ b))) (s ∷ (a ++ done))) calls (rw (none, nothing) (last e))
    go (suc n) e rest =
        let past : calls_of s < calls_of s + all_calls a + k = omega arith in
        let left : calls_of s + all_calls a + k - calls_of s ≡ all_calls a + k = omega arith in
        rw (is_past (calls_of s + all_calls a + k) (calls_of s) past, left) (contains_mapped (λ d. s ∷ d) (stops (all_calls a + k) (a ++ b)) (a ++ done) rest)

-- ---- some first steps

passed_first : (a b : List BankStep) (bytes : List ℕ) (v : View) (image : List ℕ) → IsPassed a bytes v image → IsPassed (a ++ b) bytes v image
passed_first a b bytes v image h = record {
  p = h.p;
  within = let within = h.within in omega (arith, length-append a b);
  has = subst (λ (done : List BankStep). HasDone (a ++ b) done bytes v image) (sym (take-append-le h.p a b h.within)) (done_first a b (take h.p a) bytes v image h.has);
}

take_past : (a b : List BankStep) (p : ℕ) → take (length a + p) (a ++ b) ≡ a ++ take p b
take_past [] b p = let e : 0 + p ≡ p = omega arith in rw e refl
take_past (s ∷ a) b p = let e : length (s ∷ a) + p ≡ suc (length a + p) = omega arith in rw e (ap (λ (xs : List BankStep). s ∷ xs) (take_past a b p))

passed_rest : (a b : List BankStep) (bytes now : List ℕ) (v : View) (image : List ℕ) → HasDone a a bytes v now → IsPassed b now (view_after v a) image → IsPassed (a ++ b) bytes v image
passed_rest a b bytes now v image done h = record {
  p = length a + h.p;
  within = let within = h.within in omega (arith, length-append a b);
  has = subst (λ (d : List BankStep). HasDone (a ++ b) d bytes v image) (sym (take_past a b h.p)) (done_rest a b (take h.p b) bytes now v image done h.has);
}

-- nothing has happened yet
passed_none : (steps : List BankStep) (bytes : List ℕ) (v : View) (image : List ℕ) → view_of bytes ≡ Some v → image ≡ bytes → IsPassed steps bytes v image
passed_none steps bytes v image e same = record {
  p = 0;
  within = omega arith;
  has = record {
    size = ap length same;
    same = λ i below aside. ap (λ (xs : List ℕ). slice_index xs i) same;
    unwritten = λ i below out. ap (λ (xs : List ℕ). slice_index xs i) same;
    view = ap view_of same ∙ e;
  };
}

-- ---- clauses

pub taken_again : (a b : List BankStep) (content between content' : Option (List ℕ)) (settled settled_between settled' : ℕ → Bool) → AreTaken a content settled between settled_between → AreTaken b between settled_between content' settled'
    → AreTaken (a ++ b) content settled content' settled'
taken_again a b content between content' settled settled_between settled' first second = λ bytes v ready.
    let mid = first bytes v (ready_first a b content settled bytes v ready) in
    let end = second mid.0 (view_after v a) (ready_rest a b content between settled settled_between bytes mid.0 v ready mid.1 mid.2) in
    (end.0, end.1, done_rest a b b bytes mid.0 v end.0 mid.2 end.2, end.3 ∙ ap (λ (image : List ℕ). image_after image b) mid.3 ∙ sym (image_after-append bytes a b))

pub stopped_first : (a b : List BankStep) (r : ℕ) (content content' : Option (List ℕ)) (settled settled' : ℕ → Bool) → AreStopped a r content settled content' settled' → AreStopped (a ++ b) r content settled content' settled'
stopped_first a b r content content' settled settled' stopped = λ bytes image v ready left.
    let s = stopped bytes image v (ready_first a b content settled bytes v ready) left in
    record { done = s.done; left = stops_first a b r s.done s.left; has = done_first a b s.done bytes v image s.has }

pub stopped_later : (a b : List BankStep) (old mid new : ℕ) (content between content' : Option (List ℕ)) (settled settled_between settled' : ℕ → Bool) → mid ≡ old + all_calls a → mid ≤ new → AreTaken a content settled between settled_between
    → AreStopped b (new - mid) between settled_between content' settled' → AreStopped (a ++ b) (new - old) content settled content' settled'
stopped_later a b old mid new content between content' settled settled_between settled' calls later first stopped = λ bytes image v ready left.
    let now = first bytes v (ready_first a b content settled bytes v ready) in
    let s = stopped now.0 image (view_after v a) (ready_rest a b content between settled settled_between bytes now.0 v ready now.1 now.2) left in
    let r : all_calls a + (new - mid) ≡ new - old = omega arith in
    record { done = a ++ s.done; left = subst (λ (k : ℕ). Contains (stops k (a ++ b)) (a ++ s.done)) r (stops_rest a b (new - mid) s.done s.left); has = done_rest a b s.done bytes now.0 v image now.2 s.has }

pub pass_first : (a b : List BankStep) (content : Option (List ℕ)) (settled : ℕ → Bool) (c0 : ℕ) (s0 s1 : ℕ → List ℕ → Type 0) → PassMeanwhile a content settled c0 s0 s1 → PassMeanwhile (a ++ b) content settled c0 s0 s1
pass_first a b content settled c0 s0 s1 pass = λ bytes v ready.
    elapses_more c0 s0 s1 (IsPassed a bytes v) (IsPassed (a ++ b) bytes v) (pass bytes v (ready_first a b content settled bytes v ready)) (λ image. passed_first a b bytes v image)

pub pass_again : (a b : List BankStep) (content between : Option (List ℕ)) (settled settled_between : ℕ → Bool) (c0 c1 : ℕ) (s0 s1 s2 : ℕ → List ℕ → Type 0) → c0 ≤ c1 → AreTaken a content settled between settled_between
    → PassMeanwhile a content settled c0 s0 s1 → PassMeanwhile b between settled_between c1 s1 s2 → PassMeanwhile (a ++ b) content settled c0 s0 s2
pass_again a b content between settled settled_between c0 c1 s0 s1 s2 later taken first second = λ bytes v ready.
    let ready_a = ready_first a b content settled bytes v ready in
    let now = taken bytes v ready_a in
    elapses_again c0 c1 s0 s1 s2 (IsPassed a bytes v) (IsPassed b now.0 (view_after v a)) (IsPassed (a ++ b) bytes v) (first bytes v ready_a)
    (second now.0 (view_after v a) (ready_rest a b content between settled settled_between bytes now.0 v ready now.1 now.2)) later
    (λ image. passed_first a b bytes v image) (λ image. passed_rest a b bytes now.0 v image now.2)

pub each_passed : (steps : List BankStep) (content : Option (List ℕ)) (settled : ℕ → Bool) (c0 : ℕ) (s0 s1 : ℕ → List ℕ → Type 0) → ((image : List ℕ) → s0 c0 image → MayLeave content settled image) → PassMeanwhile steps content settled c0 s0 s1
    → EachIsPassed steps content settled c0 s1
each_passed steps content settled c0 s0 s1 only pass = λ bytes image v ready left. ⊎_elim
    (λ (before : s0 c0 image). passed_none steps bytes v image ready.found.view_is (quiet_leaves bytes content settled image ready.found.quiet (only image before)))
    (λ (meanwhile : IsPassed steps bytes v image). meanwhile)
    ((pass bytes v ready).nothing_else c0 image (omega arith) left)
