-- From committed commands to the end of a cycle.
use Rattle.std.proofs.Common.{arith, refl, ap, sym, subst, ◌≡◌, ◌∙◌, ℕ, zero, suc, ◌+◌, ◌-◌, ◌<◌, ◌≤◌, inl, inr, ⊎_elim, Bool, true, false, cond, nat_le, Some, None, Option, List, [], ◌∷◌, ◌++◌, length, take, min, append_assoc, append-nil, Result, Ok, Err}
use Rattle.std.specs.Prelude.{flat_map, slice_get, is_err}
use Rattle.std.proofs.lemmas.Bool.{false≢true}
use Rattle.std.proofs.lemmas.Bool.Decides.{nat_tests}
use Rattle.std.proofs.lemmas.List.{length-take-le, take_min}
use Rattle.std.proofs.lemmas.List.Sums.{sum_by-append}
use Rattle.std.proofs.lemmas.Option.{slice_get_within}
use Rattle.std.proofs.Math.Seq.{take-length}
use Rattle.edr_items.specs.SensorLists.{SensorLists}
use Rattle.edr_device.specs.Device.{Elapses, IsQuiet, MayLeave}
use Rattle.edr_device.proofs.SettlingLemmas.{quiet_leaves}
use Rattle.edr_image.specs.Calls.{IsStop, count_acknowledged, all_calls, calls_of}
use Rattle.edr_image.specs.Banks.{Store}
use Rattle.edr_image.specs.Image.{View, view_of}
use Rattle.edr_cycle.specs.CycleLogged.{CycleLogged}
use Rattle.edr_image.specs.Reports.{Ran}
use Rattle.edr_image.specs.Steps.{BankStep, State, Reply, after, at_rest}
use Rattle.edr_image.proofs.StopLaws.{stop-prefix}
use Rattle.edr_banks.specs.Opened.{OpenedBanks, state_of}
use Rattle.edr_run.specs.Cycle.{End, cut, whole, acks_before, acks_in, cut_end, issues_in, replies_in, steps_in, whole_end}
use Rattle.edr_cycle.specs.Commits.{Commits, IsAfterFirst, IsLeftBy, IsFoundWith, SaysAfter, acks_from, first_steps, replies_from, steps_from}
use Rattle.edr_cycle.specs.Ends.{HasFirst, MeetsCycle, steps_at, steps_before}
use Rattle.edr_gates.specs.Found.{IsFound}
use Rattle.edr_cycle.specs.Past.{KeepsPast}
use Rattle.edr_cycle.proofs.KeepingLemmas.{first_steps-keep}
use Rattle.edr_cycle.proofs.PastLemmas.{past_same}
use Rattle.edr_cycle.proofs.ListLemmas.{left_first, left_later, length-acks_from, length-replies_from}

-- ---- which command a call is one of

acknowledged-is : (rs : List Reply) (k j : ℕ) (reply : Reply) → slice_get rs j ≡ Some reply → all_calls (steps_before rs j) < k → k ≤ all_calls (steps_before rs j) + all_calls reply.steps → count_acknowledged k rs ≡ j
unfolding count_acknowledged
acknowledged-is [] k j reply at past within = absurd cc
acknowledged-is (r ∷ rs) k zero reply at past within =
    let same : all_calls r.steps ≡ all_calls reply.steps = ap (λ (o : Option Reply). calls_at o) at in
    by_test (nat_le k (all_calls r.steps)) refl (omega (arith, within, same))
  where
    calls_at : Option Reply → ℕ
    calls_at None = 0
    calls_at (Some x) = all_calls x.steps

    by_test : (t : Bool) → nat_le k (all_calls r.steps) ≡ t → k ≤ all_calls r.steps → cond t 0 (suc (count_acknowledged (k - all_calls r.steps) rs)) ≡ 0
    by_test true e h = refl
    by_test false e h = absurd (grind (arith, nat_tests))
acknowledged-is (r ∷ rs) k (suc j) reply at past within =
    let cons : all_calls (steps_before (r ∷ rs) (suc j)) ≡ all_calls r.steps + all_calls (steps_before rs j) = sum_by-append calls_of r.steps (steps_before rs j) in
    let rest = acknowledged-is rs (k - all_calls r.steps) j reply at (omega (arith, past, cons)) (omega (arith, within, past, cons)) in
    by_test (nat_le k (all_calls r.steps)) refl (omega (arith, past, cons)) rest
  where
    by_test : (t : Bool) → nat_le k (all_calls r.steps) ≡ t → all_calls r.steps < k → count_acknowledged (k - all_calls r.steps) rs ≡ j → cond t 0 (suc (count_acknowledged (k - all_calls r.steps) rs)) ≡ suc j
    by_test true e h rest = absurd (grind (arith, nat_tests))
    by_test false e h rest = ap suc rest

-- the steps before a command, its own, and those after it
pub split_at : (rs : List Reply) (j : ℕ) (reply : Reply) → slice_get rs j ≡ Some reply → (rest : List BankStep) × (flat_map (λ r. r.steps) rs ≡ steps_before rs j ++ (reply.steps ++ rest))
split_at [] j reply at = absurd cc
split_at (r ∷ rs) zero reply at = let same : r ≡ reply = cc in (flat_map (λ x. x.steps) rs, ap (λ (x : Reply). x.steps ++ flat_map (λ y. y.steps) rs) same)
split_at (r ∷ rs) (suc j) reply at = let rest = split_at rs j reply at in (rest.0, ap (λ xs. r.steps ++ xs) rest.1 ∙ sym (append_assoc r.steps (steps_before rs j) (reply.steps ++ rest.0)))

pub at_is : (rs : List Reply) (j : ℕ) (reply : Reply) → slice_get rs j ≡ Some reply → steps_at rs j ≡ reply.steps
at_is rs j reply at = rw at refl

before_all : (rs : List Reply) → steps_before rs (length rs) ≡ flat_map (λ r. r.steps) rs
before_all rs = ap (flat_map (λ r. r.steps)) (take-length rs)

-- some first steps
prefix_of : (k : ℕ) (steps part : List BankStep) → IsLeftBy k steps part → (q : ℕ) × (q ≤ length steps) × (part ≡ take q steps)
prefix_of k steps part (inl none) = (0, omega arith, none.1)
prefix_of k steps part (inr stop) = let p = stop-prefix steps part k stop in (min p.0 (length steps), omega arith, p.1 ∙ sym (take_min p.0 steps))

-- ---- what holds with an answer

false_not : {A : Type 0} → false ≡ true → A
false_not e = absurd (false≢true e)

true_not : {A : Type 0} → true ≡ false → A
true_not e = absurd (false≢true (sym e))

pub length-acks_in : (f : SensorLists) (n : ℕ) (v : Store) → length (acks_in f n v) ≡ length (replies_in f n v)
unfolding acks_in
length-acks_in f n v = length-acks_from (at_rest v) (issues_in f n) ∙ sym (length-replies_from (at_rest v) (issues_in f n))

-- ---- the end of a cycle

module _ {D : Type 0} (content : D → Option (List ℕ)) (settled : D → ℕ → Bool) (since : D → ℕ → List ℕ → Type 0) (clock good : D → ℕ)
    (only_now : (d : D) (image : List ℕ) → since d (clock d) image → MayLeave (content d) (settled d) image)
    (f : SensorLists) (n : ℕ) (some : 1 ≤ n) (b b' : OpenedBanks) (rests : b.held ≡ None) (l l' : CycleLogged) (empty : l.acks ≡ []) (d d' : D) where
  abbrev seen : View
  seen = record { store = b.store; count = n }

  abbrev at : List ℕ → Type 0
  at bytes = IsFound seen (content d) (settled d) bytes

  ready : (bytes : List ℕ) → at bytes → IsFoundWith b.store (content d) (settled d) bytes seen
  ready bytes h = (h, refl)

  state_is : state_of b ≡ at_rest b.store
  state_is = ap (λ (h : Option ℕ). record { store = b.store; held = h }) rests

  steps_are : steps_from (state_of b) (issues_in f n) ≡ steps_in f n b.store
  unfolding steps_in
  steps_are = ap (λ (s : State). steps_from s (issues_in f n)) state_is

  acks_are : acks_from (state_of b) (issues_in f n) ≡ acks_in f n b.store
  unfolding acks_in
  acks_are = ap (λ (s : State). acks_from s (issues_in f n)) state_is

  replies_are : replies_from (state_of b) (issues_in f n) ≡ replies_in f n b.store
  replies_are = ap (λ (s : State). replies_from s (issues_in f n)) state_is

  steps_of_replies : steps_in f n b.store ≡ flat_map (λ r. r.steps) (replies_in f n b.store)
  unfolding steps_in
  steps_of_replies = refl

  length-acks : length (acks_in f n b.store) ≡ length (replies_in f n b.store)
  length-acks = length-acks_in f n b.store

  number_is : n - 1 + 1 ≡ n
  number_is = omega (arith, some)

  -- at each moment
  moments : {T E : Type 0} (r : Result T E) → Commits content settled since clock good (issues_in f n) r b b' l l' d d' → (bytes : List ℕ) → at bytes → Elapses (clock d) (since d) (since d') (IsAfterFirst (steps_in f n b.store) seen)
  moments r h bytes found = rw (sym steps_are) (h.any_moment bytes seen (ready bytes found))

  each_image : {T E : Type 0} (r : Result T E) → Commits content settled since clock good (issues_in f n) r b b' l l' d d' → (bytes image : List ℕ) → at bytes → since d' (clock d) image → IsAfterFirst (steps_in f n b.store) seen image
  each_image r h bytes image found had = ⊎_elim
      (λ (earlier : since d (clock d) image). record { p = 0; within = omega arith; says = ap view_of (quiet_leaves bytes (content d) (settled d) image found.quiet (only_now d image earlier)) ∙ found.view_is })
      (λ (p : IsAfterFirst (steps_in f n b.store) seen image). p)
      ((moments r h bytes found).nothing_else (clock d) image (omega arith) had)

  past_of : {T E : Type 0} (r : Result T E) → Commits content settled since clock good (issues_in f n) r b b' l l' d d' → (bytes image : List ℕ) → at bytes → since d' (clock d) image → KeepsPast b.store.header bytes image
  past_of r h bytes image found had = ⊎_elim
      (λ (earlier : since d (clock d) image). past_same b.store.header bytes image (quiet_leaves bytes (content d) (settled d) image found.quiet (only_now d image earlier)))
      (λ (p : KeepsPast b.store.header bytes image). p)
      ((h.past bytes seen (ready bytes found)).nothing_else (clock d) image (omega arith) had)

  all_first : (image : List ℕ) → SaysAfter seen (steps_in f n b.store) image → HasFirst (replies_in f n b.store) (length (acks_in f n b.store)) seen image
  all_first image says = record {
    done = steps_in f n b.store;
    says = says;
    first = record {
      q = 0;
      within = omega arith;
      steps = (steps_of_replies ∙ sym (before_all (replies_in f n b.store)) ∙ ap (steps_before (replies_in f n b.store)) (sym length-acks)
          ∙ sym (append-nil (steps_before (replies_in f n b.store) (length (acks_in f n b.store)))));
    };
  }

  ended_whole : {T E : Type 0} (x : T) → Commits {E = E} content settled since clock good (issues_in f n) (Ok x) b b' l l' d d' → MeetsCycle content settled since clock good f n b.store false l'.acks d d'
  ended_whole x h =
      let log : l'.acks ≡ acks_in f n b.store = ap (λ (m : CycleLogged). m.acks) h.log_is ∙ ap (λ as'. as' ++ acks_from (state_of b) (issues_in f n)) empty ∙ acks_are in
      let end : (bytes : List ℕ) → at bytes → (now : List ℕ) × IsQuiet (content d') (settled d') now × SaysAfter seen (steps_in f n b.store) now = λ bytes found. rw (sym steps_are) (let t = h.taken bytes seen (ready bytes found) in (t.0, t.1, t.2)) in
      let left : (bytes image : List ℕ) → at bytes → MayLeave (content d') (settled d') image → SaysAfter seen (steps_in f n b.store) image = λ bytes image found may. let e = end bytes found in ap view_of (quiet_leaves e.0 (content d') (settled d') image e.1 may) ∙ e.2 in
      record {
        calls_of_all = λ _. h.time.ok ∙ ap (λ steps. clock d + all_calls steps) steps_are;
        good_at_end = λ _ more. h.time.good_is.0 (subst (λ steps. 0 < all_calls steps) (sym steps_are) more);
        log_of_all = λ _. log;
        quiet_at_end = λ _. end;
        whole = λ _ bytes image found may. record {
          view = record seen { store = after b.store (steps_in f n b.store) };
          view_is = left bytes image found may;
          cycle = whole refl (inl refl) (ended log);
        };
        calls_up_to = λ e. false_not e;
        some_call = λ e. false_not e;
        last_call = λ e. false_not e;
        log_before = λ e. false_not e;
        log_begins = λ e. false_not e;
        cut = λ e. false_not e;
        acknowledged = λ bytes image found may. rw log (all_first image (left bytes image found may));
        any_moment = moments (Ok x) h;
        each = each_image (Ok x) h;
        keeps = λ bytes image found had. first_steps-keep f n b.store image some (each_image (Ok x) h bytes image found had);
        past = past_of (Ok x) h;
      }
    where
      ended : l'.acks ≡ acks_in f n b.store → ◌≡◌ {A = End} (record { report = Ran n None l'.acks; store = after b.store (steps_in f n b.store); count = n }) (whole_end f b.store (n - 1 + 1))
      ended log = rw (log, number_is) refl

  before_is : (k : ℕ) → take (count_acknowledged k (replies_in f n b.store)) (acks_in f n b.store) ≡ acks_before f n b.store k
  unfolding acks_before
  before_is k = refl

  ended_cut : {T E : Type 0} (e : E) → Commits {T = T} content settled since clock good (issues_in f n) (Err e) b b' l l' d d' → MeetsCycle content settled since clock good f n b.store true l'.acks d d'
  ended_cut e h =
      let s = h.stopped in
      let rs = replies_in f n b.store in
      let k = clock d' - clock d in
      let reply = s.fails.reply in
      let here : slice_get rs s.j ≡ Some reply = subst (λ xs. slice_get xs s.j ≡ Some reply) replies_are s.fails.at in
      let first : first_steps (state_of b) (issues_in f n) s.j ≡ steps_before rs s.j = ap (λ xs. steps_before xs s.j) replies_are in
      let calls = ap all_calls first in
      let below : s.j < length (acks_in f n b.store) = let w = slice_get_within rs s.j reply here in let long = length-acks in omega (arith, w, long) in
      let log : l'.acks ≡ take s.j (acks_in f n b.store) = s.log_is ∙ ap (λ ks. ks ++ take s.j (acks_from (state_of b) (issues_in f n))) empty ∙ ap (take s.j) acks_are in
      let long : length l'.acks ≡ s.j = ap length log ∙ length-take-le s.j (acks_in f n b.store) (omega arith) in
      let past = s.fails.past in
      let within = s.fails.within in
      let parts : (bytes image : List ℕ) → at bytes → MayLeave (content d') (settled d') image → (part : List BankStep) × IsLeftBy (k - all_calls (steps_before rs s.j)) reply.steps part × SaysAfter seen (steps_before rs s.j ++ part) image =
      λ bytes image found may. let c = s.cut bytes image seen (ready bytes found) may in
      (c.part, subst (λ steps. IsLeftBy (k - all_calls steps) reply.steps c.part) first c.left, subst (λ steps. SaysAfter seen (steps ++ c.part) image) first c.says) in
      record {
        calls_of_all = λ x. true_not x;
        good_at_end = λ x. true_not x;
        log_of_all = λ x. true_not x;
        quiet_at_end = λ x. true_not x;
        whole = λ x. true_not x;
        calls_up_to = λ _. rw (sym steps_are) h.time.few;
        some_call = λ _ room. h.time.made room;
        last_call = λ _ room. ⊎_elim (λ (one : (clock d' ≡ clock d + 1) × (good d' ≡ good d)). inl one.0) (λ (last : clock d' ≡ good d' + 1). inr last) (h.time.last room);
        log_before = λ _ room. let made = s.made room in
            log ∙ ap (λ j. take j (acks_in f n b.store)) (sym (acknowledged-is rs k s.j reply here (omega (arith, made, calls)) (omega (arith, within, calls)))) ∙ before_is k;
        log_begins = λ _. (omega (arith, below, long), log ∙ ap (λ j. take j (acks_in f n b.store)) (sym long));
        cut = λ _ room bytes image found may.
            let p = parts bytes image found may in
            let done = steps_before rs s.j ++ p.0 in
            let made = s.made room in
            let rest = split_at rs s.j reply here in
            let left : IsLeftBy k (steps_in f n b.store) done = subst (λ steps. IsLeftBy k steps done) (sym (steps_of_replies ∙ rest.1))
            (subst (λ m. IsLeftBy m (steps_before rs s.j ++ (reply.steps ++ rest.0)) done) (omega (arith, past, calls))
            (left_later (steps_before rs s.j) (reply.steps ++ rest.0) p.0 (k - all_calls (steps_before rs s.j)) (left_first reply.steps rest.0 p.0 (k - all_calls (steps_before rs s.j)) p.1))) in
            record {
              view = record seen { store = after b.store done };
              view_is = p.2;
              cycle = cut done refl (subst (λ m. IsStop (steps_in f m b.store) k done) (sym number_is) (is_stop k (steps_in f n b.store) done left (omega (arith, made)))) (cut_is k done (log ∙ ap (λ j. take j (acks_in f n b.store)) (sym (acknowledged-is rs k s.j reply here (omega (arith, made, calls)) (omega (arith, within, calls)))) ∙ before_is k));
            };
        acknowledged = λ bytes image found may.
            let p = parts bytes image found may in
            let q = prefix_of (k - all_calls (steps_before rs s.j)) reply.steps p.0 p.1 in
            rw long (first_of s.j reply here p.0 q.0 q.1 q.2 image p.2);
        any_moment = moments (Err e) h;
        each = each_image (Err e) h;
        keeps = λ bytes image found had. first_steps-keep f n b.store image some (each_image (Err e) h bytes image found had);
        past = past_of (Err e) h;
      }
    where
      is_stop : (k : ℕ) (steps done : List BankStep) → IsLeftBy k steps done → 1 ≤ k → IsStop steps k done
      is_stop k steps done (inl none) low = let z = none.0 in absurd (omega (arith, z, low))
      is_stop k steps done (inr stop) low = stop

      cut_is : (k : ℕ) (done : List BankStep) → l'.acks ≡ acks_before f n b.store k → ◌≡◌ {A = End} (record { report = Ran n (Some k) l'.acks; store = after b.store done; count = n }) (cut_end f b.store (n - 1 + 1) k done)
      cut_is k done log = rw (log, number_is) refl

      first_of : (j : ℕ) (reply : Reply) → slice_get (replies_in f n b.store) j ≡ Some reply → (part : List BankStep) (q : ℕ) → q ≤ length reply.steps → part ≡ take q reply.steps → (image : List ℕ) → SaysAfter seen (steps_before (replies_in f n b.store) j ++ part) image → HasFirst (replies_in f n b.store) j seen image
      first_of j reply here part q within is image says =
          let own = at_is (replies_in f n b.store) j reply here in record {
            done = steps_before (replies_in f n b.store) j ++ part;
            first = record { q = q; within = rw own within; steps = ap (λ steps. steps_before (replies_in f n b.store) j ++ steps) (is ∙ ap (take q) (sym own)) };
            says = says;
          }

  -- with either answer
  pub meets : {T E : Type 0} (r : Result T E) (failed : Bool) → failed ≡ is_err r → Commits content settled since clock good (issues_in f n) r b b' l l' d d' → MeetsCycle content settled since clock good f n b.store failed l'.acks d d'
  meets (Ok x) failed is h = rw is (ended_whole x h)
  meets (Err e) failed is h = rw is (ended_cut e h)
