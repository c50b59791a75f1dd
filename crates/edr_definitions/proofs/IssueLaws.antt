-- The commands up to a tick depend on nothing that comes later.
use Rattle.std.proofs.Common.{arith, refl, ap, sym, subst, ◌≡◌, ◌≢◌, ◌∙◌, ℕ, ◌+◌, ◌<◌, ◌≤◌, ◌⊎◌, inl, inr, Bool, true, false, cond, nat_le, Some, None, Option, List, [], ◌∷◌, ◌++◌, map, filter}
use Rattle.std.specs.Prelude.{filter_map, flat_map, zip}
use Rattle.std.specs.List.{cons_option}
use Rattle.std.proofs.lemmas.Bool.{cases_lt}
use Rattle.std.proofs.lemmas.List.Elements.{filter-append}
use Rattle.edr_items.specs.SensorLists.{SensorLists}
use Rattle.edr_record.specs.declared.Place.{Place}
use Rattle.edr_record.specs.declared.Command.{Command}
use Rattle.edr_record.specs.declared.Command.TheVariants.{Take, Lock, Done}
use Rattle.edr_record.specs.Parts.{PrePart, CrashPart}
use Rattle.edr_definitions.specs.Ticks.{first_tick, IsFirst}
use Rattle.edr_definitions.specs.Signals.{Signals, signals_of}
use Rattle.edr_definitions.specs.Selection.{Candidate, Event, event_of, close_of, events}
use Rattle.edr_definitions.specs.Parts.{pre_part, crash_part}
use Rattle.edr_definitions.specs.Commands.{issues, Issue, locks_at, issues_of, is_locking, places, commands}
use Rattle.edr_definitions.specs.Facts.{AgreeUpTo, GiveTheSameUpTo}
use Rattle.edr_definitions.proofs.TickLaws.{first_tick-some, first_tick-is}
use Rattle.edr_definitions.proofs.AgreeLaws.{IsFirst-agree, AgreeUpTo-sym}
use Rattle.edr_definitions.proofs.PartLaws.{pre_part-same, crash_part-same}
use Rattle.edr_definitions.proofs.GrowLaws.{BothOpen, SameUpTo, none, ended, both_open, chain-same}

pub some_injective : (u v : ℕ) → ◌≡◌ {A = Option ℕ} (Some u) (Some v) → u ≡ v
some_injective u v h = cc

-- ---- events
-- one event, as far as it has come by t
pub record SameEvent (t : ℕ) (e f : Event) : Type 0 where
  pub zero_is : e.zero_tick ≡ f.zero_tick
  pub confirmed_is : e.confirmed_tick ≡ f.confirmed_tick
  pub begun : e.zero_tick ≤ t
  pub end_is : ((e.end_tick ≡ f.end_tick) × (e.zero_tick ≤ e.end_tick)) ⊎ ((t < e.end_tick) × (t < f.end_tick))

pub data SameEvents : ℕ → List Event → List Event → Type 0 where
  no_event : {t : ℕ} → SameEvents t [] []
  an_event : {t : ℕ} {e f : Event} {es fs : List Event} → SameEvent t e f → SameEvents t es fs → SameEvents t (e ∷ es) (f ∷ fs)

ended_event : (t z e : ℕ) (r : Option ℕ) (es fs : List Event) → z + 20 ≤ e → e ≤ t → SameEvents t es fs → SameEvents t (cons_option (event_of t (record { zero_tick = z; end_tick = e; confirmed = r })) es) (cons_option (event_of t (record { zero_tick = z; end_tick = e; confirmed = r })) fs)
ended_event t z e None es fs long over rest = rest
ended_event t z e (Some u) es fs long over rest = by_test (nat_le u t) where
  by_test : (b : Bool) → SameEvents t (cons_option (cond b (Some (record { zero_tick = z; confirmed_tick = u; end_tick = e })) None) es) (cons_option (cond b (Some (record { zero_tick = z; confirmed_tick = u; end_tick = e })) None) fs)
  by_test true = an_event (record { zero_is = refl; confirmed_is = refl; begun = omega arith; end_is = inl (refl, omega arith) }) rest
  by_test false = rest

-- an event that is confirmed by t, or none
pub confirmed_by : (t z e : ℕ) (r : Option ℕ) → ((u : ℕ) × (r ≡ Some u) × (u ≤ t) × (event_of t (record { zero_tick = z; end_tick = e; confirmed = r }) ≡ Some (record { zero_tick = z; confirmed_tick = u; end_tick = e }))) ⊎ (((u : ℕ) → u ≤ t → r ≢ Some u) × (event_of t (record { zero_tick = z; end_tick = e; confirmed = r }) ≡ None))
confirmed_by t z e None = inr (λ u near h. cc, refl)
confirmed_by t z e (Some u) = by_order (cases_lt t u) where
  by_order : (t < u) ⊎ (u ≤ t) → ((v : ℕ) × (Some u ≡ Some v) × (v ≤ t) × (event_of t (record { zero_tick = z; end_tick = e; confirmed = Some u }) ≡ Some (record { zero_tick = z; confirmed_tick = v; end_tick = e }))) ⊎ (((v : ℕ) → v ≤ t → Some u ≢ Some v) × (event_of t (record { zero_tick = z; end_tick = e; confirmed = Some u }) ≡ None))
  by_order (inl late) = inr (λ v near h. let k : u ≡ v = cc in omega arith, let b : nat_le u t ≡ false = grind arith in rw b refl)
  by_order (inr near) = inl (u, refl, near, let b : nat_le u t ≡ true = grind arith in rw b refl)

open_cases : (t : ℕ) (c d : Candidate) → BothOpen t c d → ((u : ℕ) × (c.confirmed ≡ Some u) × (u ≤ t) × (event_of t c ≡ Some (record { zero_tick = c.zero_tick; confirmed_tick = u; end_tick = c.end_tick }))) ⊎ (((u : ℕ) → u ≤ t → c.confirmed ≢ Some u) × (event_of t c ≡ None)) → ((u : ℕ) × (d.confirmed ≡ Some u) × (u ≤ t) × (event_of t d ≡ Some (record { zero_tick = d.zero_tick; confirmed_tick = u; end_tick = d.end_tick }))) ⊎ (((u : ℕ) → u ≤ t → d.confirmed ≢ Some u) × (event_of t d ≡ None)) → SameEvents t (cons_option (event_of t c) []) (cons_option (event_of t d) [])
open_cases t c d both (inl x) (inl y) =
    let there : d.confirmed ≡ Some x.0 = (both.same_confirmed x.0 x.2).0 x.1 in
    let one : x.0 ≡ y.0 = some_injective x.0 y.0 (sym there ∙ y.1) in
    subst (λ (o : Option Event). SameEvents t (cons_option o []) (cons_option (event_of t d) [])) (sym x.3)
    (subst (λ (o : Option Event). SameEvents t (cons_option (Some (record { zero_tick = c.zero_tick; confirmed_tick = x.0; end_tick = c.end_tick })) []) (cons_option o [])) (sym y.3)
    (an_event (record { zero_is = both.same_zero; confirmed_is = one; begun = both.begun; end_is = inr (both.first_open, both.second_open) }) no_event))
open_cases t c d both (inl x) (inr y) = absurd (y.0 x.0 x.2 ((both.same_confirmed x.0 x.2).0 x.1))
open_cases t c d both (inr x) (inl y) = absurd (x.0 y.0 y.2 ((both.same_confirmed y.0 y.2).1 y.1))
open_cases t c d both (inr x) (inr y) =
    subst (λ (o : Option Event). SameEvents t (cons_option o []) (cons_option (event_of t d) [])) (sym x.1)
    (subst (λ (o : Option Event). SameEvents t (cons_option {X = Event} None []) (cons_option o [])) (sym y.1) no_event)

open_event : (t : ℕ) (c d : Candidate) → BothOpen t c d → SameEvents t (cons_option (event_of t c) []) (cons_option (event_of t d) [])
open_event t c d both = open_cases t c d both (confirmed_by t c.zero_tick c.end_tick c.confirmed) (confirmed_by t d.zero_tick d.end_tick d.confirmed)

events-same_from : {t : ℕ} {cs ds : List Candidate} → SameUpTo t cs ds → SameEvents t (filter_map (event_of t) cs) (filter_map (event_of t) ds)
events-same_from none = no_event
events-same_from {t = t} (ended {c = c} {cs = cs} {ds = ds} over long rest) = ended_event t c.zero_tick c.end_tick c.confirmed (filter_map (event_of t) cs) (filter_map (event_of t) ds) long over (events-same_from rest)
events-same_from {t = t} (both_open {c = c} {d = d} both) = open_event t c d both

pub events-same : (m n : Signals) (t : ℕ) → AgreeUpTo t m n → SameEvents t (events m t) (events n t)
events-same m n t same = events-same_from (chain-same m n t same)

-- ---- the commands of one event
locks_by : (t : ℕ) (pre : PrePart) (r : Option ℕ) → ((u : ℕ) × (r ≡ Some u) × (u ≤ t) × (filter (λ i. nat_le i.tick t) (locks_at pre r) ≡ record { tick = u; command = Lock pre } ∷ [])) ⊎ (((u : ℕ) → u ≤ t → r ≢ Some u) × (filter (λ i. nat_le i.tick t) (locks_at pre r) ≡ []))
locks_by t pre None = inr (λ u near h. cc, refl)
locks_by t pre (Some u) = elim (cases_lt t u) [
  | inl late ↦ inr (λ v near h. let k = some_injective u v h in omega arith, let b : nat_le u t ≡ false = grind arith in rw b refl)
  | inr near ↦ inl (u, refl, near, let b : nat_le u t ≡ true = grind arith in rw b refl)
]

locks_cases : (t : ℕ) (pre : PrePart) (r q : Option ℕ) → ((u : ℕ) → u ≤ t → (r ≡ Some u → q ≡ Some u) × (q ≡ Some u → r ≡ Some u)) → ((u : ℕ) × (r ≡ Some u) × (u ≤ t) × (filter (λ i. nat_le i.tick t) (locks_at pre r) ≡ record { tick = u; command = Lock pre } ∷ [])) ⊎ (((u : ℕ) → u ≤ t → r ≢ Some u) × (filter (λ i. nat_le i.tick t) (locks_at pre r) ≡ [])) → ((u : ℕ) × (q ≡ Some u) × (u ≤ t) × (filter (λ i. nat_le i.tick t) (locks_at pre q) ≡ record { tick = u; command = Lock pre } ∷ [])) ⊎ (((u : ℕ) → u ≤ t → q ≢ Some u) × (filter (λ i. nat_le i.tick t) (locks_at pre q) ≡ [])) → filter (λ i. nat_le i.tick t) (locks_at pre r) ≡ filter (λ i. nat_le i.tick t) (locks_at pre q)
locks_cases t pre r q same (inl x) (inl y) =
    let one : x.0 ≡ y.0 = some_injective x.0 y.0 (sym ((same x.0 x.2).0 x.1) ∙ y.1) in
    x.3 ∙ ap (λ (u : ℕ). let i : Issue = record { tick = u; command = Lock pre } in i ∷ []) one ∙ sym y.3
locks_cases t pre r q same (inl x) (inr y) = absurd (y.0 x.0 x.2 ((same x.0 x.2).0 x.1))
locks_cases t pre r q same (inr x) (inl y) = absurd (x.0 y.0 y.2 ((same y.0 y.2).1 y.1))
locks_cases t pre r q same (inr x) (inr y) = x.1 ∙ sym y.1

locks_same : (t : ℕ) (pre : PrePart) (r q : Option ℕ) → ((u : ℕ) → u ≤ t → (r ≡ Some u → q ≡ Some u) × (q ≡ Some u → r ≡ Some u)) → filter (λ i. nat_le i.tick t) (locks_at pre r) ≡ filter (λ i. nat_le i.tick t) (locks_at pre q)
locks_same t pre r q same = locks_cases t pre r q same (locks_by t pre r) (locks_by t pre q)

-- a Lock by t that one has, the other has
lock_there : (m n : Signals) (t z z' b b' u : ℕ) → AgreeUpTo t m n → z ≡ z' → (b ≡ b') ⊎ ((t < b) × (t < b')) → u ≤ t → first_tick (is_locking m) z (b + 1) ≡ Some u → first_tick (is_locking n) z' (b' + 1) ≡ Some u
lock_there m n t z z' b b' u same e ends near h =
    let found = first_tick-some (is_locking m) z (b + 1) u h in
    let there : IsFirst (is_locking n) z u = IsFirst-agree (is_locking m) (is_locking n) z u (λ v lo hi. let k : m.fired v ≡ n.fired v = same.fired v (omega arith) in rw k refl) found.0 in
    let below : u < b' + 1 = elim ends [ inl k ↦ omega (arith, found.1) | inr past ↦ omega arith ] in
    first_tick-is (is_locking n) z' (b' + 1) u (subst (λ x. IsFirst (is_locking n) x u) e there) below

closes : (t z z' e e' : ℕ) → z ≡ z' → ((e ≡ e') × (z ≤ e)) ⊎ ((t < e) × (t < e')) → (close_of z e ≡ close_of z' e') ⊎ ((t < close_of z e) × (t < close_of z' e'))
closes t z z' e e' same (inl x) = inl (omega arith)
closes t z z' e e' same (inr x) = inr (omega arith, omega arith)

-- an issue past t does not count
pub late_issue : (t k : ℕ) (c : Command) → t < k → filter {X = Issue} (λ i. nat_le i.tick t) (record { tick = k; command = c } ∷ []) ≡ []
late_issue t k c late = let b : nat_le k t ≡ false = grind arith in rw b refl

done_same : (m n : Signals) (t z z' e e' : ℕ) → AgreeUpTo t m n → z ≡ z' → ((e ≡ e') × (z ≤ e)) ⊎ ((t < e) × (t < e')) → (t < close_of z e) ⊎ (close_of z e ≤ t) → filter {X = Issue} (λ i. nat_le i.tick t) (record { tick = close_of z e; command = Done (crash_part m z e) } ∷ []) ≡ filter {X = Issue} (λ i. nat_le i.tick t) (record { tick = close_of z' e'; command = Done (crash_part n z' e') } ∷ [])
done_same m n t z z' e e' same k (inr x) _ = late_issue t (close_of z e) (Done (crash_part m z e)) (omega arith) ∙ sym (late_issue t (close_of z' e') (Done (crash_part n z' e')) (omega arith))
done_same m n t z z' e e' same k (inl x) (inl late) = late_issue t (close_of z e) (Done (crash_part m z e)) late ∙ sym (late_issue t (close_of z' e') (Done (crash_part n z' e')) (omega arith))
done_same m n t z z' e e' same k (inl x) (inr over) =
    let part : crash_part m z e ≡ crash_part n z e = crash_part-same m n t z e x.1 over same in
    let P = λ (i : Issue). nat_le i.tick t in
    ap (λ (c : CrashPart). let i : Issue = record { tick = close_of z e; command = Done c } in filter P (i ∷ [])) part
    ∙ ap (λ (a : ℕ). let i : Issue = record { tick = close_of a e; command = Done (crash_part n a e) } in filter P (i ∷ [])) k
    ∙ ap (λ (b : ℕ). let i : Issue = record { tick = close_of z' b; command = Done (crash_part n z' b) } in filter P (i ∷ [])) x.0

issue_is : (k k' : ℕ) (c c' : Command) → k ≡ k' → c ≡ c' → ◌≡◌ {A = Issue} (record { tick = k; command = c }) (record { tick = k'; command = c' })
issue_is k k' c c' e h = cc

three : (P : Issue → Bool) (a a' : Issue) (ls ls' ds ds' : List Issue) → a ≡ a' → filter P ls ≡ filter P ls' → filter P ds ≡ filter P ds' → filter P (a ∷ (ls ++ ds)) ≡ filter P (a' ∷ (ls' ++ ds'))
three P a a' ls ls' ds ds' first locks dones =
    let tail : filter P (ls ++ ds) ≡ filter P (ls' ++ ds') = filter-append P ls ds ∙ ap (λ xs. xs ++ filter P ds) locks ∙ ap (λ ys. filter P ls' ++ ys) dones ∙ sym (filter-append P ls' ds') in
    ap (λ x. cond (P x) (x ∷ filter P (ls ++ ds)) (filter P (ls ++ ds))) first ∙ ap (λ xs. cond (P a') (a' ∷ xs) xs) tail

event_issues-same : (f g : SensorLists) (n t : ℕ) (e d : Event) (p : Place) → GiveTheSameUpTo t f g → SameEvent t e d → filter (λ i. nat_le i.tick t) (issues_of f n (e, p)) ≡ filter (λ i. nat_le i.tick t) (issues_of g n (d, p))
unfolding issues_of
event_issues-same f g n t e d p same one =
    let m = signals_of f in
    let m' = signals_of g in
    let P = λ (i : Issue). nat_le i.tick t in
    let z = e.zero_tick in
    let close = close_of z e.end_tick in
    let close' = close_of d.zero_tick d.end_tick in
    let pre = pre_part f n p z in
    let pre' = pre_part g n p d.zero_tick in
    let pre_is : pre ≡ pre' = pre_part-same t n z p f g one.begun same ∙ ap (pre_part g n p) one.zero_is in
    let ends = closes t z d.zero_tick e.end_tick d.end_tick one.zero_is one.end_is in
    let ends' : (close' ≡ close) ⊎ ((t < close') × (t < close)) = elim ends [ inl k ↦ inl (sym k) | inr k ↦ inr (k.1, k.0) ] in
    let r = first_tick (is_locking m) z (close + 1) in
    let q = first_tick (is_locking m') d.zero_tick (close' + 1) in
    let locks : filter P (locks_at pre r) ≡ filter P (locks_at pre' q) =
    locks_same t pre r q (λ u near. (lock_there m m' t z d.zero_tick close close' u same.signals one.zero_is ends near, lock_there m' m t d.zero_tick z close' close u (AgreeUpTo-sym t m m' same.signals) (sym one.zero_is) ends' near))
    ∙ ap (λ x. filter P (locks_at x q)) pre_is in
    let dones = done_same m m' t z d.zero_tick e.end_tick d.end_tick same.signals one.zero_is one.end_is (cases_lt t close) in
    three P (record { tick = e.confirmed_tick; command = Take pre }) (record { tick = d.confirmed_tick; command = Take pre' }) (locks_at pre r) (locks_at pre' q)
    (record { tick = close; command = Done (crash_part m z e.end_tick) } ∷ []) (record { tick = close'; command = Done (crash_part m' d.zero_tick d.end_tick) } ∷ [])
    (issue_is e.confirmed_tick d.confirmed_tick (Take pre) (Take pre') one.confirmed_is (ap Take pre_is)) locks dones

-- ---- all commands
pub zeros-same : {t : ℕ} {es fs : List Event} → SameEvents t es fs → map (λ e. e.zero_tick) es ≡ map (λ e. e.zero_tick) fs
zeros-same no_event = refl
zeros-same (an_event one rest) = let a = one.zero_is in let b = zeros-same rest in cc

all_issues-same : (f g : SensorLists) (n : ℕ) {t : ℕ} {es fs : List Event} → (ps : List Place) → GiveTheSameUpTo t f g → SameEvents t es fs → filter (λ i. nat_le i.tick t) (flat_map (issues_of f n) (zip es ps)) ≡ filter (λ i. nat_le i.tick t) (flat_map (issues_of g n) (zip fs ps))
all_issues-same f g n ps same no_event = refl
all_issues-same f g n [] same (an_event one rest) = refl
all_issues-same f g n {t = t} (p ∷ ps) same (an_event {e = e} {f = d} {es = es} {fs = ds} one rest) =
    filter-append (λ i. nat_le i.tick t) (issues_of f n (e, p)) (flat_map (issues_of f n) (zip es ps))
    ∙ ap (λ xs. xs ++ filter (λ i. nat_le i.tick t) (flat_map (issues_of f n) (zip es ps))) (event_issues-same f g n t e d p same one)
    ∙ ap (λ ys. filter (λ i. nat_le i.tick t) (issues_of g n (d, p)) ++ ys) (all_issues-same f g n ps same rest)
    ∙ sym (filter-append (λ i. nat_le i.tick t) (issues_of g n (d, p)) (flat_map (issues_of g n) (zip ds ps)))

-- lists that give the same up to t have the same commands up to t, at the same ticks
pub issues-same : (f g : SensorLists) (n t : ℕ) → GiveTheSameUpTo t f g → issues f n t ≡ issues g n t
issues-same f g n t same =
    let es = events (signals_of f) t in
    let ds = events (signals_of g) t in
    let one : SameEvents t es ds = events-same (signals_of f) (signals_of g) t same.signals in
    let zeros : map (λ e. e.zero_tick) es ≡ map (λ e. e.zero_tick) ds = zeros-same one in
    all_issues-same f g n (places (map (λ e. e.zero_tick) es)) same one
    ∙ ap (λ zs. filter (λ i. nat_le i.tick t) (flat_map (issues_of g n) (zip ds (places zs)))) zeros

pub commands-same : (f g : SensorLists) (n t : ℕ) → GiveTheSameUpTo t f g → commands f n t ≡ commands g n t
unfolding commands
commands-same f g n t same = ap (map (λ i. i.command)) (issues-same f g n t same)
