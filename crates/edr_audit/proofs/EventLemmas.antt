-- Walkers past the issues of events, one after the other.
use Rattle.std.proofs.Common.{◌≡◌, refl, sym, ap, ◌∙◌, arith, ℕ, zero, suc, ◌+◌, ◌<◌, ◌≤◌, Bool, true, false, cond, nat_le, List, [], ◌∷◌, ◌++◌, length, map, filter, take, get_or}
use Rattle.std.specs.Prelude.{fold, flat_map}
use Rattle.std.proofs.lemmas.List.{append-nil, take_more}
use Rattle.std.proofs.lemmas.List.Sums.{fold-append}
use Rattle.std.proofs.lemmas.List.Folds.{flat_map-map}
use Rattle.std.proofs.lemmas.List.Concat.{flat_map-append}
use Rattle.std.proofs.lemmas.Bool.Decides.{nat_tests}
use Rattle.edr_items.specs.SensorLists.{SensorLists, horizon_of}
use Rattle.edr_definitions.specs.Signals.{signals_of}
use Rattle.edr_definitions.specs.Commands.{Issue, issues_of, placed_events}
use Rattle.edr_selection.specs.declared.placing.Selected.{Selected}
use Rattle.edr_selection.specs.Found.{placed_of}
use Rattle.edr_image.specs.declared.Header.{Header}
use Rattle.edr_audit.specs.Branches.{WalkerState, all_past, walker_next, walker_through}
use Rattle.edr_audit.proofs.WalkLemmas.{map_map, map_same}

map_id : {A : Type 0} (xs : List A) → map (λ x. x) xs ≡ xs
map_id [] = refl
map_id (x ∷ xs) = ap (λ ys. x ∷ ys) (map_id xs)

filter_append : (t : ℕ) (a b : List Issue) → filter (λ i. nat_le i.tick t) (a ++ b) ≡ filter (λ i. nat_le i.tick t) a ++ filter (λ i. nat_le i.tick t) b
filter_append t [] b = refl
filter_append t (i ∷ a) b = by_test (nat_le i.tick t) (filter_append t a b) where
  by_test : (c : Bool) → filter (λ i. nat_le i.tick t) (a ++ b) ≡ filter (λ i. nat_le i.tick t) a ++ filter (λ i. nat_le i.tick t) b
      → cond c (i ∷ filter (λ i. nat_le i.tick t) (a ++ b)) (filter (λ i. nat_le i.tick t) (a ++ b)) ≡ cond c (i ∷ filter (λ i. nat_le i.tick t) a) (filter (λ i. nat_le i.tick t) a) ++ filter (λ i. nat_le i.tick t) b
  by_test true later = ap (λ xs. i ∷ xs) later
  by_test false later = later

pub one_past : (report : List ℕ) (h : Header) (place t : ℕ) (i : Issue) (ws : List WalkerState) → i.tick ≤ t → all_past report h place t (i ∷ []) ws ≡ map (λ w. walker_next report h place w i) ws
one_past report h place t i ws by =
    let test : nat_le i.tick t ≡ true = grind (arith, nat_tests) in
    ap (λ b. map (λ w. fold (walker_next report h place) w (cond b (i ∷ []) [])) ws) test

pub none_past : (report : List ℕ) (h : Header) (place t : ℕ) (i : Issue) (ws : List WalkerState) → t < i.tick → all_past report h place t (i ∷ []) ws ≡ ws
none_past report h place t i ws late =
    let test : nat_le i.tick t ≡ false = grind (arith, nat_tests) in
    ap (λ b. map (λ w. fold (walker_next report h place) w (cond b (i ∷ []) [])) ws) test ∙ map_id ws

pub past_append : (report : List ℕ) (h : Header) (place t : ℕ) (a b : List Issue) (ws : List WalkerState) → all_past report h place t (a ++ b) ws ≡ all_past report h place t b (all_past report h place t a ws)
past_append report h place t a b ws =
    let next = walker_next report h place in
    let fa = filter (λ i. nat_le i.tick t) a in
    let fb = filter (λ i. nat_le i.tick t) b in
    map_same (λ w. fold next w (filter (λ i. nat_le i.tick t) (a ++ b))) (λ w. fold next (fold next w fa) fb) ws (λ w. ap (fold next w) (filter_append t a b) ∙ fold-append next w fa fb)
    ∙ sym (map_map (λ w. fold next w fb) (λ w. fold next w fa) ws)

pub nothing_past : (report : List ℕ) (h : Header) (place t : ℕ) (ws : List WalkerState) → all_past report h place t [] ws ≡ ws
nothing_past report h place t ws = map_id ws

-- the three commands of an event, one after the other
pub three_past : (report : List ℕ) (h : Header) (place t : ℕ) (a : Issue) (locks : List Issue) (d : Issue) (ws xs ys zs : List WalkerState) → xs ≡ all_past report h place t (a ∷ []) ws → ys ≡ all_past report h place t locks xs → zs ≡ all_past report h place t (d ∷ []) ys
    → zs ≡ all_past report h place t (a ∷ locks ++ d ∷ []) ws
three_past report h place t a locks d ws xs ys zs first second third =
    third
    ∙ ap (all_past report h place t (d ∷ [])) (second ∙ ap (all_past report h place t locks) first)
    ∙ sym (past_append report h place t (a ∷ []) (locks ++ d ∷ []) ws ∙ past_append report h place t locks (d ∷ []) (all_past report h place t (a ∷ []) ws))

-- the issues of one more event
pub event_past : {E : Type 0} (report : List ℕ) (h : Header) (place t : ℕ) (f : E → List Issue) (es : List E) (i : ℕ) (d : E) (ws now new : List WalkerState) → i < length es → now ≡ all_past report h place t (flat_map f (take i es)) ws → new ≡ all_past report h place t (f (get_or es i d)) now
    → new ≡ all_past report h place t (flat_map f (take (i + 1) es)) ws
event_past {E = E} report h place t f es i d ws now new below was put =
    put ∙ ap (all_past report h place t (f (get_or es i d))) was
    ∙ sym (past_append report h place t (flat_map f (take i es)) (f (get_or es i d)) ws)
    ∙ ap (λ (is : List Issue). all_past report h place t is ws) (sym (ap (flat_map f) (take_more es i d below) ∙ flat_map-append f (take i es) (get_or es i d ∷ []) ∙ ap (λ (is : List Issue). flat_map f (take i es) ++ is) (append-nil (f (get_or es i d)))))

pub take_past : {A : Type 0} (xs : List A) (i : ℕ) → length xs ≤ i → take i xs ≡ xs
take_past [] i all = take_none i where
  take_none : {A : Type 0} (i : ℕ) → take i (let none : List A = [] in none) ≡ []
  take_none zero = refl
  take_none (suc i) = refl
take_past (x ∷ xs) zero all = absurd (omega (arith, all))
take_past (x ∷ xs) (suc i) all = ap (λ ys. x ∷ ys) (take_past xs i (omega (arith, all)))

-- past the issues of all events
pub events_done : (report : List ℕ) (h : Header) (place : ℕ) (f : SensorLists) (es events : List Selected) (t i : ℕ) (ws now : List WalkerState) → now ≡ all_past report h place t (flat_map (λ e. issues_of f 1 (placed_of e)) (take i es)) ws → length es ≤ i → es ≡ events
    → map placed_of events ≡ placed_events (signals_of f) (horizon_of f) → t ≡ horizon_of f → now ≡ map (walker_through report h place f) ws
events_done report h place f es events t i ws now was all same placed by =
    was
    ∙ ap (λ (is : List Issue). all_past report h place t is ws) (ap (flat_map (λ e. issues_of f 1 (placed_of e))) (take_past es i all ∙ same) ∙ sym (flat_map-map (issues_of f 1) placed_of events) ∙ ap (flat_map (issues_of f 1)) placed)
    ∙ ap (λ (u : ℕ). all_past report h place u (flat_map (issues_of f 1) (placed_events (signals_of f) (horizon_of f))) ws) by
