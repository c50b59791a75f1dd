-- When two values are one.
use Rattle.std.proofs.Common.{◌≡◌, refl, sym, ap, ◌∙◌, arith, ℕ, zero, suc, ◌+◌, ◌<◌, ◌≤◌, ℤ, Bool, true, false, ◌&&◌, Option, Some, None, List, [], ◌∷◌, ◌++◌, length, take, get_or}
use Rattle.std.specs.Prelude.{Decides}
use Rattle.std.specs.Option.{option_eq}
use Rattle.std.proofs.lemmas.List.{take_more}
use Rattle.edr_record.specs.declared.Extreme.{Extreme}
use Rattle.edr_record.specs.declared.Key.{Key}
use Rattle.edr_record.specs.declared.Place.{Place}
use Rattle.edr_record.specs.declared.Profile.{Profile}
use Rattle.edr_record.specs.Parts.{CrashPart, PrePart}
use Rattle.edr_audit.proofs.EventLemmas.{take_past}

pub moved : {A : Type 0} (r : Bool) (x y p q : A) → x ≡ p → y ≡ q → Decides r (x ≡ y) → Decides r (p ≡ q)
moved r x y p q e f d = ((λ t. sym e ∙ d.0 t ∙ f), λ h. d.1 (e ∙ h ∙ sym f))

both : {P Q : Type 0} (x y : Bool) → Decides x P → Decides y Q → Decides (x && y) (P × Q)
both true true d e = ((λ t. (d.0 refl, e.0 refl)), λ h. refl)
both true false d e = ((λ t. cc), λ h. e.1 h.1)
both false true d e = ((λ t. cc), λ h. d.1 h.0)
both false false d e = ((λ t. cc), λ h. d.1 h.0)

told : {P Q : Type 0} (r : Bool) → (P → Q) → (Q → P) → Decides r P → Decides r Q
told r f g d = ((λ t. f (d.0 t)), λ h. d.1 (g h))

same_pre : (k l : Key) (p q : Place) (f g : Profile) (s t : List (Option ℕ)) (a b : List (Option ℕ)) (x y : List (Option Bool)) (m n u w : Option Bool) → k ≡ l → p ≡ q → f ≡ g → s ≡ t → a ≡ b → x ≡ y → m ≡ n → u ≡ w
    → (let v : PrePart = record { key = k; place = p; profile = f; speed = s; throttle = a; brake = x; belt = m; lamp = u } in v) ≡ record { key = l; place = q; profile = g; speed = t; throttle = b; brake = y; belt = n; lamp = w }
same_pre k l p q f g s t a b x y m n u w e1 e2 e3 e4 e5 e6 e7 e8 = cc

pub pre_told : (p q : PrePart) (a b c d e f g h : Bool) → Decides a (p.key ≡ q.key) → Decides b (p.place ≡ q.place) → Decides c (p.profile ≡ q.profile) → Decides d (p.speed ≡ q.speed) → Decides e (p.throttle ≡ q.throttle) → Decides f (p.brake ≡ q.brake)
    → Decides g (p.belt ≡ q.belt) → Decides h (p.lamp ≡ q.lamp) → Decides (((((((a && b) && c) && d) && e) && f) && g) && h) (p ≡ q)
pre_told p q a b c d e f g h da db dc dd de df dg dh =
    told (((((((a && b) && c) && d) && e) && f) && g) && h)
    (λ z. same_pre p.key q.key p.place q.place p.profile q.profile p.speed q.speed p.throttle q.throttle p.brake q.brake p.belt q.belt p.lamp q.lamp z.0.0.0.0.0.0.0 z.0.0.0.0.0.0.1 z.0.0.0.0.0.1 z.0.0.0.0.1 z.0.0.0.1 z.0.0.1 z.0.1 z.1)
    (λ same.
    (((((((ap (λ (v : PrePart). v.key) same, ap (λ (v : PrePart). v.place) same), ap (λ (v : PrePart). v.profile) same), ap (λ (v : PrePart). v.speed) same), ap (λ (v : PrePart). v.throttle) same), ap (λ (v : PrePart). v.brake) same), ap (λ (v : PrePart). v.belt) same), ap (λ (v : PrePart). v.lamp) same))
    (both ((((((a && b) && c) && d) && e) && f) && g) h (both (((((a && b) && c) && d) && e) && f) g (both ((((a && b) && c) && d) && e) f (both (((a && b) && c) && d) e (both ((a && b) && c) d (both (a && b) c (both a b da db) dc) dd) de) df) dg) dh)

same_crash : (k l : ℕ) (a b c d : List ℤ) (p q s t : Extreme) (m n u w x y : ℕ) (f g : List (Option ℕ)) → k ≡ l → a ≡ b → c ≡ d → p ≡ q → s ≡ t → m ≡ n → u ≡ w → x ≡ y → f ≡ g
    → (let v : CrashPart = record { end = k; along = a; across = c; max_along = p; max_across = s; result_at = m; missing_along = u; missing_across = x; fired = f } in v)
    ≡ record { end = l; along = b; across = d; max_along = q; max_across = t; result_at = n; missing_along = w; missing_across = y; fired = g }
same_crash k l a b c d p q s t m n u w x y f g e1 e2 e3 e4 e5 e6 e7 e8 e9 = cc

pub crash_told : (p q : CrashPart) (a b c d e f g h i : Bool) → Decides a (p.end ≡ q.end) → Decides b (p.along ≡ q.along) → Decides c (p.across ≡ q.across) → Decides d (p.max_along ≡ q.max_along) → Decides e (p.max_across ≡ q.max_across)
    → Decides f (p.result_at ≡ q.result_at) → Decides g (p.missing_along ≡ q.missing_along) → Decides h (p.missing_across ≡ q.missing_across) → Decides i (p.fired ≡ q.fired) → Decides ((((((((a && b) && c) && d) && e) && f) && g) && h) && i) (p ≡ q)
crash_told p q a b c d e f g h i da db dc dd de df dg dh di =
    told ((((((((a && b) && c) && d) && e) && f) && g) && h) && i)
    (λ z. same_crash p.end q.end p.along q.along p.across q.across p.max_along q.max_along p.max_across q.max_across p.result_at q.result_at p.missing_along q.missing_along p.missing_across q.missing_across p.fired q.fired
    z.0.0.0.0.0.0.0.0 z.0.0.0.0.0.0.0.1 z.0.0.0.0.0.0.1 z.0.0.0.0.0.1 z.0.0.0.0.1 z.0.0.0.1 z.0.0.1 z.0.1 z.1)
    (λ same.
    ((((((((ap (λ (v : CrashPart). v.end) same, ap (λ (v : CrashPart). v.along) same), ap (λ (v : CrashPart). v.across) same), ap (λ (v : CrashPart). v.max_along) same), ap (λ (v : CrashPart). v.max_across) same), ap (λ (v : CrashPart). v.result_at) same), ap (λ (v : CrashPart). v.missing_along) same), ap (λ (v : CrashPart). v.missing_across) same), ap (λ (v : CrashPart). v.fired) same))
    (both (((((((a && b) && c) && d) && e) && f) && g) && h) i
    (both ((((((a && b) && c) && d) && e) && f) && g) h (both (((((a && b) && c) && d) && e) && f) g (both ((((a && b) && c) && d) && e) f (both (((a && b) && c) && d) e (both ((a && b) && c) d (both (a && b) c (both a b da db) dc) dd) de) df) dg) dh)
    di)

-- ---- slots

pub slot_told : {T : Type 0} {E : T → T → Bool} → ((x y : T) → Decides (E x y) (x ≡ y)) → (a b : Option T) → Decides (option_eq E a b) (a ≡ b)
slot_told d None None = ((λ t. refl), λ h. refl)
slot_told d None (Some y) = ((λ t. cc), λ h. cc)
slot_told d (Some x) None = ((λ t. cc), λ h. cc)
slot_told d (Some x) (Some y) = let e = d x y in ((λ t. ap Some (e.0 t)), λ h. let one : x ≡ y = cc in e.1 one)

-- ---- lists, one item after the other

get_or_any : {A : Type 0} (xs : List A) (k : ℕ) (d e : A) → k < length xs → get_or xs k d ≡ get_or xs k e
get_or_any [] k d e below = absurd (omega (arith, below))
get_or_any (x ∷ xs) zero d e below = refl
get_or_any (x ∷ xs) (suc k) d e below = get_or_any xs k d e (omega (arith, below))

pub same_more : {A : Type 0} (a b : List A) (k : ℕ) (x y : A) → k < length a → k < length b → x ≡ get_or a k x → y ≡ get_or b k y → take k a ≡ take k b → x ≡ y → take (k + 1) a ≡ take (k + 1) b
same_more a b k x y below low here there were one =
    take_more a k x below ∙ ap (λ z. take k a ++ z ∷ []) (sym here ∙ one ∙ there) ∙ ap (λ zs. zs ++ get_or b k y ∷ []) were ∙ sym (take_more b k y low)

pub not_same : {A : Type 0} (a b : List A) (k : ℕ) (x y : A) → k < length a → x ≡ get_or a k x → y ≡ get_or b k y → a ≡ b → x ≡ y
not_same a b k x y below here there same = here ∙ get_or_any a k x y below ∙ ap (λ zs. get_or zs k y) same ∙ sym there

pub same_all : {A : Type 0} (a b : List A) (k : ℕ) → length a ≡ length b → length a ≤ k → take k a ≡ take k b → a ≡ b
same_all a b k long all so = sym (take_past a k all) ∙ so ∙ take_past b k (omega (arith, long, all))
