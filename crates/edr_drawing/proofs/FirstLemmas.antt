-- The events that may be the first one of a pair.
use Rattle.std.proofs.Common.{◌≡◌, refl, ℕ, inl, inr, arith, sym, subst, ap, Bool, true, false, if◌then◌else◌, List, [], ◌∷◌, ◌++◌, Contains}
use Rattle.std.proofs.lemmas.List.Elements.{Contains-append_right}
use Rattle.edr_record.specs.{declared.Key.Key, declared.Record.Record}
use Rattle.edr_image.specs.declared.Found.{Found}
use Rattle.edr_drawing.specs.{Page.{NumberedRecord, events_of, firsts, is_first_of}, Laws.{AreFirsts, MayBeFirst}}
use Rattle.edr_drawing.proofs.PartLemmas.{contains_cases, in_one}

-- ---- what is named may be it

named_one : (key : Key) (after m : ℕ) (e : NumberedRecord) (b : Bool) → is_first_of key after e.1.1.pre ≡ b → Contains (if b then e.0 ∷ [] else []) m → (e.0 ≡ m) × MayBeFirst key after e.1.1.pre
named_one key after m e false so (k, within, is) = absurd (omega (arith, within))
named_one key after m e true so among = elim (contains_cases e.0 [] m among) [
  | inl is ↦ (is, grind (arith, so))
  | inr (k, within, is) ↦ absurd (omega (arith, within))
]

named : (key : Key) (after : ℕ) (events : List NumberedRecord) (m : ℕ) → Contains (firsts key after events) m → (e : ℕ × Record) × Contains events (m, e) × MayBeFirst key after e.1.pre
named key after events m among =
    let of = in_one (λ (e : NumberedRecord). if is_first_of key after e.1.1.pre then e.0 ∷ [] else []) events m among in
    let one = named_one key after m of.0 (is_first_of key after of.0.1.1.pre) refl of.2 in
    (of.0.1, subst (λ (k : ℕ). Contains events (k, of.0.1)) one.0 of.1, one.1)

-- ---- and each that may be it is named

named_here : (key : Key) (after : ℕ) (x e : NumberedRecord) (rest : List ℕ) → x ≡ e → MayBeFirst key after e.1.1.pre →
    Contains ((if is_first_of key after x.1.1.pre then x.0 ∷ [] else []) ++ rest) e.0
named_here key after x e rest is may =
    let first = subst (λ (y : NumberedRecord). MayBeFirst key after y.1.1.pre) (sym is) may in
    let so : is_first_of key after x.1.1.pre ≡ true = grind (arith, first.place, first.cycle, first.before, first.within, first.time) in
    subst (λ (b : Bool). Contains ((if b then x.0 ∷ [] else []) ++ rest) e.0) (sym so) (0, omega arith, ap (λ (y : NumberedRecord). y.0) is)

is_named : (key : Key) (after : ℕ) (events : List NumberedRecord) (e : NumberedRecord) → Contains events e → MayBeFirst key after e.1.1.pre → Contains (firsts key after events) e.0
is_named key after [] e among may = absurd (omega (arith, among.1))
is_named key after (x ∷ xs) e among may = elim (contains_cases x xs e among) [
  | inl is ↦ named_here key after x e (firsts key after xs) is may
  | inr later ↦ Contains-append_right (if is_first_of key after x.1.1.pre then x.0 ∷ [] else []) (firsts key after xs) e.0 (is_named key after xs e later may)
]

pub are_firsts : (found : List Found) (key : Key) (after : ℕ) → AreFirsts found key after
are_firsts found key after n = (named key after (events_of found) n, λ of. is_named key after (events_of found) (n, of.0) of.1 of.2)
