-- The bytes of a bank that holds an event of an old one say the same event.
use Rattle.std.proofs.Common.{◌≡◌, ◌<◌, ◌+◌, ◌++◌, ◌∙◌, ℕ, Bool, true, false, cond, List, [], ◌∷◌, length, replicate, slice_index, slice_range, Option, Some, None, option_map, refl, sym, subst, arith}
use Rattle.std.specs.Prelude.{IfSome, is_some}
use Rattle.std.specs.Option.{option_map_or}
use Rattle.std.proofs.lemmas.Grind.{common_steps}
use Rattle.edr_record.specs.Bounds.{IsCrash, IsPre, slots_in}
use Rattle.edr_record.specs.Parts.{CrashPart, PrePart}
use Rattle.edr_record.specs.declared.Profile.TheVariants.{Short}
use Rattle.edr_record.specs.declared.Record.{Record}
use Rattle.edr_image.specs.declared.BankView.{BankView}
use Rattle.edr_image.specs.declared.BankView.TheVariants.{Void, Event, Damaged}
use Rattle.edr_image.specs.declared.forms.TheConstants.{VERSION_1, VERSION_2}
use Rattle.edr_image.specs.declared.places.TheConstants.{BANK_SIZE, OPEN_GATE}
use Rattle.edr_image.specs.Image.{bank_damage_by, bank_view, bank_view_by, is_open, old_bank_view, record_by}
use Rattle.edr_image.specs.PartBytes.{crash_at, crash_bytes, crash_damage_by, old_crash_damage, old_pre_at, old_pre_damage, pre_at_by, pre_bytes, pre_damage_by}
use Rattle.edr_codec.proofs.CrashLaws.{crash-read_back}
use Rattle.edr_codec.proofs.CrashLemmas.{crash_at-is}
use Rattle.edr_codec.proofs.GrammarLaws.{pre_at-in_bounds}
use Rattle.edr_codec.proofs.MovedLaws.{crash_at-moved, crash_damage-moved, pre_at-moved, pre_damage-moved, range-stands}
use Rattle.edr_codec.proofs.PreLaws.{pre-read_back}
use Rattle.edr_codec.proofs.VersionLemmas.{version_1-form, version_1-parts, version_2-profile}
use Rattle.edr_gates.proofs.BankByteLemmas.{IsPreFrom, ShowsCrash, ShowsEvent, both_none, crash_moves, pre_moves, shows_bank}
use Rattle.edr_gates.proofs.MatchingLemmas.{Match}
use Rattle.edr_migrate.specs.NewBytes.{bank_bytes, done_bytes, event_bytes, gate_byte}

-- the parts of an event are in their bounds
pub record IsSoundRecord (r : Record) : Type 0 where
  pub pre : IsPre r.pre
  pub crash : IfSome r.crash IsCrash

abbrev pub IsSound : BankView → Type 0
IsSound Void = Unit {0}
IsSound (Event r) = IsSoundRecord r
IsSound (Damaged o f l) = ⊥

abbrev pub AreSound : List BankView → Type 0
AreSound [] = Unit {0}
AreSound (view ∷ views) = IsSound view × AreSound views

-- ---- what was read is sound

moved_none : (at : ℕ) (o : Option ℕ) → option_map (λ k. at + k) o ≡ None → o ≡ None
moved_none at None e = refl
moved_none at (Some k) e = absurd (let y : ⊥ = cc in y)

old_pre_is : (bank : List ℕ) → old_pre_damage bank 16 ≡ None → IsPre (old_pre_at bank 16) × ((old_pre_at bank 16).profile ≡ Short)
old_pre_is bank e =
    let part = slice_range bank 16 (16 + 160) in
    let stands = range-stands bank 16 160 in
    let none = moved_none 16 (pre_damage_by VERSION_1.pre part 0) (sym (pre_damage-moved VERSION_1.pre version_1-form 16 bank part stands) ∙ e) in
    let there = (version_1-parts (pre_at_by VERSION_1.pre part 0)).0 (pre_at-in_bounds VERSION_1.pre part version_1-form none) in
    subst (λ (p : PrePart). IsPre p × (p.profile ≡ Short)) (sym (pre_at-moved VERSION_1.pre version_1-form 16 bank part stands)) there

old_crash_is : (bank : List ℕ) → old_crash_damage bank 176 ≡ None → IsCrash (crash_at bank 176)
old_crash_is bank e =
    let part = slice_range bank 176 (176 + 320) in
    let stands = range-stands bank 176 320 in
    let none = moved_none 176 (crash_damage_by VERSION_1.crash part 0) (sym (crash_damage-moved VERSION_1.crash 176 bank part stands) ∙ e) in
    subst (λ (c : CrashPart). IsCrash c) (sym (crash_at-moved VERSION_1.crash 176 bank part stands)) (crash_at-is VERSION_1.crash part none)

done_case : (bank : List ℕ) (done : Bool) → cond done (old_crash_damage bank 176) None ≡ None → IfSome (cond done (Some (crash_at bank 176)) None) IsCrash
done_case bank true e = old_crash_is bank e
done_case bank false e = tt

view_case : (o : Bool) (damage : Option ℕ) (f : ℕ → ℕ) (lock : Bool) (x : Record) (view : BankView) → cond o (option_map_or (λ k. Damaged k (f k) lock) damage (Event x)) Void ≡ view → ((a b : ℕ) (l : Bool) → view ≡ Damaged a b l → ⊥)
    → (damage ≡ None → IsSoundRecord x) → IsSound view
view_case false damage f lock x view e whole sound = subst (λ (v : BankView). IsSound v) e tt
view_case true None f lock x view e whole sound = subst (λ (v : BankView). IsSound v) e (sound refl)
view_case true (Some k) f lock x view e whole sound = absurd (whole k (f k) lock (sym e))

pub old_sound : (bank : List ℕ) → ((a b : ℕ) (l : Bool) → old_bank_view bank ≡ Damaged a b l → ⊥) → IsSound (old_bank_view bank)
unfolding bank_view_by
old_sound bank whole =
    view_case (is_open bank 0) (bank_damage_by VERSION_1 bank) (slice_index bank) (is_open bank 1) (record_by VERSION_1 bank) (bank_view_by VERSION_1 bank) refl whole (λ none.
    let both = both_none (old_pre_damage bank 16) (cond (is_open bank 2) (old_crash_damage bank 176) None) none in
    record { pre = (old_pre_is bank both.0).0; crash = done_case bank (is_open bank 2) both.1 })

-- ---- and short

-- an event has the profile short
abbrev pub IsShortBank : BankView → Type 0
IsShortBank Void = Unit {0}
IsShortBank (Event r) = r.pre.profile ≡ Short
IsShortBank (Damaged o f l) = Unit {0}

short_case : (o : Bool) (damage : Option ℕ) (f : ℕ → ℕ) (lock : Bool) (x : Record) → (damage ≡ None → x.pre.profile ≡ Short) → IsShortBank (cond o (option_map_or (λ k. Damaged k (f k) lock) damage (Event x)) Void)
short_case false damage f lock x whole = tt
short_case true None f lock x whole = whole refl
short_case true (Some k) f lock x whole = tt

pub old_short : (bank : List ℕ) → IsShortBank (old_bank_view bank)
unfolding bank_view_by
old_short bank =
    short_case (is_open bank 0) (bank_damage_by VERSION_1 bank) (slice_index bank) (is_open bank 1) (record_by VERSION_1 bank) (λ none.
    (old_pre_is bank (both_none (old_pre_damage bank 16) (cond (is_open bank 2) (old_crash_damage bank 176) None) none).0).1)

-- ---- what is written says the same

lock_says : (a : ℕ) (lock : Bool) (xs : List ℕ) → is_open (a ∷ gate_byte lock ∷ xs) 1 ≡ lock
lock_says a true xs = refl
lock_says a false xs = refl

done_says : (a b : ℕ) (done : Bool) (xs : List ℕ) → is_open (a ∷ b ∷ gate_byte done ∷ xs) 2 ≡ done
done_says a b true xs = refl
done_says a b false xs = refl

pre_there : (a b c j : ℕ) (pre done : List ℕ) → j < length pre → slice_index pre (0 + j) ≡ slice_index (a ∷ b ∷ c ∷ replicate 13 0 ++ pre ++ done) (16 + j)
pre_there a b c j pre done below = grind (arith, common_steps)

behind : (xs ys : List ℕ) (n j : ℕ) → length xs ≡ n → slice_index ys (0 + j) ≡ slice_index (xs ++ ys) (n + j)
behind xs ys n j long = grind (arith, common_steps)

done_there : (a b c j : ℕ) (pre done : List ℕ) → length pre ≡ 848 → slice_index done (0 + j) ≡ slice_index (a ∷ b ∷ c ∷ replicate 13 0 ++ pre ++ done) (864 + j)
done_there a b c j pre done long = behind (a ∷ b ∷ c ∷ replicate 13 0 ++ pre) done 864 j (let e : length (a ∷ b ∷ c ∷ replicate 13 0 ++ pre) ≡ 864 = omega (arith, long) in e)

sizes : (a b c : ℕ) (pre done : List ℕ) → length pre ≡ 848 → length done ≡ 160 → length (a ∷ b ∷ c ∷ replicate 13 0 ++ pre ++ done) ≡ BANK_SIZE
sizes a b c pre done long short = grind (arith, common_steps)

pub pre_length : (pre : PrePart) → IsPre pre → length (pre_bytes pre) ≡ 848
pre_length pre is = (pre-read_back VERSION_2.pre (slots_in pre.profile) pre is (version_2-profile pre.profile)).0

done_length : (crash : Option CrashPart) → IfSome crash IsCrash → length (done_bytes crash) ≡ 160
done_length None is = let e : length {A = ℕ} (replicate 160 0) ≡ 160 = refl in e
done_length (Some c) is = (crash-read_back VERSION_2.crash c is).0

pre_from : (r : Record) → IsPre r.pre → IsPreFrom (event_bytes r) 16 r.pre
pre_from r is =
    let back = pre-read_back VERSION_2.pre (slots_in r.pre.profile) r.pre is (version_2-profile r.pre.profile) in
    let put : Match (pre_bytes r.pre) 0 (event_bytes r) 16 848 = record { same = λ j below. pre_there OPEN_GATE (gate_byte r.locked) (gate_byte (is_some r.crash)) j (pre_bytes r.pre) (done_bytes r.crash) (omega (arith, back.0)) } in
    pre_moves (pre_bytes r.pre) 0 (event_bytes r) 16 r.pre put (record { whole = back.1; same = back.2 })

ends : (lock : Bool) (pre : PrePart) (crash : Option CrashPart) → IsPre pre → IfSome crash IsCrash → ShowsCrash (event_bytes (record { pre = pre; locked = lock; crash = crash })) 0 crash
ends lock pre None is none = done_says OPEN_GATE (gate_byte lock) false (replicate 13 0 ++ pre_bytes pre ++ done_bytes None)
ends lock pre (Some c) is crash =
    let back = crash-read_back VERSION_2.crash c crash in
    let bytes = event_bytes (record { pre = pre; locked = lock; crash = Some c }) in
    let put : Match (crash_bytes c) 0 bytes 864 160 = record { same = λ j below. done_there OPEN_GATE (gate_byte lock) (gate_byte true) j (pre_bytes pre) (crash_bytes c) (pre_length pre is) } in
    (done_says OPEN_GATE (gate_byte lock) true (replicate 13 0 ++ pre_bytes pre ++ crash_bytes c), crash_moves (crash_bytes c) 0 bytes 864 c put (record { whole = back.1; same = back.2 }))

event_shows : (r : Record) → IsSoundRecord r → ShowsEvent (event_bytes r) 0 r
event_shows r is = record {
  opened = refl;
  lock = lock_says OPEN_GATE r.locked (gate_byte (is_some r.crash) ∷ replicate 13 0 ++ pre_bytes r.pre ++ done_bytes r.crash);
  begins = pre_from r is.pre;
  ends = ends r.locked r.pre r.crash is.pre is.crash;
}

pub bank_length : (view : BankView) → IsSound view → length (bank_bytes view) ≡ BANK_SIZE
bank_length Void is = let e : length {A = ℕ} (replicate BANK_SIZE 0) ≡ BANK_SIZE = refl in e
bank_length (Event r) is = sizes OPEN_GATE (gate_byte r.locked) (gate_byte (is_some r.crash)) (pre_bytes r.pre) (done_bytes r.crash) (pre_length r.pre is.pre) (done_length r.crash is.crash)
bank_length (Damaged o f l) is = absurd is

pub bank_says : (view : BankView) → IsSound view → bank_view (bank_bytes view) ≡ view
bank_says Void is = shows_bank (replicate BANK_SIZE 0) Void refl
bank_says (Event r) is = shows_bank (event_bytes r) (Event r) (event_shows r is)
bank_says (Damaged o f l) is = absurd is
