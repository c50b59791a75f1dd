-- What a bank shows, by its gates and parts.
use Rattle.std.proofs.Common.{◌≡◌, ◌<◌, ◌+◌, ◌∙◌, ℕ, Bool, true, false, cond, Option, Some, None, List, slice_index, refl, sym, subst, arith}
use Rattle.std.specs.Option.{option_map_or, option_or}
use Rattle.edr_record.specs.Parts.{PrePart, CrashPart}
use Rattle.edr_record.specs.declared.Record.{Record}
use Rattle.edr_image.specs.declared.BankView.{BankView}
use Rattle.edr_image.specs.declared.BankView.TheVariants.{Void, Event, Damaged}
use Rattle.edr_image.specs.Image.{bank_damage, bank_view, is_open, record_of, bank_view_by}
use Rattle.edr_image.specs.PartBytes.{crash_at, crash_damage, pre_at, pre_damage}
use Rattle.edr_gates.proofs.MatchingLemmas.{Match, crash_none, crash_same, match_part, pre_none, pre_same}

-- the bytes from a place on are those of the part
pub record IsPreFrom (bytes : List ℕ) (at : ℕ) (pre : PrePart) : Type 0 where
  pub whole : pre_damage bytes at ≡ None
  pub same : pre_at bytes at ≡ pre

pub record IsCrashFrom (bytes : List ℕ) (at : ℕ) (crash : CrashPart) : Type 0 where
  pub whole : crash_damage bytes at ≡ None
  pub same : crash_at bytes at ≡ crash

abbrev pub ShowsCrash : List ℕ → ℕ → Option CrashPart → Type 0
ShowsCrash bytes at None = is_open bytes (at + 2) ≡ false
ShowsCrash bytes at (Some crash) = (is_open bytes (at + 2) ≡ true) × IsCrashFrom bytes (at + 864) crash

pub record ShowsEvent (bytes : List ℕ) (at : ℕ) (r : Record) : Type 0 where
  pub opened : is_open bytes at ≡ true
  pub lock : is_open bytes (at + 1) ≡ r.locked
  pub begins : IsPreFrom bytes (at + 16) r.pre
  pub ends : ShowsCrash bytes at r.crash

-- the bank that begins at a place holds this, void or an event
abbrev pub Shows : List ℕ → ℕ → BankView → Type 0
Shows bytes at Void = is_open bytes at ≡ false
Shows bytes at (Event r) = ShowsEvent bytes at r
Shows bytes at (Damaged o b l) = ⊥

-- ---- the same of the bank's own bytes

void_case : (o : Bool) (damage : Option ℕ) (f : ℕ → ℕ) (lock : Bool) (x : Record) → cond o (option_map_or (λ k. Damaged k (f k) lock) damage (Event x)) Void ≡ Void → o ≡ false
void_case true None f lock x e = absurd cc
void_case true (Some k) f lock x e = absurd cc
void_case false damage f lock x e = refl

event_case : (o : Bool) (damage : Option ℕ) (f : ℕ → ℕ) (lock : Bool) (x r : Record) → cond o (option_map_or (λ k. Damaged k (f k) lock) damage (Event x)) Void ≡ Event r → (o ≡ true) × (damage ≡ None) × (x ≡ r)
event_case true None f lock x r e = (refl, refl, cc)
event_case true (Some k) f lock x r e = absurd cc
event_case false damage f lock x r e = absurd cc

-- a first answer or else another, where there is none
pub both_none : {X : Type 0} (o p : Option X) → option_or o p ≡ None → (o ≡ None) × (p ≡ None)
both_none None p e = (refl, e)
both_none (Some x) p e = absurd cc

crash_case : (bank : List ℕ) (done : Bool) → is_open bank 2 ≡ done → cond done (crash_damage bank 864) None ≡ None → ShowsCrash bank 0 (cond done (Some (crash_at bank 864)) None)
crash_case bank true gate whole = (gate, record { whole = whole; same = refl })
crash_case bank false gate whole = gate

pub bank_shows : (bank : List ℕ) (view : BankView) → bank_view bank ≡ view → ((o b : ℕ) (l : Bool) → view ≡ Damaged o b l → ⊥) → Shows bank 0 view
unfolding bank_view_by
bank_shows bank Void e whole = void_case (is_open bank 0) (bank_damage bank) (slice_index bank) (is_open bank 1) (record_of bank) e
bank_shows bank (Damaged o b l) e whole = whole o b l refl
bank_shows bank (Event r) e whole =
    let f = event_case (is_open bank 0) (bank_damage bank) (slice_index bank) (is_open bank 1) (record_of bank) r e in
    let none = both_none (pre_damage bank 16) (cond (is_open bank 2) (crash_damage bank 864) None) f.1 in
    let own : ShowsEvent bank 0 (record_of bank) = record { opened = f.0; lock = refl; begins = record { whole = none.0; same = refl }; ends = crash_case bank (is_open bank 2) refl none.1 } in
    subst (λ (x : Record). ShowsEvent bank 0 x) f.2 own

event_view : (bank : List ℕ) (lock : Bool) (pre : PrePart) (crash : Option CrashPart) → is_open bank 0 ≡ true → is_open bank 1 ≡ lock → pre_damage bank 16 ≡ None → pre_at bank 16 ≡ pre → ShowsCrash bank 0 crash
    → bank_view bank ≡ Event (record { pre = pre; locked = lock; crash = crash })
unfolding bank_view_by
event_view bank lock pre None opened locked whole same done = rw (opened, whole, done, same, locked) refl
event_view bank lock pre (Some crash) opened locked whole same done = rw (opened, whole, done.0, done.1.whole, same, locked, done.1.same) refl

pub shows_bank : (bank : List ℕ) (view : BankView) → Shows bank 0 view → bank_view bank ≡ view
unfolding bank_view_by
shows_bank bank Void s = rw s refl
shows_bank bank (Event r) s = event_view bank r.locked r.pre r.crash s.opened s.lock s.begins.whole s.begins.same s.ends
shows_bank bank (Damaged o b l) s = absurd s

-- ---- in a list of which they are a part

pub gate_same : (xs : List ℕ) (a : ℕ) (ys : List ℕ) (b n k : ℕ) (o : Bool) → Match xs a ys b n → k < n → is_open xs (a + k) ≡ o → is_open ys (b + k) ≡ o
gate_same xs a ys b n k o h below e = let same = h.same k below in rw (sym same) e

pub gate_first : (xs : List ℕ) (a : ℕ) (ys : List ℕ) (b n : ℕ) (o : Bool) → Match xs a ys b n → 0 < n → is_open xs a ≡ o → is_open ys b ≡ o
gate_first xs a ys b n o h below e =
    let left : a + 0 ≡ a = omega arith in
    let right : b + 0 ≡ b = omega arith in
    rw right at (gate_same xs a ys b n 0 o h below (rw left e))

pub pre_moves : (xs : List ℕ) (a : ℕ) (ys : List ℕ) (b : ℕ) (pre : PrePart) → Match xs a ys b 848 → IsPreFrom xs a pre → IsPreFrom ys b pre
pre_moves xs a ys b pre h p = record { whole = pre_none xs a ys b h p.whole; same = sym (pre_same xs a ys b h) ∙ p.same }

pub crash_moves : (xs : List ℕ) (a : ℕ) (ys : List ℕ) (b : ℕ) (crash : CrashPart) → Match xs a ys b 160 → IsCrashFrom xs a crash → IsCrashFrom ys b crash
crash_moves xs a ys b crash h p = record { whole = crash_none xs a ys b h p.whole; same = sym (crash_same xs a ys b h) ∙ p.same }

crash_stays : (xs : List ℕ) (a : ℕ) (ys : List ℕ) (b : ℕ) (crash : Option CrashPart) → is_open ys (b + 2) ≡ is_open xs (a + 2) → Match xs (a + 864) ys (b + 864) 160 → ShowsCrash xs a crash → ShowsCrash ys b crash
crash_stays xs a ys b None gate h s = gate ∙ s
crash_stays xs a ys b (Some crash) gate h s = (gate ∙ s.0, crash_moves xs (a + 864) ys (b + 864) crash h s.1)

-- an event whose parts are as they were, with the lock that its gate says
pub event_stays : (xs : List ℕ) (a : ℕ) (ys : List ℕ) (b : ℕ) (r : Record) (lock : Bool) → is_open ys b ≡ true → is_open ys (b + 1) ≡ lock → is_open ys (b + 2) ≡ is_open xs (a + 2)
    → Match xs (a + 16) ys (b + 16) 848 → Match xs (a + 864) ys (b + 864) 160 → ShowsEvent xs a r → ShowsEvent ys b (record r { locked = lock })
event_stays xs a ys b r lock opened locked done pre crash s = record {
  opened = opened;
  lock = locked;
  begins = pre_moves xs (a + 16) ys (b + 16) r.pre pre s.begins;
  ends = crash_stays xs a ys b r.crash done crash s.ends;
}

pub shows_moves : (xs : List ℕ) (a : ℕ) (ys : List ℕ) (b : ℕ) (view : BankView) → Match xs a ys b 1024 → Shows xs a view → Shows ys b view
shows_moves xs a ys b Void h s = gate_first xs a ys b 1024 false h (omega arith) s
shows_moves xs a ys b (Damaged o f l) h s = absurd s
shows_moves xs a ys b (Event r) h s =
    event_stays xs a ys b r r.locked (gate_first xs a ys b 1024 true h (omega arith) s.opened) (gate_same xs a ys b 1024 1 r.locked h (omega arith) s.lock) (gate_same xs a ys b 1024 2 (is_open xs (a + 2)) h (omega arith) refl)
    (match_part xs a ys b 1024 16 848 h (omega arith)) (match_part xs a ys b 1024 864 160 h (omega arith)) s
