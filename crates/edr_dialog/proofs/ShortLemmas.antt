-- Each reply over what an image says is a frame that is short enough for its length.
use Rattle.std.proofs.Common.{◌≡◌, ◌∙◌, inl, inr, ℕ, zero, suc, ℤ, ◌+◌, ◌-◌, ◌*◌, ◌<◌, ◌≤◌, ◌^◌, Bool, true, false, ◌&&◌, nat_eq, nat_le, if◌then◌else◌, List, [], ◌∷◌, ◌++◌, length, map, replicate, Option, Some, None, refl, sym, ap₂, subst, arith, append-nil, length-append}
use Rattle.std.specs.Prelude.{All, flat_map, is_none, slice_index, slice_range}
use Rattle.std.specs.List.{range_with_len}
use Rattle.std.specs.Option.{option_map_or}
use Rattle.std.proofs.Math.ListN.{get_or-eq_default}
use Rattle.std.proofs.Math.Nat.{mul-suc}
use Rattle.std.proofs.lemmas.Bool.{cases_lt}
use Rattle.std.proofs.lemmas.List.{length-map, length-replicate}
use Rattle.std.proofs.lemmas.List.FromFn.{length-map-range_with_len}
use Rattle.std.proofs.lemmas.Grind.{flat_map-append}
use Rattle.std.proofs.lemmas.List.Elements.{All-append, All-cons, All-map, All-nil}
use Rattle.byteorder.specs.Endian.{big_bytes}
use Rattle.byteorder.specs.Numbers.{length-bytes_high_first}
use Rattle.edr_record.specs.declared.Place.{Place}
use Rattle.edr_record.specs.declared.Place.TheVariants.{First, Second}
use Rattle.edr_record.specs.Parts.{CrashPart, PrePart}
use Rattle.edr_image.specs.declared.BankView.{BankView}
use Rattle.edr_image.specs.declared.BankView.TheVariants.{Void, Event, Damaged}
use Rattle.edr_image.specs.declared.forms.TheConstants.{VERSION_2}
use Rattle.edr_image.specs.declared.places.TheConstants.{BANKS, DONE_GATE, EVENT_GATE, LOCK_GATE, PRE_PART}
use Rattle.edr_image.specs.Banks.{bank_at}
use Rattle.edr_image.specs.Image.{View, bank_damage, bank_view_by, count_of, crash_place, image_refusal, is_open, place_by, record_by, store_by, view_by, view_of}
use Rattle.edr_image.specs.PartBytes.{crash_at, crash_bytes, crash_bytes_by, number_at, place_bytes, pre_at, pre_at_by, pre_bytes, pre_bytes_by, profile_byte, signed_bytes, signed_value, slot_bytes, slots_of, switch_byte, switch_from, unless}
use Rattle.edr_dialog.specs.declared.frames.TheConstants.{BANK, COUNT, LIST, BYE, NO_BANK, NO_KIND, NO_LENGTH, REFUSED, REPLIED}
use Rattle.edr_dialog.specs.declared.frames.Request.{Request}
use Rattle.edr_dialog.specs.declared.frames.Request.TheVariants as request
use Rattle.edr_dialog.specs.declared.frames.Said.{Said}
use Rattle.edr_dialog.specs.declared.frames.Said.TheVariants.{Begun, Asks, NoKind, NoLength}
use Rattle.edr_dialog.specs.Frames.{frame}
use Rattle.edr_dialog.specs.Replies.{DialogStand, Hears, bank_told, code_of, next, parts_of, refusal, replies, replies_from, reply, reply_to, said_at}
use Rattle.edr_dialog.specs.ReplyFrames.{AreReplyFrames, IsReplyFrame, ReplyFrame, frame_bytes}

-- ---- how long the parts of a record are

at_most : (xs ys : List ℕ) {m n : ℕ} → length xs ≤ m → length ys ≤ n → length (xs ++ ys) ≤ m + n
at_most xs ys {m} {n} p q = omega (arith, length-append xs ys, p, q)

-- values of this many bytes each
pieces : {X : Type 0} (bytes_of : X → List ℕ) (size : ℕ) → ((x : X) → length (bytes_of x) ≡ size)
    → (xs : List X) (most : ℕ) → length xs ≤ most → length (flat_map bytes_of xs) ≤ size * most
pieces bytes_of size each [] most few = omega arith
pieces bytes_of size each (x ∷ xs) zero few = absurd (omega arith)
pieces bytes_of size each (x ∷ xs) (suc most) few =
    let later = pieces bytes_of size each xs most (omega arith) in
    rw (mul-suc size most) (omega (arith, length-append (bytes_of x) (flat_map bytes_of xs), each x, later))

slot_size : (n : ℕ) (slot : Option ℕ) → length (slot_bytes n slot) ≡ n
slot_size n None = length-replicate n 0xff
slot_size n (Some x) = length-bytes_high_first n x

place_size : (profile : ℕ) (place : Place) → length (place_bytes profile place) ≤ 4
place_size profile First = omega arith
place_size profile (Second after) = omega arith

slots_most : (bytes : List ℕ) (at : ℕ) → slots_of VERSION_2.pre (slice_index bytes at) ≤ 201
slots_most bytes at = by (nat_eq (slice_index bytes at) 1) where
  by : (b : Bool) → (if b then 11 else 201) ≤ 201
  by true = omega arith
  by false = omega arith

listed_most : {X : Type 0} (f : ℕ → X) (g : ℕ → ℕ) (n most : ℕ) → n ≤ most → length (map f (map g (range_with_len 0 n))) ≤ most
listed_most f g n most few = omega (arith, length-map (map g (range_with_len 0 n)) f, length-map-range_with_len g 0 n)

zeros_most : (n most : ℕ) → n ≤ most → length {A = ℕ} (replicate n 0) ≤ most
zeros_most n most few = omega (arith, length-replicate {A = ℕ} n 0, few)

number_size : (n x : ℕ) → length (big_bytes n x) ≤ n
number_size n x = omega (arith, length-bytes_high_first n x)

signed_size : (z : ℤ) → length (signed_bytes z) ≡ 2
signed_size z = refl

pre_most : (p : PrePart) → length p.speed ≤ 201 → length p.throttle ≤ 201 → length p.brake ≤ 201 → length (pre_bytes p) ≤ 1_652
unfolding pre_bytes_by
pre_most p speed throttle brake =
    let rest = 201 - length p.speed in
    simp length-append
    (omega (
      arith,
      place_size (profile_byte VERSION_2.pre p.profile) p.place,
      pieces (slot_bytes 2) 2 (slot_size 2) p.speed 201 speed,
      zeros_most (2 * rest) 402 (omega arith),
      pieces (slot_bytes 1) 1 (slot_size 1) p.throttle 201 throttle,
      zeros_most rest 201 (omega arith),
      length-map p.brake switch_byte,
    ))

pre_short : (bytes : List ℕ) (at : ℕ) → length (pre_bytes (pre_at bytes at)) ≤ 1_652
unfolding pre_at_by
pre_short bytes at =
    let n = slots_of VERSION_2.pre (slice_index bytes (at + 9)) in
    let few : n ≤ 201 = slots_most bytes (at + 9) in
    pre_most (pre_at bytes at) (listed_most (unless 0xffff) _ n 201 few) (listed_most (unless 0xff) _ n 201 few) (listed_most switch_from _ n 201 few)

crash_most : (c : CrashPart) → length c.along ≤ 26 → length c.across ≤ 26 → length c.fired ≤ 8 → length (crash_bytes c) ≤ 160
unfolding crash_bytes_by
crash_most c along across fired =
    simp length-append
    (omega (
      arith,
      pieces signed_bytes 2 signed_size c.along 26 along,
      pieces signed_bytes 2 signed_size c.across 26 across,
      pieces (slot_bytes 2) 2 (slot_size 2) c.fired 8 fired,
    ))

crash_short : (bytes : List ℕ) (at : ℕ) → length (crash_bytes (crash_at bytes at)) ≤ 160
unfolding crash_at
crash_short bytes at =
    let two_at = λ (from k : ℕ). number_at bytes (from + 2 * k) 2 in
    crash_most (crash_at bytes at)
    (listed_most signed_value (two_at (at + 2)) 26 26 (omega arith))
    (listed_most signed_value (two_at (at + 54)) 26 26 (omega arith))
    (listed_most (unless 0xffff) (two_at (at + 120)) 8 8 (omega arith))

parts_short : (bank : List ℕ) → length (parts_of (record_by VERSION_2 bank)) < 4_000
parts_short bank = by (is_open bank DONE_GATE) where
  by : (done : Bool) → length (pre_bytes (pre_at bank PRE_PART) ++ option_map_or (λ c. crash_bytes c) (if done then Some (crash_at bank (crash_place VERSION_2)) else None) []) < 4_000
  by true = omega (arith, at_most (pre_bytes (pre_at bank PRE_PART)) (crash_bytes (crash_at bank (crash_place VERSION_2))) (pre_short bank PRE_PART) (crash_short bank (crash_place VERSION_2)))
  by false = omega (arith, at_most (pre_bytes (pre_at bank PRE_PART)) [] {n = 0} (pre_short bank PRE_PART) (omega arith))

-- ---- what an image says

-- a reply can say what the bank holds
abbrev IsShortBank : BankView → Type 0
IsShortBank b = length (bank_told b) < 2 ^ 16

bank_short : (bank : List ℕ) → IsShortBank (bank_view_by VERSION_2 bank)
unfolding bank_view_by
bank_short bank = by (is_open bank EVENT_GATE) (bank_damage bank) where
  by : (told : Bool) (damage : Option ℕ)
      → IsShortBank (if told then option_map_or (λ k. Damaged k (slice_index bank k) (is_open bank LOCK_GATE)) damage (Event (record_by VERSION_2 bank)) else Void)
  by false damage = omega arith
  by true (Some k) = omega arith
  by true None = omega (arith, parts_short bank)

-- also past the last bank, where a void one is read
any_short : (banks : List BankView) (n : ℕ) → All IsShortBank banks → IsShortBank (bank_at banks n)
any_short banks n all = elim (cases_lt (n - 1) (length banks)) [
  | inl within ↦ all (n - 1) Void within
  | inr past ↦ subst IsShortBank (sym (get_or-eq_default banks Void past)) (omega arith)
]

-- it has few banks, and a reply can say what each of them holds
record IsShortView (v : View) : Type 0 where
  few : length v.store.banks < 2 ^ 16
  banks : All IsShortBank v.store.banks

view_short : (image : List ℕ) (v : View) → slice_index image BANKS < 256 → view_of image ≡ Some v → IsShortView v
unfolding view_by
view_short image v byte is = by (is_none (image_refusal image)) is where
  different : ◌≡◌ {A = Option View} None (Some v) → ⊥
  different e = cc

  by : (whole : Bool) → ◌≡◌ {A = Option View} (if whole then Some (record { store = store_by VERSION_2 image; count = count_of image }) else None) (Some v) → IsShortView v
  by true e =
      let same : ◌≡◌ {A = View} (record { store = store_by VERSION_2 image; count = count_of image }) v = cc in
      let bank_of = λ (m : ℕ). bank_view_by VERSION_2 (slice_range image (place_by VERSION_2 m) (place_by VERSION_2 m + VERSION_2.bank)) in
      let some = slice_index image BANKS in
      subst (λ (x : View). IsShortView x) same (record {
        few = omega (arith, length-map-range_with_len bank_of 1 some);
        banks = All-map IsShortBank bank_of (range_with_len 1 some) (λ k d within. bank_short (slice_range image _ _));
      })
  by false e = absurd (different e)

-- ---- frames one after the other

abbrev Framed : List ℕ → Type 0
Framed bytes = (fs : List ReplyFrame) × AreReplyFrames fs bytes

no_frames : Framed []
no_frames = ([], record { each = All-nil IsReplyFrame; bytes_are = refl })

one_frame : (kind : ℕ) (body : List ℕ) → REPLIED ≤ kind → length body < 2 ^ 16 → Framed (frame kind body)
one_frame kind body is short =
    let f : ReplyFrame = record { kind = kind; body = body } in
    (f ∷ [], record { each = All-cons IsReplyFrame f [] (record { kind = is; short = short }) (All-nil IsReplyFrame); bytes_are = sym (append-nil (frame kind body)) })

more_frames : (a b : List ℕ) → Framed a → Framed b → Framed (a ++ b)
more_frames a b p q = (
  p.0 ++ q.0,
  record {
    each = All-append IsReplyFrame p.0 q.0 p.1.each q.1.each;
    bytes_are = ap₂ (λ (x y : List ℕ). x ++ y) p.1.bytes_are q.1.bytes_are ∙ sym (flat_map-append frame_bytes p.0 q.0);
  },
)

refusal_framed : (code found : ℕ) → Framed (refusal code found)
refusal_framed code found = one_frame REFUSED (code ∷ big_bytes 2 found) (omega arith) (omega arith)

module _ (v : View) (short : IsShortView v) where
  bank_framed : (n : ℕ) (within : Bool)
      → Framed (if within then frame (REPLIED + BANK) (bank_told (bank_at v.store.banks n)) else refusal NO_BANK n)
  bank_framed n true = one_frame (REPLIED + BANK) (bank_told (bank_at v.store.banks n)) (omega arith) (any_short v.store.banks n short.banks)
  bank_framed n false = refusal_framed NO_BANK n

  request_framed : (r : Request) → Framed (reply v r)
  request_framed request.Count = one_frame (REPLIED + COUNT) (big_bytes 4 v.count) (omega arith) (omega arith)
  request_framed request.List = one_frame (REPLIED + LIST) (map code_of v.store.banks) (omega arith) (omega (arith, length-map v.store.banks code_of, short.few))
  request_framed (request.Bank n) = bank_framed n (nat_le 1 n && nat_le n (length v.store.banks))
  request_framed request.Bye = one_frame (REPLIED + BYE) [] (omega arith) (omega arith)

  said_framed : (what : Said) → Framed (reply_to v what)
  said_framed Begun = no_frames
  said_framed (Asks r) = request_framed r
  said_framed (NoKind kind) = refusal_framed NO_KIND kind
  said_framed (NoLength found) = refusal_framed NO_LENGTH found

  stream_framed : (stand : DialogStand) (stream : List ℕ) → Framed (replies_from v stand stream)
  stream_framed stand [] = no_frames
  stream_framed stand (byte ∷ stream) =
      more_frames (reply_to v (said_at stand byte)) (replies_from v (next stand byte) stream) (said_framed (said_at stand byte)) (stream_framed (next stand byte) stream)

pub replies_framed : (image stream : List ℕ) (v : View) → slice_index image BANKS < 256 → view_of image ≡ Some v → Framed (replies v stream)
unfolding replies
replies_framed image stream v byte is = stream_framed v (view_short image v byte is) (Hears []) stream
