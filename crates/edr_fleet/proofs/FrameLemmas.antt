-- The frames of bytes are one list, and so is what follows them where no frame does.
use Rattle.std.proofs.Common.{◌≡◌, ◌∙◌, ◌⊎◌, inl, inr, ℕ, ◌+◌, ◌<◌, List, [], ◌∷◌, ◌++◌, length, take, drop, refl, sym, ap, ap₂, arith, append_assoc, append-nil, length-append}
use Rattle.std.specs.Prelude.{All}
use Rattle.std.proofs.Math.Seq.{drop-append_seam, take-append_seam}
use Rattle.std.proofs.lemmas.Grind.{flat_map-append}
use Rattle.std.proofs.lemmas.List.Elements.{All-append, All-head, All-tail}
use Rattle.byteorder.specs.Numbers.{big_number-reads_back}
use Rattle.edr_image.specs.PartBytes.{number_at}
use Rattle.edr_fleet.specs.Frames.{AreFramesOf, BeginWithFrames, EndsInFrameAt, FitsFrame, HasNoFrame, frame, frames}

-- two lists in front of others, of one length
same_front : (xs ys cs bs : List ℕ) → length xs ≡ length ys → xs ++ cs ≡ ys ++ bs → (xs ≡ ys) × (cs ≡ bs)
same_front xs ys cs bs long e = (
  sym (take-append_seam xs cs) ∙ ap (take (length xs)) e ∙ ap (λ n. take n (ys ++ bs)) long ∙ take-append_seam ys bs,
  sym (drop-append_seam xs cs) ∙ ap (drop (length xs)) e ∙ ap (λ n. drop n (ys ++ bs)) long ∙ drop-append_seam ys bs,
)

-- a frame's first four bytes tell how long its image is
length_told : (image rest : List ℕ) → FitsFrame image → number_at (frame image ++ rest) 0 4 ≡ length image
length_told image rest fits = big_number-reads_back 4 (length image) (image ++ rest) fits

length-frame : (image : List ℕ) → length (frame image) ≡ 4 + length image
length-frame image = omega arith

-- the first frame, and what follows it
first_frame : (x y cs bs : List ℕ) → FitsFrame x → FitsFrame y → frame x ++ cs ≡ frame y ++ bs → (x ≡ y) × (cs ≡ bs)
first_frame x y cs bs fits_x fits_y e =
    let long : length x ≡ length y =
    sym (length_told x cs fits_x) ∙ ap (λ (bytes : List ℕ). number_at bytes 0 4) e ∙ length_told y bs fits_y in
    same_front x y cs bs long (ap (drop 4) e)

-- where a frame stands, one does
no_frame : (x bytes rest : List ℕ) → FitsFrame x → HasNoFrame rest → rest ≡ frame x ++ bytes → ⊥
no_frame x bytes rest fits none e =
    let told : number_at rest 0 4 ≡ length x = ap (λ (bs : List ℕ). number_at bs 0 4) e ∙ length_told x bytes fits in
    let sizes : length rest ≡ length (frame x) + length bytes = ap length e ∙ length-append (frame x) bytes in
    let long : length rest ≡ 4 + length x + length bytes = omega (arith, sizes, length-frame x) in
    absurd (by none told long) where
      by : (length rest < 4) ⊎ (length rest < 4 + number_at rest 0 4) → number_at rest 0 4 ≡ length x → length rest ≡ 4 + length x + length bytes → ⊥
      by (inl short) told long = omega (arith, short, long)
      by (inr short) told long = omega (arith, short, told, long)

one_way : (xs ys : List (List ℕ)) (rest more : List ℕ) → All FitsFrame xs → All FitsFrame ys → HasNoFrame rest → HasNoFrame more
    → frames xs ++ rest ≡ frames ys ++ more → (xs ≡ ys) × (rest ≡ more)
one_way [] [] rest more fit_x fit_y no_rest no_more e = (refl, e)
one_way [] (y ∷ ys) rest more fit_x fit_y no_rest no_more e =
    absurd (no_frame y (frames ys ++ more) rest (All-head FitsFrame y ys fit_y) no_rest (e ∙ append_assoc (frame y) (frames ys) more))
one_way (x ∷ xs) [] rest more fit_x fit_y no_rest no_more e =
    absurd (no_frame x (frames xs ++ rest) more (All-head FitsFrame x xs fit_x) no_more (sym e ∙ append_assoc (frame x) (frames xs) rest))
one_way (x ∷ xs) (y ∷ ys) rest more fit_x fit_y no_rest no_more e =
    let first =
    first_frame x y (frames xs ++ rest) (frames ys ++ more) (All-head FitsFrame x xs fit_x) (All-head FitsFrame y ys fit_y)
    (sym (append_assoc (frame x) (frames xs) rest) ∙ e ∙ append_assoc (frame y) (frames ys) more) in
    let later = one_way xs ys rest more (All-tail FitsFrame x xs fit_x) (All-tail FitsFrame y ys fit_y) no_rest no_more first.1 in
    (ap₂ (λ (z : List ℕ) (zs : List (List ℕ)). z ∷ zs) first.0 later.0, later.1)

nothing : HasNoFrame []
nothing = inl (omega arith)

with_nothing : (images : List (List ℕ)) (bytes : List ℕ) → bytes ≡ frames images → bytes ≡ frames images ++ []
with_nothing images bytes e = e ∙ sym (append-nil (frames images))

pub one_list : (xs ys : List (List ℕ)) (bytes : List ℕ) → AreFramesOf xs bytes → AreFramesOf ys bytes → xs ≡ ys
one_list xs ys bytes p q =
    (one_way xs ys [] [] p.fit q.fit nothing nothing (sym (with_nothing xs bytes p.bytes_are) ∙ with_nothing ys bytes q.bytes_are)).0

pub one_offset : (m n : ℕ) (bytes : List ℕ) → EndsInFrameAt m bytes → EndsInFrameAt n bytes → m ≡ n
one_offset m n bytes p q =
    let same = one_way p.images q.images p.rest q.rest p.fit q.fit p.cut.cut q.cut.cut (sym p.bytes_are ∙ q.bytes_are) in
    p.offset_is ∙ ap (λ (images : List (List ℕ)). length (frames images)) same.0 ∙ sym q.offset_is

pub never_both : (images : List (List ℕ)) (offset : ℕ) (bytes : List ℕ) → AreFramesOf images bytes → EndsInFrameAt offset bytes → ⊥
never_both images offset bytes p q =
    let same = one_way images q.images [] q.rest p.fit q.fit nothing q.cut.cut (sym (with_nothing images bytes p.bytes_are) ∙ q.bytes_are) in
    q.cut.some (sym same.1)

pub are_cut : (images : List (List ℕ)) (rest bytes : List ℕ) (offset : ℕ) → BeginWithFrames images rest bytes → (rest ≡ [] → ⊥)
    → offset ≡ length (frames images) → EndsInFrameAt offset bytes
are_cut images rest bytes offset first some is = record {
  images = images;
  rest = rest;
  fit = first.fit;
  cut = record { some = some; cut = first.cut };
  bytes_are = first.bytes_are;
  offset_is = is;
}

pub frames_add : (xs ys : List (List ℕ)) (front back : List ℕ) → AreFramesOf xs front → AreFramesOf ys back → AreFramesOf (xs ++ ys) (front ++ back)
frames_add xs ys front back p q = record {
  fit = All-append FitsFrame xs ys p.fit q.fit;
  bytes_are = ap₂ (λ (a b : List ℕ). a ++ b) p.bytes_are q.bytes_are ∙ sym (flat_map-append frame xs ys);
}
