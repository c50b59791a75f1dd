-- Frames of replies are told apart in one way.
use Rattle.std.proofs.Common.{◌≡◌, ◌∙◌, ℕ, ◌<◌, ◌≤◌, List, [], ◌∷◌, ◌++◌, length, take, drop, get_or, refl, sym, ap, ap₂, subst, arith, append_assoc}
use Rattle.std.specs.Prelude.{flat_map, All}
use Rattle.std.proofs.Math.Seq.{drop-append_seam, take-append_seam}
use Rattle.std.proofs.lemmas.List.Elements.{All-head, All-tail}
use Rattle.byteorder.specs.Endian.{big_from}
use Rattle.byteorder.specs.Numbers.{big_number-reads_back}
use Rattle.edr_dialog.specs.declared.frames.TheConstants.{REPLIED}
use Rattle.edr_dialog.specs.ReplyFrames.{BeginsNoReply, IsReplyFrame, ReplyFrame, frame_bytes}

-- two lists in front of others, of one length
same_front : (xs ys cs bs : List ℕ) → length xs ≡ length ys → xs ++ cs ≡ ys ++ bs → (xs ≡ ys) × (cs ≡ bs)
same_front xs ys cs bs long e = (
  sym (take-append_seam xs cs) ∙ ap (take (length xs)) e ∙ ap (λ n. take n (ys ++ bs)) long ∙ take-append_seam ys bs,
  sym (drop-append_seam xs cs) ∙ ap (drop (length xs)) e ∙ ap (λ n. drop n (ys ++ bs)) long ∙ drop-append_seam ys bs,
)

-- how much a frame carries, by its second and third byte
length_told : (f : ReplyFrame) (rest : List ℕ) → IsReplyFrame f → big_from 0 2 (drop 1 (frame_bytes f ++ rest)) ≡ length f.body
length_told f rest is = big_number-reads_back 2 (length f.body) (f.body ++ rest) is.short

-- the first frame, and what follows it
first_frame : (f g : ReplyFrame) (cs bs : List ℕ) → IsReplyFrame f → IsReplyFrame g → frame_bytes f ++ cs ≡ frame_bytes g ++ bs → (f ≡ g) × (cs ≡ bs)
first_frame f g cs bs is_f is_g e =
    let long : length f.body ≡ length g.body =
    sym (length_told f cs is_f) ∙ ap (λ xs. big_from 0 2 (drop 1 xs)) e ∙ length_told g bs is_g in
    let kinds : f.kind ≡ g.kind = ap (λ xs. get_or xs 0 0) e in
    let rest = same_front f.body g.body cs bs long (ap (drop 3) e) in
    (ap₂ (λ (kind : ℕ) (body : List ℕ). record { kind = kind; body = body }) kinds rest.0, rest.1)

-- no frame of a reply begins with what begins none
no_frame : (f : ReplyFrame) (bytes rest : List ℕ) → IsReplyFrame f → BeginsNoReply rest → rest ≡ frame_bytes f ++ bytes → ⊥
no_frame f bytes rest is none e =
    let low : f.kind < REPLIED = subst BeginsNoReply e none in
    let high : REPLIED ≤ f.kind = is.kind in
    absurd (omega (arith, low, high))

pub one_way : (fs gs : List ReplyFrame) (rest more : List ℕ) → All IsReplyFrame fs → All IsReplyFrame gs → BeginsNoReply rest → BeginsNoReply more
    → flat_map frame_bytes fs ++ rest ≡ flat_map frame_bytes gs ++ more → (fs ≡ gs) × (rest ≡ more)
one_way [] [] rest more fs_are gs_are no_rest no_more e = (refl, e)
one_way [] (g ∷ gs) rest more fs_are gs_are no_rest no_more e =
    absurd (no_frame g (flat_map frame_bytes gs ++ more) rest (All-head IsReplyFrame g gs gs_are) no_rest
    (e ∙ append_assoc (frame_bytes g) (flat_map frame_bytes gs) more))
one_way (f ∷ fs) [] rest more fs_are gs_are no_rest no_more e =
    absurd (no_frame f (flat_map frame_bytes fs ++ rest) more (All-head IsReplyFrame f fs fs_are) no_more
    (sym e ∙ append_assoc (frame_bytes f) (flat_map frame_bytes fs) rest))
one_way (f ∷ fs) (g ∷ gs) rest more fs_are gs_are no_rest no_more e =
    let first =
    first_frame f g (flat_map frame_bytes fs ++ rest) (flat_map frame_bytes gs ++ more)
    (All-head IsReplyFrame f fs fs_are) (All-head IsReplyFrame g gs gs_are)
    (sym (append_assoc (frame_bytes f) (flat_map frame_bytes fs) rest) ∙ e ∙ append_assoc (frame_bytes g) (flat_map frame_bytes gs) more) in
    let later = one_way fs gs rest more (All-tail IsReplyFrame f fs fs_are) (All-tail IsReplyFrame g gs gs_are) no_rest no_more first.1 in
    (ap₂ (λ (x : ReplyFrame) (xs : List ReplyFrame). x ∷ xs) first.0 later.0, later.1)
