-- One byte more that is fed to a dialog.
use Rattle.std.proofs.Common.{◌≡◌, ◌≤◌, ◌∙◌, subst, ℕ, List, [], ◌∷◌, ◌++◌, length, take, refl, sym, ap}
use Rattle.edr_image.specs.Image.{View}
use Rattle.edr_dialog.specs.declared.dialog.Fed.{Fed}
use Rattle.edr_dialog.specs.declared.frames.Request.TheVariants as request
use Rattle.edr_dialog.specs.declared.frames.Said.{Said}
use Rattle.edr_dialog.specs.declared.frames.Said.TheVariants.{Begun, Asks, NoKind, NoLength}
use Rattle.edr_dialog.specs.Frames.{said}
use Rattle.edr_dialog.specs.Answers.{FedLeaves, fed_by, length_in}
use Rattle.edr_dialog.specs.Replies.{DialogStand, Hears, SaidBye, HasRefused, next, replies, reply_to, said_at, stand_by, stand_of}
use Rattle.edr_dialog.specs.Stages.{HasHeard, StillHears, Talk}
use Rattle.edr_dialog.proofs.StreamLemmas.{replies-more, stand_of-more}

-- the answer has the length of the reply
length_in-fed_by : (v : View) (what : Said) (n : ℕ) → n ≡ length (reply_to v what) → length_in (fed_by what n) ≡ n
length_in-fed_by v Begun n e = sym e
length_in-fed_by v (Asks request.Count) n e = refl
length_in-fed_by v (Asks request.List) n e = refl
length_in-fed_by v (Asks (request.Bank number)) n e = refl
length_in-fed_by v (Asks request.Bye) n e = refl
length_in-fed_by v (NoKind kind) n e = refl
length_in-fed_by v (NoLength found) n e = refl

module _ (v w : View) (stand after : DialogStand) (s : List ℕ) (t : Talk) (b : ℕ) (what : Said) (n : ℕ) (fed : Fed) (out : List ℕ)
    (seen : ◌≡◌ {A = Talk} (record { view = w; stand = stand }) t) (heard : HasHeard v s t) where
  view_is : w ≡ v
  view_is = ap (λ (x : Talk). x.view) seen ∙ heard.view

  stand_is : stand ≡ stand_of s
  stand_is = ap (λ (x : Talk). x.stand) seen ∙ heard.stand

  -- the place has the reply at this byte
  pub has_reply : what ≡ said_at stand b → take n out ≡ reply_to w what → n ≡ length (reply_to w what) → fed ≡ fed_by what n
      → replies v (s ++ b ∷ []) ≡ replies v s ++ take (length_in fed) out
  has_reply said_is bytes len fed_is =
      let told : take (length_in fed) out ≡ reply_to v (said_at (stand_of s) b) =
      ap (λ m. take m out) (ap length_in fed_is ∙ length_in-fed_by w what n len)
      ∙ bytes
      ∙ ap (λ (x : View). reply_to x what) view_is
      ∙ ap (reply_to v) (said_is ∙ ap (λ (x : DialogStand). said_at x b) stand_is) in
      replies-more v s b ∙ ap (λ r. replies v s ++ r) (sym told)

  -- and the dialog has heard it
  pub has_heard : after ≡ next stand b → HasHeard v (s ++ b ∷ []) (record { view = w; stand = after })
  has_heard next_is = record {
    view = view_is;
    stand = next_is ∙ ap (λ (x : DialogStand). next x b) stand_is ∙ sym (stand_of-more s b);
  }

-- ---- how it stands then

leaves_by : (heard : List ℕ) (b : ℕ) (what : Said) (n : ℕ) → FedLeaves (fed_by what n) (stand_by (heard ++ b ∷ []) what)
leaves_by [] b Begun n = refl
leaves_by (x ∷ heard) b Begun n = refl
leaves_by heard b (Asks request.Count) n = refl
leaves_by heard b (Asks request.List) n = refl
leaves_by heard b (Asks (request.Bank number)) n = refl
leaves_by heard b (Asks request.Bye) n = refl
leaves_by heard b (NoKind kind) n = refl
leaves_by heard b (NoLength found) n = refl

leaves_next : (stand : DialogStand) (b n : ℕ) → StillHears stand → FedLeaves (fed_by (said_at stand b) n) (next stand b)
leaves_next (Hears heard) b n hears = leaves_by heard b (said (heard ++ b ∷ [])) n
leaves_next SaidBye b n hears = absurd hears
leaves_next HasRefused b n hears = absurd hears

pub fed_leaves : (w : View) (stand after : DialogStand) (t : Talk) (b : ℕ) (what : Said) (n : ℕ) (fed : Fed)
    → ◌≡◌ {A = Talk} (record { view = w; stand = stand }) t → StillHears t.stand
    → what ≡ said_at stand b → after ≡ next stand b → fed ≡ fed_by what n → FedLeaves fed after
fed_leaves w stand after t b what n fed seen open_now said_is after_is fed_is =
    let hears : StillHears stand = subst StillHears (sym (ap (λ (x : Talk). x.stand) seen)) open_now in
    subst (λ (x : Fed). FedLeaves x after) (sym (fed_is ∙ ap (λ (x : Said). fed_by x n) said_is))
    (subst (λ (x : DialogStand). FedLeaves (fed_by (said_at stand b) n) x) (sym after_is) (leaves_next stand b n hears))

pub fed_most : (v : View) (what : Said) (n : ℕ) (fed : Fed) → n ≡ length (reply_to v what) → n ≤ 1012 → fed ≡ fed_by what n → length_in fed ≤ 1012
fed_most v what n fed len most fed_is = rw (fed_is, length_in-fed_by v what n len) most
