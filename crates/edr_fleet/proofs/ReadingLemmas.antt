-- What a reading has of its bytes once it was given more of them, or has reported more of them.
use Rattle.std.proofs.Common.{◌≡◌, ◌∙◌, ℕ, ◌+◌, List, [], ◌++◌, length, drop, sym, ap, ap₂, subst, arith, append_assoc, append-nil, length-append}
use Rattle.std.proofs.Math.Seq.{drop-append_seam}
use Rattle.std.proofs.lemmas.Grind.{flat_map-append}
use Rattle.std.proofs.lemmas.List.Elements.{All-append}
use Rattle.edr_fleet.specs.Frames.{EndsInFrameAt, FitsFrame, HasNoFrame, frame, frames}
use Rattle.edr_fleet.specs.Reading.{GaveFrames, IsFrontOf}
use Rattle.edr_fleet.specs.Text.{IsFleetText, image_lines, totals}
use Rattle.edr_fleet.specs.declared.reading.FleetReading.{FleetReading}
use Rattle.edr_fleet.specs.declared.reading.Front.{Front}
use Rattle.edr_fleet.proofs.FrameLemmas.{are_cut}
use Rattle.edr_fleet.proofs.TextLemmas.{all_events-append, image_lines-append}

-- what stood at the front of what was held is reported, and more bytes are held after the rest
pub gave_on : (bytes piece : List ℕ) (r r' : FleetReading) (f : Front) → GaveFrames bytes r → IsFrontOf r.images r.held.items f
    → r'.workers ≡ r.workers → r'.part.lines.items ≡ r.part.lines.items ++ f.part.lines.items → r'.part.events ≡ r.part.events + f.part.events
    → r'.images ≡ r.images + f.images → r'.reported ≡ r.reported + f.end → r'.held.items ≡ drop f.end r.held.items ++ piece → GaveFrames (bytes ++ piece) r'
gave_on bytes piece r r' f gave front workers lines events images reported held =
    let xs = gave.images in
    let ys = front.images in
    let rest : drop f.end r.held.items ≡ front.rest =
    ap (λ (n : ℕ). drop n r.held.items) front.end ∙ ap (drop (length (frames ys))) front.first.bytes_are ∙ drop-append_seam (frames ys) front.rest in
    let left : r'.held.items ≡ front.rest ++ piece = held ∙ ap (λ (h : List ℕ). h ++ piece) rest in
    let both = flat_map-append frame xs ys in
    let whole : bytes ≡ frames (xs ++ ys) ++ front.rest =
    gave.bytes_are
    ∙ ap (λ (h : List ℕ). frames xs ++ h) front.first.bytes_are
    ∙ sym (append_assoc (frames xs) (frames ys) front.rest)
    ∙ ap (λ (b : List ℕ). b ++ front.rest) (sym both) in
    let place : r.images + 1 ≡ 1 + length xs = omega (arith, gave.images_are) in
    record {
      images = xs ++ ys;
      fit = All-append FitsFrame xs ys gave.fit front.first.fit;
      bytes_are = ap (λ (b : List ℕ). b ++ piece) whole
          ∙ append_assoc (frames (xs ++ ys)) front.rest piece
          ∙ ap (λ (h : List ℕ). frames (xs ++ ys) ++ h) (sym left);
      lines = lines
          ∙ ap₂ (λ (a b : List ℕ). a ++ b) gave.lines (front.lines ∙ ap (λ (n : ℕ). image_lines n ys) place)
          ∙ sym (image_lines-append 1 xs ys);
      events = events ∙ ap₂ (λ (a b : ℕ). a + b) gave.events front.events ∙ sym (all_events-append xs ys);
      images_are = omega (arith, images, gave.images_are, front.images_are, length-append xs ys);
      reported = omega (arith, reported, gave.reported, front.end, ap length both, length-append (frames xs) (frames ys));
      some_worker = omega (arith, workers, gave.some_worker);
      few_images = omega (arith, images, reported, gave.few_images, front.few_images);
      few_events = omega (arith, images, events, gave.few_events, front.few_events);
    }

-- the same, with no more bytes
pub gave_front : (bytes : List ℕ) (r r' : FleetReading) (f : Front) → GaveFrames bytes r → IsFrontOf r.images r.held.items f
    → r'.workers ≡ r.workers → r'.part.lines.items ≡ r.part.lines.items ++ f.part.lines.items → r'.part.events ≡ r.part.events + f.part.events
    → r'.images ≡ r.images + f.images → r'.reported ≡ r.reported + f.end → r'.held.items ≡ drop f.end r.held.items → GaveFrames bytes r'
gave_front bytes r r' f gave front workers lines events images reported held =
    subst (λ (b : List ℕ). GaveFrames b r') (append-nil bytes)
    (gave_on bytes [] r r' f gave front workers lines events images reported (held ∙ sym (append-nil (drop f.end r.held.items))))

-- all is reported
pub gave_whole : (bytes out : List ℕ) (r : FleetReading) → GaveFrames bytes r → r.held.items ≡ []
    → out ≡ r.part.lines.items ++ totals r.images r.part.events → IsFleetText bytes out
gave_whole bytes out r gave none is = (
  gave.images,
  record { fit = gave.fit; bytes_are = gave.bytes_are ∙ ap (λ (h : List ℕ). frames gave.images ++ h) none ∙ append-nil (frames gave.images) },
  is
      ∙ ap (λ (l : List ℕ). l ++ totals r.images r.part.events) gave.lines
      ∙ ap₂ (λ (m n : ℕ). image_lines 1 gave.images ++ totals m n) gave.images_are gave.events,
)

-- they end inside a frame
pub gave_cut : (bytes : List ℕ) (r : FleetReading) → GaveFrames bytes r → HasNoFrame r.held.items → (r.held.items ≡ [] → ⊥) → EndsInFrameAt r.reported bytes
gave_cut bytes r gave cut some =
    are_cut gave.images r.held.items bytes r.reported (record { fit = gave.fit; bytes_are = gave.bytes_are; cut = cut }) some gave.reported

-- no more were given than there are
pub few_reported : (bytes : List ℕ) (r : FleetReading) → GaveFrames bytes r → r.reported + length r.held.items ≡ length bytes
few_reported bytes r gave = omega (arith, gave.reported, ap length gave.bytes_are, length-append (frames gave.images) r.held.items)
