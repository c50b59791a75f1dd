-- Lines that a form takes one after the other.
use Rattle.std.proofs.Common.{arith, ◌≡◌, ◌∙◌, sym, ap, ℕ, ◌+◌, List, [], ◌∷◌, ◌++◌, length, flat_map, append_assoc, append-nil}
use Rattle.std.specs.List.{enumerate_from}
use Rattle.std.proofs.lemmas.Grind.{flat_map-append}
use Rattle.edr_report.specs.declared.forms.Lines as form
use Rattle.edr_report.specs.{Lines.Line, Printed.Takes}

-- lines are taken after lines
pub takes-more : {L : Type 0} (g : form.Ghosts L) (a b c : L) (done more all : List Line) →
    Takes g a b done → Takes g b c more → all ≡ done ++ more → Takes g a c all
takes-more g a b c done more all first next whole = record {
  ready = next.ready;
  bytes =
      next.bytes
      ∙ ap (λ (bs : List ℕ). bs ++ flat_map g.form more) first.bytes
      ∙ append_assoc (g.bytes a) (flat_map g.form done) (flat_map g.form more)
      ∙ ap (λ (bs : List ℕ). g.bytes a ++ bs) (sym (flat_map-append g.form done more))
      ∙ ap (λ (ls : List Line). g.bytes a ++ flat_map g.form ls) (sym whole);
}

-- one more element has the next number
numbered-append : {X : Type 0} (n : ℕ) (xs : List X) (x : X) → enumerate_from n (xs ++ x ∷ []) ≡ enumerate_from n xs ++ (n + length xs, x) ∷ []
numbered-append n [] x = ap (λ (k : ℕ). (k, x) ∷ []) (omega arith)
numbered-append n (y ∷ xs) x =
    ap (λ zs. (n, y) ∷ zs) (numbered-append (n + 1) xs x ∙ ap (λ (k : ℕ). enumerate_from (n + 1) xs ++ (k, x) ∷ []) (omega arith))

-- the pieces of one more numbered element
pub numbered-more : {X Y : Type 0} (f : ℕ × X → List Y) (n : ℕ) (xs : List X) (x : X) →
    flat_map f (enumerate_from n (xs ++ x ∷ [])) ≡ flat_map f (enumerate_from n xs) ++ f (n + length xs, x)
numbered-more f n xs x =
    ap (flat_map f) (numbered-append n xs x)
    ∙ flat_map-append f (enumerate_from n xs) ((n + length xs, x) ∷ [])
    ∙ ap (λ ys. flat_map f (enumerate_from n xs) ++ ys) (append-nil (f (n + length xs, x)))
