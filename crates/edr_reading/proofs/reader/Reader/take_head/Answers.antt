use Rattle.std.proofs.Common.{ℕ, List, [], ◌∷◌, ap, ap₂, codes, get_or, refl}
use Rattle.edr_reading.specs.Reading.{FieldRows}
use Rattle.edr_reading.proofs.{BetweenLemmas.{refuse-1, refuse-2, refuse-3}, FaultLemmas.goes-on-head}
use Rattle.edr_reading.proofs.ReadLemmas.{head-read, head-refused}
use Rattle.edr_reading.proofs.reader.Reader.take_head.Goals as goal

pub returns-then-not-is_word : goal.returns-then-not-is_word
returns-then-not-is_word c rows h =
    let row = c.args.row.now in
    head-refused c.args.self.now rows row.block.now row.name.now row.value.now 1 h c.requires.head (refuse-1 [] row.block.now row.name.now row.value.now (λ g. c.if-not-is_word.ensures (ap (λ (rows : FieldRows). get_or (get_or rows 0 []) 0 []) g.2.4)))

pub returns-then-not-is_word-2 : goal.returns-then-not-is_word-2
returns-then-not-is_word-2 c rows h =
    let row = c.args.row.now in
    head-refused c.args.self.now rows row.block.now row.name.now row.value.now 2 h c.requires.head
    (refuse-2 [] row.block.now row.name.now row.value.now
    (goes-on-head (row.block.now ∷ []) (codes "name" ∷ codes "value" ∷ []) (ap (λ (w : List ℕ). w ∷ codes "name" ∷ codes "value" ∷ []) c.if-not-is_word.ensures))
    (λ g. c.if-not-is_word-2.ensures (ap (λ (rows : FieldRows). get_or (get_or rows 0 []) 1 []) g.2.4)))

pub returns-then-not-is_word-3 : goal.returns-then-not-is_word-3
returns-then-not-is_word-3 c rows h =
    let row = c.args.row.now in
    head-refused c.args.self.now rows row.block.now row.name.now row.value.now 3 h c.requires.head
    (refuse-3 [] row.block.now row.name.now row.value.now
    (goes-on-head (row.block.now ∷ row.name.now ∷ []) (codes "value" ∷ []) (ap₂ (λ (w v : List ℕ). w ∷ v ∷ codes "value" ∷ []) c.if-not-is_word.ensures c.if-not-is_word-2.ensures))
    (λ g. c.if-not-is_word-3.ensures (ap (λ (rows : FieldRows). get_or (get_or rows 0 []) 2 []) g.2.4)))

pub returns : goal.returns
returns c rows h =
    let b = c.if-not-is_word.ensures in
    let n = c.if-not-is_word-2.ensures in
    let v = c.if-not-is_word-3.ensures in
    head-read c.args.self.now rows _ h c.requires.head (rw (b, n, v) refl)
