-- A reader that reads on.
use Rattle.std.proofs.Common.{◌≡◌, ◌∙◌, List, [], ◌∷◌, Option, Some, None, ap, refl}
use Rattle.std.specs.Prelude.{IfSome, IsNone}
use Rattle.edr_live.specs.declared.shown.LiveView.{LiveView}
use Rattle.edr_live.specs.declared.shown.ShownCommand.{ShownCommand}
use Rattle.edr_live.specs.declared.ends.LiveReader.{LiveReader}
use Rattle.edr_live.specs.Ends.{lists_known, opening_known}
use Rattle.edr_live.specs.Reading.{IsRead}
use Rattle.edr_drive.specs.Reading.{HasReadOn}

pub read-none : (a : LiveReader) → HasReadOn a a
read-none a = record { opening = refl; more = []; lists = refl }

-- one read more, with this answer
pub read-more : (a b c : LiveReader) (answer : Option LiveView) → HasReadOn a b → IfSome answer (IsRead b c) → (IsNone answer → lists_known c ≡ lists_known b) → opening_known c ≡ opening_known b → HasReadOn a c
read-more a b c (Some v) h read none same = record {
  opening = same ∙ h.opening;
  more = read.shown ∷ h.more;
  lists = read.known ∙ ap (λ (ls : List (List ShownCommand)). read.shown ∷ ls) h.lists;
}
read-more a b c None h read none same = record { opening = same ∙ h.opening; more = h.more; lists = none refl ∙ h.lists }
