-- What a reader reads.
use Rattle.std.specs.Prelude.{◌≡◌, List, ◌∷◌, Some}
use Rattle.edr_live.specs.declared.shown.LiveView.{LiveView}
use Rattle.edr_live.specs.declared.shown.ShownCommand.{ShownCommand}
use Rattle.edr_live.specs.declared.ends.LiveReader.{LiveReader}
use Rattle.edr_live.specs.Rule.{BeginsWithAll}
use Rattle.edr_live.specs.Shown.{shown_view}
use Rattle.edr_live.specs.Ends.{lists_known, opening_known}

-- the view is that of the banks at opening after a list of shown commands; the list begins with each list that was
-- known, and is now known too
pub record IsRead (old new : LiveReader) (v : LiveView) : Type 0 where
  pub shown : List ShownCommand
  pub opening : LiveView
  pub opening_is : opening_known old ≡ Some opening
  pub view_is : v ≡ shown_view opening shown
  pub begins : BeginsWithAll shown (lists_known old)
  pub known : lists_known new ≡ shown ∷ lists_known old
