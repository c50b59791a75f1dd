-- One look, as the copy that is taken and what the reader knows tell it.
use Rattle.std.specs.Prelude.{◌≡◌}
use Rattle.edr_live.specs.declared.shown.LiveView.{LiveView}
use Rattle.edr_live.specs.declared.copy.LiveCopy.{LiveCopy}
use Rattle.edr_live.specs.declared.knowledge.Knowledge.{Knowledge}
use Rattle.edr_live.specs.Rule.{Learns}

-- the view is that of a copy to which all applies that was known, and whose commands are known now
pub record IsSeen (old new : Knowledge) (v : LiveView) : Type 0 where
  pub copy : LiveCopy
  pub learns : Learns old copy copy new
  pub view_is : v ≡ copy.view
