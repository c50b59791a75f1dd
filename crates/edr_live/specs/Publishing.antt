-- One publishing, as the copies and what the writer knows tell it.
use Rattle.std.specs.Prelude.{◌≡◌, List, ◌++◌}
use Rattle.edr_live.specs.declared.copy.LiveCopy.{LiveCopy}
use Rattle.edr_live.specs.declared.knowledge.Knowledge.{Knowledge}
use Rattle.edr_live.specs.declared.shown.ShownCommand.{ShownCommand}
use Rattle.edr_live.specs.Copies.{commands_of_copy}
use Rattle.edr_live.specs.Rule.{all_of}

-- the copy y has the banks at opening that x has, and these commands after those of x, and the writer knows just that
pub record IsPublished (x : LiveCopy) (more : List ShownCommand) (y : LiveCopy) (w : Knowledge) : Type 0 where
  pub opening : y.opening.value ≡ x.opening.value
  pub shown : commands_of_copy y ≡ commands_of_copy x ++ more
  pub knows : w ≡ all_of y
