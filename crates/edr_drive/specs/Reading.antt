-- A reader that reads on.
use Rattle.std.specs.Prelude.{◌≡◌, List, ◌++◌}
use Rattle.edr_live.specs.declared.shown.ShownCommand.{ShownCommand}
use Rattle.edr_live.specs.declared.ends.LiveReader.{LiveReader}
use Rattle.edr_live.specs.Ends.{lists_known, opening_known}

-- the same reader later: it knows the same banks at opening, and before the lists that it knew those that it read since
pub record HasReadOn (a b : LiveReader) : Type 0 where
  pub opening : opening_known b ≡ opening_known a
  pub more : List (List ShownCommand)
  pub lists : lists_known b ≡ more ++ lists_known a
