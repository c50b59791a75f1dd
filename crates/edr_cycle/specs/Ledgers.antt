-- What issued commands do to a ledger and to the device.
use Rattle.std.specs.Prelude.{List, Result}
use Rattle.edr_definitions.specs.Commands.{Issue}
use Rattle.edr_device.specs.declared.device.Nvm.{Ghosts}
use Rattle.edr_cycle.specs.Commits.{CommitsOn}
use Rattle.edr_cycle.specs.declared.ledger.Ledger as ledger

-- they are applied to its banks and logged, one after the other, up to one that fails
abbrev pub CommitsIn : {L D T E : Type 0} → ledger.Ghosts L → Ghosts D → List Issue → Result T E → L → L → D → D → Type 0
CommitsIn l g xs result a b d d' = CommitsOn g xs result (l.banks a) (l.banks b) (l.log a) (l.log b) d d'
