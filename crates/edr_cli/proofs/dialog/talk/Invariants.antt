use Rattle.edr_banks.specs.Opening.{view_when_opened}
use Rattle.edr_dialog.specs.Answers.{StandsInside}
use Rattle.edr_cli.proofs.DialogLemmas.{Replied}
use Rattle.edr_cli.proofs.dialog.talk.Given as goal

abbrev pub invariant-loop-taken : goal.invariant-loop-taken
invariant-loop-taken g l =
    Replied g.S.Source g.K.Sink (view_when_opened l.banks) l.initial.source l.source l.initial.sink l.sink l.dialog l.taken
    × StandsInside l.dialog.stand l.inside
