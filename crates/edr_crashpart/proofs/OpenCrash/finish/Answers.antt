use Rattle.std.proofs.Common.{◌∙◌, ap}
use Rattle.edr_definitions.specs.OpenCrash.{OpenCrash, finish_crash}
use Rattle.edr_crashpart.specs.Fields.{part_of}
use Rattle.edr_crashpart.proofs.PartLemmas.{finish_crash-is}
use Rattle.edr_crashpart.proofs.HistoryLemmas.{finish-definition}
use Rattle.edr_crashpart.proofs.OpenCrash.finish.Goals as goal

pub returns-clause-definition : goal.returns-clause-definition
returns-clause-definition c = λ z first rows is.
    finish_crash-is (part_of c.self.inside) c.args.end c.extreme.result c.extreme-2.result c.extreme.ensures c.extreme-2.ensures
    ∙ ap (λ (q : OpenCrash). finish_crash q c.args.end) c.self.view_is
    ∙ finish-definition c.args.self.now z first rows c.args.end is c.requires.from c.requires.closed
