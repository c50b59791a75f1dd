use Rattle.std.proofs.Common.{rules, ◌≡◌, ◌∙◌, length}
use Rattle.edr_cli.proofs.PieceLemmas.{first_shown}
use Rattle.edr_cli.proofs.audit.read_first.Goals as goal

pub returns-clause-bytes : goal.returns-clause-bytes
returns-clause-bytes g c =
    let long : length c.read.new.into ≡ length c.args.into.now = search rules in
    first_shown c.read.result c.read.new.into (g.N.Nvm.content c.args.nvm.now) (g.N.Nvm.extent c.args.nvm.now) (long ∙ c.requires) (g.met.N.Nvm.told_size c.args.nvm.now) c.read.ensures.bytes
