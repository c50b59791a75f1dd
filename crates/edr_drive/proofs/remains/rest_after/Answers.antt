use Rattle.edr_drive.proofs.RemainLemmas.{desk-issued, desk-remains, desk-was-told}
use Rattle.edr_drive.proofs.remains.rest_after.Goals as goal

pub returns-clause-remains : goal.returns-clause-remains
returns-clause-remains c = λ n begins are s.
    desk-remains c.args.feeds.now n c.args.desk.now c.after.result s (c.after.ensures.remains s.history c.args.desk.now.core (desk-was-told c.args.feeds.now n c.args.desk.now c.after.ensures.feeds begins are s))

pub returns-clause-issued : goal.returns-clause-issued
returns-clause-issued c = λ n begins are s.
    desk-issued c.args.feeds.now n c.args.desk.now c.after.result s (c.after.ensures.remains s.history c.args.desk.now.core (desk-was-told c.args.feeds.now n c.args.desk.now c.after.ensures.feeds begins are s))
