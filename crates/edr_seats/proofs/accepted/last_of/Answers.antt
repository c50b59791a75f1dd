use Rattle.std.proofs.Common.{sym}
use Rattle.edr_items.proofs.FeedLemmas.{mark_from-last}
use Rattle.edr_seats.proofs.accepted.last_of.Goals as goal

pub returns-in-Some : goal.returns-in-Some
returns-in-Some c = mark_from-last c.args.before c.args.items.now c.in-Some.item.now (sym c.in-Some.ensures.value)
