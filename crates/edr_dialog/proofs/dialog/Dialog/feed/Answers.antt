use Rattle.edr_banks.specs.Opening.{view_when_opened}
use Rattle.edr_dialog.specs.Stages.{stand_at}
use Rattle.edr_dialog.proofs.FeedLemmas.{fed_leaves, fed_most, has_heard, has_reply}
use Rattle.edr_dialog.proofs.dialog.Dialog.feed.Goals as goal

pub returns-clause-replies : goal.returns-clause-replies
returns-clause-replies c = λ v stream heard.
    let inside = c.self.inside in
    let w = view_when_opened inside.banks.now in
    let stand = stand_at inside.stage in
    let now = c.hear-heard.result in
    let said = c.hear-heard.ensures in
    let put = c.put_reply_to-length in (
      has_reply v w stand (stand_at now.stage) stream c.args.self.now c.args.byte now.said put.result c.fed_by.result put.new.out c.self.view_is heard
          said.said put.ensures.bytes put.ensures.len c.fed_by.ensures,
      has_heard v w stand (stand_at now.stage) stream c.args.self.now c.args.byte now.said put.result c.fed_by.result put.new.out c.self.view_is heard
          said.stage,
    )

pub returns-clause-leaves : goal.returns-clause-leaves
returns-clause-leaves c =
    let inside = c.self.inside in
    let w = view_when_opened inside.banks.now in
    let stand = stand_at inside.stage in
    let now = c.hear-heard.result in
    let put = c.put_reply_to-length in
    fed_leaves w stand (stand_at now.stage) c.args.self.now c.args.byte now.said put.result c.fed_by.result c.self.view_is c.requires.open
    c.hear-heard.ensures.said c.hear-heard.ensures.stage c.fed_by.ensures

pub returns-clause-most : goal.returns-clause-most
returns-clause-most c =
    let now = c.hear-heard.result in
    let put = c.put_reply_to-length in
    fed_most (view_when_opened c.self.inside.banks.now) now.said put.result c.fed_by.result put.ensures.len put.ensures.most c.fed_by.ensures
