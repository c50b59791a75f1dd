use Rattle.std.proofs.Common.{◌∙◌, [], ◌∷◌, List, ap, append-nil, subst, sym}
use Rattle.edr_banks.specs.Opened.{OpenedBanks}
use Rattle.edr_record.specs.declared.Command.{Command}
use Rattle.edr_definitions.specs.Commands.{issue_at}
use Rattle.edr_cycle.proofs.CommittedLemmas.{commits_failed, commits_same}
use Rattle.edr_live.specs.declared.shown.LiveView.{LiveView}
use Rattle.edr_live.specs.Ends.{opened_by, shown_by, view_shown}
use Rattle.edr_live.specs.Writing.{bank_named, shown_for}
use Rattle.edr_live.proofs.StepLemmas.{shows_next}
use Rattle.edr_drive.proofs.FollowLemmas.{Follows, follows-banks, follows-more}
use Rattle.edr_drive.proofs.MarkLemmas.{commits-marked}
use Rattle.edr_drive.proofs.live_books.LiveBooksLedger.commit.Goals as goal

pub returns-in_err-applied-clause-commits : goal.returns-in_err-applied-clause-commits
returns-in_err-applied-clause-commits g c =
    let N = g.N.Nvm in
    let a = c.args.self.now in
    let b = c.commit_answered.new.self in
    let xs = issue_at c.args.tick c.args.command.now ∷ [] in
    commits-marked N.content N.settled N.since N.clock N.last_good a.start.value xs c.from_residual.result a.books.banks b.banks a.books.log b.log c.args.nvm.now c.commit_answered.new.nvm
    (commits_failed N.content N.settled N.since N.clock N.last_good xs [] xs
    c.commit_answered.result c.from_residual.result _ a.books.banks b.banks a.books.log b.log c.args.nvm.now c.commit_answered.new.nvm
    (sym (append-nil xs)) c.in_err-applied.was c.from_residual.ensures.0 c.commit_answered.ensures.commits)

pub show-requires-clause-named : goal.show-requires-clause-named
show-requires-clause-named g c off =
    let a = c.args.self.now in
    let e = c.in_ok-applied.ensures in
    let o' = c.commit_answered.new.self.banks in
    let count = ap (λ (o : OpenedBanks). o.store.header.banks) e.next.0 in
    let same = follows-banks a.start.value.store a.books.banks a.books.log.commands (opened_by a.showing.writer) (shown_by a.showing.writer) a.showing.cut
    (record { stands = a.stands; within = a.within; views = a.views; all = a.all }) off in
    (shows_next a.books.banks o' c.args.command.now c.in_ok-applied.applied (view_shown a.showing.writer).views o'.store.header.banks e.may e.next.0 e.answer same (c.banks.ensures.all ∙ c.banks.ensures.banks ∙ sym count)).0

pub show-requires-clause-views : goal.show-requires-clause-views
show-requires-clause-views g c off =
    let a = c.args.self.now in
    let e = c.in_ok-applied.ensures in
    let o' = c.commit_answered.new.self.banks in
    let count = ap (λ (o : OpenedBanks). o.store.header.banks) e.next.0 in
    let same = follows-banks a.start.value.store a.books.banks a.books.log.commands (opened_by a.showing.writer) (shown_by a.showing.writer) a.showing.cut
    (record { stands = a.stands; within = a.within; views = a.views; all = a.all }) off in
    (shows_next a.books.banks o' c.args.command.now c.in_ok-applied.applied (view_shown a.showing.writer).views o'.store.header.banks e.may e.next.0 e.answer same (c.banks.ensures.all ∙ c.banks.ensures.banks ∙ sym count)).1

pub invariant_of-self-2 : goal.invariant_of-self-2
invariant_of-self-2 g c =
    let a = c.args.self.now in
    let e = c.in_ok-applied.ensures in
    let v = a.start.value.store in
    let o' = c.commit_answered.new.self.banks in
    let w' = c.show.new.self.writer in
    let s = c.show.ensures in
    let x = shown_for (bank_named c.in_ok-applied.applied) o'.store.banks in
    let more = follows-more v a.books.banks o' a.books.log.commands c.args.command.now (opened_by a.showing.writer) (opened_by w') (shown_by a.showing.writer) (shown_by w') e.next.0 x a.showing.cut c.show.new.self.cut
    (record { stands = a.stands; within = a.within; views = a.views; all = a.all }) s.opening s.stays s.shown s.none s.views in
    let f = subst (λ (ds : List Command). Follows v o' ds (opened_by w') (shown_by w') c.show.new.self.cut) (sym e.next.1) more in
    record {
      count = ap (λ (u : LiveView). u.banks) s.opening ∙ a.count;
      stands = f.stands;
      within = f.within;
      views = f.views;
      all = f.all;
    }

pub returns-clause-commits : goal.returns-clause-commits
returns-clause-commits g c =
    let N = g.N.Nvm in
    let a = c.args.self.now in
    let b = c.commit_answered.new.self in
    let xs = issue_at c.args.tick c.args.command.now ∷ [] in
    commits-marked N.content N.settled N.since N.clock N.last_good a.start.value xs _ a.books.banks b.banks a.books.log b.log c.args.nvm.now c.commit_answered.new.nvm
    (commits_same N.content N.settled N.since N.clock N.last_good xs c.commit_answered.result _ tt a.books.banks b.banks a.books.log b.log c.args.nvm.now c.commit_answered.new.nvm
    c.in_ok-applied.was c.commit_answered.ensures.commits)
