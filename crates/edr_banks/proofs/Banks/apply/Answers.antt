-- What an image keeps of the banks at each moment.
use Rattle.std.proofs.Common.{rules, inl, subst}
use Rattle.edr_image.specs.Steps.{Reply}
use Rattle.edr_gates.specs.Taken.{EachIsPassed}
use Rattle.edr_gates.proofs.StepListLemmas.{each_passed}
use Rattle.edr_banks.specs.Applying.{steps_for}
use Rattle.edr_banks.specs.Opened.{IsOpened, OpenedBanks}
use Rattle.edr_banks.proofs.PassedLemmas.{crash_passed, locked_passed}
use Rattle.edr_banks.proofs.TaskLemmas.{reply_may}
use Rattle.edr_banks.proofs.Banks.apply.Goals as goal

pub returns-then-self : goal.returns-then-self
returns-then-self g c =
    let D = g.N.Nvm in
    let start = c.args.nvm.now in
    let o = c.args.self.now in
    let is = subst (λ (o : OpenedBanks). IsOpened o) c.self.view_is c.self.invariant in
    let each = each_passed (steps_for o c.args.command.now) (D.content start) (D.settled start) (D.clock start) (D.since start) (D.since start) (g.met.N.Nvm.only_now start)
    (λ bytes v ready. record { nothing_else = λ t image within left. inl left; past_stays = λ t image within left. left }) in record {
      lent = search rules;
      answer = search rules;
      next = search rules;
      not_kept = search rules;
      kept = search rules;
      ended = search rules;
      fault = search rules;
      spoiled = search rules;
      time = search rules;
      may = reply_may o c.args.command.now is;
      taken = search rules;
      stopped = search rules;
      any_moment = search rules;
      each = each;
      locked = λ v w m i r stands locked. locked_passed o c.args.command.now m.bytes m.image v w i r is m.same (each m.bytes m.image v m.ready m.left) m.seen stands locked;
      crash_parts = λ v w m i r crash stands has. crash_passed o c.args.command.now m.bytes m.image v w i r crash is m.same (each m.bytes m.image v m.ready m.left) m.seen stands has;
    }

pub returns-then-is_err : goal.returns-then-is_err
returns-then-is_err g c =
    let D = g.N.Nvm in
    let start = c.args.nvm.now in
    let o = c.args.self.now in
    let is = subst (λ (o : OpenedBanks). IsOpened o) c.self.view_is c.self.invariant in
    let each = subst (λ (x : Reply). EachIsPassed x.steps (D.content start) (D.settled start) (D.clock start) (D.since c.take_on.new.nvm)) c.task-task.ensures.reply c.take_on.ensures.steps.each in record {
      lent = search rules;
      answer = search rules;
      next = search rules;
      not_kept = search rules;
      kept = search rules;
      ended = search rules;
      fault = search rules;
      spoiled = search rules;
      time = search rules;
      may = search rules;
      taken = search rules;
      stopped = search rules;
      any_moment = search rules;
      each = search rules;
      locked = λ v w m i r stands locked. locked_passed o c.args.command.now m.bytes m.image v w i r is m.same (each m.bytes m.image v m.ready m.left) m.seen stands locked;
      crash_parts = λ v w m i r crash stands has. crash_passed o c.args.command.now m.bytes m.image v w i r crash is m.same (each m.bytes m.image v m.ready m.left) m.seen stands has;
    }

pub returns : goal.returns
returns g c =
    let D = g.N.Nvm in
    let start = c.args.nvm.now in
    let o = c.args.self.now in
    let is = subst (λ (o : OpenedBanks). IsOpened o) c.self.view_is c.self.invariant in
    let each = subst (λ (x : Reply). EachIsPassed x.steps (D.content start) (D.settled start) (D.clock start) (D.since c.take_on.new.nvm)) c.task-task.ensures.reply c.take_on.ensures.steps.each in record {
      lent = search rules;
      answer = search rules;
      next = search rules;
      not_kept = search rules;
      kept = search rules;
      ended = search rules;
      fault = search rules;
      spoiled = search rules;
      time = search rules;
      may = search rules;
      taken = search rules;
      stopped = search rules;
      any_moment = search rules;
      each = search rules;
      locked = λ v w m i r stands locked. locked_passed o c.args.command.now m.bytes m.image v w i r is m.same (each m.bytes m.image v m.ready m.left) m.seen stands locked;
      crash_parts = λ v w m i r crash stands has. crash_passed o c.args.command.now m.bytes m.image v w i r crash is m.same (each m.bytes m.image v m.ready m.left) m.seen stands has;
    }
