use Rattle.std.proofs.Common.{subst, List}
use Rattle.std.proofs.lemmas.Result.{err_from_is_err_and}
use Rattle.edr_spell.specs.declared.CycleInput.{CycleInput}
use Rattle.edr_cli.specs.Replays.{IsReplayCause}
use Rattle.edr_cli.specs.Outside.{input, memory}
use Rattle.edr_cli.specs.Runs.{RunIs}
use Rattle.edr_cli.specs.Steps.{IsRunCause, Reports}
use Rattle.edr_cli.proofs.ImageLemmas.{ok_map, err_map}
use Rattle.edr_replay.proofs.PastLemmas.{past_none}
use Rattle.edr_cli.proofs.PastLemmas.{past_looked, past_opened}
use Rattle.edr_cli.proofs.ReplayLemmas.{leaves_none, look_cause, replayed, run_replay}
use Rattle.edr_device.proofs.SettlingLemmas.{tells_again}
use Rattle.edr_cli.proofs.replay.replay_source.Goals as goal

pub returns-clause-text : goal.returns-clause-text
returns-clause-text g c =
    let S = g.S.Source in
    let D = g.N.Nvm in
    let i = input S c.args.source.now in
    let old = memory D c.args.nvm.now in
    let mid = memory D c.open_settled.new.nvm in
    let new = memory D c.run.new.nvm in
    let cs = c.in_ok-cycles.cycles.items in
    let b = c.in_ok-open_settled.field-0 in
    ok_map c.run.result (λ out. Reports c.args.form c.deref.result.now mid new out.items) (λ out. RunIs c.args.form i old new out.items)
    (λ out reports. replayed c.args.form i old mid new cs b.store b.count out.items c.in_ok-cycles.ensures.spelled c.in_ok-open_settled.ensures.found
    (subst (λ (xs : List CycleInput). Reports c.args.form xs mid new out.items) c.deref.ensures.value reports)) c.run.ensures.text

pub returns-clause-cause : goal.returns-clause-cause
returns-clause-cause g c =
    let S = g.S.Source in
    let D = g.N.Nvm in
    let i = input S c.args.source.now in
    let i' = input S c.trace_of.new.source in
    let old = memory D c.args.nvm.now in
    let mid = memory D c.open_settled.new.nvm in
    let new = memory D c.run.new.nvm in
    let cs = c.in_ok-cycles.cycles.items in
    let b = c.in_ok-open_settled.field-0 in
    err_map c.run.result (λ f. IsRunCause c.deref.result.now mid new f) (λ f. IsReplayCause i i' old new f)
    (λ f cause. run_replay i i' old mid new cs b.store b.count f c.in_ok-cycles.ensures.spelled c.in_ok-cycles.ensures.end c.in_ok-open_settled.ensures.found
    (tells_again old.content mid.content new.content c.open_settled.ensures.lent.tells c.run.ensures.lent.tells) c.open_settled.ensures.lent.size c.open_settled.ensures.lent.later
    (subst (λ (xs : List CycleInput). IsRunCause xs mid new f) c.deref.ensures.value cause)) c.run.ensures.cause

pub returns-in_err-open_settled-clause-cause : goal.returns-in_err-open_settled-clause-cause
returns-in_err-open_settled-clause-cause g c =
    let S = g.S.Source in
    let D = g.N.Nvm in
    let i = input S c.args.source.now in
    let i' = input S c.trace_of.new.source in
    let old = memory D c.args.nvm.now in
    let new = memory D c.open_settled.new.nvm in
    let cs = c.in_ok-cycles.cycles.items in
    let p = err_from_is_err_and c.from_residual-in_err-open_settled.result c.from_residual-in_err-open_settled.ensures.1 in
    rw (p.1, p.2) (look_cause i i' old new cs c.in_err-open_settled.field-0.0 c.in_ok-cycles.ensures.spelled c.in_ok-cycles.ensures.end c.open_settled.ensures.stays
    (leaves_none i old new cs c.in_ok-cycles.ensures.spelled c.open_settled.ensures.stays) c.in_err-open_settled.ensures.cause)

pub returns-in_err-cycles-clause-past : goal.returns-in_err-cycles-clause-past
returns-in_err-cycles-clause-past g c = let D = g.N.Nvm in past_none (D.content c.args.nvm.now) (D.settled c.args.nvm.now)

pub returns-in_err-open_settled-clause-past : goal.returns-in_err-open_settled-clause-past
returns-in_err-open_settled-clause-past g c =
    let D = g.N.Nvm in
    past_looked (D.content c.args.nvm.now) (D.content c.open_settled.new.nvm) (D.settled c.args.nvm.now) (D.settled c.open_settled.new.nvm) c.open_settled.ensures.stays

pub returns-clause-past : goal.returns-clause-past
returns-clause-past g c =
    let D = g.N.Nvm in
    let b = c.in_ok-open_settled.field-0 in
    past_opened b.store b.count (D.content c.args.nvm.now) (D.content c.open_settled.new.nvm) (D.content c.run.new.nvm) (D.settled c.args.nvm.now) (D.settled c.open_settled.new.nvm) (D.settled c.run.new.nvm) c.in_ok-open_settled.ensures.found c.run.ensures.past
