use Rattle.std.proofs.Common.{arith, ◌≤◌, sym, subst, ℕ, List, ◌++◌, length, length-append, Option, Some, None}
use Rattle.std.specs.Option.{IfSome}
use Rattle.std.proofs.lemmas.List.Elements.{All-from_recursion}
use Rattle.edr_device.specs.Told.{Told}
use Rattle.edr_device.specs.Transfer.{GivesAll}
use Rattle.edr_spell.specs.declared.CycleInput.{CycleInput}
use Rattle.edr_spell.specs.Spell.{Spell, IsCycleInput, largest_trace}
use Rattle.edr_audit.proofs.CountLemmas.{cycles_of_bytes}
use Rattle.edr_spell.proofs.CycleLemmas.{spelled-cycles}
use Rattle.edr_cli.specs.Runs.{IsTraceOf}
use Rattle.edr_cli.proofs.traces.trace_of.Goals as goal

-- the bytes that were taken are those that the source told
trace-is : (bytes : List ℕ) (cycles : List CycleInput) (x y : Option (List ℕ)) → length bytes ≤ largest_trace → Spell bytes cycles → Told (GivesAll bytes) x y → IfSome x (IsTraceOf cycles)
trace-is bytes cycles None y few spelled t = tt
trace-is bytes cycles (Some a) (Some b) few spelled t = subst (λ (v : List ℕ). IsTraceOf cycles v) (sym t.0) (few, spelled)
trace-is bytes cycles (Some a) None few spelled t = absurd t

pub returns-clause-spelled : goal.returns-clause-spelled
returns-clause-spelled g c =
    let left = g.S.Source.left in
    let all = c.in_ok-reading.ensures.all in
    let cycles = c.in_ok-finish.field-0.items in
    let rest = c.in_ok-reading.field-0.left in
    let spelled = subst (λ (x : List ℕ). Spell (all.0 ++ x) cycles) c.deref.ensures.value (c.in_ok-finish.ensures.spelled all.0 all.1) in
    trace-is (all.0 ++ rest.items) cycles (left c.args.source.now) (left c.take_trace.new.source) (omega (arith, length-append all.0 rest.items, all.2, rest.ok.0)) spelled all.3

pub returns-clause-few : goal.returns-clause-few
returns-clause-few g c =
    let all = c.in_ok-reading.ensures.all in
    let cycles = c.in_ok-finish.field-0.items in
    let rest = c.in_ok-reading.field-0.left in
    let spelled = subst (λ (x : List ℕ). Spell (all.0 ++ x) cycles) c.deref.ensures.value (c.in_ok-finish.ensures.spelled all.0 all.1) in
    let few = cycles_of_bytes (all.0 ++ rest.items) cycles spelled in
    omega (arith, few, length-append all.0 rest.items, all.2, rest.ok.0)

pub returns-clause-cycles : goal.returns-clause-cycles
returns-clause-cycles g c =
    let all = c.in_ok-reading.ensures.all in
    let cycles = c.in_ok-finish.field-0.items in
    All-from_recursion IsCycleInput cycles (spelled-cycles (all.0 ++ c.deref.result.now) cycles (c.in_ok-finish.ensures.spelled all.0 all.1))
