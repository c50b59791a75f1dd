-- What a run reported is agreed to.
use Rattle.std.proofs.Common.{◌≡◌, ◌∙◌, refl, sym, subst, ℕ, ◌≤◌, List, Some}
use Rattle.edr_image.specs.Image.{View, view_of}
use Rattle.edr_run.proofs.CycleLaws.{outcomes-has}
use Rattle.edr_audit.specs.declared.TheConstants.{MOST_STOPS}
use Rattle.edr_audit.specs.Verdicts.{Agree, stops_in}
use Rattle.edr_words.specs.declared.Form.TheVariants.{Text}
use Rattle.edr_cli.specs.Outside.{Memory}
use Rattle.edr_cli.specs.Runs.{TheRun}

one_list : (a b : List ℕ) → Some a ≡ Some b → a ≡ b
one_list a b e = cc

pub replayed_agreed : (trace before after text : List ℕ) (new : Memory) (run : TheRun Text trace before new text) → stops_in run.cycles ≤ MOST_STOPS → new.content ≡ Some after → Agree before trace after text
replayed_agreed trace before after text new run few told =
    let to : View = record { store = run.outcome.store; count = run.outcome.count } in
    let same : run.held.bytes ≡ after = one_list run.held.bytes after (sym run.held.found.quiet.0 ∙ told) in
    record {
      from = record { store = run.store; count = run.count };
      cycles = run.cycles;
      to = to;
      outcome = run.outcome;
      audited = record {
        begins = record { says = run.says; spelled = run.spelled.1; few = few };
        says = subst (λ (b : List ℕ). view_of b ≡ Some to) same run.held.found.view_is;
      };
      member = record { listed = outcomes-has run.cycles run.store run.count run.outcome run.run; view = record { store = refl; count = refl } };
      text = run.output;
    }
