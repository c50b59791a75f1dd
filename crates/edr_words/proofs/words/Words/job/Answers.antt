use Rattle.std.proofs.Common.{rules, ◌≡◌, ◌∙◌, sym, ap, refl, Bool, true, false, Option, None, List, ◌∷◌, map, string_bytes, String, Global, IfOk, subst}
use Rattle.std.specs.List.{list_all}
use Rattle.std.proofs.lemmas.List.Folds.{list_all-map}
use Rattle.edr_words.specs.Arguments.{PlainText, is_plain}
use Rattle.edr_words.specs.declared.jobs.Job.{Job}
use Rattle.edr_words.specs.Jobs.{job_after, job_of}
use Rattle.edr_words.proofs.words.Words.job.Goals as goal

-- the same of the words that are lent and of their texts
plain_texts : (words : List (String Global)) (b : Bool) → list_all (λ w. is_plain (string_bytes w)) words ≡ b → list_all is_plain (map string_bytes words) ≡ b
plain_texts words b e = list_all-map is_plain string_bytes words ∙ e

job_plain : (word : PlainText) (words : List PlainText) → list_all is_plain words ≡ true → job_of (word ∷ words) ≡ job_after word words
job_plain word words p = rw p refl

job_other : (word : PlainText) (words : List PlainText) → list_all is_plain words ≡ false → job_of (word ∷ words) ≡ None
job_other word words p = rw p refl

pub returns-then-not-are_plain-clause-value : goal.returns-then-not-are_plain-clause-value
returns-then-not-are_plain-clause-value c =
    let words = map string_bytes c.in-Some.arguments.now in
    let is : c.args.self.now ≡ string_bytes c.in-Some.word.now ∷ words = search rules in
    let bad : list_all (λ w. is_plain (string_bytes w)) c.in-Some.arguments.now ≡ false = search rules in
    sym (ap (λ (ws : List PlainText). job_of ws) is ∙ job_other (string_bytes c.in-Some.word.now) words (plain_texts c.in-Some.arguments.now false bad))

pub job_after-requires : goal.job_after-requires
job_after-requires c =
    let fine : list_all (λ w. is_plain (string_bytes w)) c.in-Some.arguments.now ≡ true = search rules in
    record { plain = plain_texts c.in-Some.arguments.now true fine }

pub returns-clause-value : goal.returns-clause-value
returns-clause-value c =
    let words = map string_bytes c.in-Some.arguments.now in
    let is : c.args.self.now ≡ string_bytes c.in-Some.word.now ∷ words = search rules in
    let fine : list_all (λ w. is_plain (string_bytes w)) c.in-Some.arguments.now ≡ true = search rules in
    let text : c.as_str.result.now ≡ string_bytes c.in-Some.word.now = search rules in
    let same : job_of c.args.self.now ≡ job_after c.as_str.result.now words =
    ap (λ (ws : List PlainText). job_of ws) is ∙ job_plain (string_bytes c.in-Some.word.now) words (plain_texts c.in-Some.arguments.now true fine) ∙ ap (λ (w : PlainText). job_after w words) (sym text) in
    subst (λ (j : Option Job). IfOk c.job_after.result (λ k. k ≡ j)) (sym same) c.job_after.ensures.value
