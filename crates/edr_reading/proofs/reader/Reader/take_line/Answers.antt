use Rattle.std.proofs.lemmas.{Option.MatchOption-at_none, Result.err_from_is_err_and}
use Rattle.std.proofs.Common.{◌≡◌, ◌∙◌, sym, ap, ap₂, subst, ℕ, ◌+◌, ◌<◌, List, get_or, length, decimal, Some}
use Rattle.edr_image.specs.declared.Found.{Found}
use Rattle.edr_report.specs.{EventWords.event_words, declared.event_lines.EventLine.{EventLine, TheVariants.Number}}
use Rattle.edr_reading.specs.Reading.{AcceptsEventLine, EventAgrees, IsNextEvent, event_of, event_place}
use Rattle.edr_reading.proofs.{EventLemmas.{at-place, line-name, line-value, line-place, lines}, FaultLemmas.or-ok}
use Rattle.edr_reading.proofs.ReadLemmas.{line-ends, line-goes, line-long, or-err}
use Rattle.edr_reading.proofs.reader.Reader.take_line.Goals as goal
use Rattle.edr_reading.proofs.reader.Reader.take_line.Goals.{then-line-lt-EVENT_ROWS, else-line-lt-EVENT_ROWS+in_ok-or}

pub returns-then-not-is_word : goal.returns-then-not-is_word
returns-then-not-is_word c rows a =
    let row = c.args.row.now in
    line-name a.inside row.block.now row.name.now row.value.now (c.requires.block ∙ ap (λ (n : ℕ). decimal (n + 1)) (line-long a))
    (λ e. c.if-not-is_word.ensures (e ∙ sym (c.as_bytes.ensures.value ∙ c.line_at-what.ensures.name)))

pub event_line-requires : goal.event_line-requires
event_line-requires c =
    let a = c.requires.read.1 in
    subst (λ (x : List Found). IsNextEvent x (event_of c.args.event.now)) (sym (c.deref.ensures.value ∙ a.found)) a.inside.event

pub returns-in_err-event : goal.returns-in_err-event
returns-in_err-event c =
    let row = c.args.row.now in
    let old = event_of c.args.event.now in
    let named = c.if-not-is_word.ensures ∙ c.as_bytes.ensures.value ∙ c.line_at-what.ensures.name in
    let what : c.line_at-what.result.1 ≡ get_or lines c.args.line Number = c.line_at-what.ensures.line in
    let p = err_from_is_err_and c.from_residual.result c.from_residual.ensures.1 in
    let q = c.in_err-event.ensures in
    rw (p.1, p.2, or-err _ _ _ q.value q.ok_part)
    (λ rows a. let small : c.args.line < 29 = a.inside.within in
    let place : event_place c.line_at-what.result.1 ≡ c.args.line = ap event_place what ∙ line-place c.args.line small in
    line-value a.inside row.block.now row.name.now row.value.now (c.requires.block ∙ ap (λ (n : ℕ). decimal (n + 1)) (line-long a)) named
    (λ f n g shows. MatchOption-at_none _ _ q.ok_part (c.event_line.ensures.whole f (subst (λ (x : List Found). IsNextEvent x f) (sym (c.deref.ensures.value ∙ a.found)) n) (subst (λ (k : ℕ). EventAgrees k old f) (sym place) g)
    (shows ∙ ap₂ (λ (j : ℕ) (l : EventLine). event_words j f.0 f.1 l) (sym (c.block.ensures ∙ ap (λ (n : ℕ). n + 1) (line-long a))) (sym what)))))

pub returns : goal.returns
returns c rows a =
    let row = c.args.row.now in
    let r = c.args.self.now in
    let old = c.args.event.now in
    let found = r.found.items in
    let named = c.if-not-is_word.ensures ∙ c.as_bytes.ensures.value ∙ c.line_at-what.ensures.name in
    let p = c.in_ok-event.event in
    let read : AcceptsEventLine c.block.result c.deref.result.now c.line_at-what.result.1 row.value.now old (Some p) = subst (AcceptsEventLine c.block.result c.deref.result.now c.line_at-what.result.1 row.value.now old) c.in_ok-event.ensures.ok_part c.event_line.ensures in
    let block = subst (λ (j : ℕ). AcceptsEventLine j c.deref.result.now c.line_at-what.result.1 row.value.now old (Some p)) c.block.ensures read in
    let here = subst (λ (x : List Found). AcceptsEventLine (length found + 1) x c.line_at-what.result.1 row.value.now old (Some p)) c.deref.ensures.value block in
    let line = subst (λ (x : EventLine). AcceptsEventLine (length found + 1) found x row.value.now old (Some p)) c.line_at-what.ensures.line here in
    let t = at-place c.args.line (length found + 1) found row.value.now old p a.inside.within line in
    elim c.if-line-lt-EVENT_ROWS.branch [
      | then-line-lt-EVENT_ROWS w ↦ rw w.self-is (line-goes r c.args.line (event_of old) row.block.now row.name.now row.value.now c.requires.block named p t rows a w.if-line-lt-EVENT_ROWS.true)
      | else-line-lt-EVENT_ROWS+in_ok-or w ↦
          let e = rw (or-ok _ _ _ w.in_ok-or.ensures) at w.push.ensures in
          rw w.self-is (line-ends r c.args.line (event_of old) row.block.now row.name.now row.value.now c.requires.block named p t rows a (record r { found = w.push.new.self }) w.if-line-lt-EVENT_ROWS.false e.items)
    ]
