-- The lines of a report have plain names and plain values.
use Rattle.std.proofs.Common.{arith, ◌≡◌, refl, ℕ, Bool, true, false, Option, Some, None, List, [], ◌∷◌, ◌++◌, map, flat_map}
use Rattle.std.specs.List.{enumerate_from, list_all}
use Rattle.std.proofs.lemmas.Bool.{and_parts}
use Rattle.std.specs.Option.{option_map_or}
use Rattle.edr_record.specs.{declared.Place.Place, declared.Place.TheVariants.{First, Second}}
use Rattle.edr_record.specs.declared.Profile.{Profile}
use Rattle.edr_record.specs.declared.Profile.TheVariants as profile
use Rattle.edr_record.specs.{declared.Record.Record, Parts.{PrePart, CrashPart}}
use Rattle.edr_image.specs.{declared.Ack.Ack, declared.Kind.Kind}
use Rattle.edr_image.specs.declared.Kind.TheVariants as kind
use Rattle.edr_image.specs.{declared.Applied.Applied, declared.Applied.TheVariants.NotKept}
use Rattle.edr_image.specs.Reports.{Report, StartStopped, Ran}
use Rattle.edr_report.specs.Words.{kind_word, applied_words, stop_words, none_word, yes_no, profile_word, number_or_none, switch_or_none, firing_words, events_in_crash, time_between, spaced_words}
use Rattle.edr_report.specs.{Lines.Line, declared.event_lines.EventLine.EventLine}
use Rattle.edr_report.specs.declared.event_lines.EventLine.TheVariants as event
use Rattle.edr_report.specs.declared.event_lines.PreLine.{PreLine}
use Rattle.edr_report.specs.declared.event_lines.PreLine.TheVariants as pre
use Rattle.edr_report.specs.declared.event_lines.CrashLine.{CrashLine}
use Rattle.edr_report.specs.declared.event_lines.CrashLine.TheVariants as crash
use Rattle.edr_report.specs.declared.event_lines.TheConstants.{LINES_OF_EVENT}
use Rattle.edr_report.specs.EventWords.{pre_words, crash_words, event_words}
use Rattle.edr_report.specs.Report.{ack_line, cycle_lines, event_line, event_lines, run_lines}
use Rattle.edr_drawing.specs.Tables.{line_row}
use Rattle.edr_drawing.proofs.PlainLemmas.{Plain, all_low, plain_nil, plain_cons, plain_append, plain_fixed, plains}

-- ---- values

plain_kind : (k : Kind) → Plain (kind_word k)
plain_kind kind.Take = search plains
plain_kind k = search plains

plain_applied : (a : Applied) → Plain (applied_words a)
plain_applied NotKept = search plains
plain_applied a = search plains

plain_stop : (stop : Option ℕ) → Plain (stop_words stop)
plain_stop None = search plains
plain_stop (Some k) = search plains

plain_yes_no : (b : Bool) → Plain (yes_no b)
plain_yes_no true = search plains
plain_yes_no false = search plains

plain_profile : (f : Profile) → Plain (profile_word f)
plain_profile profile.Short = search plains
plain_profile profile.Long = search plains

plain_number : (v : Option ℕ) → Plain (number_or_none v)
plain_number None = search plains
plain_number (Some n) = search plains

plain_switch : (v : Option Bool) → Plain (switch_or_none v)
plain_switch None = search plains
plain_switch (Some true) = search plains
plain_switch (Some false) = search plains

plain_firing : (t : Option ℕ) → Plain (firing_words t)
plain_firing None = search plains
plain_firing (Some t) = search plains

plain_events : (p : Place) → Plain (events_in_crash p)
plain_events First = search plains
plain_events (Second after) = search plains

plain_between : (p : Place) → Plain (time_between p)
plain_between First = search plains
plain_between (Second after) = search plains depth 20

plain_spaced : {X : Type 0} (f : X → List ℕ) → ((x : X) → Plain (f x)) → (xs : List X) → Plain (spaced_words (map f xs))
plain_spaced f h [] = plain_nil
plain_spaced f h (x ∷ []) = h x
plain_spaced f h (x ∷ y ∷ ys) = plain_append (f x) _ (h x) (plain_cons 32 _ (omega arith) (plain_spaced f h (y ∷ ys)))

ruleset values = (plain_events, plain_between, plain_yes_no, plain_profile, plain_number, plain_switch, plain_firing, plain_spaced, plains)

-- ---- lines

-- the names and the values are plain
abbrev pub PlainLines : List Line → Type 0
PlainLines [] = Unit {0}
PlainLines (l ∷ ls) = Plain l.name × Plain l.value × PlainLines ls

lines_append : (xs ys : List Line) → PlainLines xs → PlainLines ys → PlainLines (xs ++ ys)
lines_append [] ys h k = k
lines_append (x ∷ xs) ys h k = (h.0, h.1, lines_append xs ys h.2 k)

lines_flat_map : {X : Type 0} (f : X → List Line) → ((x : X) → PlainLines (f x)) → (xs : List X) → PlainLines (flat_map f xs)
lines_flat_map f h [] = tt
lines_flat_map f h (x ∷ xs) = lines_append (f x) (flat_map f xs) (h x) (lines_flat_map f h xs)

lines_acks : (i : ℕ) (log : List Ack) → PlainLines (map (ack_line i) log)
lines_acks i [] = tt
lines_acks i (a ∷ log) = (search (plain_kind, plains) depth 20, plain_applied a.applied, lines_acks i log)

lines_cycle : (i : ℕ) (r : Report) → PlainLines (cycle_lines i r)
lines_cycle i (StartStopped j) = (search plains, search plains, tt)
lines_cycle i (Ran n stop log) = (search plains, search (plain_stop, plains) depth 20, lines_acks i log)

-- what a line of an event shows
shows_pre : (p : PrePart) (locked : Bool) (l : PreLine) → Plain (pre_words p locked l)
shows_pre p locked pre.Cycle = search plains
shows_pre p locked l = search values depth 20

shows_crash : (c : CrashPart) (l : CrashLine) → Plain (crash_words c l)
shows_crash c crash.End = search plains depth 20
shows_crash c l = search values depth 20

shows_after : (o : Option CrashPart) (l : CrashLine) → Plain (option_map_or (λ c. crash_words c l) o none_word)
shows_after None l = search plains
shows_after (Some c) l = shows_crash c l

ruleset shown = (shows_pre, shows_after)

shows : (block bank : ℕ) (r : Record) (l : EventLine) → Plain (event_words block bank r l)
shows block bank r event.Number = search plains
shows block bank r l = search (shown, values)

lines_shown : {X : Type 0} (name : X → List ℕ) (line_of : X → EventLine) (n bank : ℕ) (r : Record) (ls : List X) → list_all (λ l. all_low (name l)) ls ≡ true → PlainLines (map (λ l. event_line n bank r (name l) (line_of l)) ls)
lines_shown name line_of n bank r [] e = tt
lines_shown name line_of n bank r (l ∷ ls) e = (plain_fixed (name l) (and_parts _ _ e).0, shows n bank r (line_of l), lines_shown name line_of n bank r ls (and_parts _ _ e).1)

-- ---- their rows

plain_row : (l : Line) → Plain l.name → Plain l.value → Plain (line_row l)
plain_row l h k = search plains depth 20

plain_rows : (ls : List Line) → PlainLines ls → Plain (flat_map line_row ls)
plain_rows [] h = plain_nil
plain_rows (l ∷ ls) h = plain_append (line_row l) (flat_map line_row ls) (plain_row l h.0 h.1) (plain_rows ls h.2)

pub plain_event_lines : (n bank : ℕ) (r : Record) → Plain (flat_map line_row (event_lines n bank r))
unfolding event_lines
plain_event_lines n bank r = plain_rows (event_lines n bank r) (lines_shown (λ l. l.0.now) (λ l. l.1) n bank r LINES_OF_EVENT refl)

pub plain_run_lines : (reports : List Report) → Plain (flat_map line_row (run_lines 1 reports))
plain_run_lines reports = plain_rows (run_lines 1 reports) (lines_flat_map (λ r. cycle_lines r.0 r.1) (λ r. lines_cycle r.0 r.1) (enumerate_from 1 reports))
