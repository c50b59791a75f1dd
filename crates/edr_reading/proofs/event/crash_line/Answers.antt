use Rattle.std.proofs.Common.{rules, ◌≡◌, sym, ℕ, ◌++◌, Option, Some, map, set, take}
use Rattle.edr_record.specs.{Parts.CrashPart, Fields.crash_part_of}
use Rattle.edr_report.specs.declared.event_lines.{CrashLine.{CrashLine, TheVariants.Fired}, Restraint.Restraint}
use Rattle.edr_report.specs.{EventWords.place_of, Words.firing_words}
use Rattle.edr_reading.specs.Reading.{crash_place, crash_texts, first_texts}
use Rattle.edr_reading.proofs.EventLemmas.{front-before, set-before}
use Rattle.edr_reading.proofs.event.crash_line.Goals.{in-End+in_ok-time-in-End, in-Along+in_ok-read-inside-in-Along, in-Across+in_ok-read-inside-in-Across, in-MaxAlong+in_ok-read-inside-in-MaxAlong, in-MaxAcross+in_ok-read-inside-in-MaxAcross, in-ResultAt+in_ok-read-inside-in-ResultAt, in-Missing+in_ok-along-in-Missing, in-Fired+in_ok-read-inside-in-Fired}
use Rattle.edr_reading.proofs.event.crash_line.Goals as goal

fired-earlier : (c d : CrashPart) (line : CrashLine) (r : Restraint) (k : ℕ) (x : Option ℕ) → line ≡ Fired r → k ≡ place_of r → d ≡ c → take (crash_place line) (first_texts c ++ map firing_words (set c.fired k x)) ≡ take (crash_place line) (crash_texts (Some d))
fired-earlier c d line r k x is at same =
    rw (is, at, same) (front-before (first_texts c) (map firing_words (set c.fired (place_of r) x)) (map firing_words c.fired) (place_of r) (set-before firing_words c.fired (place_of r) x))

pub returns : goal.returns
returns c = elim c.match-line.branch [
  | in-End+in_ok-time-in-End w ↦ rw w.read-is (search rules)
  | in-Along+in_ok-read-inside-in-Along w ↦ rw w.read-is (search rules)
  | in-Across+in_ok-read-inside-in-Across w ↦ rw w.read-is (search rules)
  | in-MaxAlong+in_ok-read-inside-in-MaxAlong w ↦ rw w.read-is (search rules)
  | in-MaxAcross+in_ok-read-inside-in-MaxAcross w ↦ rw w.read-is (search rules)
  | in-ResultAt+in_ok-read-inside-in-ResultAt w ↦ rw w.read-is (search rules)
  | in-Missing+in_ok-along-in-Missing w ↦ rw w.read-is (search rules)
  | in-Fired+in_ok-read-inside-in-Fired w ↦ rw w.read-is (record {
    bounds = search rules;
    shows = search rules;
    earlier = fired-earlier (crash_part_of c.crash.inside) c.args.crash.now c.args.line w.in-Fired.restraint w.place.result w.in_ok-read-inside-in-Fired.field-0 w.in-Fired.is w.place.ensures.place (sym c.crash.view_is);
    whole = search rules;
  })
]
