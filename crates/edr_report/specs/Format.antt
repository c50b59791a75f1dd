-- The lines that tell of a new image, and of what a reader saw of a cycle.
use Rattle.std.specs.Prelude.{ℕ, List, ◌++◌, codes, decimal}
use Rattle.edr_text.specs.Lines.{line_of}
use Rattle.edr_image.specs.declared.{Choice.{Choice, TheVariants.{Keep, Overwrite}}, Header.Header}

-- what is done with a new event where no bank is void
abbrev pub choice_word : Choice → List ℕ
choice_word Keep = codes "keep"
choice_word Overwrite = codes "overwrite"

-- how many banks there are, and the choice
abbrev pub format_line : Header → List ℕ
format_line h = line_of (codes "formatted") (decimal h.banks ++ codes " banks, " ++ choice_word h.choice)

-- how many events were taken over, and the count
abbrev pub migrate_line : ℕ → ℕ → List ℕ
migrate_line events count = line_of (codes "migrated") (decimal events ++ codes " events, count " ++ decimal count)

-- which cycle of a run it is, how many commands its log has, and how many events there are after these
abbrev pub live_line : ℕ → ℕ → ℕ → List ℕ
live_line cycle commands events =
    line_of (codes "live") (codes "cycle " ++ decimal cycle ++ codes ", " ++ decimal commands ++ codes " commands, " ++ decimal events ++ codes " events")
