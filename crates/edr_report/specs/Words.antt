-- How the values of a report are spelled.
use Rattle.std.specs.Prelude.{ℕ, ◌+◌, ◌/◌, ◌%◌, min, ℤ, Bool, if◌then◌else◌, Option, Some, None, List, ◌++◌, map, take, codes, decimal}
use Rattle.std.specs.{List.join_with_byte, Option.option_map_or, Fmt.signed_decimal}
use Rattle.edr_record.specs.{declared.Extreme.Extreme, Bounds.point_count}
use Rattle.edr_record.specs.declared.{Place.{Place, TheVariants.{First, Second}}, Profile.{Profile, TheVariants.{Short, Long}}}
use Rattle.edr_image.specs.declared.{Kind.Kind, Applied.{Applied, TheVariants.{Kept, Locked, Done, NotKept}}}
use Rattle.edr_image.specs.declared.Kind.TheVariants as kind
use Rattle.edr_report.specs.declared.TheConstants.{LARGEST_SHOWN_COUNT}

abbrev pub cycle_words : ℕ → List ℕ
cycle_words i = codes "cycle " ++ decimal i

abbrev pub kind_word : Kind → List ℕ
kind_word kind.Take = codes "take"
kind_word kind.Lock = codes "lock"
kind_word kind.Done = codes "done"

-- an acknowledged command of the cycle in place i of the run
abbrev pub ack_words : ℕ → Kind → ℕ → List ℕ
ack_words i k tick = cycle_words i ++ codes " " ++ kind_word k ++ codes " at " ++ decimal tick

abbrev pub bank_words : ℕ → List ℕ
bank_words b = codes "bank " ++ decimal b

abbrev pub applied_words : Applied → List ℕ
applied_words (Kept b) = bank_words b
applied_words (Locked b) = bank_words b
applied_words (Done b) = bank_words b
applied_words NotKept = codes "not kept"

-- how a cycle ended
abbrev pub stop_words : Option ℕ → List ℕ
stop_words None = codes "power off"
stop_words (Some k) = codes "stopped in call " ++ decimal k

abbrev pub none_word : List ℕ
none_word = codes "none"

abbrev pub yes_no : Bool → List ℕ
yes_no b = if b then codes "yes" else codes "no"

abbrev pub on_off : Bool → List ℕ
on_off b = if b then codes "on" else codes "off"

abbrev pub number_or_none : Option ℕ → List ℕ
number_or_none v = option_map_or decimal v none_word

abbrev pub switch_or_none : Option Bool → List ℕ
switch_or_none v = option_map_or on_off v none_word

abbrev pub milliseconds : ℕ → List ℕ
milliseconds t = decimal t ++ codes " ms"

-- when a restraint fired first
abbrev pub firing_words : Option ℕ → List ℕ
firing_words t = option_map_or milliseconds t none_word

-- a count of ignition cycles as it is shown: up to 60000 (563.8, reporting range of ignition cycles)
abbrev pub number_shown : ℕ → ℕ
number_shown count = min count LARGEST_SHOWN_COUNT

abbrev pub shown_count : ℕ → List ℕ
shown_count n = decimal (number_shown n)

-- how many events the crash has so far
abbrev pub events_in_crash : Place → List ℕ
events_in_crash First = codes "1"
events_in_crash (Second after) = codes "2"

-- milliseconds as tenths of a second, rounded half up
abbrev pub tenths_of : ℕ → ℕ
tenths_of time = (time + 50) / 100

-- tenths of a second, from tenths
abbrev pub seconds : ℕ → List ℕ
seconds tenths = decimal (tenths / 10) ++ codes "." ++ decimal (tenths % 10) ++ codes " s"

-- the time from the first event to the second
abbrev pub time_between : Place → List ℕ
time_between First = none_word
time_between (Second after) = seconds (tenths_of after)

-- how far the lists of the pre part look back, and how often
abbrev pub profile_word : Profile → List ℕ
profile_word Short = codes "short"
profile_word Long = codes "long"

-- words parted by one space
abbrev pub spaced_words : List (List ℕ) → List ℕ
spaced_words ws = join_with_byte 32 ws

-- the points that the end allows
abbrev pub points_words : ℕ → List ℤ → List ℕ
points_words end points = spaced_words (map signed_decimal (take (point_count end) points))

abbrev pub extreme_words : Extreme → List ℕ
extreme_words x = signed_decimal x.kmh ++ codes " km/h at " ++ milliseconds x.at

abbrev pub missing_words : ℕ → ℕ → List ℕ
missing_words along across = decimal along ++ codes " longitudinal, " ++ decimal across ++ codes " lateral"

-- what a damaged bank shows: where, which byte stands there, and whether it is locked
abbrev pub damage_words : ℕ → ℕ → Bool → List ℕ
damage_words offset found locked =
    codes "damaged at " ++ decimal offset ++ codes " found " ++ decimal found ++ codes " locked " ++ yes_no locked
