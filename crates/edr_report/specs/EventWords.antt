-- What the lines of an event show.
use Rattle.std.specs.{Prelude.{ℕ, Bool, None, List, map, decimal, get_or}, Option.option_map_or}
use Rattle.edr_record.specs.{declared.Record.Record, Parts.{PrePart, CrashPart}, Complete.is_complete}
use Rattle.edr_report.specs.declared.event_lines.EventLine.{EventLine, TheVariants.{Number, Bank, Before, After, Complete}}
use Rattle.edr_report.specs.declared.event_lines.PreLine.{PreLine, TheVariants.{Cycle, TimeZero, Events, Between, Deployment, Profile, Speed, Throttle, Brake, Belt, Lamp}}
use Rattle.edr_report.specs.declared.event_lines.CrashLine.{CrashLine, TheVariants.{End, Along, Across, MaxAlong, MaxAcross, ResultAt, Missing, Fired}}
use Rattle.edr_report.specs.declared.event_lines.Restraint.{Restraint}
use Rattle.edr_report.specs.declared.event_lines.Restraint.TheVariants as restraint
use Rattle.edr_report.specs.Words.{none_word, yes_no, profile_word, number_or_none, switch_or_none, milliseconds, firing_words, shown_count, events_in_crash, time_between, spaced_words, points_words, extreme_words, missing_words}

-- the place of a restraint among the eight
abbrev pub place_of : Restraint → ℕ
place_of restraint.DriverFrontal = 0
place_of restraint.PassengerFrontal = 1
place_of restraint.DriverSide = 2
place_of restraint.PassengerSide = 3
place_of restraint.DriverCurtain = 4
place_of restraint.PassengerCurtain = 5
place_of restraint.DriverPretensioner = 6
place_of restraint.PassengerPretensioner = 7

-- what a line of what stood before time zero shows
abbrev pub pre_words : PrePart → Bool → PreLine → List ℕ
pre_words p locked Cycle = shown_count p.key.cycle
pre_words p locked TimeZero = milliseconds p.key.zero
pre_words p locked Events = events_in_crash p.place
pre_words p locked Between = time_between p.place
pre_words p locked Deployment = yes_no locked
pre_words p locked Profile = profile_word p.profile
pre_words p locked Speed = spaced_words (map number_or_none p.speed)
pre_words p locked Throttle = spaced_words (map number_or_none p.throttle)
pre_words p locked Brake = spaced_words (map switch_or_none p.brake)
pre_words p locked Belt = switch_or_none p.belt
pre_words p locked Lamp = switch_or_none p.lamp

-- what a line of what came after it shows
abbrev pub crash_words : CrashPart → CrashLine → List ℕ
crash_words c End = milliseconds c.end
crash_words c Along = points_words c.end c.along
crash_words c Across = points_words c.end c.across
crash_words c MaxAlong = extreme_words c.max_along
crash_words c MaxAcross = extreme_words c.max_across
crash_words c ResultAt = milliseconds c.result_at
crash_words c Missing = missing_words c.missing_along c.missing_across
crash_words c (Fired r) = firing_words (get_or c.fired (place_of r) None)

-- what a line of an event shows; where there is no crash part, each of its lines is `none`
abbrev pub event_words : ℕ → ℕ → Record → EventLine → List ℕ
event_words block bank r Number = decimal block
event_words block bank r Bank = decimal bank
event_words block bank r (Before l) = pre_words r.pre r.locked l
event_words block bank r (After l) = option_map_or (λ c. crash_words c l) r.crash none_word
event_words block bank r Complete = yes_no (is_complete r)
