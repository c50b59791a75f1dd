-- When a record has every element.
use Rattle.std.specs.Prelude.{Bool, false, ◌&&◌, is_some, nat_eq}
use Rattle.std.specs.List.{list_all}
use Rattle.std.specs.Option.{option_map_or}
use Rattle.edr_record.specs.Parts.{PrePart, CrashPart}
use Rattle.edr_record.specs.declared.Record.{Record}

-- none of the slots of its profile is absent, 605 of a long part and 35 of a short one
abbrev pub has_all_slots : PrePart → Bool
has_all_slots p =
    list_all is_some p.speed && list_all is_some p.throttle && list_all is_some p.brake && is_some p.belt && is_some p.lamp

-- no tick is without its sample, on either axis
abbrev pub misses_no_tick : CrashPart → Bool
misses_no_tick c = nat_eq c.missing_along 0 && nat_eq c.missing_across 0

-- the record has a crash part, all its slots and all its samples (563.7 Table I, complete file recorded)
unfoldable pub is_complete : Record → Bool
is_complete r = has_all_slots r.pre && option_map_or misses_no_tick r.crash false
