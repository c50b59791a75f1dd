-- Reports and lines that are computed.
use Rattle.std.proofs.Common.{◌≡◌, refl, pos, negsuc, false, true, Some, None, [], ◌∷◌, replicate}
use Rattle.std.specs.{Prelude.codes, Fmt.digits}
use Rattle.csv.specs.Writing.{fields_text, is_blank, escaped}
use Rattle.edr_record.specs.declared.Place.TheVariants as place
use Rattle.edr_record.specs.declared.Profile.TheVariants as profile
use Rattle.edr_record.specs.{declared.Record.Record, Complete.is_complete}
use Rattle.edr_image.specs.declared.{Choice.TheVariants.{Keep, Overwrite}, BankView.TheVariants.{Void, Event, Damaged}}
use Rattle.edr_image.specs.declared.Applied.TheVariants as applied
use Rattle.edr_image.specs.declared.Kind.TheVariants as kind
use Rattle.edr_image.specs.{Banks.{Store, events, damaged_banks}, Reports.{Report, Ran, StartStopped}}
use Rattle.edr_report.specs.{Words.time_between, Report.{event_lines, report_lines, report_text, report_table}}
use Rattle.edr_report.specs.Format.{format_line, live_line, migrate_line}

abbrev fresh : Store
fresh = record { header = record { banks = 2; choice = Keep }; banks = Void ∷ Void ∷ [] }

-- a cycle without items, and no cycle, as text and as a table
empty-cycle : report_text (Ran 1 None [] ∷ []) fresh 1 ≡ codes "cycle 1: number 1, power off\nignition cycle, download: 1\n"
unfolding report_lines events damaged_banks digits
empty-cycle = refl

empty-run : report_text [] fresh 0 ≡ codes "ignition cycle, download: 0\n"
unfolding report_lines events damaged_banks digits
empty-run = refl

empty-table : report_table [] fresh 0 ≡ codes "block,name,value\n0,\"ignition cycle, download\",0\n"
unfolding report_lines events damaged_banks digits fields_text is_blank escaped
empty-table = refl

-- a start that was stopped
stopped-start : report_text (StartStopped 5 ∷ []) fresh 1 ≡ codes "cycle 1: start stopped in call 5\nignition cycle, download: 1\n"
unfolding report_lines events damaged_banks digits
stopped-start = refl

-- a realistic crash
abbrev crash : Record
crash = record {
  pre = record {
    key = record { cycle = 1; zero = 6003 };
    place = place.First;
    profile = profile.Short;
    speed = replicate 11 (Some 50);
    throttle = replicate 11 (Some 20);
    brake = replicate 11 (Some false);
    belt = Some true;
    lamp = Some false;
  };
  locked = false;
  crash = Some (record {
    end = 115;
    along =
        pos 0 ∷ negsuc 3 ∷ negsuc 7 ∷ negsuc 11 ∷ negsuc 15 ∷ negsuc 19 ∷ negsuc 23 ∷ negsuc 27 ∷ negsuc 31 ∷ negsuc 35
        ∷ negsuc 38 ∷ negsuc 38 ∷ negsuc 38 ∷ negsuc 38 ∷ negsuc 38
        ∷ replicate 11 (pos 0);
    across = replicate 26 (pos 0);
    max_along = record { kmh = negsuc 38; at = 97 };
    max_across = record { kmh = pos 0; at = 0 };
    result_at = 97;
    missing_along = 0;
    missing_across = 0;
    fired = replicate 8 None;
  });
}

abbrev crash_report : Report
crash_report =
    Ran 1 None (record { tick = 6020; kind = kind.Take; applied = applied.Kept 1 } ∷ record { tick = 6148; kind = kind.Done; applied = applied.Done 1 } ∷ [])

abbrev crash_store : Store
crash_store = record fresh { banks = Event crash ∷ Void ∷ [] }

crash-text : report_text (crash_report ∷ []) crash_store 1 ≡
    codes "cycle 1: number 1, power off\ncycle 1 take at 6020: bank 1\ncycle 1 done at 6148: bank 1\nevent: 1\nbank: 1\nignition cycle, crash: 1\ntime zero: 6003 ms\nmulti-event, number of events: 1\ntime from event 1 to 2: none\ndeployment event: no\npre-crash profile: short\nspeed, km/h: 50 50 50 50 50 50 50 50 50 50 50\nthrottle, %: 20 20 20 20 20 20 20 20 20 20 20\nservice brake: off off off off off off off off off off off\ndriver belt: on\nfrontal air bag warning lamp: off\nend of event: 115 ms\ndelta-V longitudinal, km/h: 0 -4 -8 -12 -16 -20 -24 -28 -32 -36 -39 -39 -39 -39 -39\ndelta-V lateral, km/h: 0 0 0 0 0 0 0 0 0 0 0 0 0 0 0\nmaximum delta-V longitudinal: -39 km/h at 97 ms\nmaximum delta-V lateral: 0 km/h at 0 ms\ntime of maximum resultant: 97 ms\nticks without sample: 0 longitudinal, 0 lateral\ndriver frontal deployment: none\npassenger frontal deployment: none\ndriver side deployment: none\npassenger side deployment: none\ndriver curtain deployment: none\npassenger curtain deployment: none\ndriver pretensioner deployment: none\npassenger pretensioner deployment: none\ncomplete file recorded: yes\nignition cycle, download: 1\n"
unfolding report_lines event_lines events damaged_banks digits is_complete
crash-text = refl

-- a damaged bank, and a count that is shown as at most 60000
damaged-line : report_text [] (record fresh { banks = Void ∷ Damaged 28 9 true ∷ [] }) 60_001 ≡ codes "bank 2: damaged at 28 found 9 locked yes\nignition cycle, download: 60000\n"
unfolding report_lines events damaged_banks digits
damaged-line = refl

-- tenths of a second are rounded half up
rounded-down : time_between (place.Second 2_949) ≡ codes "2.9 s"
unfolding digits
rounded-down = refl

rounded-up : time_between (place.Second 2_950) ≡ codes "3.0 s"
unfolding digits
rounded-up = refl

-- the line of a format
keep-line : format_line (record { banks = 2; choice = Keep }) ≡ codes "formatted: 2 banks, keep\n"
unfolding digits
keep-line = refl

overwrite-line : format_line (record { banks = 16; choice = Overwrite }) ≡ codes "formatted: 16 banks, overwrite\n"
unfolding digits
overwrite-line = refl

-- the line of a migration
migrated-line : migrate_line 1 4_294_967_295 ≡ codes "migrated: 1 events, count 4294967295\n"
unfolding digits
migrated-line = refl

-- the line of a cycle beside which a reader was
live_first-line : live_line 1 2 1 ≡ codes "live: cycle 1, 2 commands, 1 events\n"
unfolding digits
live_first-line = refl

live_last-line : live_line 4_294_967_295 4_294_967_295 16 ≡ codes "live: cycle 4294967295, 4294967295 commands, 16 events\n"
unfolding digits
live_last-line = refl
