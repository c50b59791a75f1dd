-- The places of an image in numbers. Definitions and code cite the constants; here each is what it is.
use Rattle.std.specs.Prelude.{◌≡◌}
use Rattle.edr_image.specs.declared.forms.TheConstants.{OLD_BANK_SIZE, OLD_CRASH_SIZE, OLD_MOST_BANKS, OLD_PRE_SIZE, VERSION_1, VERSION_2}
use Rattle.edr_image.specs.declared.places.TheConstants.{BANK_SIZE, BANKS, CHOICE, CRASH_PART, CRASH_SIZE, DONE_GATE, EVENT_GATE, FEWEST_BANKS, FIRST_SLOT, FRONT_SIZE, HEADER_END, LARGEST_IMAGE, LOCK_GATE, MOST_BANKS, OPEN_GATE, PRE_PART, PRE_SIZE, SECOND_SLOT, SLOT_COUNT, SLOT_SIZE, VERSION}
use Rattle.edr_image.specs.PartBytes.{pre_size, crash_size}
use Rattle.edr_image.specs.Image.{crash_place}

-- an image has 2 to 16 banks of 1,024 bytes after a front of 96, so 16,480 bytes at the most, and a gate is open at 165
pub record HasSizes : Type 0 where
  pub banks : (FEWEST_BANKS ≡ 2) × (MOST_BANKS ≡ 16)
  pub sizes : (FRONT_SIZE ≡ 96) × (BANK_SIZE ≡ 1024) × (LARGEST_IMAGE ≡ 16_480)
  pub gate : OPEN_GATE ≡ 165

-- in the front the header stands after the magic, and the two slots of the count after it
pub record HasFront : Type 0 where
  pub header : (VERSION ≡ 8) × (BANKS ≡ 10) × (CHOICE ≡ 11) × (HEADER_END ≡ 12)
  pub slots : (FIRST_SLOT ≡ 32) × (SECOND_SLOT ≡ 64) × (SLOT_SIZE ≡ 32)
  pub count : SLOT_COUNT ≡ 4

-- a bank has its three gates, then the pre part, then the crash part
pub record HasParts : Type 0 where
  pub gates : (EVENT_GATE ≡ 0) × (LOCK_GATE ≡ 1) × (DONE_GATE ≡ 2)
  pub pre : (PRE_PART ≡ 16) × (PRE_SIZE ≡ 848)
  pub crash : (CRASH_PART ≡ 864) × (CRASH_SIZE ≡ 160)

-- what each version lays down, that the places are those of version 2, and the limits and sizes of version 1
pub record HasVersions : Type 0 where
  pub version_1 :
      VERSION_1
      ≡ record {
        version = 1;
        most_banks = 16;
        bank = 512;
        pre = record { room = 11; zeros = 102; short = record { byte = 0; slots = 11 }; long = record { byte = 0; slots = 11 } };
        crash = record { zeros = 184 };
      }
  pub version_2 :
      VERSION_2
      ≡ record {
        version = 2;
        most_banks = 16;
        bank = 1024;
        pre = record { room = 201; zeros = 30; short = record { byte = 1; slots = 11 }; long = record { byte = 2; slots = 201 } };
        crash = record { zeros = 24 };
      }
  pub limits : (VERSION_2.most_banks ≡ MOST_BANKS) × (VERSION_1.most_banks ≡ OLD_MOST_BANKS) × (OLD_MOST_BANKS ≡ 16)
  pub places : (VERSION_2.bank ≡ BANK_SIZE) × (pre_size VERSION_2.pre ≡ PRE_SIZE) × (crash_place VERSION_2 ≡ CRASH_PART) × (crash_size VERSION_2.crash ≡ CRASH_SIZE)
  pub old_sizes : (OLD_BANK_SIZE ≡ 512) × (OLD_PRE_SIZE ≡ 160) × (OLD_CRASH_SIZE ≡ 320)
  pub old_parts : (pre_size VERSION_1.pre ≡ OLD_PRE_SIZE) × (crash_size VERSION_1.crash ≡ OLD_CRASH_SIZE)
