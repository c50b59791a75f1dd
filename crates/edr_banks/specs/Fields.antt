-- The fields of opened banks as contracts see them.
use Rattle.edr_banks.specs.declared.Banks.TheInside.{Inside}
use Rattle.edr_banks.specs.Opened.{OpenedBanks}

abbrev pub opened_of : Inside → OpenedBanks
opened_of b = record { store = record { header = b.header; banks = b.banks.items }; count = b.count; held = b.held; ended = b.ended }
