-- Faults of items.
use Rattle.np_json.specs.declared.fault.ReadFault.{ReadFault}
use Rattle.np_json.specs.declared.fault.ReadFault.TheVariants as whole
use Rattle.np_items.specs.declared.fault.ItemsFault.{ItemsFault}
use Rattle.np_items.specs.declared.fault.ItemsFault.TheVariants.{Bad, NoMemory}

-- why an item was not read, as a fault of all
abbrev pub fault_of : ReadFault → ItemsFault
fault_of (whole.Bad fault) = Bad fault
fault_of whole.NoMemory = NoMemory
