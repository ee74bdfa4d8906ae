-- What the errors print.
use Rattle.std.specs.Prelude.{ℕ, List, ◌++◌, codes, decimal}
use Rattle.np_addr.specs.declared.block.BlockFault.{BlockFault}
use Rattle.np_addr.specs.declared.block.BlockFault.TheVariants.{BadExcept, NoMemory}

-- why a block has no set
abbrev pub block_fault_text : BlockFault → List ℕ
block_fault_text (BadExcept place) = codes "the except at place " ++ decimal place ++ codes " is no strict part of its block"
block_fault_text NoMemory = codes "out of memory"
