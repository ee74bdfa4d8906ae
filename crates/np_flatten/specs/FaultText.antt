-- How it is told why an estate has no flat policies.
use Rattle.std.specs.Prelude.{ℕ, List, ◌++◌, codes, decimal}
use Rattle.np_flatten.specs.Types.{Alike, FlatFault, NoMemory, Split}

abbrev pub flat_fault_text : FlatFault → List ℕ
flat_fault_text (Split source destination) = codes "Split " ++ decimal source ++ codes ", " ++ decimal destination
flat_fault_text (Alike a b) = codes "Alike " ++ decimal a ++ codes ", " ++ decimal b
flat_fault_text NoMemory = codes "out of memory"
