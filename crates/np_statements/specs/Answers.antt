-- What the code gives of what there is: its value or its very fault, and want of memory at any time.
use Rattle.std.specs.Prelude.{◌≡◌, ℕ, List, Option, Some, None, IsOk, Result, Ok, Err}
use Rattle.std.specs.Borrow.{Bor}
use Rattle.np_statements.specs.Types.{EndFault, FileFault}
use Rattle.np_statements.specs.declared.end_fault.EndFault.TheVariants as ends
use Rattle.np_statements.specs.declared.file_fault.FileFault.TheVariants as file

-- of the statements of a file, or of the number of its first bad line
abbrev pub GivesLines : {X : Type 0} → Result X FileFault → Result X ℕ → Type 0
GivesLines (Ok x) found = found ≡ Ok x
GivesLines (Err (file.BadStatement line)) found = found ≡ Err line
GivesLines (Err file.NoMemory) found = Unit {0}

-- of ends, or of the name that no workload has
abbrev pub GivesEnds : {X : Type 0} → Result X EndFault → Result X (List ℕ) → Type 0
GivesEnds (Ok x) found = found ≡ Ok x
GivesEnds (Err (ends.UnknownEnd name)) found = found ≡ Err name
GivesEnds (Err ends.NoMemory) found = Unit {0}

-- of the name that no workload has, where there is one
abbrev pub TellsUnknown : {X : Type 0} → Option (Bor (List ℕ)) → Result X (List ℕ) → Type 0
TellsUnknown None found = IsOk found
TellsUnknown (Some name) found = found ≡ Err name.now
