-- How it is told why a whole input was not read.
use Rattle.std.specs.Prelude.{ℕ, List, codes}
use Rattle.np_io.specs.declared.whole.WholeFault.{WholeFault}
use Rattle.np_io.specs.declared.whole.WholeFault.TheVariants.{InputFailed, TooLarge, NoMemory}

abbrev pub whole_fault_text : WholeFault → List ℕ
whole_fault_text InputFailed = codes "cannot read"
whole_fault_text TooLarge = codes "too large"
whole_fault_text NoMemory = codes "out of memory"
