-- Why an estate is not folded, as a text.
use Rattle.std.specs.Prelude.{ℕ, List, ◌++◌, codes, decimal}
use Rattle.np_fold.specs.declared.fold_fault.FoldFault.{FoldFault}
use Rattle.np_fold.specs.declared.fold_fault.FoldFault.TheVariants.{TooManyWorkloads, NoMemory}

-- `TooManyWorkloads 2001`
abbrev pub fold_fault_text : FoldFault → List ℕ
fold_fault_text (TooManyWorkloads count) = codes "TooManyWorkloads " ++ decimal count
fold_fault_text NoMemory = codes "out of memory"
