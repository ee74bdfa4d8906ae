-- How it is told why a line gave no statement, a file none, or statements no ends.
use Rattle.std.specs.Prelude.{ℕ, List, ◌++◌, codes, decimal}
use Rattle.np_statements.specs.Types.{EndFault, FileFault}
use Rattle.np_statements.specs.declared.end_fault.EndFault.TheVariants as ends
use Rattle.np_statements.specs.declared.file_fault.FileFault.TheVariants as file
use Rattle.np_statements.specs.declared.statement_text.StatementFault.{StatementFault}
use Rattle.np_statements.specs.declared.statement_text.StatementFault.TheVariants as statement

abbrev pub statement_fault_text : StatementFault → List ℕ
statement_fault_text statement.BadStatement = codes "not a statement"
statement_fault_text statement.NoMemory = codes "out of memory"

abbrev pub end_fault_text : EndFault → List ℕ
end_fault_text (ends.UnknownEnd name) = codes "no workload is named " ++ name
end_fault_text ends.NoMemory = codes "out of memory"

abbrev pub file_fault_text : FileFault → List ℕ
file_fault_text (file.BadStatement line) = codes "line " ++ decimal line ++ codes " is no statement"
file_fault_text file.NoMemory = codes "out of memory"
