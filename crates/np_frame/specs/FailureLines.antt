-- Failures, as the lines that tell of them.
use Rattle.std.specs.Prelude.{ℕ, List, ◌++◌, codes}
use Rattle.np_command.specs.Prelude.{fault_text}
use Rattle.np_command.specs.declared.failure.Failure.{Failure}
use Rattle.np_command.specs.declared.failure.Failure.TheVariants.{CannotRead, CannotWrite, NoMemory, Refused, TooLarge, Usage}
use Rattle.np_frame.specs.OneLine.{one_line}

-- how the program is called, a line for each command
abbrev pub usage_text : List ℕ
usage_text =
    codes "usage: np list [--format text|csv|json] [--report 1|2] [--controller NAME] [--focus NAME] [--side either|from|to] [FILE]...\n"
    ++ codes "       np explain --from END --to END [FILE]...\n"
    ++ codes "       np exposure [--workload NAME] [--format text|csv|json] [FILE]...\n"
    ++ codes "       np evaluate --from END --to END --protocol P --port N [FILE]...\n"
    ++ codes "       np unused [FILE]...\n"
    ++ codes "       np check --statement FILE [FILE]...\n"
    ++ codes "       np flatten [FILE]...\n"
    ++ codes "       np sample N\n"

-- What fails, in one line: the names in it may have any characters.
abbrev pub error_line : List ℕ → List ℕ
error_line what = codes "error: " ++ one_line what ++ codes "\n"

abbrev pub failure_text : Failure → List ℕ
failure_text Usage = usage_text
failure_text (CannotRead name) = error_line (codes "cannot read " ++ name)
failure_text TooLarge = codes "error: TooLarge\n"
failure_text (Refused fault) = error_line (fault_text fault)
failure_text CannotWrite = codes "error: cannot write\n"
failure_text NoMemory = codes "error: out of memory\n"

-- the line of the failure names something: the other lines are constant
abbrev pub NamesSomething : Failure → Type 0
NamesSomething (CannotRead name) = Unit {0}
NamesSomething (Refused fault) = Unit {0}
NamesSomething Usage = ⊥
NamesSomething TooLarge = ⊥
NamesSomething CannotWrite = ⊥
NamesSomething NoMemory = ⊥
