-- Ends as words name them, and as they are printed.
use Rattle.std.specs.Prelude.{ℕ, List, Option, Some, None, Result, Ok, Err}
use Rattle.np_addr.specs.Prelude.{address_text}
use Rattle.np_command.specs.Types.{Fault, UnknownEnd}
use Rattle.np_args.specs.declared.end_word.EndWord.{EndWord}
use Rattle.np_args.specs.declared.end_word.EndWord.TheVariants as word

-- what is made of what has a name, or the fault that nothing has it
abbrev pub or_unknown : {X Y : Type 0} → List ℕ → (Y → X) → Option Y → Result X Fault
or_unknown name make (Some one) = Ok (make one)
or_unknown name make None = Err (UnknownEnd name)

-- an end as it is printed: an address in its canonical text, a pod or a workload as its word
abbrev pub end_text : EndWord → List ℕ
end_text (word.At address) = address_text address
end_text (word.Named name) = name
