-- What the inputs say, or why they are refused.
use Rattle.std.specs.Prelude.{◌≡◌, ℕ, List, Result, Ok, Err, if◌then◌else◌, nat_le}
use Rattle.std.specs.Result.{result_flatten, result_map_both}
use Rattle.np_reading.specs.Prelude.{estate_of}
use Rattle.np_command.specs.Types.{CannotRead, CannotWrite, EstateLists, Failure, Fault, Inputs, NoMemory, Refused, TooLarge, TooManyWorkloads, Usage}
use Rattle.np_fold.specs.Prelude.{workload_count}
use Rattle.np_fold.specs.declared.workloads.TheConstants.{MOST_WORKLOADS}

-- the estate, unless it has too many workloads
unfoldable pub small_estate : EstateLists → Result EstateLists Fault
small_estate lists = if nat_le (workload_count lists) MOST_WORKLOADS then Ok lists else Err (TooManyWorkloads (workload_count lists))

-- what all inputs say together, or the first fault
abbrev pub lists_of : List (List ℕ) → Result EstateLists Fault
lists_of texts = result_flatten (result_map_both small_estate Inputs (estate_of texts))

-- A refusal is for the fault that there is. Memory may be refused at any time.
abbrev pub Refuses : {X : Type 0} → Failure → Result X Fault → Type 0
Refuses (Refused fault) found = found ≡ Err fault
Refuses NoMemory found = Unit {0}
Refuses Usage found = ⊥
Refuses (CannotRead name) found = ⊥
Refuses TooLarge found = ⊥
Refuses CannotWrite found = ⊥

-- what the code gives is what there is, or its very fault
abbrev pub Gives : {X : Type 0} → Result X Failure → Result X Fault → Type 0
Gives (Ok x) found = found ≡ Ok x
Gives (Err failure) found = Refuses failure found
