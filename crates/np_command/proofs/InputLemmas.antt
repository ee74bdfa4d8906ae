-- What small inputs say is what they are read as. For crates above.
use Rattle.std.proofs.Common.{◌≡◌, Bool, true, false, Result, Ok, Err, refl}
use Rattle.std.specs.Prelude.{nat_le}
use Rattle.std.specs.Result.{result_flatten, result_map_both}
use Rattle.np_command.specs.Prelude.{EstateLists, Fault, Inputs, small_estate}
use Rattle.np_fold.specs.Prelude.{workload_count}
use Rattle.np_fold.specs.declared.workloads.TheConstants.{MOST_WORKLOADS}
use Rattle.np_reading.specs.Prelude.{Reading}

abbrev Reads : EstateLists → EstateLists → Type 0
Reads found lists = ◌≡◌ {A = Reading EstateLists} (Ok found) (Ok lists)

abbrev Kept : EstateLists → EstateLists → Type 0
Kept found lists = ◌≡◌ {A = Result EstateLists Fault} (Ok found) (Ok lists)

-- what is small enough was read
pub read-small : (reads : Reading EstateLists) (lists : EstateLists) → result_flatten (result_map_both small_estate Inputs reads) ≡ Ok lists → reads ≡ Ok lists
unfolding small_estate
read-small (Err refusal) lists read = absurd (cc)
read-small (Ok found) lists read = by (nat_le (workload_count found) MOST_WORKLOADS) refl read
  where
    by : (few : Bool) → nat_le (workload_count found) MOST_WORKLOADS ≡ few → result_flatten (result_map_both small_estate Inputs (Ok found)) ≡ Ok lists → Reads found lists
    by true is read = let same : Kept found lists = rw is at read in cc
    by false is read = absurd (let wrong = rw is at read in cc)
