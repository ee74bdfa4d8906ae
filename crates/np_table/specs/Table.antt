-- The table: what passes between workloads, and between workloads and addresses.
use Rattle.std.specs.Prelude.{ℕ, List, Bool, map}
use Rattle.np_table.specs.Types.{Direction, EstateLists, Family, PortSpot}
use Rattle.np_model.specs.Prelude.{families_of}
use Rattle.np_fold.specs.Prelude.{Folding, folding_of}
use Rattle.np_kinds.specs.Prelude.{address_allows, pair_allows}

-- The names of the workloads in their order, the families of the list, and what is allowed between two workloads in a
-- family, and between a workload and an address in a direction.
pub record Table : Type 0 where
  pub names : List (List ℕ)
  pub families : List Family
  pub pairs : ℕ → ℕ → Family → PortSpot → Bool
  pub addresses : ℕ → Direction → Family → ℕ → PortSpot → Bool

unfoldable pub table_of : EstateLists → Folding → Table
table_of lists folding = record { names = map (λ one. one.name) folding.workloads; families = families_of lists.pods; pairs = pair_allows lists folding; addresses = address_allows lists folding }

-- the table of an estate by its own workloads
abbrev pub estate_table : EstateLists → Table
estate_table lists = table_of lists (folding_of lists)
