-- How many rules are looked at for the rows of a table.
use Rattle.std.specs.Prelude.{◌≡◌, ℕ, ◌+◌, ◌*◌, [], None, length}
use Rattle.np_model.specs.declared.lists.EstateLists.{EstateLists}
use Rattle.np_fold.specs.Prelude.{folding_of}
use Rattle.np_table.specs.Prelude.{most_rules}

-- no policy of any sort is listed
pub record HasNoPolicies (lists : EstateLists) : Type 0 where
  pub admin : lists.admin_policies ≡ []
  pub net : lists.net_policies ≡ []
  pub baseline : lists.baseline ≡ None

-- what is due for all rows
abbrev pub due_for_all : EstateLists → ℕ
due_for_all lists = let folding = folding_of lists in (4 * length folding.workloads * folding.kind_count + 2 * length folding.workloads) * most_rules lists folding
