-- `flatten`: one tier of NetworkPolicies with the same verdicts.
use Rattle.std.specs.Prelude.{ℕ, List, [], ◌++◌, ◌==◌, codes, Option, Some, None, Result, Ok, Err, if◌then◌else◌}
use Rattle.np_command_flatten.specs.Types.{Alike, EstateLists, Fault, FlatFault, NoMemory, Split}
use Rattle.np_command.specs.declared.fault.Fault.TheVariants as fault
use Rattle.np_fold.specs.Prelude.{folding_of, name_of_workload}
use Rattle.np_manifests.specs.Lists.{list_line, policy_text}
use Rattle.np_flatten.specs.Prelude.{flat_fault, flat_policies, flat_policy}
use Rattle.np_kinds.specs.Prelude.{IsWorkload}

-- the policies of all groups as one line
unfoldable pub flatten_text : EstateLists → List ℕ
flatten_text lists = list_line (flat_policies lists)

-- the text of the policy of a group, behind a comma but for the first
unfoldable pub item_text : EstateLists → ℕ → List ℕ
item_text lists group = (if group == 0 then [] else codes ",") ++ policy_text (flat_policy lists group)

-- The policies, or the two workloads for which there are none; want of memory is no fault of an estate.
abbrev pub policies_unless : EstateLists → Option FlatFault → Result (List ℕ) Fault
policies_unless lists None = Ok (flatten_text lists)
policies_unless lists (Some (Split source destination)) = Err (fault.Split (name_of_workload (folding_of lists) source) (name_of_workload (folding_of lists) destination))
policies_unless lists (Some (Alike a b)) = Err (fault.Alike (name_of_workload (folding_of lists) a) (name_of_workload (folding_of lists) b))
policies_unless lists (Some NoMemory) = Ok (flatten_text lists)

-- a fault of two workloads speaks of workloads of the estate
abbrev pub AreWorkloads : EstateLists → FlatFault → Type 0
AreWorkloads lists (Split source destination) = IsWorkload lists source × IsWorkload lists destination
AreWorkloads lists (Alike a b) = IsWorkload lists a × IsWorkload lists b
AreWorkloads lists NoMemory = Unit {0}

unfoldable pub flatten_reply : EstateLists → Result (List ℕ) Fault
flatten_reply lists = policies_unless lists (flat_fault lists)
