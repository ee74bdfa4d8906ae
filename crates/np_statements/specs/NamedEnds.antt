-- The pods and the addresses that a form names.
use Rattle.std.specs.Prelude.{◌≡◌, ℕ, true, IsSomeAnd, slice_get}
use Rattle.np_addr.specs.Prelude.{cidr_has}
use Rattle.np_statements.specs.Types.{Address, Addresses, Block, EndForm, EstateLists, Namespace, Pods, Work}
use Rattle.np_fold.specs.Prelude.{folding_of, name_of_workload, workload_number}

-- the form names the pod at a place
abbrev pub NamesPod : EstateLists → EndForm → ℕ → Type 0
NamesPod lists Pods place = Unit {0}
NamesPod lists (Namespace name) place = IsSomeAnd (slice_get lists.pods place) (λ pod. pod.namespace ≡ name)
NamesPod lists (Work name) place = name_of_workload (folding_of lists) (workload_number lists place) ≡ name
NamesPod lists other place = ⊥

-- it names the address
abbrev pub NamesAddress : EndForm → Address → Type 0
NamesAddress Addresses address = Unit {0}
NamesAddress (Block cidr) address = cidr_has cidr address ≡ true
NamesAddress other address = ⊥
