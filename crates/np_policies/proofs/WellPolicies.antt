-- What is read of any policy is well formed. For `read_policy` and crates above.
use Rattle.std.proofs.Common.{◌≡◌, ℕ, true, Option, Some, None, codes, Result, Ok, Err, IfOk, refl}
use Rattle.serde_json.specs.Data.{Data}
use Rattle.np_model.specs.Prelude.{option_all}
use Rattle.np_json.specs.Prelude.{GivesItem, refuse, type_meta}
use Rattle.np_policies.specs.Prelude.{Admin, Base, Field, Foreign, ForeignPolicy, Net, NoPolicy, Policy, PolicyKind, admin_policy, base_policy, is_well_policy, net_policy, policy_by, policy_kind, policy_of}
use Rattle.np_json.specs.declared.fault.ReadFault.{ReadFault}
use Rattle.np_json.proofs.ReadLemmas.{under-output}
use Rattle.np_policies.proofs.ReadLemmas.{bind-output}
use Rattle.np_policies.specs.declared.policy.Policy.TheVariants as policy
use Rattle.np_policies.proofs.WellNetwork.{net_policy-well}
use Rattle.np_policies.proofs.WellAdmin.{admin_policy-well, base_policy-well}

by_kind-well : (kind : PolicyKind) (value : Data) (read : Policy) → policy_by kind value ≡ Ok (Some read) → is_well_policy read ≡ true
unfolding policy_by
by_kind-well Net value read is =
    let one = bind-output (net_policy value) (λ one. Ok (Some (policy.Net one))) (Some read) is in
    let made : policy.Net one.first ≡ read = let after = one.after in cc in
    rw (← made) (net_policy-well value one.first one.here)
by_kind-well Admin value read is =
    let one = bind-output (admin_policy value) (λ one. Ok (Some (policy.Admin one))) (Some read) is in
    let made : policy.Admin one.first ≡ read = let after = one.after in cc in
    rw (← made) (admin_policy-well value one.first one.here)
by_kind-well Base value read is =
    let one = bind-output (base_policy value) (λ one. Ok (Some (policy.Base one))) (Some read) is in
    let made : policy.Base one.first ≡ read = let after = one.after in cc in
    rw (← made) (base_policy-well value one.first one.here)
by_kind-well Foreign value read is =
    let none = under-output (Field (codes "kind")) (refuse ForeignPolicy) (Some read) is in
    cc
by_kind-well NoPolicy value read is = cc

-- each policy that is read is well formed
pub policy-well : (value : Data) (read : Policy) → policy_of value ≡ Ok (Some read) → is_well_policy read ≡ true
unfolding policy_of
policy-well value read is =
    let meta = bind-output (type_meta value) (λ meta. policy_by (policy_kind meta) value) (Some read) is in
    by_kind-well (policy_kind meta.first) value read meta.after

-- what is given of an item, if it is a policy, is well formed
pub item-well : (number : ℕ) (result : Result (Option Policy) ReadFault) (value : Data) → GivesItem number result (policy_of value) → IfOk result (λ read. option_all is_well_policy read ≡ true)
item-well number (Ok None) value gives = refl
item-well number (Ok (Some read)) value gives = policy-well value read gives
item-well number (Err fault) value gives = tt
