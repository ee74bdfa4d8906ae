-- Policies whose parts are all well formed.
use Rattle.std.specs.Prelude.{Bool}
use Rattle.np_model.specs.Prelude.{is_well_admin_policy, is_well_base_policy, is_well_net_policy}
use Rattle.np_policies.specs.Types.{Policy}
use Rattle.np_policies.specs.declared.policy.Policy.TheVariants.{Net, Admin, Base}

-- whether all parts of the policy are well formed
abbrev pub is_well_policy : Policy → Bool
is_well_policy (Net policy) = is_well_net_policy policy
is_well_policy (Admin policy) = is_well_admin_policy policy
is_well_policy (Base policy) = is_well_base_policy policy
