-- The sides of some pods, and which of these policies speak of.
use Rattle.std.specs.Prelude.{◌≡◌, All, map}
use Rattle.np_reach.specs.Marks.{IsSpoken}
use Rattle.np_reach.specs.Reach.{admin_reaches, net_reaches}
use Rattle.np_reach.specs.declared.reach.SpokenSides.{SpokenSides}
use Rattle.np_rules.specs.Prelude.{pod, pod_end}

-- the policies are those of the estate, and each is known to speak of the pods that it speaks of
pub record AreSides (sides : SpokenSides) : Type 0 where
  pub net_policies : map (λ one. one.policy.now) sides.net.now ≡ sides.estate.now.net_policies
  pub net : All (λ one. IsSpoken (λ far. net_reaches sides.direction (pod (pod_end far.now)) one.policy.now) sides.pods.now one.far.items) sides.net.now
  pub admin_policies : map (λ one. one.policy.now) sides.admin.now ≡ sides.estate.now.admin_policies
  pub admin : All (λ one. IsSpoken (λ far. admin_reaches sides.direction (pod (pod_end far.now)) one.policy.now) sides.pods.now one.far.items) sides.admin.now
