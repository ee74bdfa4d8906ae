-- The sides of the pods that stand for two workloads, and how many rules speak of them.
use Rattle.std.specs.Prelude.{ℕ, ◌≡◌, ◌+◌, Bool}
use Rattle.np_table.specs.Types.{Egress, EstateLists, Family, Ingress, PortSpot}
use Rattle.np_kinds.specs.Prelude.{first_side, with_address}
use Rattle.np_rules.specs.Prelude.{PodSide, near_pod, pod, side_rule_count}

-- ---- pods

-- one side sends and the other receives, in one estate
pub record AreEnds (sender receiver : PodSide) : Type 0 where
  pub lists : receiver.lists ≡ sender.lists
  pub sends : sender.direction ≡ Egress
  pub receives : receiver.direction ≡ Ingress

-- whether packets between the pod of a side and an address of a family are allowed, in the direction of the side
abbrev pub side_with_address : PodSide → Family → ℕ → PortSpot → Bool
side_with_address side = with_address side.lists side.direction (pod (near_pod side))

-- ---- two workloads

-- how many rules speak of the first pods of two workloads, of the one as it sends and of the other as it receives
abbrev pub rules_of_pair : EstateLists → ℕ → ℕ → ℕ
rules_of_pair lists source destination = side_rule_count (first_side lists Egress source) + side_rule_count (first_side lists Ingress destination)
