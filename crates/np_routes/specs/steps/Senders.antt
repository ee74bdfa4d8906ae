-- The end that sends what comes through ingresses, as the code asks it.
use Rattle.std.specs.Prelude.{ℕ, ◌*◌, ◌+◌, List, length, Bool, ◌&&◌, Option, Some, None}
use Rattle.std.specs.List.{list_any}
use Rattle.np_routes.specs.Types.{Egress, EstateLists, Family, Ingress, PortSpot, Sender, Stranger}
use Rattle.np_model.specs.Prelude.{families_of}
use Rattle.np_routes.specs.Controllers.{any_controller}
use Rattle.np_routes.specs.Routes.{is_routed}
use Rattle.np_routes.specs.declared.senders.Sender.TheVariants.{Pod, Anyone}
use Rattle.np_rules.specs.Prelude.{PodSide, near_pod, pod_at, side_allows, side_of, side_rule_count, with_stranger}
use Rattle.np_table.specs.Prelude.{AreEnds}
use Rattle.np_kinds.specs.Prelude.{between_pods, first_side}

-- the first pod of the controller, or one that is not known
abbrev pub sender_for : EstateLists → Option ℕ → Sender
sender_for lists None = Anyone any_controller
sender_for lists (Some controller) = Pod (first_side lists Egress controller)

-- a sender that is a pod sends, and the receiver receives, in one estate
abbrev pub IsReceiver : Sender → PodSide → Type 0
IsReceiver (Pod sender) receiver = AreEnds sender receiver
IsReceiver (Anyone stranger) receiver = Unit {0}

-- whether the receiver's side allows what comes from a stranger
abbrev pub receives : Stranger → PodSide → PortSpot → Bool
receives stranger receiver spot = side_allows receiver.lists receiver.direction (near_pod receiver) (with_stranger stranger receiver spot)

-- whether the sender may send to the receiver, where it is a pod in some of these families
abbrev pub sends : Sender → PodSide → List Family → PortSpot → Bool
sends (Pod sender) receiver families spot = list_any (λ family. between_pods sender.lists sender.pod receiver.pod family spot) families
sends (Anyone stranger) receiver families spot = receives stranger receiver spot

-- whether a port of the pod at a place is reached: a route leads to it, and the sender may send to it in some family of the list
abbrev pub reaches : EstateLists → Sender → ℕ → PortSpot → Bool
reaches lists sender place spot = is_routed lists (pod_at lists place) spot && sends sender (side_of lists place Ingress) (families_of lists.pods) spot

-- how many rules may be looked at
abbrev pub send_steps : Sender → PodSide → List Family → ℕ
send_steps (Pod sender) receiver families = length families * (side_rule_count sender + side_rule_count receiver)
send_steps (Anyone stranger) receiver families = side_rule_count receiver
