-- One far end and what its spots stand for. For `PodRules::pod_layer`, `PodRules::pod_set` and 3 more.
use Rattle.std.proofs.Common.{◌≡◌, sym}
use Rattle.np_rules.specs.Prelude.{Contact, Direction, Family, ModelEnd, PortSpot, contact}

-- what the spots stand for, between ends that are known
pub same_contacts : (made : PortSpot → Contact) (direction : Direction) (near near' far far' : ModelEnd) (family : Family) → made ≡ contact direction near far family → near ≡ near' → far ≡ far' →
    made ≡ contact direction near' far' family
same_contacts made direction near near' far far' family is same_near same_far = rw (sym same_near, sym same_far) is
