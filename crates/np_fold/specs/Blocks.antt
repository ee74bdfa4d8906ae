-- The blocks of `networks` peers.
use Rattle.std.specs.Prelude.{List, []}
use Rattle.std.specs.List.{flat_map}
use Rattle.np_fold.specs.Types.{AdminPeer, Cidr, EstateLists}
use Rattle.np_model.specs.Prelude.{admin_peers}
use Rattle.np_model.specs.declared.admin_policy.AdminPeer.TheVariants.{Pods, Networks}

abbrev pub cidrs_of_peer : AdminPeer → List Cidr
cidrs_of_peer (Pods namespaces pods) = []
cidrs_of_peer (Networks cidrs) = cidrs

-- the blocks of all `networks` peers
abbrev pub cidrs_of_estate : EstateLists → List Cidr
cidrs_of_estate lists = flat_map cidrs_of_peer (admin_peers lists.admin_policies lists.baseline)
