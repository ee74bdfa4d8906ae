-- Peers and rules that may stand for addresses, by their kind.
use Rattle.std.specs.Prelude.{◌≡◌, Bool, true, false}
use Rattle.std.proofs.Common.{refl, sym}
use Rattle.std.proofs.lemmas.Bool.{false≢true}
use Rattle.std.specs.List.{list_any}
use Rattle.np_addr.specs.Prelude.{cidr_has}
use Rattle.np_rules.specs.Types.{Address, AdminPeer, AdminRule, Cidr, NetPeer, NetRule}
use Rattle.np_model.specs.declared.admin_policy.AdminPeer.TheVariants as admin
use Rattle.np_model.specs.declared.network_policy.NetPeer.TheVariants as net
use Rattle.np_rules.specs.EveryAddress.{admin_peer_has, net_peer_has}
use Rattle.np_rules.specs.model.Rules.{none_or_any}

-- ---- kinds

abbrev pub is_cidr : Cidr → Bool
is_cidr cidr = true

abbrev pub is_block : NetPeer → Bool
is_block (net.Pods namespaces pods) = false
is_block (net.Block cidr excepts) = true

abbrev pub is_networks : AdminPeer → Bool
is_networks (admin.Pods namespaces pods) = false
is_networks (admin.Networks cidrs) = true

-- ---- what is of no such kind stands for no address

pub none_of_other_cidrs : (cidr : Cidr) (a : Address) → is_cidr cidr ≡ false → cidr_has cidr a ≡ false
none_of_other_cidrs cidr a none = absurd (false≢true (sym none))

pub none_of_pods : (peer : NetPeer) (a : Address) → is_block peer ≡ false → net_peer_has peer a ≡ false
none_of_pods (net.Pods namespaces pods) a none = refl
none_of_pods (net.Block cidr excepts) a none = absurd (false≢true (sym none))

pub none_of_admin_pods : (peer : AdminPeer) (a : Address) → is_networks peer ≡ false → admin_peer_has peer a ≡ false
none_of_admin_pods (admin.Pods namespaces pods) a none = refl
none_of_admin_pods (admin.Networks cidrs) a none = absurd (false≢true (sym none))

-- ---- rules

-- whether a rule may match an address: without peers it matches every one
abbrev pub net_rule_of_addresses : NetRule → Bool
net_rule_of_addresses rule = none_or_any is_block rule.peers

abbrev pub admin_rule_of_addresses : AdminRule → Bool
admin_rule_of_addresses rule = list_any is_networks rule.peers
