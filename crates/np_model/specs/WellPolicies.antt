-- Policies whose parts are all well formed.
use Rattle.std.specs.Prelude.{◌-◌, ◌%◌, ◌^◌, List, length, Bool, true, false, not, ◌&&◌, ◌==◌, nat_le, is_none}
use Rattle.std.specs.List.{list_all}
use Rattle.np_addr.specs.Prelude.{first_bad_except}
use Rattle.np_addr.specs.declared.cidr.Cidr.{Cidr}
use Rattle.np_addr.specs.declared.cidr.Cidr.TheVariants.{Four, Six}
use Rattle.np_model.specs.Words.{is_name, is_word, is_whole_word}
use Rattle.np_labels.specs.WellFormed as labels
use Rattle.np_model.specs.Types.{AdminPeer, AdminPolicy, NetPolicy, Requirement, Selector}
use Rattle.np_model.specs.declared.admin_policy.Action.{Action}
use Rattle.np_model.specs.declared.admin_policy.Action.TheVariants.{Allow, Deny, Pass}
use Rattle.np_model.specs.declared.admin_policy.AdminPeer.TheVariants as admin_peer
use Rattle.np_model.specs.declared.admin_policy.AdminPort.{AdminPort}
use Rattle.np_model.specs.declared.admin_policy.AdminPort.TheVariants as admin_port
use Rattle.np_model.specs.declared.admin_policy.AdminRule.{AdminRule}
use Rattle.np_model.specs.declared.admin_policy.BasePolicy.{BasePolicy}
use Rattle.np_model.specs.declared.admin_policy.Subject.{Subject}
use Rattle.np_model.specs.declared.network_policy.NetPeer.{NetPeer}
use Rattle.np_model.specs.declared.network_policy.NetPeer.TheVariants as net_peer
use Rattle.np_model.specs.declared.network_policy.NetPort.{NetPort}
use Rattle.np_model.specs.declared.network_policy.NetPort.TheVariants as net_port
use Rattle.np_model.specs.declared.network_policy.NetRule.{NetRule}
use Rattle.np_model.specs.WellObjects.{option_all}

-- a key, and values that are words
abbrev pub is_worded : Requirement → Bool
is_worded one = is_whole_word one.key && list_all is_word one.values

-- requirements that are well formed, of words
abbrev pub is_well_selector : Selector → Bool
is_well_selector selector = labels.has_well_requirements selector && list_all is_worded selector.requirements

-- a length that the family has, and no bit behind that many
abbrev pub is_well_cidr : Cidr → Bool
is_well_cidr (Four base len) = nat_le len 32 && base % 2 ^ (32 - len) == 0
is_well_cidr (Six base len) = nat_le len 128 && base % 2 ^ (128 - len) == 0

-- a block, and blocks that are strict parts of it
abbrev pub is_well_block : Cidr → List Cidr → Bool
is_well_block block excepts = is_well_cidr block && list_all is_well_cidr excepts && is_none (first_bad_except block excepts)

abbrev pub is_well_net_peer : NetPeer → Bool
is_well_net_peer (net_peer.Pods namespaces pods) = option_all is_well_selector namespaces && option_all is_well_selector pods
is_well_net_peer (net_peer.Block block excepts) = is_well_block block excepts

abbrev pub is_well_net_port : NetPort → Bool
is_well_net_port (net_port.Span proto lo hi) = nat_le lo hi
is_well_net_port (net_port.Named proto name) = is_whole_word name

abbrev pub is_well_net_rule : NetRule → Bool
is_well_net_rule rule = list_all is_well_net_peer rule.peers && list_all is_well_net_port rule.ports

abbrev pub is_well_net_policy : NetPolicy → Bool
is_well_net_policy policy =
    is_name policy.namespace && is_name policy.name && is_well_selector policy.subject
    && option_all (λ rules. list_all is_well_net_rule rules) policy.ingress
    && option_all (λ rules. list_all is_well_net_rule rules) policy.egress

abbrev pub is_well_subject : Subject → Bool
is_well_subject subject = is_well_selector subject.namespaces && is_well_selector subject.pods

abbrev pub is_well_admin_peer : AdminPeer → Bool
is_well_admin_peer (admin_peer.Pods namespaces pods) = is_well_selector namespaces && is_well_selector pods
is_well_admin_peer (admin_peer.Networks cidrs) = list_all is_well_cidr cidrs

abbrev pub is_well_admin_port : AdminPort → Bool
is_well_admin_port (admin_port.Span proto lo hi) = nat_le lo hi
is_well_admin_port (admin_port.Named name) = is_whole_word name

-- peers, at least one, and ports
abbrev pub is_well_admin_rule : AdminRule → Bool
is_well_admin_rule rule = not (length rule.peers == 0) && list_all is_well_admin_peer rule.peers && list_all is_well_admin_port rule.ports

abbrev pub is_well_admin_policy : AdminPolicy → Bool
is_well_admin_policy policy =
    is_name policy.name && nat_le policy.priority 1000 && is_well_subject policy.subject
    && list_all is_well_admin_rule policy.ingress && list_all is_well_admin_rule policy.egress

abbrev pub is_decision : Action → Bool
is_decision Allow = true
is_decision Deny = true
is_decision Pass = false

-- a rule that does not pass
abbrev pub is_well_base_rule : AdminRule → Bool
is_well_base_rule rule = is_decision rule.action && is_well_admin_rule rule

abbrev pub is_well_base_policy : BasePolicy → Bool
is_well_base_policy policy =
    is_well_subject policy.subject && list_all is_well_base_rule policy.ingress && list_all is_well_base_rule policy.egress
