-- What each policy of the sample is read as. For ReadingLemmas.
use Rattle.std.proofs.Common.{◌≡◌, ℕ, Some, Ok, refl}
use Rattle.std.specs.Fmt.{digits}
use Rattle.np_addr.specs.Prelude.{address_of, cidr_of, ipv4_of, length_of, numeral_of, octet_of, octets_of}
use Rattle.np_items.specs.Prelude.{item_of, must_be_no_list}
use Rattle.np_json.specs.Prelude.{labels, listed, must_be_object, name, namespace, namespaced_name, optional, port, protocol_name, refuse_if, refuse_member_if, required, type_meta, under}
use Rattle.np_policies.specs.AdminPolicies as admins
use Rattle.np_policies.specs.Prelude.{cidr, container_port_name, end_port, ip_block, net_port, policy_by, policy_of, port_value, protocol, selector}
use Rattle.np_policies.specs.NetworkPolicies as nets
use Rattle.np_sample.specs.Objects as spec
use Rattle.np_command_sample.specs.Prelude.{sample_block}
use Rattle.np_command_sample.proofs.Items.{admin_policy_item, net_policy_item}

pub item_of-admin_policy : (number : ℕ) → item_of number spec.sample_admin_policy ≡ Ok admin_policy_item
unfolding item_of must_be_no_list type_meta required optional listed under must_be_object refuse_if refuse_member_if name labels policy_of policy_by selector admins.all_pods admins.namespace_selector
    admins.some_pods admins.subject admins.ingress_peer admins.admin_peers admins.action admins.admin_rule admins.admin_rules admins.priority admins.object_name admins.admin_spec admins.admin_policy
item_of-admin_policy number = refl

-- ---- blocks

abbrev IsBlock : ℕ → Type 0
IsBlock j = cidr_of (spec.block_text j) ≡ Some (sample_block j)

blocks : IsBlock 0 × IsBlock 1 × IsBlock 2 × IsBlock 3 × IsBlock 4
unfolding cidr_of address_of length_of numeral_of ipv4_of octets_of octet_of digits
blocks = (refl, refl, refl, refl, refl)

-- ---- NetworkPolicies

abbrev IsRead : ℕ → Type 0
IsRead j = (number : ℕ) → item_of number (spec.sample_net_policy j) ≡ Ok (net_policy_item j)

pub net_policies_read : IsRead 0 × IsRead 1 × IsRead 2 × IsRead 3 × IsRead 4
unfolding item_of must_be_no_list type_meta required optional listed under must_be_object refuse_if name namespace namespaced_name labels port policy_of policy_by selector cidr ip_block end_port
    net_port container_port_name port_value protocol_name protocol nets.net_peer nets.net_rule nets.net_rules nets.policy_type nets.net_spec nets.net_policy_by nets.net_policy digits
net_policies_read = (
  (λ number. rw blocks.0 refl),
  (λ number. rw blocks.1 refl),
  (λ number. rw blocks.2 refl),
  (λ number. rw blocks.3 refl),
  (λ number. rw blocks.4 refl),
)
