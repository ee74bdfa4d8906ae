-- The flat policies: one NetworkPolicy for each group.
use Rattle.std.specs.Prelude.{ℕ, List, [], ◌∷◌, ◌++◌, ◌&&◌, ◌==◌, map, find, flat_map, codes, decimal, Option, Some, None, option_map, if◌then◌else◌}
use Rattle.np_addr.specs.Prelude.{AddressRanges, prefixes_of}
use Rattle.np_classes.specs.Classes.{places}
use Rattle.np_conns.specs.Prelude.{Conns}
use Rattle.np_flatten.specs.Types.{AddressRow, AddressSpan, Block, Direction, Egress, EstateLists, Ingress, NetPeer, NetPolicy, NetRule, Pods, Selector}
use Rattle.np_flatten.specs.Faults.{is_defined, set_of}
use Rattle.np_flatten.specs.Groups.{first_of_group, group_count, group_of, relevant}
use Rattle.np_kinds.specs.Prelude.{first_end, number_of_workloads}
use Rattle.np_flatten.specs.Ports.{ports_of}
use Rattle.np_flatten.specs.Selecting.{namespace_named, selector_of_keys}
use Rattle.np_table.specs.Prelude.{address_rows, estate_table, is_nothing}
use Rattle.np_table.specs.declared.rows.AddressSpan.TheVariants as span

-- ---- groups as selectors see them

-- the selector of a group
abbrev pub group_selector : EstateLists → ℕ → Selector
group_selector lists group = selector_of_keys (relevant lists) (first_end lists (first_of_group lists group)).labels

-- the namespace of a group
abbrev pub group_namespace : EstateLists → ℕ → List ℕ
group_namespace lists group = (first_end lists (first_of_group lists group)).namespace

-- ---- rules

-- the rules of a peer list and a set: one, or none where nothing passes
abbrev pub rule_if : List NetPeer → Conns → List NetRule
rule_if peers conns = if is_nothing conns then [] else record { peers = peers; ports = ports_of conns } ∷ []

-- the pods of a group, as a peer
abbrev pub group_peer : EstateLists → ℕ → NetPeer
group_peer lists group = Pods (Some (namespace_named (group_namespace lists group))) (Some (group_selector lists group))

-- The first workload of a group to which what passes from another is defined. Where no two workloads of a group differ,
-- the same passes to each such one.
abbrev pub receiver_in : EstateLists → ℕ → ℕ → Option ℕ
receiver_in lists source group = find (λ workload. group_of lists workload == group && is_defined lists source workload) (places (number_of_workloads lists))

-- what passes from one group to another, as what its first workload may send
abbrev pub set_from : EstateLists → ℕ → ℕ → Option Conns
set_from lists sender group = option_map (set_of lists (first_of_group lists sender)) (receiver_in lists (first_of_group lists sender) group)

abbrev pub rules_of_set : NetPeer → Option Conns → List NetRule
rules_of_set peer None = []
rules_of_set peer (Some set) = rule_if (peer ∷ []) set

-- the rule of a group for what another may send to it, where something passes
abbrev pub rules_from_group : EstateLists → ℕ → ℕ → List NetRule
rules_from_group lists group sender = rules_of_set (group_peer lists sender) (set_from lists sender group)

-- the rules of a group for what all groups may send to it
abbrev pub rules_from_groups : EstateLists → ℕ → List NetRule
rules_from_groups lists group = flat_map (rules_from_group lists group) (places (group_count lists))

-- the pods of all namespaces, as a peer
abbrev pub everyone : NetPeer
everyone = Pods (Some (record { requirements = [] })) None

-- every pod, at every port
abbrev pub rule_to_everyone : NetRule
rule_to_everyone = record { peers = everyone ∷ []; ports = [] }

-- the addresses of a range as a set
abbrev pub ranges_of_span : AddressSpan → AddressRanges
ranges_of_span (span.Four range) = record { first = range ∷ []; second = [] }
ranges_of_span (span.Six range) = record { first = []; second = range ∷ [] }

-- the addresses of a range as peers: the blocks of the right prefix list
abbrev pub blocks_of_span : AddressSpan → List NetPeer
blocks_of_span addresses = map (λ cidr. Block cidr []) (prefixes_of (ranges_of_span addresses))

-- the rules of the ranges of addresses of a workload in a direction
abbrev pub rules_of_addresses : List AddressRow → List NetRule
rules_of_addresses rows = flat_map (λ row. rule_if (blocks_of_span row.span) row.conns) rows

abbrev pub group_rows : EstateLists → ℕ → Direction → List AddressRow
group_rows lists group direction = address_rows (estate_table lists) (first_of_group lists group) direction

-- ---- the policy

-- `flat-0` for the group of number 0
abbrev pub flat_name : ℕ → List ℕ
flat_name group = codes "flat-" ++ decimal group

abbrev pub ingress_rules : EstateLists → ℕ → List NetRule
ingress_rules lists group = rules_from_groups lists group ++ rules_of_addresses (group_rows lists group Ingress)

abbrev pub egress_rules : EstateLists → ℕ → List NetRule
egress_rules lists group = rule_to_everyone ∷ rules_of_addresses (group_rows lists group Egress)

-- the policy of a group
unfoldable pub flat_policy : EstateLists → ℕ → NetPolicy
flat_policy lists group =
    record {
      namespace = group_namespace lists group;
      name = flat_name group;
      subject = group_selector lists group;
      ingress = Some (ingress_rules lists group);
      egress = Some (egress_rules lists group);
    }

-- the policies of all groups
abbrev pub flat_policies : EstateLists → List NetPolicy
flat_policies lists = map (flat_policy lists) (places (group_count lists))

-- the estate with these policies alone
abbrev pub flattened : EstateLists → EstateLists
flattened lists = record lists { net_policies = flat_policies lists; admin_policies = []; baseline = None }
