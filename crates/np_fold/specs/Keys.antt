-- The keys of labels that selectors name.
use Rattle.std.specs.Prelude.{ℕ, List, [], ◌∷◌, ◌++◌, map, fold, Option}
use Rattle.std.specs.BTreeSet.{insert_key}
use Rattle.std.specs.Cmp.Lexicographic.{slice_cmp}
use Rattle.std.specs.List.{flat_map}
use Rattle.std.specs.Option.{option_map_or}
use Rattle.std.specs.Ordering.{nat_cmp}
use Rattle.np_fold.specs.Types.{AdminPeer, EstateLists, NetPeer, NetPolicy, NetRule, Selector, ServiceItem, Subject}
use Rattle.np_model.specs.Prelude.{admin_peers}
use Rattle.np_model.specs.declared.admin_policy.AdminPeer.TheVariants as admin
use Rattle.np_model.specs.declared.network_policy.NetPeer.TheVariants as net

-- ---- selectors

abbrev pub keys_of_selector : Selector → List (List ℕ)
keys_of_selector selector = map (λ requirement. requirement.key) selector.requirements

-- the keys of a selector that may be missing
abbrev pub keys_of_optional : Option Selector → List (List ℕ)
keys_of_optional found = option_map_or keys_of_selector found []

-- ---- NetworkPolicies

abbrev pub keys_of_net_peer : NetPeer → List (List ℕ)
keys_of_net_peer (net.Pods namespaces pods) = keys_of_optional namespaces ++ keys_of_optional pods
keys_of_net_peer (net.Block cidr excepts) = []

abbrev pub keys_of_net_rule : NetRule → List (List ℕ)
keys_of_net_rule rule = flat_map keys_of_net_peer rule.peers

-- the keys of a direction that may be missing
abbrev pub keys_of_net_direction : Option (List NetRule) → List (List ℕ)
keys_of_net_direction found = option_map_or (flat_map keys_of_net_rule) found []

abbrev pub keys_of_net_policy : NetPolicy → List (List ℕ)
keys_of_net_policy policy = keys_of_selector policy.subject ++ keys_of_net_direction policy.ingress ++ keys_of_net_direction policy.egress

-- ---- admin policies and the baseline

abbrev pub keys_of_admin_peer : AdminPeer → List (List ℕ)
keys_of_admin_peer (admin.Pods namespaces pods) = keys_of_selector namespaces ++ keys_of_selector pods
keys_of_admin_peer (admin.Networks cidrs) = []

abbrev pub keys_of_subject : Subject → List (List ℕ)
keys_of_subject subject = keys_of_selector subject.namespaces ++ keys_of_selector subject.pods

-- ---- all of an estate

abbrev pub keys_of_service : ServiceItem → List (List ℕ)
keys_of_service service = keys_of_optional service.selector

-- the subjects of the AdminNetworkPolicies and of the baseline
abbrev pub admin_subjects : EstateLists → List Subject
admin_subjects lists = map (λ policy. policy.subject) lists.admin_policies ++ option_map_or (λ base. base.subject ∷ []) lists.baseline []

-- the keys that a selector of some policy or service names
abbrev pub keys_of_estate : EstateLists → List (List ℕ)
keys_of_estate lists = flat_map keys_of_net_policy lists.net_policies ++ flat_map keys_of_subject (admin_subjects lists)
    ++ flat_map keys_of_admin_peer (admin_peers lists.admin_policies lists.baseline) ++ flat_map keys_of_service lists.services

-- keys in ascending order, and more of them, each put in at its place
abbrev pub with_keys : List (List ℕ) → List (List ℕ) → List (List ℕ)
with_keys keys more = fold (insert_key (slice_cmp nat_cmp)) keys more
