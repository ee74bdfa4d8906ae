-- The keys that selectors of a read estate name are keys. For FlatLemmas.
use Rattle.std.proofs.Common.{◌≡◌, ℕ, List, [], ◌∷◌, ◌++◌, Bool, true, ◌&&◌, flat_map, map, Option, Some, None, refl, ◌∙◌}
use Rattle.std.proofs.lemmas.Bool.{and_from, and_parts}
use Rattle.std.proofs.lemmas.List.Folds.{list_all-map}
use Rattle.std.specs.List.{list_all}
use Rattle.std.specs.Option.{option_map_or}
use Rattle.np_base.proofs.Lists.{list_all-both}
use Rattle.np_model.specs.Prelude.{admin_peers, admin_rules, is_decision, is_name, is_well, is_well_admin_peer, is_well_admin_policy, is_well_admin_port, is_well_admin_rule, is_well_base_policy, is_well_base_rule, is_well_net_peer, is_well_net_policy, is_well_net_port, is_well_net_rule, is_well_pod, is_well_subject, is_whole_word, is_word, is_worded, option_all}
use Rattle.np_command_flatten.specs.Prelude.{EstateLists, NetPeer, NetPolicy, NetRule, Requirement, Selector}
use Rattle.np_fold.specs.Prelude.{admin_subjects, keys_of_admin_peer, keys_of_estate, keys_of_net_direction, keys_of_net_peer, keys_of_net_policy, keys_of_net_rule, keys_of_optional, keys_of_selector, keys_of_service, keys_of_subject}
use Rattle.np_labels.specs.WellFormed as labels
use Rattle.np_model.specs.WellObjects as objects
use Rattle.np_model.specs.declared.service.ServiceItem.{ServiceItem}
use Rattle.np_model.specs.WellPolicies.{is_well_selector}
use Rattle.np_model.specs.declared.admin_policy.AdminPeer.{AdminPeer}
use Rattle.np_model.specs.declared.admin_policy.AdminPeer.TheVariants as admin
use Rattle.np_model.specs.declared.admin_policy.AdminPolicy.{AdminPolicy}
use Rattle.np_model.specs.declared.admin_policy.AdminRule.{AdminRule}
use Rattle.np_model.specs.declared.admin_policy.BasePolicy.{BasePolicy}
use Rattle.np_model.specs.declared.admin_policy.Subject.{Subject}
use Rattle.np_model.specs.declared.network_policy.NetPeer.TheVariants as net

-- ---- lists

abbrev AreKeys : List (List ℕ) → Type 0
AreKeys keys = list_all is_whole_word keys ≡ true

-- what passes one test passes another
all-more : {X : Type 0} (test good : X → Bool) → ((x : X) → test x ≡ true → good x ≡ true) → (xs : List X) → list_all test xs ≡ true → list_all good xs ≡ true
all-more test good each [] all = refl
all-more test good each (x ∷ xs) all =
    let parts = and_parts (test x) (list_all test xs) all in
    and_from (good x) (list_all good xs) (each x parts.0) (all-more test good each xs parts.1)

all-flat : {X Y : Type 0} (test : X → Bool) (good : Y → Bool) (f : X → List Y) → ((x : X) → test x ≡ true → list_all good (f x) ≡ true) → (xs : List X) → list_all test xs ≡ true →
    list_all good (flat_map f xs) ≡ true
all-flat test good f each [] all = refl
all-flat test good f each (x ∷ xs) all =
    let parts = and_parts (test x) (list_all test xs) all in
    list_all-both good (f x) (flat_map f xs) (each x parts.0) (all-flat test good f each xs parts.1)

-- ---- selectors

requirements-keys : (all : List Requirement) → list_all is_worded all ≡ true → AreKeys (map (λ one. one.key) all)
requirements-keys all words =
    list_all-map is_whole_word (λ (one : Requirement). one.key) all
    ∙ all-more is_worded (λ one. is_whole_word one.key) (λ one well. (and_parts (is_whole_word one.key) (list_all is_word one.values) well).0) all words

selector-keys : (selector : Selector) → is_well_selector selector ≡ true → AreKeys (keys_of_selector selector)
selector-keys selector well = requirements-keys selector.requirements (and_parts (labels.has_well_requirements selector) (list_all is_worded selector.requirements) well).1

optional-keys : (selector : Option Selector) → option_all is_well_selector selector ≡ true → AreKeys (keys_of_optional selector)
optional-keys None well = refl
optional-keys (Some selector) well = selector-keys selector well

-- ---- NetworkPolicies

net_peer-keys : (peer : NetPeer) → is_well_net_peer peer ≡ true → AreKeys (keys_of_net_peer peer)
net_peer-keys (net.Pods namespaces pods) well =
    let parts = and_parts (option_all is_well_selector namespaces) (option_all is_well_selector pods) well in
    list_all-both is_whole_word (keys_of_optional namespaces) (keys_of_optional pods) (optional-keys namespaces parts.0) (optional-keys pods parts.1)
net_peer-keys (net.Block cidr excepts) well = refl

net_rule-keys : (rule : NetRule) → is_well_net_rule rule ≡ true → AreKeys (keys_of_net_rule rule)
net_rule-keys rule well =
    all-flat is_well_net_peer is_whole_word keys_of_net_peer net_peer-keys rule.peers (and_parts (list_all is_well_net_peer rule.peers) (list_all is_well_net_port rule.ports) well).0

net_direction-keys : (rules : Option (List NetRule)) → option_all (λ all. list_all is_well_net_rule all) rules ≡ true → AreKeys (keys_of_net_direction rules)
net_direction-keys None well = refl
net_direction-keys (Some rules) well = all-flat is_well_net_rule is_whole_word keys_of_net_rule net_rule-keys rules well

net_policy-keys : (policy : NetPolicy) → is_well_net_policy policy ≡ true → AreKeys (keys_of_net_policy policy)
net_policy-keys policy well =
    let egress = and_parts _ (option_all (λ all. list_all is_well_net_rule all) policy.egress) well in
    let ingress = and_parts _ (option_all (λ all. list_all is_well_net_rule all) policy.ingress) egress.0 in
    let subject = and_parts (is_name policy.namespace && is_name policy.name) (is_well_selector policy.subject) ingress.0 in
    list_all-both is_whole_word (keys_of_selector policy.subject ++ keys_of_net_direction policy.ingress) (keys_of_net_direction policy.egress)
    (list_all-both is_whole_word (keys_of_selector policy.subject) (keys_of_net_direction policy.ingress) (selector-keys policy.subject subject.1) (net_direction-keys policy.ingress ingress.1))
    (net_direction-keys policy.egress egress.1)

-- ---- admin policies and the baseline

admin_peer-keys : (peer : AdminPeer) → is_well_admin_peer peer ≡ true → AreKeys (keys_of_admin_peer peer)
admin_peer-keys (admin.Pods namespaces pods) well =
    let parts = and_parts (is_well_selector namespaces) (is_well_selector pods) well in
    list_all-both is_whole_word (keys_of_selector namespaces) (keys_of_selector pods) (selector-keys namespaces parts.0) (selector-keys pods parts.1)
admin_peer-keys (admin.Networks cidrs) well = refl

subject-keys : (subject : Subject) → is_well_subject subject ≡ true → AreKeys (keys_of_subject subject)
subject-keys subject well =
    let parts = and_parts (is_well_selector subject.namespaces) (is_well_selector subject.pods) well in
    list_all-both is_whole_word (keys_of_selector subject.namespaces) (keys_of_selector subject.pods) (selector-keys subject.namespaces parts.0) (selector-keys subject.pods parts.1)

-- the subject and the rules of a policy, and those of a baseline
policy-well : (policy : AdminPolicy) → is_well_admin_policy policy ≡ true → (is_well_subject policy.subject ≡ true) × (list_all is_well_admin_rule (policy.ingress ++ policy.egress) ≡ true)
policy-well policy well =
    let egress = and_parts _ (list_all is_well_admin_rule policy.egress) well in
    let ingress = and_parts _ (list_all is_well_admin_rule policy.ingress) egress.0 in
    ((and_parts _ (is_well_subject policy.subject) ingress.0).1, list_all-both is_well_admin_rule policy.ingress policy.egress ingress.1 egress.1)

baseline-well : (baseline : Option BasePolicy) → option_map_or is_well_base_policy baseline true ≡ true →
    (list_all is_well_subject (option_map_or (λ base. base.subject ∷ []) baseline []) ≡ true) × (list_all is_well_admin_rule (option_map_or (λ base. base.ingress ++ base.egress) baseline []) ≡ true)
baseline-well None well = (refl, refl)
baseline-well (Some policy) well =
    let egress = and_parts _ (list_all is_well_base_rule policy.egress) well in
    let ingress = and_parts (is_well_subject policy.subject) (list_all is_well_base_rule policy.ingress) egress.0 in (
      and_from (is_well_subject policy.subject) true ingress.0 refl,
      all-more is_well_base_rule is_well_admin_rule (λ rule all. (and_parts (is_decision rule.action) (is_well_admin_rule rule) all).1) (policy.ingress ++ policy.egress)
          (list_all-both is_well_base_rule policy.ingress policy.egress ingress.1 egress.1),
    )

rule-peers : (rule : AdminRule) → is_well_admin_rule rule ≡ true → list_all is_well_admin_peer rule.peers ≡ true
rule-peers rule well = (and_parts _ (list_all is_well_admin_peer rule.peers) (and_parts _ (list_all is_well_admin_port rule.ports) well).0).1

-- ---- services

service_requirements-keys : (all : List Requirement) → list_all objects.is_worded_requirement all ≡ true → AreKeys (map (λ one. one.key) all)
service_requirements-keys all well =
    list_all-map is_whole_word (λ (one : Requirement). one.key) all
    ∙ all-more objects.is_worded_requirement (λ one. is_whole_word one.key)
    (λ one words. (and_parts (is_whole_word one.key) (list_all is_word one.values) (and_parts _ (labels.is_well_requirement one) words).0).0) all well

service_selector-keys : (selector : Option Selector) → objects.option_all objects.is_worded_selector selector ≡ true → AreKeys (keys_of_optional selector)
service_selector-keys None well = refl
service_selector-keys (Some selector) well = service_requirements-keys selector.requirements well

service-keys : (service : ServiceItem) → objects.is_well_service service ≡ true → AreKeys (keys_of_service service)
service-keys service well =
    let ports = and_parts _ (list_all objects.is_well_service_port service.ports) well in
    service_selector-keys service.selector (and_parts _ (objects.option_all objects.is_worded_selector service.selector) ports.0).1

-- ---- the whole

pub estate-keys : (lists : EstateLists) → is_well lists ≡ true → list_all is_whole_word (keys_of_estate lists) ≡ true
estate-keys lists well =
    let ingresses = and_parts _ (list_all (λ placed. objects.is_well_ingress placed.ingress) lists.ingresses) well in
    let services = and_parts _ (list_all objects.is_well_service lists.services) ingresses.0 in
    let base = and_parts _ (option_map_or is_well_base_policy lists.baseline true) services.0 in
    let admins = and_parts _ (list_all is_well_admin_policy lists.admin_policies) base.0 in
    let nets = and_parts (list_all is_well_pod lists.pods) (list_all is_well_net_policy lists.net_policies) admins.0 in
    let baseline = baseline-well lists.baseline base.1 in
    let subjects = list_all-both is_well_subject (map (λ policy. policy.subject) lists.admin_policies) _ (list_all-map is_well_subject (λ policy. policy.subject) lists.admin_policies
    ∙ all-more is_well_admin_policy (λ policy. is_well_subject policy.subject) (λ policy all. (policy-well policy all).0) lists.admin_policies admins.1) baseline.0 in
    let rules = list_all-both is_well_admin_rule (flat_map (λ policy. policy.ingress ++ policy.egress) lists.admin_policies) _
    (all-flat is_well_admin_policy is_well_admin_rule (λ policy. policy.ingress ++ policy.egress) (λ policy all. (policy-well policy all).1) lists.admin_policies admins.1) baseline.1 in
    let peers = all-flat is_well_admin_rule is_well_admin_peer (λ rule. rule.peers) rule-peers (admin_rules lists.admin_policies lists.baseline) rules in
    let policy_keys = flat_map keys_of_net_policy lists.net_policies ++ flat_map keys_of_subject (admin_subjects lists) in
    list_all-both is_whole_word (policy_keys ++ flat_map keys_of_admin_peer (admin_peers lists.admin_policies lists.baseline)) (flat_map keys_of_service lists.services)
    (list_all-both is_whole_word policy_keys (flat_map keys_of_admin_peer (admin_peers lists.admin_policies lists.baseline))
    (list_all-both is_whole_word (flat_map keys_of_net_policy lists.net_policies) (flat_map keys_of_subject (admin_subjects lists))
    (all-flat is_well_net_policy is_whole_word keys_of_net_policy net_policy-keys lists.net_policies nets.1)
    (all-flat is_well_subject is_whole_word keys_of_subject subject-keys (admin_subjects lists) subjects))
    (all-flat is_well_admin_peer is_whole_word keys_of_admin_peer admin_peer-keys (admin_peers lists.admin_policies lists.baseline) peers))
    (all-flat objects.is_well_service is_whole_word keys_of_service service-keys lists.services services.1)
