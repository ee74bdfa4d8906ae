-- What is read by the shapes of NetworkPolicies is well formed. For WellAdmin and WellPolicies.
use Rattle.std.proofs.Common.{◌≡◌, ℕ, List, Bool, true, false, not, ◌&&◌, Option, Some, None, unwrap_or, codes, Ok, refl}
use Rattle.std.specs.List.{list_all}
use Rattle.std.proofs.lemmas.Bool.{not-false, and_from}
use Rattle.serde_json.specs.Data.{Data}
use Rattle.np_json.specs.Prelude.{listed, must_be_object, namespace, namespaced_name, optional, or_default, refuse_if, required, ◌>>◌}
use Rattle.np_json.specs.Scalars as scalars
use Rattle.np_model.specs.Prelude.{direction_text, is_name, is_well_block, is_well_net_peer, is_well_net_policy, is_well_net_port, is_well_net_rule, option_all}
use Rattle.np_policies.specs.Prelude.{BadName, Direction, Egress, Ingress, IpBlock, NamespacedName, NetPeer, NetPolicy, NetRule, NetSpec, PeerShape, Selector, empty_spec, everything, has_direction, ip_block, is_misshapen, net_peer, net_peer_by, net_policy, net_policy_by, net_port, net_rule, net_rules, net_spec, peers_member, policy_type, rules_if, selector}
use Rattle.np_json.proofs.ReadLemmas.{is_well_own}
use Rattle.np_policies.proofs.ReadLemmas.{bind-output, then-output}
use Rattle.np_policies.proofs.WellLemmas.{unbroken-output, listed-well, required-well, optional-well, selector-well, ip_block-well, net_port-well}
use Rattle.np_model.specs.WellPolicies.{is_well_selector}

-- ---- names

pub name-well : (value : Data) (s : List ℕ) → scalars.name value ≡ Ok s → is_name s ≡ true
unfolding scalars.name
name-well value s is =
    let read = bind-output (scalars.text value) (λ s. refuse_if (not (is_name s)) BadName >> Ok s) s is in
    let test = not-false (is_name read.first) (unbroken-output (not (is_name read.first)) BadName (Ok read.first) s read.after) in
    let end : Ok read.first ≡ Ok s = then-output (refuse_if (not (is_name read.first)) BadName) (Ok read.first) s read.after in
    let same : read.first ≡ s = cc in
    rw (← same) test

namespace-well : (value : Data) (s : List ℕ) → namespace value ≡ Ok s → is_name s ≡ true
unfolding namespace
namespace-well value s is =
    let read = bind-output (scalars.text value) (λ s. refuse_if (not (is_name (or_default s))) BadName >> Ok (or_default s)) s is in
    let made = or_default read.first in
    let test = not-false (is_name made) (unbroken-output (not (is_name made)) BadName (Ok made) s read.after) in
    let end : Ok made ≡ Ok s = then-output (refuse_if (not (is_name made)) BadName) (Ok made) s read.after in
    let same : made ≡ s = cc in
    rw (← same) test

default-well : (found : Option (List ℕ)) → option_all is_name found ≡ true → is_name (unwrap_or found (codes "default")) ≡ true
default-well None is = refl
default-well (Some s) is = is

namespaced_name-well : (value : Data) (read : NamespacedName) → namespaced_name value ≡ Ok read → is_well_own read ≡ true
unfolding namespaced_name
namespaced_name-well value read is =
    let past = then-output (must_be_object value) _ read is in
    let name = bind-output (required (codes "name") scalars.name value) _ read past in
    let space = bind-output (optional (codes "namespace") namespace value) (λ space. Ok (record { namespace = unwrap_or space (codes "default"); name = name.first })) read name.after in
    let made : record { namespace = unwrap_or space.first (codes "default"); name = name.first } ≡ read = let after = space.after in cc in
    let first = required-well scalars.name is_name name-well (codes "name") value name.first name.here in
    let second = default-well space.first (optional-well namespace is_name namespace-well (codes "namespace") value space.first space.here) in
    rw (← made) (and_from (is_name (unwrap_or space.first (codes "default"))) (is_name name.first) second first)

-- ---- NetworkPolicies

peer_by-well : (pods namespaces : Option Selector) (block : Option IpBlock) → option_all is_well_selector pods ≡ true → option_all is_well_selector namespaces ≡ true →
    option_all (λ one. is_well_block one.cidr one.excepts) block ≡ true → is_well_net_peer (net_peer_by pods namespaces block) ≡ true
peer_by-well pods namespaces None own spaces is = and_from (option_all is_well_selector namespaces) (option_all is_well_selector pods) spaces own
peer_by-well pods namespaces (Some block) own spaces is = is

net_peer-well : (value : Data) (read : NetPeer) → net_peer value ≡ Ok read → is_well_net_peer read ≡ true
unfolding net_peer
net_peer-well value read is =
    let past = then-output (must_be_object value) _ read is in
    let shaped = then-output (refuse_if (is_misshapen value) PeerShape) _ read past in
    let pods = bind-output (optional (codes "podSelector") selector value) _ read shaped in
    let namespaces = bind-output (optional (codes "namespaceSelector") selector value) _ read pods.after in
    let block = bind-output (optional (codes "ipBlock") ip_block value) (λ block. Ok (net_peer_by pods.first namespaces.first block)) read namespaces.after in
    let made : net_peer_by pods.first namespaces.first block.first ≡ read = let after = block.after in cc in
    let first = optional-well selector is_well_selector selector-well (codes "podSelector") value pods.first pods.here in
    let second = optional-well selector is_well_selector selector-well (codes "namespaceSelector") value namespaces.first namespaces.here in
    let third = optional-well ip_block (λ one. is_well_block one.cidr one.excepts) ip_block-well (codes "ipBlock") value block.first block.here in
    rw (← made) (peer_by-well pods.first namespaces.first block.first first second third)

net_rule-well : (direction : Direction) (value : Data) (read : NetRule) → net_rule direction value ≡ Ok read → is_well_net_rule read ≡ true
unfolding net_rule
net_rule-well direction value read is =
    let past = then-output (must_be_object value) _ read is in
    let peers = bind-output (listed (peers_member direction) net_peer value) _ read past in
    let ports = bind-output (listed (codes "ports") net_port value) (λ ports. Ok (record { peers = peers.first; ports = ports })) read peers.after in
    let made : record { peers = peers.first; ports = ports.first } ≡ read = let after = ports.after in cc in
    let first = listed-well net_peer is_well_net_peer net_peer-well (peers_member direction) value peers.first peers.here in
    let second = listed-well net_port is_well_net_port net_port-well (codes "ports") value ports.first ports.here in
    rw (← made) (and_from (list_all is_well_net_peer peers.first) (list_all is_well_net_port ports.first) first second)

net_rules-well : (direction : Direction) (value : Data) (read : List NetRule) → net_rules direction value ≡ Ok read → list_all is_well_net_rule read ≡ true
unfolding net_rules
net_rules-well direction value read is = listed-well (net_rule direction) is_well_net_rule (net_rule-well direction) (direction_text direction) value read is

abbrev is_well_spec : NetSpec → Bool
is_well_spec spec = is_well_selector spec.subject && list_all is_well_net_rule spec.ingress && list_all is_well_net_rule spec.egress

everything-well : (found : Option Selector) → option_all is_well_selector found ≡ true → is_well_selector (unwrap_or found everything) ≡ true
everything-well None is = refl
everything-well (Some one) is = is

net_spec-well : (value : Data) (read : NetSpec) → net_spec value ≡ Ok read → is_well_spec read ≡ true
unfolding net_spec
net_spec-well value read is =
    let past = then-output (must_be_object value) _ read is in
    let pods = bind-output (optional (codes "podSelector") selector value) _ read past in
    let types = bind-output (listed (codes "policyTypes") policy_type value) _ read pods.after in
    let ingress = bind-output (net_rules Ingress value) _ read types.after in
    let egress = bind-output (net_rules Egress value) (λ egress. Ok (record { subject = unwrap_or pods.first everything; types = types.first; ingress = ingress.first; egress = egress })) read
    ingress.after in
    let made : record { subject = unwrap_or pods.first everything; types = types.first; ingress = ingress.first; egress = egress.first } ≡ read = let after = egress.after in cc in
    let first = everything-well pods.first (optional-well selector is_well_selector selector-well (codes "podSelector") value pods.first pods.here) in
    rw (← made) (rw (first, net_rules-well Ingress value ingress.first ingress.here, net_rules-well Egress value egress.first egress.here) refl)

spec_or_empty-well : (found : Option NetSpec) → option_all is_well_spec found ≡ true → is_well_spec (unwrap_or found empty_spec) ≡ true
spec_or_empty-well None is = refl
spec_or_empty-well (Some spec) is = is

rules_if-well : (has : Bool) (rules : List NetRule) → list_all is_well_net_rule rules ≡ true → option_all (λ found. list_all is_well_net_rule found) (rules_if has rules) ≡ true
rules_if-well true rules is = is
rules_if-well false rules is = refl

policy_by-well : (meta : NamespacedName) (spec : NetSpec) → is_well_own meta ≡ true → is_well_spec spec ≡ true → is_well_net_policy (net_policy_by meta spec) ≡ true
unfolding net_policy_by
policy_by-well meta spec named well =
    by (is_well_selector spec.subject) (list_all is_well_net_rule spec.ingress) (list_all is_well_net_rule spec.egress) refl refl refl well
  where
    by : (subject ingress egress : Bool) → is_well_selector spec.subject ≡ subject → list_all is_well_net_rule spec.ingress ≡ ingress → list_all is_well_net_rule spec.egress ≡ egress →
        ((subject && ingress) && egress) ≡ true
        → is_well_net_policy (net_policy_by meta spec) ≡ true
    by true true true first second third all =
        rw (named, first, rules_if-well (has_direction spec Ingress) spec.ingress second, rules_if-well (has_direction spec Egress) spec.egress third) refl
    by false ingress egress first second third all = cc
    by true false egress first second third all = cc
    by true true false first second third all = cc

pub net_policy-well : (value : Data) (read : NetPolicy) → net_policy value ≡ Ok read → is_well_net_policy read ≡ true
unfolding net_policy
net_policy-well value read is =
    let meta = bind-output (required (codes "metadata") namespaced_name value) _ read is in
    let spec = bind-output (optional (codes "spec") net_spec value) (λ spec. Ok (net_policy_by meta.first (unwrap_or spec empty_spec))) read meta.after in
    let made : net_policy_by meta.first (unwrap_or spec.first empty_spec) ≡ read = let after = spec.after in cc in
    let first = required-well namespaced_name is_well_own namespaced_name-well (codes "metadata") value meta.first meta.here in
    let second = spec_or_empty-well spec.first (optional-well net_spec is_well_spec net_spec-well (codes "spec") value spec.first spec.here) in
    rw (← made) (policy_by-well meta.first (unwrap_or spec.first empty_spec) first second)
