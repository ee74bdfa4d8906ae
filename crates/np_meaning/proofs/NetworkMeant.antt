-- A NetworkPolicy that was read is what its members say. For `network_policies_mean_their_members`.
use Rattle.std.proofs.Common.{◌≡◌, List, Option, Some, None, unwrap_or, codes, Ok, subst}
use Rattle.std.specs.Prelude.{IfSome}
use Rattle.serde_json.specs.Data.{Data}
use Rattle.np_json.specs.Prelude.{listed, must_be_object, name, namespace, namespaced_name, optional, required}
use Rattle.np_model.specs.Prelude.{direction_text}
use Rattle.np_meaning.specs.Prelude.{Direction, Egress, Ingress, IsNetPolicyOf, IsNetRule, NetPolicy, NetRule, object_at, spec_of}
use Rattle.np_meaning.proofs.MetaMeant.{namespaced_name-meant, IsOwn}
use Rattle.np_meaning.proofs.PolicyKinds.{net-read}
use Rattle.np_meaning.proofs.MemberReads.{object_at-output, AreEach-listed}
use Rattle.np_policies.proofs.ReadLemmas.{bind-output, then-output}
use Rattle.np_meaning.proofs.TypesMeaning.{types-meant}
use Rattle.np_policies.specs.Prelude.{empty_spec, items_at, net_peer, net_policy, net_policy_by, net_port, net_rule, net_rules, net_spec, peers_member, policy_of}
use Rattle.np_meaning.specs.PolicyMeaning.{AreEach}
use Rattle.np_policies.specs.declared.policy.Policy.TheVariants as policy

-- ---- rules

net_rule-output : (direction : Direction) (value : Data) (read : NetRule) → net_rule direction value ≡ Ok read → IsNetRule (peers_member direction) value read
unfolding net_rule
net_rule-output direction value read is =
    let past = then-output (must_be_object value) _ read is in
    let peers = bind-output (listed (peers_member direction) net_peer value) _ read past in
    let ports = bind-output (listed (codes "ports") net_port value) (λ ports. Ok (record { peers = peers.first; ports = ports })) read peers.after in
    let made : record { peers = peers.first; ports = ports.first } ≡ read = let after = ports.after in cc in
    subst (IsNetRule (peers_member direction) value) made (
      AreEach-listed net_peer (λ d one. net_peer d ≡ Ok one) (λ d one this. this) (peers_member direction) value peers.first peers.here,
      AreEach-listed net_port (λ d one. net_port d ≡ Ok one) (λ d one this. this) (codes "ports") value ports.first ports.here,
    )

net_rules-output : (direction : Direction) (spec : Data) (rules : List NetRule) → net_rules direction spec ≡ Ok rules →
    AreEach (IsNetRule (peers_member direction)) (items_at (direction_text direction) spec) rules
unfolding net_rules
net_rules-output direction spec rules is = AreEach-listed (net_rule direction) (IsNetRule (peers_member direction)) (net_rule-output direction) (direction_text direction) spec rules is

if_there : (direction : Direction) (spec : Data) (rules : Option (List NetRule)) → IfSome rules (λ found. net_rules direction spec ≡ Ok found) →
    IfSome rules (λ found. AreEach (IsNetRule (peers_member direction)) (items_at (direction_text direction) spec) found)
if_there direction spec None is = tt
if_there direction spec (Some rules) is = net_rules-output direction spec rules is

-- ---- policies

own_name : (value : Data) (read : NetPolicy) → net_policy value ≡ Ok read → IsOwn (object_at (codes "metadata") value) (record { namespace = read.namespace; name = read.name })
unfolding net_policy net_policy_by
own_name value read is =
    let own = bind-output (required (codes "metadata") namespaced_name value) _ read is in
    let spec = bind-output (optional (codes "spec") net_spec value) (λ spec. Ok (net_policy_by own.first (unwrap_or spec empty_spec))) read own.after in
    let made : net_policy_by own.first (unwrap_or spec.first empty_spec) ≡ read = let after = spec.after in cc in
    let names = namespaced_name-meant (object_at (codes "metadata") value) own.first (object_at-output namespaced_name (codes "metadata") value own.first own.here) in
    subst (λ (one : NetPolicy). IsOwn (object_at (codes "metadata") value) (record { namespace = one.namespace; name = one.name })) made names

pub net_policy-meant : (value : Data) (read : NetPolicy) → policy_of value ≡ Ok (Some (policy.Net read)) → IsNetPolicyOf value read
net_policy-meant value read is =
    let by_kind = net-read value read is in
    let names = own_name value read by_kind.1 in
    let parts = types-meant value read is in
    record {
      kind = by_kind.0;
      namespace = names.namespace;
      name = names.name;
      subject = parts.subject;
      ingress = if_there Ingress (spec_of value) read.ingress parts.ingress_rules;
      egress = if_there Egress (spec_of value) read.egress parts.egress_rules;
    }
