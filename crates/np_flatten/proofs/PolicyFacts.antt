-- The parts of a flat policy, as they are made. For `Flat::add_rule_from`, `Flat::policy` and `Flat::rule_of`.
use Rattle.std.proofs.Common.{◌≡◌, ℕ, List, [], ◌∷◌, Bool, false, Option, Some, Result, Ok, Err, OnOk, if◌then◌else◌, sym, ap, ◌∙◌}
use Rattle.np_conns.specs.Prelude.{Conns}
use Rattle.np_flatten.specs.Prelude.{EstateLists, NetPeer, NetPolicy, NetPort, NetRule, Pods, Selector, egress_rules, first_of_group, flat_name, flat_policy, group_peer, ingress_rules, namespace_named, ports_of, relevant, rules_from_group, rules_of_set, selector_of_keys, set_from}
use Rattle.np_rules.specs.Prelude.{PodEnd}
use Rattle.np_kinds.specs.Prelude.{first_end}
use Rattle.np_table.specs.Prelude.{is_nothing}

-- what follows where there is no error
pub on_ok : {X E : Type 0} (made : Result X E) (P Q : Type 0) → (P → Q) → OnOk made P → OnOk made Q
on_ok (Ok x) P Q follows holds = follows holds
on_ok (Err e) P Q follows holds = tt

end-is : (lists folded : EstateLists) (group first : ℕ) (e : PodEnd) → folded ≡ lists → first ≡ first_of_group lists group → e ≡ first_end folded first →
    e ≡ first_end lists (first_of_group lists group)
end-is lists folded group first e same is at = at ∙ ap (λ (l : EstateLists). first_end l first) same ∙ ap (first_end lists) is

-- the rule that lets a set pass from the pods of a group
pub rule-made : (lists folded : EstateLists) (sender first : ℕ) (set : Conns) (e : PodEnd) (keys : List (List ℕ)) (peer : NetPeer) (peers : List NetPeer) (ports : List NetPort) → folded ≡ lists →
    first ≡ first_of_group lists sender → e ≡ first_end folded first → keys ≡ relevant lists → peer ≡ Pods (Some (namespace_named e.namespace)) (Some (selector_of_keys keys e.labels)) →
    peers ≡ peer ∷ [] → ports ≡ ports_of set →
    ◌≡◌ {A = NetRule} (record { peers = peers; ports = ports }) (record { peers = group_peer lists sender ∷ []; ports = ports_of set })
rule-made lists folded sender first set e keys peer peers ports same is at keys_are peer_is peers_are ports_are =
    let one : e ≡ first_end lists (first_of_group lists sender) = end-is lists folded sender first e same is at in
    let of_end : PodEnd → NetPeer = λ p. Pods (Some (namespace_named p.namespace)) (Some (selector_of_keys (relevant lists) p.labels)) in
    let own : peer ≡ group_peer lists sender = peer_is ∙ ap (λ (ks : List (List ℕ)). Pods (Some (namespace_named e.namespace)) (Some (selector_of_keys ks e.labels))) keys_are ∙ ap of_end one in
    let with_peers : List NetPeer → NetRule = λ ps. record { peers = ps; ports = ports } in
    let with_ports : List NetPort → NetRule = λ ps. record { peers = group_peer lists sender ∷ []; ports = ps } in
    ap with_peers (peers_are ∙ ap (λ (p : NetPeer). p ∷ []) own) ∙ ap with_ports ports_are

-- It is the only one from that group to another, where the set is what passes and is not empty.
pub rule-is : (lists made : EstateLists) (group sender : ℕ) (found : Option Conns) (set : Conns) (rule : NetRule) → found ≡ set_from lists sender group → found ≡ Some set → is_nothing set ≡ false →
    made ≡ lists → rule ≡ record { peers = group_peer made sender ∷ []; ports = ports_of set } → rule ∷ [] ≡ rules_from_group lists group sender
rule-is lists made group sender found set rule told some filled same rule_is =
    let with_peer : NetPeer → List NetRule = λ p. record { peers = p ∷ []; ports = ports_of set } ∷ [] in
    ap (λ (r : NetRule). r ∷ []) rule_is
    ∙ ap (λ (l : EstateLists). with_peer (group_peer l sender)) same
    ∙ sym (ap (rules_of_set (group_peer lists sender)) (sym told ∙ some)
    ∙ ap (λ (nothing : Bool). if nothing then [] else with_peer (group_peer lists sender)) filled)

-- the policy of a group
pub policy-is : (lists folded : EstateLists) (group first : ℕ) (e : PodEnd) (namespace name : List ℕ) (keys : List (List ℕ)) (subject : Selector) (ingress egress : List NetRule)
    → folded ≡ lists → first ≡ first_of_group lists group → e ≡ first_end folded first → namespace ≡ e.namespace → name ≡ flat_name group → keys ≡ relevant lists → subject
    ≡ selector_of_keys keys e.labels → ingress ≡ ingress_rules lists group → egress ≡ egress_rules lists group
    → record { namespace = namespace; name = name; subject = subject; ingress = Some ingress; egress = Some egress } ≡ flat_policy lists group
unfolding flat_policy
policy-is lists folded group first e namespace name keys subject ingress egress same is at namespace_is name_is keys_are subject_is ingress_is egress_is =
    let one : e ≡ first_end lists (first_of_group lists group) = end-is lists folded group first e same is at in
    let of_end : PodEnd → NetPolicy = λ p. record {
      namespace = p.namespace;
      name = flat_name group;
      subject = selector_of_keys (relevant lists) p.labels;
      ingress = Some (ingress_rules lists group);
      egress = Some (egress_rules lists group);
    } in
    let of_namespace : List ℕ → NetPolicy = λ x. record { namespace = x; name = name; subject = subject; ingress = Some ingress; egress = Some egress } in
    let of_name : List ℕ → NetPolicy = λ x. record { namespace = e.namespace; name = x; subject = subject; ingress = Some ingress; egress = Some egress } in
    let of_subject : Selector → NetPolicy = λ x. record { namespace = e.namespace; name = flat_name group; subject = x; ingress = Some ingress; egress = Some egress } in
    let of_ingress : List NetRule → NetPolicy = λ x. record { namespace = e.namespace; name = flat_name group; subject = selector_of_keys (relevant lists) e.labels; ingress = Some x; egress = Some egress }
    in
    let of_egress : List NetRule → NetPolicy = λ x. record {
      namespace = e.namespace;
      name = flat_name group;
      subject = selector_of_keys (relevant lists) e.labels;
      ingress = Some
          (ingress_rules lists group);
      egress = Some x;
    } in
    ap of_namespace namespace_is
    ∙ ap of_name name_is
    ∙ ap of_subject (subject_is ∙ ap (λ (ks : List (List ℕ)). selector_of_keys ks e.labels) keys_are)
    ∙ ap of_ingress ingress_is
    ∙ ap of_egress egress_is
    ∙ ap of_end one
