-- Pods that the policies of an estate do not tell apart have sides that are the same.
-- For `is_alike_for_net`, `is_same_side` and crates above.
use Rattle.std.proofs.Common.{◌≡◌, ℕ, List, [], ◌∷◌, Bool, filter, true, false, ◌&&◌, Option, None, Some, refl, sym, ap, ◌∙◌, if◌then◌else◌}
use Rattle.std.specs.Cmp.{booleans_Decides}
use Rattle.std.specs.List.{list_all, list_any}
use Rattle.std.specs.Str.{bytes_eq}
use Rattle.std.proofs.lemmas.Bool.{false≢true}
use Rattle.std.proofs.Math.Bool.{and-false}
use Rattle.std.proofs.lemmas.List.Elements.{recursion_from_All}
use Rattle.std.proofs.lemmas.List.Sums.{AllPass-from_list_all}
use Rattle.np_base.proofs.Each.{All-weaker}
use Rattle.np_conns.specs.Prelude.{same_proto}
use Rattle.np_model.specs.declared.admin_policy.AdminPort.{AdminPort}
use Rattle.np_model.specs.declared.admin_policy.AdminPort.TheVariants as admin_port
use Rattle.np_model.specs.declared.network_policy.NetPort.TheVariants as net_port
use Rattle.np_rules.proofs.EachItem.{All-each, none_or_any-same}
use Rattle.std.specs.Prelude.{IfSome}
use Rattle.np_rules.proofs.SameVerdicts.{MatchAlike, SelectAlike, pods_decide-same, pods_allow-same}
use Rattle.np_rules.specs.Prelude.{AdminRule, BasePolicy, Contact, Direction, Egress, EstateLists, Family, HaveSamePorts, Ingress, IsSameSide, ModelEnd, NamedPort, NetPolicy, NetPort, NetRule, PlacedAdminRule, PlacedBaseRule, PlacedNetRule, PodEnd, PortSpot, admin_entry_matches, admin_peer_matches, admin_places, admin_rule_matches, base_places, contact, decider, destination_of, is_alike_for_base, is_alike_for_net, is_named, is_subject_of_both, net_entry_matches, net_peer_matches, net_places, net_rule_matches, net_selects, none_or_any, pod, side_allows, subject_selects}
use mathlib.Core.Bool.{beq}

-- ---- the NetworkPolicies of their namespaces

-- all items pass where those do that two tests keep, and each of the others does
all_kept : {X : Type 0} (test one other : X → Bool) (xs : List X) → ((x : X) → one x ≡ false → other x ≡ false → test x ≡ true) →
    (list_all test (filter one xs) && list_all test (filter other xs)) ≡ list_all test xs
all_kept test one other [] rest = refl
all_kept {X} test one other (x ∷ xs) rest = go (one x) (other x) (test x) refl (rest x) (all_kept test one other xs rest)
  where
    go : (p q t : Bool) → test x ≡ t → (p ≡ false → q ≡ false → test x ≡ true) → (list_all test (filter one xs) && list_all test (filter other xs)) ≡ list_all test xs →
        (list_all test (if p then x ∷ filter one xs else filter one xs) && list_all test (if q then x ∷ filter other xs else filter other xs)) ≡ (test x && list_all test xs)
    go true true true is need all = rw is all
    go true true false is need all = rw is refl
    go true false true is need all = rw is all
    go true false false is need all = rw is refl
    go false true true is need all = rw is all
    go false true false is need all = rw is (and-false (list_all test (filter one xs)))
    go false false true is need all = rw is all
    go false false false is need all = absurd (false≢true (sym is ∙ need refl refl))

-- the policies of two pods' namespaces tell of all whether they select both pods, or neither
pub alike-own : (policies : List NetPolicy) (p q : PodEnd) →
    (is_alike_for_net (filter (λ policy. bytes_eq policy.namespace p.namespace) policies) p q && is_alike_for_net (filter (λ policy. bytes_eq policy.namespace q.namespace) policies) p q)
    ≡ is_alike_for_net policies p q
alike-own policies p q =
    all_kept (λ policy. beq (net_selects policy p) (net_selects policy q)) (λ policy. bytes_eq policy.namespace p.namespace) (λ policy. bytes_eq policy.namespace q.namespace) policies
    (λ policy one other. rw (one, other) refl)

-- ---- two pods that the policies of an estate do not tell apart

module _ (lists : EstateLists) (direction : Direction) (p q : PodEnd) (same : IsSameSide lists direction p q) where
  -- ---- the policies that select them

  pub selected : SelectAlike lists p q
  selected = record {
    admin =
        All-weaker (λ policy. is_subject_of_both policy.subject p q ≡ true) (λ policy. subject_selects policy.subject p ≡ subject_selects policy.subject q)
        (λ policy is. (booleans_Decides (subject_selects policy.subject p) (subject_selects policy.subject q)).0 is) lists.admin_policies
        (recursion_from_All _ lists.admin_policies (AllPass-from_list_all (λ policy. is_subject_of_both policy.subject p q) lists.admin_policies same.admin));
    net =
        All-weaker (λ policy. beq (net_selects policy p) (net_selects policy q) ≡ true) (λ policy. net_selects policy p ≡ net_selects policy q)
        (λ policy is. (booleans_Decides (net_selects policy p) (net_selects policy q)).0 is) lists.net_policies
        (recursion_from_All _ lists.net_policies (AllPass-from_list_all (λ policy. beq (net_selects policy p) (net_selects policy q)) lists.net_policies same.net));
    base = of_baseline lists.baseline same.base;
  }
    where
      of_baseline : (baseline : Option BasePolicy) → is_alike_for_base baseline p q ≡ true → IfSome baseline (λ policy. subject_selects policy.subject p ≡ subject_selects policy.subject q)
      of_baseline None alike = tt
      of_baseline (Some policy) alike = (booleans_Decides (subject_selects policy.subject p) (subject_selects policy.subject q)).0 alike

  -- ---- what their rules match

  module _ (far : ModelEnd) (family : Family) (spot : PortSpot) where
    abbrev seen : PodEnd → Contact
    seen near = contact direction (pod near) far family spot

    -- a named port is looked up at the pod, or at the far end
    net_entry-same : (d : Direction) → HaveSamePorts d p.ports q.ports → (entry : NetPort) →
        net_entry_matches entry (destination_of d (pod p) far) spot ≡ net_entry_matches entry (destination_of d (pod q) far) spot
    net_entry-same Ingress ports (net_port.Span proto lo hi) = refl
    net_entry-same Ingress ports (net_port.Named proto name) = ap (λ (named : List NamedPort). same_proto spot.proto proto && list_any (is_named name spot) named) ports
    net_entry-same Egress ports entry = refl

    admin_entry-same : (d : Direction) → HaveSamePorts d p.ports q.ports → (entry : AdminPort) →
        admin_entry_matches entry (destination_of d (pod p) far) spot ≡ admin_entry_matches entry (destination_of d (pod q) far) spot
    admin_entry-same Ingress ports (admin_port.Span proto lo hi) = refl
    admin_entry-same Ingress ports (admin_port.Named name) = ap (λ (named : List NamedPort). list_any (is_named name spot) named) ports
    admin_entry-same Egress ports entry = refl

    admin_rule-same : (rule : AdminRule) → admin_rule_matches rule (seen p) ≡ admin_rule_matches rule (seen q)
    admin_rule-same rule =
        ap (λ b. list_any (λ peer. admin_peer_matches peer far family) rule.peers && b)
        (none_or_any-same (λ entry. admin_entry_matches entry (seen p).destination spot) (λ entry. admin_entry_matches entry (seen q).destination spot) rule.ports
        (All-each _ (admin_entry-same direction same.ports) rule.ports))

    net_rule-same : (namespace : List ℕ) (rule : NetRule) → net_rule_matches namespace rule (seen p) ≡ net_rule_matches namespace rule (seen q)
    net_rule-same namespace rule =
        ap (λ b. none_or_any (λ peer. net_peer_matches namespace peer far) rule.peers && b)
        (none_or_any-same (λ entry. net_entry_matches entry (seen p).destination spot) (λ entry. net_entry_matches entry (seen q).destination spot) rule.ports
        (All-each _ (net_entry-same direction same.ports) rule.ports))

    matched : MatchAlike lists direction q (seen p) (seen q)
    matched = record {
      admin = All-each _ (λ (placed : PlacedAdminRule). admin_rule-same placed.rule) (admin_places lists.admin_policies direction q);
      net = All-each _ (λ (placed : PlacedNetRule). net_rule-same placed.policy.namespace placed.rule) (net_places lists.net_policies direction q);
      base = All-each _ (λ (placed : PlacedBaseRule). admin_rule-same placed.rule) (base_places lists.baseline direction q);
    }

    pub side-same : side_allows lists direction p (seen p) ≡ side_allows lists direction q (seen q)
    side-same = pods_allow-same lists direction p q (seen p) (seen q) selected matched

    pub decider-same : decider lists direction (pod p) (seen p) ≡ decider lists direction (pod q) (seen q)
    decider-same = pods_decide-same lists direction p q (seen p) (seen q) selected matched
