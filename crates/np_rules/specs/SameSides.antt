-- When the sides of two pods are the same: the policies of an estate do not tell them apart.
use Rattle.std.specs.Prelude.{◌≡◌, List, Bool, true, Option, Some, None}
use Rattle.std.specs.List.{list_all}
use Rattle.np_model.specs.declared.admin_policy.Subject.{Subject}
use Rattle.np_rules.specs.Deciders.{decider}
use Rattle.np_rules.specs.Types.{AdminPolicy, BasePolicy, Direction, Egress, EstateLists, Family, Ingress, NamedPort, NetPolicy, PortSpot}
use Rattle.np_rules.specs.model.Ends.{ModelEnd, PodEnd, contact, pod}
use Rattle.np_rules.specs.model.Selection.{net_selects, subject_selects}
use Rattle.np_rules.specs.model.Sides.{side_allows}
use mathlib.Core.Bool.{beq}

-- whether a subject selects both pods, or neither
abbrev pub is_subject_of_both : Subject → PodEnd → PodEnd → Bool
is_subject_of_both subject p q = beq (subject_selects subject p) (subject_selects subject q)

-- whether each of these policies does
abbrev pub is_alike_for_admin : List AdminPolicy → PodEnd → PodEnd → Bool
is_alike_for_admin policies p q = list_all (λ policy. is_subject_of_both policy.subject p q) policies

abbrev pub is_alike_for_net : List NetPolicy → PodEnd → PodEnd → Bool
is_alike_for_net policies p q = list_all (λ policy. beq (net_selects policy p) (net_selects policy q)) policies

abbrev pub is_alike_for_base : Option BasePolicy → PodEnd → PodEnd → Bool
is_alike_for_base None p q = true
is_alike_for_base (Some policy) p q = is_subject_of_both policy.subject p q

-- equal named ports, where packets come to the pods that have them
abbrev pub HaveSamePorts : Direction → List NamedPort → List NamedPort → Type 0
HaveSamePorts Ingress ports others = ports ≡ others
HaveSamePorts Egress ports others = Unit {0}

-- The same policies select both pods, and they have the same named ports where these are looked up.
pub record IsSameSide (lists : EstateLists) (direction : Direction) (p q : PodEnd) : Type 0 where
  pub ports : HaveSamePorts direction p.ports q.ports
  pub base : is_alike_for_base lists.baseline p q ≡ true
  pub admin : is_alike_for_admin lists.admin_policies p q ≡ true
  pub net : is_alike_for_net lists.net_policies p q ≡ true

-- what both allow is the same, with every far end
abbrev pub AllowTheSame : EstateLists → Direction → PodEnd → PodEnd → Type 0
AllowTheSame lists direction p q = (far : ModelEnd) (family : Family) (spot : PortSpot) →
    side_allows lists direction p (contact direction (pod p) far family spot) ≡ side_allows lists direction q (contact direction (pod q) far family spot)

-- and so is what decides it, rule by rule
abbrev pub DecideTheSame : EstateLists → Direction → PodEnd → PodEnd → Type 0
DecideTheSame lists direction p q = (far : ModelEnd) (family : Family) (spot : PortSpot) →
    decider lists direction (pod p) (contact direction (pod p) far family spot) ≡ decider lists direction (pod q) (contact direction (pod q) far family spot)
