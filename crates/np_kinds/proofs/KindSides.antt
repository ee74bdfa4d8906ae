-- Pods and contacts that the side of a pod does not tell apart. For KindVerdicts.
use Rattle.std.proofs.Common.{◌≡◌, List, [], ◌∷◌, ◌&&◌, map, Option, Some, None, unwrap_or, ap, ◌∙◌, if◌then◌else◌}
use Rattle.std.specs.Prelude.{IfSome}
use Rattle.std.specs.List.{AllByRecursion, flat_map}
use Rattle.std.specs.Option.{option_map_or}
use Rattle.std.specs.Str.{bytes_eq}
use Rattle.np_base.proofs.Each.{All-weaker, All-parts, All-append, All-if}
use Rattle.np_fold.specs.Prelude.{keys_of_net_direction, keys_of_net_policy, keys_of_net_rule, keys_of_selector, keys_of_subject}
use Rattle.np_fold.proofs.SelectorLemmas.{selector-agree}
use Rattle.np_rules.proofs.EachItem.{All-flat, All-numbered, All-three}
use Rattle.np_kinds.proofs.KindPeers.{AgreeAt, SamePod}
use Rattle.np_kinds.proofs.KindRules.{SameContact, net_rule-same}
use Rattle.np_labels.specs.Prelude.{AgreeOn, meets_selector}
use Rattle.np_model.specs.declared.admin_policy.AdminPolicy.{AdminPolicy}
use Rattle.np_model.specs.declared.admin_policy.BasePolicy.{BasePolicy}
use Rattle.np_model.specs.declared.admin_policy.Subject.{Subject}
use Rattle.np_kinds.specs.Prelude.{Direction, Egress, Ingress, NetRule}
use Rattle.np_model.specs.declared.network_policy.NetPolicy.{NetPolicy}
use Rattle.np_rules.specs.Prelude.{Contact, PlacedNetRule, PodEnd, net_places, net_places_of, net_rules_of, net_selects, placed_net_matches, subject_selects}

-- ---- which policies select

module _ (p q : PodEnd) (pods : SamePod p q) where
  subject-same : (subject : Subject) → AllByRecursion (AgreeOn p.labels q.labels) (keys_of_subject subject) → subject_selects subject p ≡ subject_selects subject q
  subject-same subject agree =
      let parts = All-parts (AgreeOn p.labels q.labels) (keys_of_selector subject.namespaces) (keys_of_selector subject.pods) agree in
      ap (λ labels. meets_selector subject.namespaces labels && meets_selector subject.pods p.labels) pods.namespace_labels
      ∙ ap (λ b. meets_selector subject.namespaces q.namespace_labels && b) (selector-agree p.labels q.labels subject.pods parts.1)

  net-same : (policy : NetPolicy) → AllByRecursion (AgreeOn p.labels q.labels) (keys_of_net_policy policy) → net_selects policy p ≡ net_selects policy q
  net-same policy agree =
      let parts = All-three (AgreeOn p.labels q.labels) (keys_of_selector policy.subject) (keys_of_net_direction policy.ingress) (keys_of_net_direction policy.egress) agree in
      ap (λ namespace. bytes_eq policy.namespace namespace && meets_selector policy.subject p.labels) pods.namespace
      ∙ ap (λ b. bytes_eq policy.namespace q.namespace && b) (selector-agree p.labels q.labels policy.subject parts.0)

  pub admins-alike : (policies : List AdminPolicy) →
      AllByRecursion (λ subject. AllByRecursion (AgreeOn p.labels q.labels) (keys_of_subject subject)) (map (λ policy. policy.subject) policies) →
      AllByRecursion (λ policy. subject_selects policy.subject p ≡ subject_selects policy.subject q) policies
  admins-alike [] agree = tt
  admins-alike (policy ∷ policies) agree = (subject-same policy.subject agree.0, admins-alike policies agree.1)

  pub nets-alike : (policies : List NetPolicy) → AllByRecursion (AgreeOn p.labels q.labels) (flat_map keys_of_net_policy policies) →
      AllByRecursion (λ policy. net_selects policy p ≡ net_selects policy q) policies
  nets-alike policies agree =
      All-weaker (λ policy. AllByRecursion (AgreeOn p.labels q.labels) (keys_of_net_policy policy)) (λ policy. net_selects policy p ≡ net_selects policy q) net-same policies
      (All-flat (AgreeOn p.labels q.labels) keys_of_net_policy policies agree)

  pub base-alike : (baseline : Option BasePolicy) →
      AllByRecursion (λ subject. AllByRecursion (AgreeOn p.labels q.labels) (keys_of_subject subject)) (option_map_or (λ base. base.subject ∷ []) baseline []) →
      IfSome baseline (λ policy. subject_selects policy.subject p ≡ subject_selects policy.subject q)
  base-alike None agree = tt
  base-alike (Some policy) agree = subject-same policy.subject agree.0

-- ---- rules of NetworkPolicies

module _ (q : PodEnd) (one other : Contact) (same : SameContact one other) where
  -- the rule, as one of its policy's namespace, matches both contacts, or neither
  abbrev IsPlacedAlike : PlacedNetRule → Type 0
  IsPlacedAlike placed = placed_net_matches one placed ≡ placed_net_matches other placed

  net_rules : (direction : Direction) (policy : NetPolicy) → AllByRecursion (AgreeAt one.far other.far) (keys_of_net_policy policy) →
      AllByRecursion (λ rule. AllByRecursion (AgreeAt one.far other.far) (keys_of_net_rule rule)) (unwrap_or (net_rules_of direction policy) [])
  net_rules direction policy agree =
      let keys = All-three (AgreeAt one.far other.far) (keys_of_selector policy.subject) (keys_of_net_direction policy.ingress) (keys_of_net_direction policy.egress) agree in
      by direction keys.1.0 keys.1.1
    where
      written : (rules : Option (List NetRule)) → AllByRecursion (AgreeAt one.far other.far) (keys_of_net_direction rules) →
          AllByRecursion (λ rule. AllByRecursion (AgreeAt one.far other.far) (keys_of_net_rule rule)) (unwrap_or rules [])
      written None all = tt
      written (Some rules) all = All-flat (AgreeAt one.far other.far) keys_of_net_rule rules all

      by : (direction : Direction) → AllByRecursion (AgreeAt one.far other.far) (keys_of_net_direction policy.ingress) →
          AllByRecursion (AgreeAt one.far other.far) (keys_of_net_direction policy.egress) →
          AllByRecursion (λ rule. AllByRecursion (AgreeAt one.far other.far) (keys_of_net_rule rule)) (unwrap_or (net_rules_of direction policy) [])
      by Ingress ingress egress = written policy.ingress ingress
      by Egress ingress egress = written policy.egress egress

  pub net_places-alike : (direction : Direction) (policies : List NetPolicy) → AllByRecursion (AgreeAt one.far other.far) (flat_map keys_of_net_policy policies) →
      AllByRecursion IsPlacedAlike (net_places policies direction q)
  net_places-alike direction [] agree = tt
  net_places-alike direction (policy ∷ policies) agree =
      let keys = All-parts (AgreeAt one.far other.far) (keys_of_net_policy policy) (flat_map keys_of_net_policy policies) agree in
      let here = All-numbered (λ rule. AllByRecursion (AgreeAt one.far other.far) (keys_of_net_rule rule)) IsPlacedAlike (λ numbered. record { policy = policy; place = numbered.0; rule = numbered.1 })
      (λ numbered on. net_rule-same policy.namespace one other same numbered.1 on) 0 (unwrap_or (net_rules_of direction policy) []) (net_rules direction policy keys.0) in
      All-append IsPlacedAlike (if net_selects policy q then net_places_of direction policy else []) (net_places policies direction q)
      (All-if IsPlacedAlike (net_selects policy q) (net_places_of direction policy) here) (net_places-alike direction policies keys.1)
