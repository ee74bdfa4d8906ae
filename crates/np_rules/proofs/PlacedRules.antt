-- What holds of each admin rule holds of those of a pod. For FamilyLemmas and crates above.
use Rattle.std.proofs.Common.{List, [], ◌∷◌, ◌++◌, map, flat_map, Option, Some, None, if◌then◌else◌}
use Rattle.std.specs.List.{AllByRecursion, enumerate_from}
use Rattle.std.specs.Option.{option_map_or}
use Rattle.np_base.proofs.Each.{All-append, All-if, All-parts}
use Rattle.np_rules.proofs.EachItem.{All-numbered}
use Rattle.np_rules.specs.Prelude.{AdminPolicy, AdminRule, BasePolicy, Direction, Egress, Ingress, PodEnd, admin_places, admin_places_of, admin_rules_of, base_places, base_rules_of, subject_selects}

module _ (P : AdminRule → Type 0) where
  of_policy : (direction : Direction) (policy : AdminPolicy) → AllByRecursion P (policy.ingress ++ policy.egress) → AllByRecursion P (admin_rules_of direction policy)
  of_policy Ingress policy all = (All-parts P policy.ingress policy.egress all).0
  of_policy Egress policy all = (All-parts P policy.ingress policy.egress all).1

  pub admin_places-all : (direction : Direction) (p : PodEnd) (policies : List AdminPolicy) → AllByRecursion P (flat_map (λ policy. policy.ingress ++ policy.egress) policies) →
      AllByRecursion (λ placed. P placed.rule) (admin_places policies direction p)
  admin_places-all direction p [] all = tt
  admin_places-all direction p (policy ∷ policies) all =
      let parts = All-parts P (policy.ingress ++ policy.egress) _ all in
      let here = All-numbered P (λ placed. P placed.rule) (λ numbered. record { policy = policy; place = numbered.0; rule = numbered.1 }) (λ numbered is. is) 0
      (admin_rules_of direction policy) (of_policy direction policy parts.0) in
      All-append (λ placed. P placed.rule) (if subject_selects policy.subject p then admin_places_of direction policy else []) (admin_places policies direction p)
      (All-if (λ placed. P placed.rule) (subject_selects policy.subject p) (admin_places_of direction policy) here) (admin_places-all direction p policies parts.1)

  of_baseline : (direction : Direction) (policy : BasePolicy) → AllByRecursion P (policy.ingress ++ policy.egress) → AllByRecursion P (base_rules_of direction policy)
  of_baseline Ingress policy all = (All-parts P policy.ingress policy.egress all).0
  of_baseline Egress policy all = (All-parts P policy.ingress policy.egress all).1

  pub base_places-all : (direction : Direction) (p : PodEnd) (baseline : Option BasePolicy) → AllByRecursion P (option_map_or (λ base. base.ingress ++ base.egress) baseline []) →
      AllByRecursion (λ placed. P placed.rule) (base_places baseline direction p)
  base_places-all direction p None all = tt
  base_places-all direction p (Some policy) all =
      All-if (λ placed. P placed.rule) (subject_selects policy.subject p) (map (λ numbered. record { place = numbered.0; rule = numbered.1 }) (enumerate_from 0 (base_rules_of direction policy)))
      (All-numbered P (λ placed. P placed.rule) (λ numbered. record { place = numbered.0; rule = numbered.1 }) (λ numbered is. is) 0 (base_rules_of direction policy)
      (of_baseline direction policy all))
