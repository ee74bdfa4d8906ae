-- The mentions of the rules that speak of a pod, and each of them once. For `mentions` and `each_once`.
use Rattle.std.proofs.Common.{◌≡◌, ℕ, ◌<◌, List, [], ◌∷◌, ◌++◌, Bool, true, false, get_or, length, Option, refl, sym, subst, ap, ◌∙◌, if◌then◌else◌, unwrap_or}
use Rattle.std.proofs.lemmas.Bool.{and_parts}
use Rattle.std.proofs.lemmas.List.Concat.{flat_map-append}
use Rattle.std.proofs.lemmas.List.Folds.{flat_map-map}
use Rattle.std.proofs.lemmas.List.Sums.{fold-append}
use Rattle.std.proofs.lemmas.Option.{slice_get_read}
use Rattle.std.proofs.lemmas.Slice.Eq.{bytes_eq-Decides}
use Rattle.std.specs.List.{enumerate_from, flat_map, list_any}
use Rattle.std.specs.Option.{option_map_or}
use Rattle.std.specs.Str.{bytes_eq}
use Rattle.np_exposure.specs.Prelude.{AdminRule, Direction, NetPolicy, NetRule, SidedRequirement, each_once, is_same, mentions, of_admin_rule, of_net_rule, of_placed, with_more}
use Rattle.np_labels.specs.Prelude.{meets_selector}
use Rattle.np_model.specs.declared.pod.Pod.{Pod}
use Rattle.np_rules.proofs.LayerLemmas.{placed_in}
use Rattle.np_rules.proofs.NetTierLemmas.{places_by}
use Rattle.np_rules.specs.Prelude.{EstateLists, KeepsRules, PlacedNetRule, PodEnd, PodSide, admin_places, base_places, near_pod, net_places, net_places_of, net_rules_of, net_selects, no_pod, pod_end, side_of}

-- what a rule of a NetworkPolicy mentions as a rule of a namespace
abbrev of_rule_in : List ℕ → PlacedNetRule → List SidedRequirement
of_rule_in namespace placed = of_net_rule namespace placed.rule

-- A policy that selects a pod is of the pod's namespace, so its rules mention what rules of that do.
mentions_in_namespace : (direction : Direction) (p : PodEnd) (policies : List NetPolicy) →
    flat_map of_placed (net_places policies direction p) ≡ flat_map (of_rule_in p.namespace) (net_places policies direction p)
mentions_in_namespace direction p [] = refl
mentions_in_namespace direction p (policy ∷ policies) =
    flat_map-append of_placed (places_by direction p policy) (net_places policies direction p)
    ∙ ap (λ (front : List SidedRequirement). front ++ flat_map of_placed (net_places policies direction p)) (here (net_selects policy p) refl)
    ∙ ap (λ (rest : List SidedRequirement). flat_map (of_rule_in p.namespace) (places_by direction p policy) ++ rest) (mentions_in_namespace direction p policies)
    ∙ sym (flat_map-append (of_rule_in p.namespace) (places_by direction p policy) (net_places policies direction p))
  where
    numbered : List (ℕ × NetRule)
    numbered = enumerate_from 0 (unwrap_or (net_rules_of direction policy) [])

    here : (b : Bool) → net_selects policy p ≡ b →
        flat_map of_placed (if b then net_places_of direction policy else []) ≡ flat_map (of_rule_in p.namespace) (if b then net_places_of direction policy else [])
    here true selects =
        let own = (bytes_eq-Decides policy.namespace p.namespace).0 (and_parts (bytes_eq policy.namespace p.namespace) (meets_selector policy.subject p.labels) selects).0 in
        flat_map-map of_placed (placed_in policy) numbered
        ∙ ap (λ (namespace : List ℕ). flat_map (λ (one : ℕ × NetRule). of_net_rule namespace one.1) numbered) own
        ∙ sym (flat_map-map (of_rule_in p.namespace) (placed_in policy) numbered)
    here false selects = refl

-- the namespace of a pod of the estate is that of the near pod
pub near-namespace : (lists : EstateLists) (place : ℕ) (direction : Direction) (pods : List Pod) (near : Pod) → pods ≡ lists.pods → place < length lists.pods → near ≡ get_or pods place near →
    near.namespace ≡ (near_pod (side_of lists place direction)).namespace
near-namespace lists place direction pods near same within at =
    sym (ap (λ (found : Option Pod). (option_map_or pod_end found no_pod).namespace)
    (slice_get_read lists.pods (length lists.pods) place near refl within (at ∙ ap (λ (ps : List Pod). get_or ps place near) same)))

-- What the rules of a side mention, tier after tier, is what it mentions.
pub mentioned : (side kept : PodSide) (admin base : List AdminRule) (isolated : Bool) (net : List NetRule) → KeepsRules kept admin isolated net base → kept ≡ side →
    (namespace : List ℕ) → namespace ≡ (near_pod side).namespace → (one two three : List SidedRequirement) →
    one ≡ flat_map of_admin_rule admin → two ≡ one ++ flat_map (of_net_rule namespace) net → three ≡ two ++ flat_map of_admin_rule base → three ≡ mentions side
unfolding mentions
mentioned side kept admin base isolated net keeps same namespace own one two three first second third =
    let kept_is : KeepsRules side admin isolated net base = subst (λ (is : PodSide). KeepsRules is admin isolated net base) same keeps in
    rw (
      third,
      second,
      first,
      own,
      kept_is.admin_rules,
      kept_is.net_rules,
      kept_is.base_rules,
      flat_map-map of_admin_rule (λ placed. placed.rule) (admin_places side.lists.admin_policies side.direction (near_pod side)),
      flat_map-map of_admin_rule (λ placed. placed.rule) (base_places side.lists.baseline side.direction (near_pod side)),
      flat_map-map (of_net_rule (near_pod side).namespace) (λ placed. placed.rule) (net_places side.lists.net_policies side.direction (near_pod side)),
      mentions_in_namespace side.direction (near_pod side) side.lists.net_policies,
    ) refl

-- ---- each once

each_once_push : (all : List SidedRequirement) (asked : SidedRequirement) → each_once (all ++ asked ∷ []) ≡ with_more (each_once all) asked
each_once_push all asked = fold-append with_more [] all (asked ∷ [])

-- a requirement that is not known is put last
pub each_once-new : (all made seen new : List SidedRequirement) (asked : SidedRequirement) → made ≡ each_once all → seen ≡ made → false ≡ list_any (λ known. is_same known asked) seen →
    new ≡ made ++ asked ∷ [] → new ≡ each_once (all ++ asked ∷ [])
each_once-new all made seen new asked is same unknown more =
    rw (each_once_push all asked, ← is, ← same, ← unknown) (more ∙ ap (λ (known : List SidedRequirement). known ++ asked ∷ []) (sym same))

-- one that is known changes nothing
pub each_once-known : (all made seen : List SidedRequirement) (asked : SidedRequirement) → made ≡ each_once all → seen ≡ made → true ≡ list_any (λ known. is_same known asked) seen →
    made ≡ each_once (all ++ asked ∷ [])
each_once-known all made seen asked is same known = rw (each_once_push all asked, ← is, ← same, ← known) refl
