-- The layer of a side, made of the rules that are kept of it. For `PodRules::count` and `PodRules::layer`.
use Rattle.std.proofs.Common.{◌≡◌, ℕ, ◌+◌, List, [], ◌∷◌, Bool, length, map, refl, sym, ap, ◌∙◌, subst, arith}
use Rattle.np_rules.specs.Prelude.{AdminRule, Contact, IsAdminPart, IsBasePart, IsLayer, IsSetOf, KeepsRules, Layer, NetRule, Pairwise, PodSide, admin_places, base_places, matches_of, near_pod, net_places, net_rule_matches, side_rule_count}
use Rattle.np_rules.proofs.LayerLemmas.{matches_in_namespace}
use Rattle.np_rules.proofs.PairwiseLemmas.{Pairwise-map, map-map}

-- Parts of the rules that are kept are parts of the rules that speak of the pod. Each rule of a NetworkPolicy is kept as
-- something that it is seen in.
pub is_layer-kept : {S Spot Kept : Type 0} (has : S → Spot → Bool) (in_space : Spot → Bool) (contact_at : Spot → Contact) (side : PodSide) (admin : List AdminRule) (isolated : Bool) (net : List Kept)
    (rule_of : Kept → NetRule) (base : List AdminRule) (namespace : List ℕ) (made : Layer S) →
    KeepsRules side admin isolated (map rule_of net) base → namespace ≡ (near_pod side).namespace → Pairwise (IsAdminPart has in_space contact_at) made.admin admin → made.isolated ≡ isolated →
    Pairwise (IsSetOf has in_space contact_at) made.net (map (λ kept. net_rule_matches namespace (rule_of kept)) net) → Pairwise (IsBasePart has in_space contact_at) made.base base →
    IsLayer has in_space contact_at side.lists side.direction (near_pod side) made
is_layer-kept {S} {Spot} {Kept} has in_space contact_at side admin isolated net rule_of base namespace made kept named are_admin same are_net are_base =
    let p = near_pod side in
    let in_namespace : NetRule → Contact → Bool = net_rule_matches p.namespace in
    let by_name : List ℕ → List (Contact → Bool) = λ name. map (λ (k : Kept). net_rule_matches name (rule_of k)) net in
    record {
      admin = Pairwise-map (IsAdminPart has in_space contact_at) (λ placed. placed.rule) made.admin (admin_places side.lists.admin_policies side.direction p)
          (subst (λ (rules : List AdminRule). Pairwise (IsAdminPart has in_space contact_at) made.admin rules) kept.admin_rules are_admin);
      isolated = same ∙ kept.isolation;
      net = Pairwise-map (IsSetOf has in_space contact_at) matches_of made.net (net_places side.lists.net_policies side.direction p)
          (subst (λ (matches : List (Contact → Bool)). Pairwise (IsSetOf has in_space contact_at) made.net matches)
          (ap by_name named ∙ sym (map-map rule_of in_namespace net) ∙ ap (map in_namespace) kept.net_rules ∙ map-map (λ placed. placed.rule) in_namespace
          (net_places side.lists.net_policies side.direction p) ∙ sym (matches_in_namespace side.lists.net_policies side.direction p)) are_net);
      base = Pairwise-map (IsBasePart has in_space contact_at) (λ placed. placed.rule) made.base (base_places side.lists.baseline side.direction p)
          (subst (λ (rules : List AdminRule). Pairwise (IsBasePart has in_space contact_at) made.base rules) kept.base_rules are_base);
    }

length-map : {A B : Type 0} (f : A → B) (xs : List A) → length (map f xs) ≡ length xs
length-map f [] = refl
length-map f (x ∷ xs) = omega (arith, length-map f xs)

-- as many rules are kept as speak of the pod
pub kept_count : (side : PodSide) (admin : List AdminRule) (isolated : Bool) (net : List NetRule) (base : List AdminRule) → KeepsRules side admin isolated net base →
    length admin + length net + length base ≡ side_rule_count side
kept_count side admin isolated net base kept =
    omega (
      arith,
      ap length kept.admin_rules,
      ap length kept.net_rules,
      ap length kept.base_rules,
      length-map (λ placed. placed.rule)
          (admin_places side.lists.admin_policies side.direction (near_pod side)),
      length-map (λ placed. placed.rule) (net_places side.lists.net_policies side.direction (near_pod side)),
      length-map
          (λ placed. placed.rule) (base_places side.lists.baseline side.direction (near_pod side)),
    )
